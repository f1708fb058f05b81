use Rattle.px_session.specs.Seen.{place_of}
use Rattle.px_session.proofs.HeaderRest.{header_left}
use Rattle.px_session.proofs.header_reading.header.Goals as goal

pub returns : goal.returns
returns c = rw (header_left (place_of c.args.place.now) c.in_ok-form.form (place_of c.in_ok-form.rest) c.in_ok-cookie.cookie.now (place_of c.in_ok-cookie.rest) c.in_ok-form.ensures c.in_ok-cookie.ensures.gives) c.rest_of_header.ensures
