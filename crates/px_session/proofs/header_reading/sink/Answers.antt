use Rattle.px_session.specs.Seen.{place_of}
use Rattle.px_session.proofs.MapLemmas.{spec_channels}
use Rattle.px_session.proofs.HeaderRest.{sink_left}
use Rattle.px_session.proofs.header_reading.sink.Goals as goal

pub rest_of_sink-requires : goal.rest_of_sink-requires
rest_of_sink-requires c = spec_channels (place_of c.in_ok-name.rest) (c.in_ok-spec.spec, place_of c.in_ok-spec.rest) c.in_ok-spec.ensures

pub returns : goal.returns
returns c = rw (sink_left c.args.earlier.now (place_of c.args.place.now) c.in_ok-name.name.now (place_of c.in_ok-name.rest) c.in_ok-spec.spec (place_of c.in_ok-spec.rest) c.in_ok-name.ensures c.in_ok-spec.ensures) c.rest_of_sink.ensures
