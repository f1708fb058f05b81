-- A sink, and a header, whose first fields were read: what is read is what is left of it.
use Rattle.std.proofs.Common.{◌≡◌, ℕ, List, Ok, refl}
use Rattle.px_sample.specs.declared.spec.Spec.{Spec}
use Rattle.px_header.specs.declared.header.SinkSpec.{SinkSpec}
use Rattle.px_session.specs.declared.form.Form.{Form}
use Rattle.px_session.specs.Place.{Place, bytes_at, and_then}
use Rattle.px_session.specs.HeaderReading.{magic_at, name_at, spec_at, sink_at, header_at}
use Rattle.px_session.specs.HeaderRest.{rest_of_sink_at, rest_of_header_at}

-- of a sink whose name and sample spec were read
pub sink_left : (earlier : List SinkSpec) (place : Place) (name : List ℕ) (a : Place) (spec : Spec) (b : Place) → name_at earlier place ≡ Ok (name, a) → spec_at a ≡ Ok (spec, b) → sink_at earlier place ≡ rest_of_sink_at name spec b
unfolding sink_at rest_of_sink_at and_then
sink_left earlier place name a spec b one two = rw (one, two) refl

-- of a header whose first word and cookie were read
pub header_left : (place : Place) (form : Form) (a : Place) (cookie : List ℕ) (b : Place) → magic_at place ≡ Ok (form, a) → bytes_at 256 a ≡ Ok (cookie, b) → header_at place ≡ rest_of_header_at form cookie b
unfolding header_at rest_of_header_at and_then
header_left place form a cookie b one two = rw (one, two) refl
