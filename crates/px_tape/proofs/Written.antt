-- A session that is written piece by piece.
use Rattle.std.proofs.Common.{◌≡◌, ℕ, List, [], ◌∷◌, ◌++◌, Option, sym, ap, ◌∙◌, append_assoc, arith}
use Rattle.std.specs.List.{AllByRecursion}
use Rattle.std.proofs.lemmas.List.{append-nil}
use Rattle.px_ends.specs.Visible.{after_adding}
use Rattle.px_ends.specs.Whole.{AddsFront}
use Rattle.px_session.specs.declared.event.Event.{Event}
use Rattle.px_header.specs.declared.header.Header.{Header}
use Rattle.px_header.specs.declared.header.SinkSpec.{SinkSpec}
use Rattle.px_session.specs.EventRules.{IsEvent}
use Rattle.px_header.specs.HeaderRules.{AreSinks, IsHeader}
use Rattle.px_session.specs.Writing.{FitsSink, FitsHeader, FitsEvent}
use Rattle.px_session.proofs.Added.{front_then}
use Rattle.px_session.proofs.Answered.{event_fits}
use Rattle.px_tape.specs.Tape.{form}

pub all_fit : (events : List Event) → AllByRecursion (IsEvent form) events → AllByRecursion (FitsEvent form) events
all_fit [] all = tt
all_fit (e ∷ events) all = (event_fits form e all.0, all_fit events all.1)

names_fit : (earlier sinks : List SinkSpec) → AreSinks earlier sinks → AllByRecursion FitsSink sinks
names_fit earlier [] all = tt
names_fit earlier (s ∷ sinks) all = (omega (arith, all.0.name_size.1), names_fit (earlier ++ s ∷ []) sinks all.1)

pub header_fits : (h : Header) → IsHeader h → FitsHeader h
header_fits h is = record { count = omega (arith, is.count.1); names = names_fit [] h.sinks is.sinks }

-- a front of the first piece was written
pub longer : (first more : List ℕ) (old new : Option (List ℕ)) → AddsFront first old new → AddsFront (first ++ more) old new
longer first more old new a = record { front = a.front; rest = a.rest ++ more; joined = ap (λ (l : List ℕ). l ++ more) a.joined ∙ append_assoc a.front a.rest more; held = a.held }

-- a front of the last piece was written behind the first
pub behind : (done piece : List ℕ) (old mid new : Option (List ℕ)) → mid ≡ after_adding old done → AddsFront piece mid new → AddsFront (done ++ piece) old new
behind done piece old mid new first then = front_then done piece [] (done ++ piece) old mid new first then (sym (ap (λ (l : List ℕ). done ++ l) (append-nil piece)))
