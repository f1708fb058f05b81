-- How an event that a stage didn't do ends a run.
use Rattle.std.proofs.Common.{◌≡◌, ℕ, List, Option, Err, ap}
use Rattle.px_session.specs.declared.event.Event.{Event}
use Rattle.px_world.specs.declared.fault.WorldFault.{WorldFault}
use Rattle.px_world.specs.declared.fault.WorldFault.TheVariants.{Live, NotLive, NoSink, Worn, TooMany, NoMemory}
use Rattle.px_app.specs.declared.refusal.Refusal.{Refusal}
use Rattle.px_app.specs.declared.refusal.Why.TheVariants as why
use Rattle.px_app.specs.Refusal.{number_of}
use Rattle.px_app.specs.Mode.{Mode}
use Rattle.px_app.specs.Stage.{EventPlayed}
use Rattle.px_app.specs.Step.{barred, EventEnds}

abbrev barred_so : ℕ → WorldFault → ℕ → Refusal
barred_so at fault number = record { at = at; why = why.World fault number }

module _ {W A L : Type 0} (mode : Mode W A L) where
  -- a fault, unless it is want of memory, is why the event is refused
  pub event_barred : (B : Type 0) (fault : WorldFault) (at number : ℕ) (look : L) (w : W) (e : Event) (before now : Option (List ℕ)) → number ≡ number_of e → EventPlayed mode {B = B} (Err fault) look w e before now
      → EventEnds mode (barred at number fault) at look w e before now
  event_barred B NoMemory at number look w e before now same played = played
  event_barred B Live at number look w e before now same played = (Live, played.0, ap (barred_so at Live) same, played.1)
  event_barred B NotLive at number look w e before now same played = (NotLive, played.0, ap (barred_so at NotLive) same, played.1)
  event_barred B NoSink at number look w e before now same played = (NoSink, played.0, ap (barred_so at NoSink) same, played.1)
  event_barred B Worn at number look w e before now same played = (Worn, played.0, ap (barred_so at Worn) same, played.1)
  event_barred B (TooMany asked there) at number look w e before now same played = (TooMany asked there, played.0, ap (barred_so at (TooMany asked there)) same, played.1)
