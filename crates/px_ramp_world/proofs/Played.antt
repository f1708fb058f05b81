-- The ramped mixer after a turn whose device was set to consume a number of frames.
use Rattle.std.proofs.Common.{◌≡◌, ℕ, List, ◌++◌, Bool, true, false, refl, sym, ◌∙◌}
use Rattle.std.specs.Prelude.{cond}
use Rattle.std.proofs.lemmas.Bool.{cond-true, cond-false}
use Rattle.px_model.specs.Message.{Message}
use Rattle.px_model.specs.Notice.{Notice}
use Rattle.px_model.specs.Stream.{Stream}
use Rattle.px_model.specs.Turn.{turn_notices, stopped_notices}
use Rattle.px_stream.specs.Samples.{samples}
use Rattle.px_ramp.specs.RampMix.{RampSink, ramp_turned, ramp_stopped}
use Rattle.px_world.specs.Event.{is_to_stop}
use Rattle.px_ramp_world.specs.World.{RampedMixer, plain_mixer}
use Rattle.px_ramp_world.specs.Event.{ramped_stopped, ramped_played, ramped_turned}

-- it has played
pub ramped-same : (m : RampedMixer) (frames : ℕ) (messages : List (Message Stream)) (ramped : RampSink) (ramp : ℕ) (notices : List (Notice Stream)) (fails : Bool) → is_to_stop (plain_mixer m) ≡ false
    → ramped ≡ ramp_turned samples m.ramp m.ramped frames messages → ramp ≡ m.ramp → notices ≡ m.notices ++ turn_notices samples m.ramped.sink frames messages → fails ≡ false
    → record { ramped = ramped; ramp = ramp; notices = notices; failing = fails } ≡ ramped_turned m frames messages
ramped-same m frames messages ramped ramp notices fails going a r b f =
    (λ i. record { ramped = a i; ramp = r i; notices = b i; failing = f i })
    ∙ sym (cond-false (is_to_stop (plain_mixer m)) (ramped_stopped m messages) (ramped_played m frames messages) going)

-- it has stopped
pub ramped-halts : (m : RampedMixer) (frames : ℕ) (messages : List (Message Stream)) (ramped : RampSink) (ramp : ℕ) (notices : List (Notice Stream)) (fails : Bool) → is_to_stop (plain_mixer m) ≡ true
    → ramped ≡ ramp_stopped m.ramp m.ramped messages → ramp ≡ m.ramp → notices ≡ m.notices ++ stopped_notices m.ramped.sink messages → fails ≡ false
    → record { ramped = ramped; ramp = ramp; notices = notices; failing = fails } ≡ ramped_turned m frames messages
ramped-halts m frames messages ramped ramp notices fails stopping a r b f =
    (λ i. record { ramped = a i; ramp = r i; notices = b i; failing = f i })
    ∙ sym (cond-true (is_to_stop (plain_mixer m)) (ramped_stopped m messages) (ramped_played m frames messages) stopping)
