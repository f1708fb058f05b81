-- What a replay shows of an event, from what the world answered.
use Rattle.std.specs.Prelude.{ℕ, cond, nat_eq, List, [], ◌++◌, Option, None, Some}
use Rattle.std.specs.List.{flat_map}
use Rattle.px_session.specs.declared.event.Event.{Event}
use Rattle.px_session.specs.declared.event.Event.TheVariants.{Turn}
use Rattle.px_session.specs.Output.{played_record, stopped_record}
use Rattle.px_state.specs.declared.effect.Effect.{Effect}
use Rattle.px_world.specs.Output.{effect_record}
use Rattle.px_app.specs.declared.view.Lens.{Lens}
use Rattle.px_app.specs.declared.view.Lens.TheVariants as lens

-- the sink of a turn
abbrev pub turn_sink : Event → Option ℕ
turn_sink (Turn sink frames messages) = Some sink
turn_sink other = None

-- the record of a turn that stopped its sink, with the sink's filled count; else of the `frames` frames that it consumed, if there are any
abbrev pub turn_part : Option ℕ → Option ℕ → ℕ → List ℕ → List ℕ
turn_part None stopped frames bytes = []
turn_part (Some sink) (Some filled) frames bytes = stopped_record sink filled
turn_part (Some sink) None frames bytes = cond (nat_eq frames 0) [] (played_record sink frames bytes)

-- the bytes that a turn of sink `k` consumed
abbrev pub raw_part : Option ℕ → ℕ → List ℕ → List ℕ
raw_part None k bytes = []
raw_part (Some sink) k bytes = cond (nat_eq sink k) bytes []

-- what is shown of an event with these effects, this stop and this sound
abbrev pub shown_part : Lens → Option ℕ → List Effect → Option ℕ → ℕ → List ℕ → List ℕ
shown_part lens.Records sink effects stopped frames played = flat_map effect_record effects ++ turn_part sink stopped frames played
shown_part (lens.Raw k) sink effects stopped frames played = raw_part sink k played
shown_part lens.Summary sink effects stopped frames played = []

-- in a world with monitors: the records of an event with these effects, this stop and this sound, and of these frames to record streams
abbrev pub monitored_part : Option ℕ → List Effect → Option ℕ → ℕ → List ℕ → List Effect → List ℕ
monitored_part sink effects stopped frames played sent = flat_map effect_record effects ++ turn_part sink stopped frames played ++ flat_map effect_record sent
