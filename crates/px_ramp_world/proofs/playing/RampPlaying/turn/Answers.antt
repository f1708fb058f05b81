use Rattle.std.proofs.Common.{◌≡◌, ℕ, List, length, min, false, cond, ap, sym, subst, ◌∙◌}
use Rattle.std.specs.Prelude.{◌||◌, ◌++◌, Some}
use Rattle.std.specs.List.{concat}
use Rattle.px_ends.specs.MemoryDevice.{MemoryDevice, state_of}
use Rattle.px_model.specs.Turn.{turn_notices}
use Rattle.px_stream.specs.Samples.{samples}
use Rattle.px_lane.specs.declared.lane.Turned.{Turned}
use Rattle.px_ramp.specs.Lane.{RampTurns}
use Rattle.px_ramp.specs.RampMix.{ramp_turned}
use Rattle.px_world.proofs.Played.{Leaves, leaves, unmarked, played-same, played-count, goes-on}
use Rattle.px_ramp_world.specs.Playing.{ramped_mixer_of, plain_mixer_of}
use Rattle.px_ramp_world.proofs.Played.{ramped-same}
use Rattle.px_ramp_world.proofs.playing.RampPlaying.turn.Goals as goal

armed_is : (c : goal.In-Played) → c.arm.new.self ≡ record c.args.self.now.lane.device { armed = Some (min c.args.frames c.args.self.now.lane.device.depth) }
armed_is c =
    c.in_ok-arm.ensures.ok
    ∙ ap (λ (d : MemoryDevice). record d { armed = Some (min c.in_32_bits.result d.depth) }) c.device_mut.ensures.value
    ∙ ap (λ (n : ℕ). record c.args.self.now.lane.device { armed = Some (min n c.args.self.now.lane.device.depth) }) c.in_32_bits.ensures

turns : (c : goal.In-Played) → RampTurns state_of (record c.args.self.now.lane { device = record c.args.self.now.lane.device { armed = Some (min c.args.frames c.args.self.now.lane.device.depth) } })
    c.counted.new.lane c.args.messages.now.messages c.args.self.now.notices.notices c.counted.new.notices.notices (Turned.Played c.in-Played.consumed c.in-Played.frames)
turns c =
    subst (λ (t : Turned). RampTurns state_of (record c.args.self.now.lane { device = record c.args.self.now.lane.device { armed = Some (min c.args.frames c.args.self.now.lane.device.depth) } })
    c.counted.new.lane c.args.messages.now.messages c.args.self.now.notices.notices c.counted.new.notices.notices t) c.in-Played.is
    (subst (λ (d : MemoryDevice). RampTurns state_of (record c.args.self.now.lane { device = d })
    c.counted.new.lane c.args.messages.now.messages c.args.self.now.notices.notices c.counted.new.notices.notices c.in-Ok.turned) (armed_is c) c.in-Ok.ensures.ok)

left : (c : goal.In-Played) → Leaves c.args.self.now.lane.ramped.sink c.args.self.now.lane.device c.counted.new.lane.device c.args.frames c.in-Played.frames
left c =
    let plays = (turns c).0 in
    leaves c.args.self.now.lane.ramped.sink c.args.self.now.lane.device c.counted.new.lane.device c.args.frames c.in-Played.frames
    c.requires.consistent c.requires.there c.requires.playing.taken c.requires.playing.attached plays.going plays.visible plays.played plays.steady

pub returns-in-Played-clause-mixer : goal.returns-in-Played-clause-mixer
returns-in-Played-clause-mixer c =
    let it = left c in
    let fails = c.take_played.new.self.stopping || c.take_played.new.self.failed in
    let device : fails ≡ c.counted.new.lane.device.stopping || c.counted.new.lane.device.failed =
    ap (λ (d : MemoryDevice). d.stopping || d.failed) c.in_ok-bytes.ensures.after ∙ ap (λ (d : MemoryDevice). d.stopping || d.failed) c.device_mut-2.ensures.value in
    ramped-same (ramped_mixer_of c.args.self.now) c.args.frames c.args.messages.now.messages c.counted.new.lane.ramped c.counted.new.lane.ramp c.counted.new.notices.notices (cond c.counted.new.lane.ramped.sink.stopped false fails)
    it.going
    ((turns c).0.turned ∙ ap (λ (n : ℕ). ramp_turned samples c.args.self.now.lane.ramp c.args.self.now.lane.ramped n c.args.messages.now.messages) it.count)
    (turns c).0.same_ramp
    ((turns c).1 ∙ ap (λ (n : ℕ). c.args.self.now.notices.notices ++ turn_notices samples c.args.self.now.lane.ramped.sink n c.args.messages.now.messages) it.count)
    (unmarked c.counted.new.lane.ramped.sink.stopped fails (device ∙ it.quiet))

pub returns-in-Played-clause-frames : goal.returns-in-Played-clause-frames
returns-in-Played-clause-frames c =
    let it = left c in
    it.count ∙ (sym (played-count c.args.self.now.lane.ramped.sink c.args.frames c.requires.consistent c.requires.there) ∙ ap (length {A = List ℕ}) (sym (played-same (plain_mixer_of c.args.self.now) c.args.frames it.going)))

pub returns-in-Played-clause-bytes : goal.returns-in-Played-clause-bytes
returns-in-Played-clause-bytes c =
    let it = left c in
    c.in_ok-bytes.ensures.ok ∙ (ap (λ (d : MemoryDevice). d.played) c.device_mut-2.ensures.value ∙ (it.bytes ∙ ap (λ (frames : List (List ℕ)). concat frames) (sym (played-same (plain_mixer_of c.args.self.now) c.args.frames it.going))))

pub returns-in-Played-clause-stopped : goal.returns-in-Played-clause-stopped
returns-in-Played-clause-stopped c = sym (goes-on (plain_mixer_of c.args.self.now) c.args.messages.now.messages (left c).going)
