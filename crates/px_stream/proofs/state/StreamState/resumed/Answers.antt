use Rattle.std.proofs.Common.{ap, sym, subst, ◌∙◌}
use Rattle.px_model.specs.Applied.{applied}
use Rattle.px_stream.specs.Messages.{message_of}
use Rattle.px_stream.specs.Heard.{SoundsSame, unaltered_of}
use Rattle.px_stream.specs.declared.message.StreamMsg.{StreamMsg}
use Rattle.px_stream.proofs.state.StreamState.resumed.Goals as goal

pub returns-in-Write-clause-sounds : goal.returns-in-Write-clause-sounds
returns-in-Write-clause-sounds c = λ k past less.
    let w = c.in-Write in
    let s = c.args.self.now.stream in
    subst (λ (m : StreamMsg). SoundsSame k c.args.self.now.stream (applied c.args.mixed (message_of m) c.args.self.now.stream)) (sym w.is)
    (c.resumed_after.ensures.sounds w.seek w.offset w.bytes k (c.requires ∙ ap (λ (m : StreamMsg). unaltered_of c.args.mixed (message_of m) c.args.self.now.stream) w.is) past less)
