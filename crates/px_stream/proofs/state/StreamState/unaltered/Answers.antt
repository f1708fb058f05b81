use Rattle.std.proofs.Common.{◌≡◌, ap, sym, ◌∙◌, subst, w64, to_z, of_z, SFits, rules}
use Rattle.std.proofs.lemmas.Int.{to_z-of_z}
use Rattle.std.specs.Prelude.{ℤ}
use Rattle.px_model.specs.Message.{StreamMessage}
use Rattle.px_stream.specs.Messages.{message_of, Suits}
use Rattle.px_stream.specs.Heard.{unaltered_of}
use Rattle.px_stream.specs.declared.message.StreamMsg.{StreamMsg}
use Rattle.px_stream.proofs.state.StreamState.unaltered.Goals as goal

pub unwritten-requires : goal.unwritten-requires
unwritten-requires c = (subst (λ (m : StreamMsg). Suits c.args.self.now.stream (message_of m)) c.in-Write.is c.requires).0

pub returns-in-Write : goal.returns-in-Write
returns-in-Write c =
    let w = c.in-Write in
    let fits : SFits w64 w.offset = search rules in
    let place : to_z w64 (of_z w64 w.offset) ≡ w.offset = to_z-of_z w64 w.offset fits in
    c.unwritten.ensures w.bytes
    ∙ ap (λ (o : ℤ). unaltered_of c.args.mixed (StreamMessage.write w.seek o w.frames w.bytes) c.args.self.now.stream) place
    ∙ ap (λ (m : StreamMsg). unaltered_of c.args.mixed (message_of m) c.args.self.now.stream) (sym w.is)
