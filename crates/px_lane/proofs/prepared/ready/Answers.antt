use Rattle.std.proofs.Common.{◌≡◌, subst, sym, w64, to_z, of_z, SFits, rules}
use Rattle.std.proofs.lemmas.Int.{to_z-of_z}
use Rattle.px_msg.specs.declared.message.Msg.{Msg}
use Rattle.px_stream.specs.declared.message.StreamMsg.TheVariants.{Write}
use Rattle.px_lane.specs.declared.ready.Ready.TheVariants.{Change as Changes}
use Rattle.px_stream.specs.HeldStream.{HeldStream}
use Rattle.px_lane.specs.Lists.{plain_message}
use Rattle.px_lane.specs.Taking.{IsReadyFor}
use Rattle.px_lane.proofs.Readied.{write_ready}
use Rattle.px_lane.proofs.prepared.ready.Goals as goal

pub returns-in-Write-clause-ready : goal.returns-in-Write-clause-ready
returns-in-Write-clause-ready c =
    let w = c.in-Write in
    let fits : SFits w64 w.offset = search rules in
    let place : to_z w64 (of_z w64 w.offset) ≡ w.offset = to_z-of_z w64 w.offset fits in
    subst (λ (m : Msg HeldStream). IsReadyFor (Changes w.input (Write w.seek (to_z w64 (of_z w64 w.offset)) w.frames w.bytes)) (plain_message m)) (sym w.is)
    (write_ready w.input w.seek w.offset (to_z w64 (of_z w64 w.offset)) w.frames w.bytes place)
