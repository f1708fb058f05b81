use Rattle.std.proofs.Common.{◌≡◌, take}
use Rattle.px_client.specs.declared.errand.Errand.{Errand}
use Rattle.px_client.specs.Dialogue.{Waiting, stage_from}
use Rattle.px_client.proofs.hearing.scan.Given as goal

-- the frames so far are messages
abbrev pub invariant-loop-i : goal.invariant-loop-i
invariant-loop-i l = (errand : Errand) → stage_from errand (Waiting l.awaited) (take l.i l.frames) ≡ Waiting l.awaited
