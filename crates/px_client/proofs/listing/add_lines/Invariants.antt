use Rattle.std.proofs.Common.{◌≡◌, fold, take}
use Rattle.px_client.specs.Listing.{with_line}
use Rattle.px_client.proofs.listing.add_lines.Given as goal

abbrev pub invariant-loop-input : goal.invariant-loop-input
invariant-loop-input l = l.text ≡ fold with_line l.fn.text (take l.input-index l.inputs)
