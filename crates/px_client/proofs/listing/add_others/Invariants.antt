use Rattle.std.proofs.Common.{◌≡◌, fold, take}
use Rattle.px_client.specs.Listing.{with_next}
use Rattle.px_client.proofs.listing.add_others.Given as goal

abbrev pub invariant-loop-number : goal.invariant-loop-number
invariant-loop-number l = l.text ≡ fold with_next l.fn.text (take l.number-index l.numbers)
