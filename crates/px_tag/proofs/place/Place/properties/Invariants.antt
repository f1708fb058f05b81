use Rattle.std.proofs.Common.{◌≡◌, ℕ, ◌≤◌, length}
use Rattle.px_tag.specs.Reading.{properties_at, listed_at}
use Rattle.px_tag.specs.Seen.{place_of}
use Rattle.px_tag.proofs.Written.{with_earlier}
use Rattle.px_tag.proofs.place.Place.properties.Given as goal

abbrev pub invariant-loop-property : goal.invariant-loop-property
invariant-loop-property l = (most : ℕ) × (length (place_of l.place).rest ≤ most) × (with_earlier l.list (properties_at most (place_of l.place)) ≡ listed_at (place_of l.self))

abbrev pub decreases-loop-property : goal.decreases-loop-property
decreases-loop-property l = length (place_of l.place).rest
