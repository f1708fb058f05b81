use Rattle.std.proofs.Common.{◌≡◌, ◌-◌, length, take}
use Rattle.px_tag.specs.Reading.{fields_at}
use Rattle.px_tag.specs.Seen.{place_of}
use Rattle.px_tag.proofs.Loop.{with_front}
use Rattle.px_tag.proofs.place.Place.fields.Given as goal

abbrev pub invariant-loop-i : goal.invariant-loop-i
invariant-loop-i l = record {
  room : length l.items ≡ 32;
  so_far : with_front (take l.i l.items) (fields_at (l.count - l.i) (place_of l.place)) ≡ fields_at l.count (place_of l.self);
}
