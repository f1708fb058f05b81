use Rattle.std.proofs.Common.{◌≡◌, ◌-◌, []}
use Rattle.px_session.specs.HeaderReading.{more_at, position_at}
use Rattle.px_session.specs.Seen.{place_of}
use Rattle.px_session.proofs.header_reading.positions.Given as goal

-- what is left behind the positions so far gives what was to be read at first
abbrev pub invariant-loop : goal.invariant-loop
invariant-loop l = more_at position_at l.positions.items (l.count - l.counter) (place_of l.rest) ≡ more_at position_at [] l.count (place_of l.place)
