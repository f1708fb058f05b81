-- What contracts see of the code's own types.
use Rattle.px_session.specs.declared.place.Place.{Place as Inner}
use Rattle.std.specs.Prelude.{ℕ}
use Rattle.px_session.specs.Place.{Place}
use Rattle.px_session.specs.HeaderReading.{Room}

abbrev pub place_of : Inner → Place
place_of place = record { at = place.at; rest = place.rest.now }

abbrev pub room_of : ℕ → ℕ → Room
room_of guard depth = record { guard = guard; depth = depth }
