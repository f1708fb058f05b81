-- What contracts see of the code's own types.
use Rattle.px_tag.specs.declared.place.Place.{Place as Inner}
use Rattle.px_tag.specs.Place.{Place}

abbrev pub place_of : Inner → Place
place_of place = record { size = place.size; rest = place.rest.now }
