use Rattle.std.proofs.Common.{◌≡◌, ◌∙◌, List, ℕ, Option, sym, subst}
use Rattle.std.specs.Prelude.{IfSome}
use Rattle.px_chmap.specs.ChannelMap.{IsChannelMap}
use Rattle.px_session.specs.Seen.{place_of}
use Rattle.px_session.proofs.MapLemmas.{positions_are_map}
use Rattle.px_session.proofs.header_reading.map.Goals as goal

pub unwrap-map-requires : goal.unwrap-map-requires
unwrap-map-requires c = c.new.ensures.valid.1 (subst IsChannelMap (sym c.as_slice.ensures.value) (positions_are_map c.args.count (place_of c.args.place.now) (c.in_ok-positions.positions.items, place_of c.in_ok-positions.rest) c.requires c.in_ok-positions.ensures))

pub returns : goal.returns
returns c =
    let is : c.unwrap-map.result ≡ c.as_slice.result.now = subst (λ (o : Option (List ℕ)). IfSome o (λ map. map ≡ c.as_slice.result.now)) c.unwrap-map.ensures c.new.ensures.value in
    rw (is ∙ c.as_slice.ensures.value) c.in_ok-positions.ensures
