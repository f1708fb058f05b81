use Rattle.std.proofs.Common.{◌≡◌, map, true, refl}
use Rattle.std.specs.List.{list_all}
use Rattle.px_tag.specs.PropList.{is_proplist, is_property, is_distinct, with_all}
use Rattle.px_tag.proofs.Properties.{both, seen, seen_insert_all, proplist_with_all}
use Rattle.px_tag.proofs.proplist.PropList.append.Goals as goal

pub invariant_of-self-2 : goal.invariant_of-self-2
invariant_of-self-2 c =
    let list = map seen c.self.inside.table.entries in
    let others = map seen c.other.inside.table.entries in
    let stays : is_proplist (with_all list others) ≡ true = proplist_with_all list others (both (list_all is_property others) (is_distinct others) c.other.invariant).0 c.self.invariant in
    rw (c.in_ok-append.ensures.entries, seen_insert_all) stays

pub returns-clause-set : goal.returns-clause-set
returns-clause-set c = rw (c.in_ok-append.ensures.entries, seen_insert_all, ← c.self.view_is, ← c.other.view_is) refl
