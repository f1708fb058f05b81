use Rattle.std.proofs.Common.{◌≡◌, map, true, refl}
use Rattle.px_tag.specs.PropList.{is_proplist, is_property, with_value, is_key, is_value}
use Rattle.px_tag.proofs.Properties.{seen, seen_insert, proplist_with, and}
use Rattle.px_tag.proofs.proplist.PropList.set.Goals as goal

pub invariant_of-self-2 : goal.invariant_of-self-2
invariant_of-self-2 c =
    let rules : is_property (c.args.key.now, c.args.value.now) ≡ true = and (is_key c.args.key.now) (is_value c.args.value.now) c.requires.key c.requires.value in
    let stays : is_proplist (with_value (map seen c.self.inside.table.entries) c.in_ok-key.key.items c.in_ok-value.value.items) ≡ true = rw (c.in_ok-key.ensures.items, c.in_ok-value.ensures.items) (proplist_with (map seen c.self.inside.table.entries) c.args.key.now c.args.value.now rules c.self.invariant) in
    rw (c.in_ok-insert.ensures.entries, seen_insert) stays

pub returns-clause-set : goal.returns-clause-set
returns-clause-set c = rw (c.in_ok-insert.ensures.entries, seen_insert, c.in_ok-key.ensures.items, c.in_ok-value.ensures.items, ← c.self.view_is) refl
