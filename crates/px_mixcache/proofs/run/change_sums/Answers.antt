use Rattle.std.proofs.Common.{Bool, true, false, subst}
use Rattle.px_mixcache.specs.Run.{AreValues}
use Rattle.px_mixcache.proofs.Part.{part_changed, words_stay}
use Rattle.px_mixcache.proofs.run.change_sums.Goals as goal

pub returns-then-add-clause-sums : goal.returns-then-add-clause-sums
returns-then-add-clause-sums g c =
    rw c.if-add.true
    (part_changed true c.args.sums.now c.args.from c.args.values.now c.args.factor c.add_scaled.new.sums c.requires.inside c.add_scaled.ensures.long c.add_scaled.ensures.sums)

pub returns-then-add-clause-room : goal.returns-then-add-clause-room
returns-then-add-clause-room g c =
    words_stay true c.args.sums.now c.args.from c.args.values.now c.args.factor _ c.requires.room
    (subst (λ (b : Bool). AreValues b c.args.sums.now c.args.from c.args.values.now c.args.factor) c.if-add.true c.requires.values)
    (part_changed true c.args.sums.now c.args.from c.args.values.now c.args.factor c.add_scaled.new.sums c.requires.inside c.add_scaled.ensures.long c.add_scaled.ensures.sums)

pub returns-else-add-clause-sums : goal.returns-else-add-clause-sums
returns-else-add-clause-sums g c =
    rw c.if-add.false
    (part_changed false c.args.sums.now c.args.from c.args.values.now c.args.factor c.sub_scaled.new.sums c.requires.inside c.sub_scaled.ensures.long c.sub_scaled.ensures.sums)

pub returns-else-add-clause-room : goal.returns-else-add-clause-room
returns-else-add-clause-room g c =
    words_stay false c.args.sums.now c.args.from c.args.values.now c.args.factor _ c.requires.room
    (subst (λ (b : Bool). AreValues b c.args.sums.now c.args.from c.args.values.now c.args.factor) c.if-add.false c.requires.values)
    (part_changed false c.args.sums.now c.args.from c.args.values.now c.args.factor c.sub_scaled.new.sums c.requires.inside c.sub_scaled.ensures.long c.sub_scaled.ensures.sums)
