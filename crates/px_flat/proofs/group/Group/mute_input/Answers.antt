use Rattle.px_flat.specs.Member.{is_input}
use Rattle.px_flat.proofs.TrueTo.{muted_is}
use Rattle.px_flat.proofs.group.Group.mute_input.Goals as goal

pub invariant_of-self : goal.invariant_of-self
invariant_of-self c = rw c.mute.ensures (muted_is (is_input c.args.input) c.args.on c.self.inside.muted c.self.inside.reference c.self.inside.members.items c.self.invariant)
