use Rattle.std.proofs.Common.{sym, ◌∙◌}
use Rattle.px_types.specs.declared.error_code.ErrorCode.TheVariants.{Invalid, NoEntity}
use Rattle.px_ctl_play.proofs.Joined.{is_ready, check_passed}
use Rattle.px_ctl_play.proofs.Naming.{found_is_target}
use Rattle.px_ctl_play.proofs.creation.create.Goals as goal

pub create_on-requires-clause-sink : goal.create_on-requires-clause-sink
create_on-requires-clause-sink g c =
    found_is_target c.args.named NoEntity c.in_ok-sink.sink c.requires.named (sym (rw c.target.ensures at c.present.ensures) ∙ c.in_ok-sink.was)

pub create_on-requires-clause-ready : goal.create_on-requires-clause-ready
create_on-requires-clause-ready g c =
    is_ready c.args.named NoEntity c.in_ok-sink.sink c.args.made c.in-Some.group.now (rw c.in-Some.is at c.requires.ready) (sym (rw c.target.ensures at c.present.ensures) ∙ c.in_ok-sink.was)

pub create_on-requires-clause-some : goal.create_on-requires-clause-some
create_on-requires-clause-some g c = c.is_lawful.ensures.some (check_passed c.is_lawful.result Invalid c.in_ok-check.field-0 (sym c.check.ensures ∙ c.in_ok-check.was))

pub create_on-requires-clause-few : goal.create_on-requires-clause-few
create_on-requires-clause-few g c = c.is_lawful.ensures.few (check_passed c.is_lawful.result Invalid c.in_ok-check.field-0 (sym c.check.ensures ∙ c.in_ok-check.was))

pub create_on-requires-clause-map : goal.create_on-requires-clause-map
create_on-requires-clause-map g c = c.is_lawful.ensures.map (check_passed c.is_lawful.result Invalid c.in_ok-check.field-0 (sym c.check.ensures ∙ c.in_ok-check.was))

pub create_on-requires-clause-length : goal.create_on-requires-clause-length
create_on-requires-clause-length g c = c.is_lawful.ensures.length (check_passed c.is_lawful.result Invalid c.in_ok-check.field-0 (sym c.check.ensures ∙ c.in_ok-check.was))

pub create_on-requires-clause-volume : goal.create_on-requires-clause-volume
create_on-requires-clause-volume g c = c.is_lawful.ensures.volume (check_passed c.is_lawful.result Invalid c.in_ok-check.field-0 (sym c.check.ensures ∙ c.in_ok-check.was))
