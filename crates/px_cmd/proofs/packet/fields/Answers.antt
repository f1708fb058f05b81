use Rattle.std.proofs.Common.{◌++◌, refl, ap}
use Rattle.std.proofs.lemmas.Result.{err_from_is_err_and}
use Rattle.px_cmd.specs.Field.{fields_at}
use Rattle.px_cmd.specs.Table.{create_kinds, create_later}
use Rattle.px_cmd.specs.Packet.{protocol}
use Rattle.px_cmd.proofs.Whole.{part_fails}
use Rattle.px_cmd.proofs.packet.fields.Goals as goal

pub returns-in_err-fields-in-3-clause-value : goal.returns-in_err-fields-in-3-clause-value
returns-in_err-fields-in-3-clause-value c =
    let p = err_from_is_err_and c.from_residual.result c.from_residual.ensures.1 in
    rw (p.1, p.2, c.in-3.is) (part_fails (fields_at (create_kinds ++ create_later c.args.version) c.args.reader.now) c.in_err-fields-in-3.field-0.0 c.in_err-fields-in-3.ensures.value)

pub returns-in_ok-fields-in-3-clause-value : goal.returns-in_ok-fields-in-3-clause-value
returns-in_ok-fields-in-3-clause-value c = rw c.in-3.is (ap protocol c.in_ok-fields-in-3.ensures.value, refl)

pub returns-in-72-clause-value : goal.returns-in-72-clause-value
returns-in-72-clause-value c = rw c.in-72.is c.attributes.ensures.value
