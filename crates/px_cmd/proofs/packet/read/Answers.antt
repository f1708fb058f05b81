use Rattle.std.proofs.Common.{rules}
use Rattle.std.proofs.lemmas.Result.{err_from_is_err_and}
use Rattle.px_cmd.specs.Command.{fields_of, number_of}
use Rattle.px_cmd.specs.Packet.{meaning}
use Rattle.px_cmd.proofs.Whole.{front_fails, unknown, fields_fail, left, means, closes}
use Rattle.px_cmd.proofs.packet.read.Goals as goal

pub returns-in_err-head-clause-value : goal.returns-in_err-head-clause-value
returns-in_err-head-clause-value c =
    let p = err_from_is_err_and c.from_residual.result c.from_residual.ensures.1 in
    rw (p.1, p.2) (front_fails c.args.version c.args.packet.now c.in_err-head.field-0.0 (rw c.new-reader.ensures at c.in_err-head.ensures))

pub returns-then-head-gt-LAST_COMMAND-clause-value : goal.returns-then-head-gt-LAST_COMMAND-clause-value
returns-then-head-gt-LAST_COMMAND-clause-value c = unknown c.args.version c.args.packet.now c.in_ok-head.head.command c.in_ok-head.head.tag c.front.new.reader (rw c.new-reader.ensures at c.in_ok-head.ensures) c.if-head-gt-LAST_COMMAND.true

pub returns-in_err-command-clause-value : goal.returns-in_err-command-clause-value
returns-in_err-command-clause-value c =
    let p = err_from_is_err_and c.from_residual-in_err-command.result c.from_residual-in_err-command.ensures.1 in
    rw (p.1, p.2) (fields_fail c.args.version c.args.packet.now c.in_ok-head.head.command c.in_ok-head.head.tag c.front.new.reader (rw c.new-reader.ensures at c.in_ok-head.ensures) c.if-head-gt-LAST_COMMAND.false c.in_err-command.field-0.0 c.in_err-command.ensures.value)

pub returns-clause-value : goal.returns-clause-value
returns-clause-value c =
    let front = rw c.new-reader.ensures at c.in_ok-head.ensures in
    let known = c.if-head-gt-LAST_COMMAND.false in
    let fields = c.in_ok-command.ensures.value in
    let number = c.in_ok-head.head.command in
    let tag = c.in_ok-head.head.tag in
    let command = c.in_ok-command.command in
    let means_it = means c.args.version c.args.packet.now number tag c.front.new.reader front known (fields_of command) c.fields.new.reader fields.0 in
    let fails_it = left c.args.version c.args.packet.now number tag c.front.new.reader front known (fields_of command) c.fields.new.reader fields.0 in
    closes (λ command. (number_of command, fields_of command)) (meaning c.args.version c.args.packet.now) command c.fields.new.reader (λ e. rw fields.1 (means_it e)) fails_it (λ nothing same held. search rules) c.end.result c.map.result c.map_err.result c.end.ensures c.map.ensures.cases c.map_err.ensures.cases
