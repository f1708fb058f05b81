use Rattle.std.proofs.Common.{ap, ◌∙◌}
use Rattle.px_outcome.specs.Input.{stream_of}
use Rattle.px_input_table.proofs.input_table.InputTable.stream_of.Goals as goal

pub returns : goal.returns
returns c =
    c.get.ensures.value ∙ c.self.invariant (record { conn = c.args.conn; stream = c.args.stream }) ∙ ap (λ t. stream_of t.items c.args.conn c.args.stream) c.self.view_is
