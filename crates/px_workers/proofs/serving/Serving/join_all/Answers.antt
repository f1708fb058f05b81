use Rattle.std.proofs.Common.{◌∙◌, ◌++◌, ap, map, List}
use Rattle.px_workers.specs.Working.{Unworked, lasting_of}
use Rattle.px_workers.proofs.serving.Serving.join_all.Goals as goal

pub returns-clause-lasting : goal.returns-clause-lasting
returns-clause-lasting g c =
    let same = ap (λ (s : _). s.items) c.join_clients.ensures.sinks in
    c.join_sinks.ensures.lasting ∙ ap (λ (l : List (Unworked g.row.H-D.Denot g.row.H-R.Denot)). map lasting_of (l ++ c.args.idle.now.items)) same
