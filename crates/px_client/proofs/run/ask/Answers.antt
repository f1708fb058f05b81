use Rattle.px_client.proofs.Talking.{talks_sent}
use Rattle.px_client.proofs.run.ask.Goals as goal

pub returns-clause-talks : goal.returns-clause-talks
returns-clause-talks g c = λ errand.
    talks_sent errand c.args.awaited c.reply.result c.args.frame.now c.args.hearing.now c.reply.new.self
    (record { left = g.L.Link.left c.args.link.now; sent = g.L.Link.sent c.args.link.now; counts = g.L.Link.counts c.args.link.now })
    (record { left = g.L.Link.left c.send_all.new.link; sent = g.L.Link.sent c.send_all.new.link; counts = g.L.Link.counts c.send_all.new.link })
    (record { left = g.L.Link.left c.reply.new.link; sent = g.L.Link.sent c.reply.new.link; counts = g.L.Link.counts c.reply.new.link })
    c.in_ok-send_all.ensures.other c.in_ok-send_all.ensures.ok c.in_ok-send_all.ensures.count c.reply.ensures.hears c.reply.ensures.other c.reply.ensures.count
