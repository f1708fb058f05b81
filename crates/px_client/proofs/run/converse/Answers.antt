use Rattle.std.proofs.Common.{◌∙◌, ◌++◌, Err, subst}
use Rattle.std.proofs.lemmas.Result.{err_from_is_err_and}
use Rattle.px_client.specs.declared.awaited.Awaited.{Awaited}
use Rattle.px_client.specs.declared.awaited.Awaited.TheVariants as awaits
use Rattle.px_client.specs.Dialogue.{Waiting, stage_after, last_awaited}
use Rattle.px_client.specs.Errand.{framed, auth_packet, name_packet, errand_packet}
use Rattle.px_client.specs.Outcome.{LinkState, Talks}
use Rattle.px_client.proofs.Talking.{talks_both, talks_less, talks_as, conversed, conversed_none}
use Rattle.px_client.proofs.run.converse.Goals as goal

pub returns-in_err-command : goal.returns-in_err-command
returns-in_err-command g c =
    let p = err_from_is_err_and c.from_residual.result c.from_residual.ensures.1 in
    rw (p.1, p.2) (conversed_none c.args.cookie.now c.args.errand.now (record { left = g.L.Link.left c.args.link.now; sent = g.L.Link.sent c.args.link.now; counts = g.L.Link.counts c.args.link.now }))

pub returns-in_err-greet : goal.returns-in_err-greet
returns-in_err-greet g c =
    let p = err_from_is_err_and c.from_residual-in_err-greet.result c.from_residual-in_err-greet.ensures.1 in
    let errand = c.args.errand.now in
    let s : LinkState = (record { left = g.L.Link.left c.args.link.now; sent = g.L.Link.sent c.args.link.now; counts = g.L.Link.counts c.args.link.now }) in
    let t : LinkState = (record { left = g.L.Link.left c.greet.new.link; sent = g.L.Link.sent c.greet.new.link; counts = g.L.Link.counts c.greet.new.link }) in
    rw (p.1, p.2) (conversed c.args.cookie.now errand (Err c.in_err-greet.field-0.0) c.new-hearing.result c.greet.new.hearing s t (c.new-hearing.ensures.hears errand)
    (talks_less errand c.in_err-greet.field-0.0 (framed (auth_packet c.args.cookie.now) ++ framed name_packet) (framed (errand_packet c.args.errand.now)) (Waiting awaits.Version) (λ (x : Unit {0}). Waiting (last_awaited errand)) (stage_after errand (last_awaited errand)) c.new-hearing.result c.greet.new.hearing s t
    (c.in_err-greet.ensures.talks errand)))

pub returns : goal.returns
returns g c =
    let errand = c.args.errand.now in
    let s : LinkState = (record { left = g.L.Link.left c.args.link.now; sent = g.L.Link.sent c.args.link.now; counts = g.L.Link.counts c.args.link.now }) in
    let t : LinkState = (record { left = g.L.Link.left c.greet.new.link; sent = g.L.Link.sent c.greet.new.link; counts = g.L.Link.counts c.greet.new.link }) in
    let u : LinkState = (record { left = g.L.Link.left c.ask.new.link; sent = g.L.Link.sent c.ask.new.link; counts = g.L.Link.counts c.ask.new.link }) in
    let two = subst (λ (a : Awaited). Talks errand c.ask.result c.as_slice.result.now (Waiting a) (stage_after errand a) c.greet.new.hearing c.ask.new.hearing t u) c.of.ensures (c.ask.ensures.talks errand) in
    conversed c.args.cookie.now errand c.ask.result c.new-hearing.result c.ask.new.hearing s u (c.new-hearing.ensures.hears errand)
    (talks_both errand c.in_ok-greet.field-0 c.ask.result (framed (auth_packet c.args.cookie.now) ++ framed name_packet) (framed (errand_packet c.args.errand.now)) (Waiting awaits.Version) (λ (x : Unit {0}). Waiting (last_awaited errand)) (stage_after errand (last_awaited errand)) c.new-hearing.result c.greet.new.hearing c.ask.new.hearing s t u
    (c.in_ok-greet.ensures.talks errand)
    (talks_as errand c.ask.result c.as_slice.result.now (framed (errand_packet c.args.errand.now)) (Waiting (last_awaited errand)) (stage_after errand (last_awaited errand)) c.greet.new.hearing c.ask.new.hearing t u
    (c.as_slice.ensures ∙ c.in_ok-command.ensures) two))
