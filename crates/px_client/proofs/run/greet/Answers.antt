use Rattle.std.proofs.Common.{◌∙◌, ◌++◌, Ok, Err, refl}
use Rattle.std.proofs.lemmas.Result.{err_from_is_err_and}
use Rattle.px_client.specs.declared.awaited.Awaited.TheVariants as awaits
use Rattle.px_client.specs.Dialogue.{Waiting, stage_after, last_awaited}
use Rattle.px_client.specs.Errand.{framed, auth_packet, name_packet}
use Rattle.px_client.specs.Outcome.{LinkState}
use Rattle.px_client.proofs.Talking.{talks_both, talks_less, talks_none, talks_err, talks_ok, talks_as}
use Rattle.px_client.proofs.run.greet.Goals as goal

pub returns-in_err-auth-clause-talks : goal.returns-in_err-auth-clause-talks
returns-in_err-auth-clause-talks g c = λ errand.
    let p = err_from_is_err_and c.from_residual.result c.from_residual.ensures.1 in
    rw (p.1, p.2) (talks_none errand (framed (auth_packet c.args.cookie.now) ++ framed name_packet) (Waiting awaits.Version) (λ (x : Unit {0}). Waiting (last_awaited errand)) c.args.hearing.now (record { left = g.L.Link.left c.args.link.now; sent = g.L.Link.sent c.args.link.now; counts = g.L.Link.counts c.args.link.now }))

pub returns-in_err-ask-clause-talks : goal.returns-in_err-ask-clause-talks
returns-in_err-ask-clause-talks g c = λ errand.
    let p = err_from_is_err_and c.from_residual-in_err-ask.result c.from_residual-in_err-ask.ensures.1 in
    let s : LinkState = (record { left = g.L.Link.left c.args.link.now; sent = g.L.Link.sent c.args.link.now; counts = g.L.Link.counts c.args.link.now }) in
    let t : LinkState = (record { left = g.L.Link.left c.ask.new.link; sent = g.L.Link.sent c.ask.new.link; counts = g.L.Link.counts c.ask.new.link }) in
    rw (p.1, p.2) (talks_less errand c.in_err-ask.field-0.0 (framed (auth_packet c.args.cookie.now)) (framed name_packet) (Waiting awaits.Version) (stage_after errand awaits.Version) (λ (x : Unit {0}). Waiting (last_awaited errand)) c.args.hearing.now c.ask.new.hearing s t
    (talks_as errand (Err c.in_err-ask.field-0.0) c.as_slice.result.now (framed (auth_packet c.args.cookie.now)) (Waiting awaits.Version) (stage_after errand awaits.Version) c.args.hearing.now c.ask.new.hearing s t
    (c.as_slice.ensures ∙ c.in_ok-auth.ensures) (c.in_err-ask.ensures.talks errand)))

pub returns-in_err-ask-2-clause-talks : goal.returns-in_err-ask-2-clause-talks
returns-in_err-ask-2-clause-talks g c = λ errand.
    let p = err_from_is_err_and c.from_residual-in_err-ask-2.result c.from_residual-in_err-ask-2.ensures.1 in
    let s : LinkState = (record { left = g.L.Link.left c.args.link.now; sent = g.L.Link.sent c.args.link.now; counts = g.L.Link.counts c.args.link.now }) in
    let t : LinkState = (record { left = g.L.Link.left c.ask.new.link; sent = g.L.Link.sent c.ask.new.link; counts = g.L.Link.counts c.ask.new.link }) in
    let u : LinkState = (record { left = g.L.Link.left c.ask-2.new.link; sent = g.L.Link.sent c.ask-2.new.link; counts = g.L.Link.counts c.ask-2.new.link }) in
    let end = c.in_err-ask-2.field-0.0 in
    let one = talks_as errand (Ok c.in_ok-ask.field-0) c.as_slice.result.now (framed (auth_packet c.args.cookie.now)) (Waiting awaits.Version) (stage_after errand awaits.Version) c.args.hearing.now c.ask.new.hearing s t
    (c.as_slice.ensures ∙ c.in_ok-auth.ensures) (c.in_ok-ask.ensures.talks errand) in
    let two = talks_err errand end (framed name_packet) (Waiting awaits.Client) (stage_after errand awaits.Client) (λ (x : Unit {0}). Waiting (last_awaited errand)) c.ask.new.hearing c.ask-2.new.hearing t u
    (talks_as errand (Err end) c.as_slice-2.result.now (framed name_packet) (Waiting awaits.Client) (stage_after errand awaits.Client) c.ask.new.hearing c.ask-2.new.hearing t u
    (c.as_slice-2.ensures ∙ c.in_ok-name.ensures) (c.in_err-ask-2.ensures.talks errand)) in
    rw (p.1, p.2) (talks_both errand c.in_ok-ask.field-0 (Err end) (framed (auth_packet c.args.cookie.now)) (framed name_packet) (Waiting awaits.Version) (stage_after errand awaits.Version) (λ (x : Unit {0}). Waiting (last_awaited errand)) c.args.hearing.now c.ask.new.hearing c.ask-2.new.hearing s t u one two)

pub returns-clause-talks : goal.returns-clause-talks
returns-clause-talks g c = λ errand.
    let s : LinkState = (record { left = g.L.Link.left c.args.link.now; sent = g.L.Link.sent c.args.link.now; counts = g.L.Link.counts c.args.link.now }) in
    let t : LinkState = (record { left = g.L.Link.left c.ask.new.link; sent = g.L.Link.sent c.ask.new.link; counts = g.L.Link.counts c.ask.new.link }) in
    let u : LinkState = (record { left = g.L.Link.left c.ask-2.new.link; sent = g.L.Link.sent c.ask-2.new.link; counts = g.L.Link.counts c.ask-2.new.link }) in
    let one = talks_as errand (Ok c.in_ok-ask.field-0) c.as_slice.result.now (framed (auth_packet c.args.cookie.now)) (Waiting awaits.Version) (stage_after errand awaits.Version) c.args.hearing.now c.ask.new.hearing s t
    (c.as_slice.ensures ∙ c.in_ok-auth.ensures) (c.in_ok-ask.ensures.talks errand) in
    let two = talks_ok errand c.in_ok-ask-2.field-0 (tt {0}) (framed name_packet) (Waiting awaits.Client) (stage_after errand awaits.Client) (λ (x : Unit {0}). Waiting (last_awaited errand)) c.ask.new.hearing c.ask-2.new.hearing t u refl
    (talks_as errand (Ok c.in_ok-ask-2.field-0) c.as_slice-2.result.now (framed name_packet) (Waiting awaits.Client) (stage_after errand awaits.Client) c.ask.new.hearing c.ask-2.new.hearing t u
    (c.as_slice-2.ensures ∙ c.in_ok-name.ensures) (c.in_ok-ask-2.ensures.talks errand)) in
    talks_both errand c.in_ok-ask.field-0 (Ok (tt {0})) (framed (auth_packet c.args.cookie.now)) (framed name_packet) (Waiting awaits.Version) (stage_after errand awaits.Version) (λ (x : Unit {0}). Waiting (last_awaited errand)) c.args.hearing.now c.ask.new.hearing c.ask-2.new.hearing s t u one two
