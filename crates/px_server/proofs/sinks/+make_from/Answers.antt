use Rattle.std.proofs.Common.{rules, ◌≡◌, ◌+◌, ◌∷◌, length, map, ap, refl}
use Rattle.std.proofs.lemmas.List.{nil_from_length}
use Rattle.std.proofs.lemmas.Result.{on_ok_weaker, err_from_is_err_and}
use Rattle.px_workers.specs.Working.{start_of}
use Rattle.px_server.specs.Parts.{start_for, starts_from}
use Rattle.px_workers.proofs.Later.{later_refl, later_later}
use Rattle.px_server.proofs.Making.{map_one, adds_then, adds_nothing, adds_all}
use Rattle.px_server.proofs.Parts.{adds_none}
use Rattle.px_server.proofs.sinks.+make_from.Goals as goal

pub returns-in-None-clause-later : goal.returns-in-None-clause-later
returns-in-None-clause-later g n c = later_refl (g.H.Host.now c.args.host.now)

pub returns-in-None-clause-lent : goal.returns-in-None-clause-lent
returns-in-None-clause-lent g n c = λ lent. lent

pub returns-in-None-clause-cause : goal.returns-in-None-clause-cause
returns-in-None-clause-cause g n c = tt

pub returns-in-None-clause-made : goal.returns-in-None-clause-made
returns-in-None-clause-made g n c =
    let none : length c.args.sinks.now ≡ 0 = search rules in
    adds_nothing c.args.taped c.args.index c.args.sinks.now c.args.idle.now.items c.args.ends.now.items (nil_from_length c.args.sinks.now none)

pub returns-in-None-clause-front : goal.returns-in-None-clause-front
returns-in-None-clause-front g n c = adds_none start_of c.args.idle.now.items c.args.idle.now.items (starts_from c.args.index c.args.sinks.now) refl

pub returns-in_err-make_one-in-Some-clause-later : goal.returns-in_err-make_one-in-Some-clause-later
returns-in_err-make_one-in-Some-clause-later g n c = c.in_err-make_one-in-Some.ensures.later

pub returns-in_err-make_one-in-Some-clause-lent : goal.returns-in_err-make_one-in-Some-clause-lent
returns-in_err-make_one-in-Some-clause-lent g n c = c.in_err-make_one-in-Some.ensures.lent

pub returns-in_err-make_one-in-Some-clause-made : goal.returns-in_err-make_one-in-Some-clause-made
returns-in_err-make_one-in-Some-clause-made g n c = let p = err_from_is_err_and c.from_residual.result c.from_residual.ensures.1 in rw (p.1) tt

pub returns-in_err-make_one-in-Some-clause-front : goal.returns-in_err-make_one-in-Some-clause-front
returns-in_err-make_one-in-Some-clause-front g n c = adds_none start_of c.args.idle.now.items c.make_one.new.idle.items (starts_from c.args.index c.args.sinks.now) c.in_err-make_one-in-Some.ensures.stays

pub returns-in_ok-make_one-in-Some-clause-later : goal.returns-in_ok-make_one-in-Some-clause-later
returns-in_ok-make_one-in-Some-clause-later g n c = later_later (g.H.Host.now c.args.host.now) (g.H.Host.now c.make_one.new.host) (g.H.Host.now c.make_from.new.host) c.in_ok-make_one-in-Some.ensures.later c.make_from.ensures.later

pub returns-in_ok-make_one-in-Some-clause-lent : goal.returns-in_ok-make_one-in-Some-clause-lent
returns-in_ok-make_one-in-Some-clause-lent g n c = λ lent. c.make_from.ensures.lent (c.in_ok-make_one-in-Some.ensures.lent lent)

pub returns-in_ok-make_one-in-Some-clause-made : goal.returns-in_ok-make_one-in-Some-clause-made
returns-in_ok-make_one-in-Some-clause-made g n c =
    let cut : c.args.sinks.now ≡ c.in-Some.first.now ∷ c.in-Some.rest.now = search rules in
    on_ok_weaker c.make_from.result
    (adds_all c.args.taped c.args.index c.in-Some.first.now c.in-Some.rest.now c.args.sinks.now
    c.args.idle.now.items c.make_one.new.idle.items c.make_from.new.idle.items c.args.ends.now.items c.make_one.new.ends.items c.make_from.new.ends.items
    cut c.in_ok-make_one-in-Some.ensures.made)
    c.make_from.ensures.made

pub returns-in_ok-make_one-in-Some-clause-front : goal.returns-in_ok-make_one-in-Some-clause-front
returns-in_ok-make_one-in-Some-clause-front g n c =
    let cut : c.args.sinks.now ≡ c.in-Some.first.now ∷ c.in-Some.rest.now = search rules in
    let one = c.in_ok-make_one-in-Some.ensures.made in
    adds_then (map start_of c.args.idle.now.items) (map start_of c.make_one.new.idle.items) (map start_of c.make_from.new.idle.items)
    (start_for (record { 0 = c.args.index }) c.in-Some.first.now) (starts_from (c.args.index + 1) c.in-Some.rest.now) (starts_from c.args.index c.args.sinks.now)
    (map_one start_of c.args.idle.now.items c.make_one.new.idle.items one.0 (start_for (record { 0 = c.args.index }) c.in-Some.first.now) one.3 one.2.start)
    (ap (starts_from c.args.index) cut) c.make_from.ensures.front
