use Rattle.std.proofs.lemmas.Result.{err_from_is_err_and}
use Rattle.px_workers.proofs.Later.{later_refl}
use Rattle.px_server.proofs.Making.{lent_as, lent_more, adds_same}
use Rattle.px_server.proofs.sinks.make_one.Goals as goal

pub add_one-requires-clause-room : goal.add_one-requires-clause-room
add_one-requires-clause-room g c = c.in-Ok.ensures.room

pub add_one-requires-clause-ends_room : goal.add_one-requires-clause-ends_room
add_one-requires-clause-ends_room g c = c.in-Ok.ensures.ends_room

pub returns-in_default-clause-later : goal.returns-in_default-clause-later
returns-in_default-clause-later g c = later_refl (g.H.Host.now c.args.host.now)

pub returns-in_default-clause-lent : goal.returns-in_default-clause-lent
returns-in_default-clause-lent g c = lent_as c.args.idle.now.items c.reserve_one.new.idle.items (g.H.Host.now c.args.host.now) c.reserve_one.ensures.idle

pub returns-in_default-clause-cause : goal.returns-in_default-clause-cause
returns-in_default-clause-cause g c = tt

pub returns-in_default-clause-made : goal.returns-in_default-clause-made
returns-in_default-clause-made g c = tt

pub returns-in_default-clause-stays : goal.returns-in_default-clause-stays
returns-in_default-clause-stays g c = c.reserve_one.ensures.idle

pub returns-in_err-one-clause-later : goal.returns-in_err-one-clause-later
returns-in_err-one-clause-later g c = c.new_sink_state.ensures.later

pub returns-in_err-one-clause-lent : goal.returns-in_err-one-clause-lent
returns-in_err-one-clause-lent g c = λ lent.
    lent_as c.args.idle.now.items c.reserve_one.new.idle.items (g.H.Host.now c.new_sink_state.new.host) c.reserve_one.ensures.idle (c.in_err-one.ensures.lent_stays _ lent)

pub returns-in_err-one-clause-made : goal.returns-in_err-one-clause-made
returns-in_err-one-clause-made g c = let p = err_from_is_err_and c.from_residual.result c.from_residual.ensures.1 in rw (p.1) tt

pub returns-in_err-one-clause-stays : goal.returns-in_err-one-clause-stays
returns-in_err-one-clause-stays g c = let p = err_from_is_err_and c.from_residual.result c.from_residual.ensures.1 in rw (p.1) c.reserve_one.ensures.idle

pub returns-clause-later : goal.returns-clause-later
returns-clause-later g c = c.new_sink_state.ensures.later

pub returns-clause-lent : goal.returns-clause-lent
returns-clause-lent g c = λ lent.
    lent_more c.args.idle.now.items c.reserve_one.new.idle.items c.add_one.new.idle.items _ (g.H.Host.now c.new_sink_state.new.host) c.reserve_one.ensures.idle c.add_one.ensures.idle
    (c.in_ok-one.ensures.lent _ lent)

pub returns-clause-cause : goal.returns-clause-cause
returns-clause-cause g c = tt

pub returns-clause-made : goal.returns-clause-made
returns-clause-made g c =
    adds_same c.args.taped (record { 0 = c.args.index }) c.args.sink.now
    c.args.idle.now.items c.reserve_one.new.idle.items c.add_one.new.idle.items c.args.ends.now.items c.reserve_one.new.ends.items c.add_one.new.ends.items _ _
    c.reserve_one.ensures.idle c.reserve_one.ensures.ends c.add_one.ensures.idle c.add_one.ensures.ends c.in_ok-one.ensures.made

pub returns-clause-stays : goal.returns-clause-stays
returns-clause-stays g c = tt
