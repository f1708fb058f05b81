use Rattle.std.proofs.Common.{◌≡◌, List, length, map, refl, ap, sym, subst, ◌∙◌, arith}
use Rattle.std.specs.Vec.{with_items}
use Rattle.std.proofs.lemmas.List.{with_items_is}
use Rattle.px_session.specs.declared.event.Event.{Event}
use Rattle.px_session.specs.declared.event.Event.TheVariants.{Connect, Bytes, Close, Cut, Turn, Collect, Stop}
use Rattle.px_world.specs.Parts.{Answered, IsRefused}
use Rattle.px_world.proofs.Standings.{consistent-silent, keeps-it}
use Rattle.px_ramp_world.specs.declared.playing.RampPlaying.{RampPlaying}
use Rattle.px_ramp_world.specs.World.{plain_of}
use Rattle.px_ramp_world.specs.Playing.{ramped_mixer_of, plain_mixer_of}
use Rattle.px_ramp_world.specs.Parts.{running_of, Plays, Runs}
use Rattle.px_ramp_world.proofs.Standings.{runs-connection, runs-sink}
use Rattle.px_ramp_world.proofs.run.run.Goals as goal

pub returns-in-Connect-clause-done : goal.returns-in-Connect-clause-done
returns-in-Connect-clause-done c = λ w s.
    subst (λ (e : Event). Answered c.silent.result (Runs (running_of c.connect.new.core.state c.connect.new.doors.entries c.args.mixers.now.items) w e) (IsRefused (plain_of w) e)) (sym c.in-Connect.is)
    (runs-connection (running_of c.args.core.now.state c.args.doors.now.entries c.args.mixers.now.items) (running_of c.connect.new.core.state c.connect.new.doors.entries c.args.mixers.now.items)
    w (Connect c.in-Connect.conn) s c.connect.result c.silent.result c.silent.ensures (c.connect.ensures.done (plain_of w) s.doors) refl refl refl refl)

pub returns-in-Bytes-clause-done : goal.returns-in-Bytes-clause-done
returns-in-Bytes-clause-done c = λ w s.
    subst (λ (e : Event). Answered c.silent-in-Bytes.result (Runs (running_of c.bytes.new.core.state c.bytes.new.doors.entries c.args.mixers.now.items) w e) (IsRefused (plain_of w) e)) (sym c.in-Bytes.is)
    (runs-connection (running_of c.args.core.now.state c.args.doors.now.entries c.args.mixers.now.items) (running_of c.bytes.new.core.state c.bytes.new.doors.entries c.args.mixers.now.items)
    w (Bytes c.in-Bytes.conn c.in-Bytes.text) s c.bytes.result c.silent-in-Bytes.result c.silent-in-Bytes.ensures (c.bytes.ensures.done (plain_of w) s.doors) refl refl refl refl)

pub returns-in-Close-clause-done : goal.returns-in-Close-clause-done
returns-in-Close-clause-done c = λ w s.
    subst (λ (e : Event). Answered c.silent-in-Close.result (Runs (running_of c.close.new.core.state c.close.new.doors.entries c.args.mixers.now.items) w e) (IsRefused (plain_of w) e)) (sym c.in-Close.is)
    (runs-connection (running_of c.args.core.now.state c.args.doors.now.entries c.args.mixers.now.items) (running_of c.close.new.core.state c.close.new.doors.entries c.args.mixers.now.items)
    w (Close c.in-Close.conn) s c.close.result c.silent-in-Close.result c.silent-in-Close.ensures (c.close.ensures.done (plain_of w) s.doors) refl refl refl refl)

pub returns-in-Cut-clause-done : goal.returns-in-Cut-clause-done
returns-in-Cut-clause-done c = λ w s.
    subst (λ (e : Event). Answered c.silent-in-Cut.result (Runs (running_of c.cut.new.core.state c.args.doors.now.entries c.args.mixers.now.items) w e) (IsRefused (plain_of w) e)) (sym c.in-Cut.is)
    (runs-connection (running_of c.args.core.now.state c.args.doors.now.entries c.args.mixers.now.items) (running_of c.cut.new.core.state c.args.doors.now.entries c.args.mixers.now.items)
    w (Cut c.in-Cut.conn) s c.cut.result c.silent-in-Cut.result c.silent-in-Cut.ensures (c.cut.ensures.done (plain_of w) s.doors) refl refl refl refl)

pub returns-in-Turn-clause-done : goal.returns-in-Turn-clause-done
returns-in-Turn-clause-done c = λ w s.
    let whole : length c.turn.new.mixers ≡ c.args.mixers.now.len = search (arith, c.turn.auto.mixers, c.deref_mut.ensures.len, c.deref_mut.ensures.value) in
    subst (λ (e : Event). Answered c.turn.result (Runs (running_of c.turn.new.core.state c.args.doors.now.entries (with_items c.args.mixers.now c.turn.new.mixers).items) w e) (IsRefused (plain_of w) e)) (sym c.in-Turn.is)
    (runs-sink (running_of c.args.core.now.state c.args.doors.now.entries c.args.mixers.now.items)
    (running_of c.turn.new.core.state c.args.doors.now.entries (with_items c.args.mixers.now c.turn.new.mixers).items)
    w (Turn c.in-Turn.sink c.in-Turn.frames c.in-Turn.take) s c.turn.result
    (subst (λ (ps : List RampPlaying). Answered c.turn.result (Plays c.args.core.now.state c.turn.new.core.state (map ramped_mixer_of ps) w (Turn c.in-Turn.sink c.in-Turn.frames c.in-Turn.take)) (IsRefused (plain_of w) (Turn c.in-Turn.sink c.in-Turn.frames c.in-Turn.take)))
    (sym (with_items_is c.args.mixers.now c.turn.new.mixers whole))
    (c.turn.ensures.done w (sym s.core) (sym s.mixers ∙ ap (λ (ps : List RampPlaying). map ramped_mixer_of ps) (sym c.deref_mut.ensures.value))))
    refl refl)

pub returns-in-Collect-clause-done : goal.returns-in-Collect-clause-done
returns-in-Collect-clause-done c = λ w s.
    let whole : length c.collect.new.mixers ≡ c.args.mixers.now.len = search (arith, c.collect.auto.mixers, c.deref_mut-in-Collect.ensures.len, c.deref_mut-in-Collect.ensures.value) in
    subst (λ (e : Event). Answered c.collect.result (Runs (running_of c.collect.new.core.state c.args.doors.now.entries (with_items c.args.mixers.now c.collect.new.mixers).items) w e) (IsRefused (plain_of w) e)) (sym c.in-Collect.is)
    (runs-sink (running_of c.args.core.now.state c.args.doors.now.entries c.args.mixers.now.items)
    (running_of c.collect.new.core.state c.args.doors.now.entries (with_items c.args.mixers.now c.collect.new.mixers).items)
    w (Collect c.in-Collect.sink c.in-Collect.take) s c.collect.result
    (subst (λ (ps : List RampPlaying). Answered c.collect.result (Plays c.args.core.now.state c.collect.new.core.state (map ramped_mixer_of ps) w (Collect c.in-Collect.sink c.in-Collect.take)) (IsRefused (plain_of w) (Collect c.in-Collect.sink c.in-Collect.take)))
    (sym (with_items_is c.args.mixers.now c.collect.new.mixers whole))
    (c.collect.ensures.done w (sym s.core) (sym s.mixers ∙ ap (λ (ps : List RampPlaying). map ramped_mixer_of ps) (sym c.deref_mut-in-Collect.ensures.value))))
    refl refl)

pub returns-in-Stop-clause-done : goal.returns-in-Stop-clause-done
returns-in-Stop-clause-done c = λ w s.
    let whole : length c.stop.new.mixers ≡ c.args.mixers.now.len = search (arith, c.stop.auto.mixers, c.deref_mut-in-Stop.ensures.len, c.deref_mut-in-Stop.ensures.value) in
    subst (λ (e : Event). Answered c.stop.result (Runs (running_of c.stop.new.core.state c.args.doors.now.entries (with_items c.args.mixers.now c.stop.new.mixers).items) w e) (IsRefused (plain_of w) e)) (sym c.in-Stop.is)
    (runs-sink (running_of c.args.core.now.state c.args.doors.now.entries c.args.mixers.now.items)
    (running_of c.stop.new.core.state c.args.doors.now.entries (with_items c.args.mixers.now c.stop.new.mixers).items)
    w (Stop c.in-Stop.sink) s c.stop.result
    (subst (λ (ps : List RampPlaying). Answered c.stop.result (Plays c.args.core.now.state c.stop.new.core.state (map ramped_mixer_of ps) w (Stop c.in-Stop.sink)) (IsRefused (plain_of w) (Stop c.in-Stop.sink)))
    (sym (with_items_is c.args.mixers.now c.stop.new.mixers whole))
    (c.stop.ensures.done w (sym s.core) (sym s.mixers ∙ ap (λ (ps : List RampPlaying). map ramped_mixer_of ps) (sym c.deref_mut-in-Stop.ensures.value))))
    refl refl)

pub returns-in-Connect-clause-consistent : goal.returns-in-Connect-clause-consistent
returns-in-Connect-clause-consistent c =
    consistent-silent c.args.core.now.state c.connect.new.core.state _ _ (map plain_mixer_of c.args.mixers.now.items) c.connect.result c.silent.result c.silent.ensures c.connect.ensures.stays c.connect.ensures.consistent c.requires.consistent

pub returns-in-Bytes-clause-consistent : goal.returns-in-Bytes-clause-consistent
returns-in-Bytes-clause-consistent c =
    consistent-silent c.args.core.now.state c.bytes.new.core.state _ _ (map plain_mixer_of c.args.mixers.now.items) c.bytes.result c.silent-in-Bytes.result c.silent-in-Bytes.ensures c.bytes.ensures.stays c.bytes.ensures.consistent c.requires.consistent

pub returns-in-Close-clause-consistent : goal.returns-in-Close-clause-consistent
returns-in-Close-clause-consistent c =
    consistent-silent c.args.core.now.state c.close.new.core.state _ _ (map plain_mixer_of c.args.mixers.now.items) c.close.result c.silent-in-Close.result c.silent-in-Close.ensures c.close.ensures.stays c.close.ensures.consistent c.requires.consistent

pub returns-in-Cut-clause-consistent : goal.returns-in-Cut-clause-consistent
returns-in-Cut-clause-consistent c =
    consistent-silent c.args.core.now.state c.cut.new.core.state _ _ (map plain_mixer_of c.args.mixers.now.items) c.cut.result c.silent-in-Cut.result c.silent-in-Cut.ensures c.cut.ensures.stays c.cut.ensures.consistent c.requires.consistent

pub returns-in-Connect-clause-playing : goal.returns-in-Connect-clause-playing
returns-in-Connect-clause-playing c = keeps-it c.silent.result _ c.requires.playing

pub returns-in-Bytes-clause-playing : goal.returns-in-Bytes-clause-playing
returns-in-Bytes-clause-playing c = keeps-it c.silent-in-Bytes.result _ c.requires.playing

pub returns-in-Close-clause-playing : goal.returns-in-Close-clause-playing
returns-in-Close-clause-playing c = keeps-it c.silent-in-Close.result _ c.requires.playing

pub returns-in-Cut-clause-playing : goal.returns-in-Cut-clause-playing
returns-in-Cut-clause-playing c = keeps-it c.silent-in-Cut.result _ c.requires.playing
