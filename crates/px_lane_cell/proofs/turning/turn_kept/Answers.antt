use Rattle.std.proofs.Common.{List, length, refl, ap, sym, ◌∙◌}
use Rattle.std.proofs.lemmas.List.{length-map}
use Rattle.std.specs.Option.{option_map}
use Rattle.px_annals.specs.declared.entry.LaneEntry.{LaneEntry}
use Rattle.px_annals.specs.History.{noted, sizes_by}
use Rattle.px_annals.specs.Size.{size_of_lane_entry}
use Rattle.px_lane.specs.Lists.{BoundedMessages}
use Rattle.px_model.specs.Stream.{Stream}
use Rattle.px_model.specs.Message.{Message}
use Rattle.px_lane_cell.specs.Meaning.{message_meant}
use Rattle.px_lane_cell.proofs.Whole.{is_noted}
use Rattle.px_lane_cell.proofs.turning.turn_kept.Goals as goal

pub returns-in-Ok-counted-clause-ok : goal.returns-in-Ok-counted-clause-ok
returns-in-Ok-counted-clause-ok g c =
    let entry : LaneEntry = record { consumed = c.consumed_in-entry.result; messages = c.in-Ok.plain } in (
      entry,
      c.note.ensures.visible ∙ ap (noted entry) c.ready.ensures.visible,
      sym (length-map c.in-Ok.plain message_meant) ∙ ap (λ (ms : List (Message Stream)). length ms) c.in-Ok.ensures,
      c.in-Ok-counted.ensures.empty,
      is_noted g.D.Device.now c.args.lane.now c.counted.new.lane c.args.messages.now.messages c.args.notices.now.notices c.counted.new.notices.notices c.in-Ok-counted.turned entry c.consumed_in-entry.ensures c.in-Ok.ensures c.in-Ok-counted.ensures.ok,
    )

pub returns-in_default-clause-counts : goal.returns-in_default-clause-counts
returns-in_default-clause-counts g c =
    (refl, refl)

pub returns-in_default-clause-err : goal.returns-in_default-clause-err
returns-in_default-clause-err g c =
    (refl, refl, refl, refl)

pub returns-in_default-clause-limit : goal.returns-in_default-clause-limit
returns-in_default-clause-limit g c =
    refl

pub returns-in_default-clause-ok : goal.returns-in_default-clause-ok
returns-in_default-clause-ok g c =
    tt

pub returns-in_default-clause-room : goal.returns-in_default-clause-room
returns-in_default-clause-room g c =
    refl

pub returns-in_default-clause-why : goal.returns-in_default-clause-why
returns-in_default-clause-why g c =
    tt

pub returns-in_default-clause-worn : goal.returns-in_default-clause-worn
returns-in_default-clause-worn g c =
    tt

pub returns-in-Err-clause-counts : goal.returns-in-Err-clause-counts
returns-in-Err-clause-counts g c =
    c.in-Err.ensures.counts

pub returns-in-Err-clause-err : goal.returns-in-Err-clause-err
returns-in-Err-clause-err g c =
    (refl, c.ready.ensures.visible, refl, refl)

pub returns-in-Err-clause-limit : goal.returns-in-Err-clause-limit
returns-in-Err-clause-limit g c =
    c.ready.ensures.limit

pub returns-in-Err-clause-ok : goal.returns-in-Err-clause-ok
returns-in-Err-clause-ok g c =
    tt

pub returns-in-Err-clause-room : goal.returns-in-Err-clause-room
returns-in-Err-clause-room g c =
    refl

pub returns-in-Err-clause-why : goal.returns-in-Err-clause-why
returns-in-Err-clause-why g c =
    c.in-Err.ensures.full

pub returns-in-Err-clause-worn : goal.returns-in-Err-clause-worn
returns-in-Err-clause-worn g c =
    tt

pub returns-in-Err-counted-clause-counts : goal.returns-in-Err-counted-clause-counts
returns-in-Err-counted-clause-counts g c =
    rw c.lane_fault.ensures.said c.in_default-ready.ensures.counts

pub returns-in-Err-counted-clause-err : goal.returns-in-Err-counted-clause-err
returns-in-Err-counted-clause-err g c =
    let err = c.in-Err-counted.ensures.err in (err.0, c.ready.ensures.visible, ap (λ (m : BoundedMessages). m.messages) err.1, err.2)

pub returns-in-Err-counted-clause-limit : goal.returns-in-Err-counted-clause-limit
returns-in-Err-counted-clause-limit g c =
    c.ready.ensures.limit

pub returns-in-Err-counted-clause-ok : goal.returns-in-Err-counted-clause-ok
returns-in-Err-counted-clause-ok g c =
    tt

pub returns-in-Err-counted-clause-room : goal.returns-in-Err-counted-clause-room
returns-in-Err-counted-clause-room g c =
    c.counted.ensures.message_room

pub returns-in-Err-counted-clause-why : goal.returns-in-Err-counted-clause-why
returns-in-Err-counted-clause-why g c =
    c.lane_fault.ensures.why (g.R.Recorder.limit c.args.recorder.now) (option_map (sizes_by size_of_lane_entry) (g.R.Recorder.visible c.args.recorder.now)) c.in_default-ready.ensures.full

pub returns-in-Err-counted-clause-worn : goal.returns-in-Err-counted-clause-worn
returns-in-Err-counted-clause-worn g c =
    c.lane_fault.ensures.worn c.args.lane.now.sink.filled c.in-Err-counted.ensures.worn

pub returns-in-Ok-counted-clause-counts : goal.returns-in-Ok-counted-clause-counts
returns-in-Ok-counted-clause-counts g c =
    let counts = c.in_default-ready.ensures.counts in (c.note.ensures.faults ∙ counts.0, c.note.ensures.fulls ∙ counts.1)

pub returns-in-Ok-counted-clause-err : goal.returns-in-Ok-counted-clause-err
returns-in-Ok-counted-clause-err g c =
    tt

pub returns-in-Ok-counted-clause-limit : goal.returns-in-Ok-counted-clause-limit
returns-in-Ok-counted-clause-limit g c =
    c.note.ensures.limit ∙ c.ready.ensures.limit

pub returns-in-Ok-counted-clause-room : goal.returns-in-Ok-counted-clause-room
returns-in-Ok-counted-clause-room g c =
    c.counted.ensures.message_room

pub returns-in-Ok-counted-clause-why : goal.returns-in-Ok-counted-clause-why
returns-in-Ok-counted-clause-why g c =
    c.in_default-ready.ensures.full

pub returns-in-Ok-counted-clause-worn : goal.returns-in-Ok-counted-clause-worn
returns-in-Ok-counted-clause-worn g c =
    c.in-Ok-counted.ensures.worn

pub counted-requires-clause-attached : goal.counted-requires-clause-attached
counted-requires-clause-attached g c =
    c.requires.attached

pub counted-requires-clause-messages : goal.counted-requires-clause-messages
counted-requires-clause-messages g c =
    c.requires.messages

pub counted-requires-clause-name : goal.counted-requires-clause-name
counted-requires-clause-name g c =
    refl

pub counted-requires-clause-parts : goal.counted-requires-clause-parts
counted-requires-clause-parts g c =
    refl
