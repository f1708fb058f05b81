use Rattle.std.proofs.lemmas.Result.{err_from_is_err_and}
use Rattle.std.proofs.Common.{◌≡◌, ◌≤◌, List, length, refl, ap, sym, ◌∙◌, subst, arith, Option}
use Rattle.std.specs.Prelude.{MatchOption}
use Rattle.px_sample.specs.declared.spec.Spec.{Spec}
use Rattle.px_model.specs.Stream.{Stream}
use Rattle.px_model.specs.Message.{Message}
use Rattle.px_lane_cell.specs.Cell.{Cell, key_in, taken_in}
use Rattle.px_lane_cell.specs.Moved.{Takes}
use Rattle.px_lane_cell.specs.Turning.{Makes, Keeps}
use Rattle.px_msg.specs.View.{sample_spec}
use Rattle.px_lane.specs.Lane.{Mixer}
use Rattle.px_lane_cell.specs.History.{unturned}
use Rattle.px_lane_cell.specs.Meaning.{entry_meant}
use Rattle.px_lane_cell.proofs.Replayed.{same_start}
use Rattle.px_lane_cell.proofs.Sent.{for_turn, left_took}
use Rattle.px_lane_cell.proofs.Whole.{made, held}
use Rattle.px_lane_cell.proofs.cell.LaneCell.turn.Given.{Over}
use Rattle.px_lane_cell.proofs.cell.LaneCell.turn.Goals as goal

pub gather-count-requires-clause-ends : goal.gather-count-requires-clause-ends
gather-count-requires-clause-ends g c =
    c.self.invariant.ends

pub gather-count-requires-clause-lawful : goal.gather-count-requires-clause-lawful
gather-count-requires-clause-lawful g c =
    c.self.invariant.lawful

pub gather-count-requires-clause-few : goal.gather-count-requires-clause-few
gather-count-requires-clause-few g c =
    c.self.invariant.few

pub gather-count-requires-clause-room : goal.gather-count-requires-clause-room
gather-count-requires-clause-room g c =
    c.self.invariant.room

pub deliver-requires : goal.deliver-requires
deliver-requires g c =
    record { ends = c.gather-count.ensures.ends }

pub turn_noted-requires-clause-attached : goal.turn_noted-requires-clause-attached
turn_noted-requires-clause-attached g c =
    c.self.invariant.attached

pub turn_noted-requires-clause-messages : goal.turn_noted-requires-clause-messages
turn_noted-requires-clause-messages g c =
    let i = c.self.inside in
    let t = c.gather-count in
    for_turn (key_in t.new.ends) i.lane.sink (taken_in t.new.ends) t.new.messages.messages t.ensures.lawful
    (subst (λ (key : Option Spec). MatchOption key ⊥ (λ k. sample_spec k ≡ i.lane.sink.spec)) (sym t.ensures.key) c.self.invariant.key)
    (left_took i.lane.sink (taken_in i.ends) (taken_in t.new.ends) i.messages.messages t.new.messages.messages t.ensures.takes c.self.invariant.inputs)

-- ---- where a turn was made: the cell before it and behind it

abbrev before_made : (g : Over) → goal.After-deliver g → Cell g.row.D.Denot g.row.R.Denot
before_made g c =
    let i = c.self.inside in
    record { lane = i.lane; recorder = i.recorder; ends = i.ends; messages = i.messages; notices = i.notices; taken = i.taken; given = i.given }

abbrev made_cell : (g : Over) → goal.After-deliver g → Cell g.row.D.Denot g.row.R.Denot
made_cell g c = record {
  lane = c.turn_noted.new.lane;
  recorder = c.turn_noted.new.recorder;
  ends = c.deliver.new.ends;
  messages = c.turn_noted.new.messages;
  notices = c.deliver.new.notices;
  taken = c.gather-count.result;
  given = c.deliver.result;
}

makes : (g : Over) (c : goal.After-deliver g) → Makes g.D.Device.now g.R.Recorder.visible (before_made g c) (made_cell g c) c.in_ok-turned.turned
makes g c =
    let t = c.gather-count in
    let p = c.deliver in
    let ok = c.in_ok-turned.ensures.ok in
    record {
      entry = ok.0;
      messages = t.new.messages.messages;
      notices = c.turn_noted.new.notices.notices;
      takes = rw p.ensures.take t.ensures.takes;
      all = rw p.ensures.take t.ensures.all;
      turn = ok.4;
      recorded = ok.1;
      counted = t.ensures.count ∙ sym ok.2;
      given = p.ensures.count;
      none_held = ok.3;
      posts = rw (← t.ensures.post) p.ensures.posts;
      gone = rw (← t.ensures.post) p.ensures.gone;
    }

pub invariant_of-self-2 : goal.invariant_of-self-2
invariant_of-self-2 g c =
    let t = c.gather-count in
    let p = c.deliver in
    made g.D.Device.now g.R.Recorder.visible (before_made g c) (made_cell g c) c.in_ok-turned.turned c.self.invariant (makes g c) p.ensures.ends (rw p.ensures.take t.ensures.key) (rw p.ensures.take t.ensures.lawful)
    (omega (arith, c.self.invariant.room, t.ensures.room, c.turn_noted.ensures.room))

pub returns-clause-ok : goal.returns-clause-ok
returns-clause-ok g c = subst (λ (cell : Cell g.row.D.Denot g.row.R.Denot). Makes g.D.Device.now g.R.Recorder.visible cell (made_cell g c) c.in_ok-turned.turned) c.self.view_is (makes g c)

pub returns-clause-err : goal.returns-clause-err
returns-clause-err g c =
    tt

pub returns-clause-boxes : goal.returns-clause-boxes
returns-clause-boxes g c =
    c.deliver.ensures.boxes ∙ c.gather-count.ensures.boxes ∙ ap (λ (cell : Cell g.row.D.Denot g.row.R.Denot). cell.ends.boxes) c.self.view_is

pub returns-clause-start : goal.returns-clause-start
returns-clause-start g c =
    ap unturned c.in_ok-turned.ensures.ok.4.sink ∙ same_start c.self.inside.lane.sink (entry_meant c.in_ok-turned.ensures.ok.0) ∙ ap (λ (cell : Cell g.row.D.Denot g.row.R.Denot). unturned cell.lane.sink) c.self.view_is

pub returns-clause-worn : goal.returns-clause-worn
returns-clause-worn g c =
    rw (← c.self.view_is) c.in_ok-turned.ensures.worn

pub returns-clause-why : goal.returns-clause-why
returns-clause-why g c =
    rw (← c.self.view_is) c.in_ok-turned.ensures.why

pub returns-clause-limit : goal.returns-clause-limit
returns-clause-limit g c =
    c.turn_noted.ensures.limit ∙ ap (λ (cell : Cell g.row.D.Denot g.row.R.Denot). g.R.Recorder.limit cell.recorder) c.self.view_is

pub returns-clause-counts : goal.returns-clause-counts
returns-clause-counts g c =
    rw (← c.self.view_is) c.in_ok-turned.ensures.counts

-- ---- where there was none

abbrev before_failed : (g : Over) → goal.After-from_residual g → Cell g.row.D.Denot g.row.R.Denot
before_failed g c =
    let i = c.self.inside in
    record { lane = i.lane; recorder = i.recorder; ends = i.ends; messages = i.messages; notices = i.notices; taken = i.taken; given = i.given }

abbrev failed_cell : (g : Over) → goal.After-from_residual g → Cell g.row.D.Denot g.row.R.Denot
failed_cell g c = record {
  lane = c.turn_noted.new.lane;
  recorder = c.turn_noted.new.recorder;
  ends = c.gather-count.new.ends;
  messages = c.turn_noted.new.messages;
  notices = c.turn_noted.new.notices;
  taken = c.self.inside.taken;
  given = c.self.inside.given;
}

keeps : (g : Over) (c : goal.After-from_residual g) → Keeps g.R.Recorder.visible (before_failed g c) (failed_cell g c)
keeps g c =
    let i = c.self.inside in
    let t = c.gather-count in
    let err = c.in_err-turned.ensures.err in
    record {
      takes = subst (λ (l : List (Message Stream)). Takes (taken_in i.ends) (taken_in t.new.ends) i.messages.messages l) (sym err.2) t.ensures.takes;
      lane = err.0;
      recorded = err.1;
      counted = refl;
      given = refl;
      notices = err.3;
      posted = t.ensures.post;
    }

pub invariant_of-self : goal.invariant_of-self
invariant_of-self g c =
    let t = c.gather-count in
    held g.D.Device.now g.R.Recorder.visible (before_failed g c) (failed_cell g c) c.self.invariant (keeps g c) t.ensures.ends t.ensures.key t.ensures.lawful
    (subst (λ (l : List (Message Stream)). length l ≤ 256) (sym c.in_err-turned.ensures.err.2) t.ensures.few)
    (omega (arith, c.self.invariant.room, t.ensures.room, c.turn_noted.ensures.room))

pub returns-in_err-turned-clause-ok : goal.returns-in_err-turned-clause-ok
returns-in_err-turned-clause-ok g c =
    let p = err_from_is_err_and c.from_residual.result c.from_residual.ensures.1 in
    rw p.1 tt

pub returns-in_err-turned-clause-err : goal.returns-in_err-turned-clause-err
returns-in_err-turned-clause-err g c =
    let p = err_from_is_err_and c.from_residual.result c.from_residual.ensures.1 in
    rw p.1 (subst (λ (cell : Cell g.row.D.Denot g.row.R.Denot). Keeps g.R.Recorder.visible cell (failed_cell g c)) c.self.view_is (keeps g c))

pub returns-in_err-turned-clause-boxes : goal.returns-in_err-turned-clause-boxes
returns-in_err-turned-clause-boxes g c =
    c.gather-count.ensures.boxes ∙ ap (λ (cell : Cell g.row.D.Denot g.row.R.Denot). cell.ends.boxes) c.self.view_is

pub returns-in_err-turned-clause-start : goal.returns-in_err-turned-clause-start
returns-in_err-turned-clause-start g c =
    ap (λ (lane : Mixer g.row.D.Denot). unturned lane.sink) c.in_err-turned.ensures.err.0 ∙ ap (λ (cell : Cell g.row.D.Denot g.row.R.Denot). unturned cell.lane.sink) c.self.view_is

pub returns-in_err-turned-clause-worn : goal.returns-in_err-turned-clause-worn
returns-in_err-turned-clause-worn g c =
    let p = err_from_is_err_and c.from_residual.result c.from_residual.ensures.1 in
    rw (p.1, p.2, ← c.self.view_is) c.in_err-turned.ensures.worn

pub returns-in_err-turned-clause-why : goal.returns-in_err-turned-clause-why
returns-in_err-turned-clause-why g c =
    let p = err_from_is_err_and c.from_residual.result c.from_residual.ensures.1 in
    rw (p.1, p.2, ← c.self.view_is) c.in_err-turned.ensures.why

pub returns-in_err-turned-clause-limit : goal.returns-in_err-turned-clause-limit
returns-in_err-turned-clause-limit g c =
    c.turn_noted.ensures.limit ∙ ap (λ (cell : Cell g.row.D.Denot g.row.R.Denot). g.R.Recorder.limit cell.recorder) c.self.view_is

pub returns-in_err-turned-clause-counts : goal.returns-in_err-turned-clause-counts
returns-in_err-turned-clause-counts g c =
    let p = err_from_is_err_and c.from_residual.result c.from_residual.ensures.1 in
    rw (p.1, p.2, ← c.self.view_is) c.in_err-turned.ensures.counts
