-- A cell keeps what it keeps in every call for a turn.
use Rattle.std.proofs.Common.{◌≡◌, ℕ, ◌-◌, ◌≤◌, List, [], ◌∷◌, ◌++◌, length, refl, ap, sym, ◌∙◌, subst, arith, Bool, true, false, true≢false, Option, Some, None}
use Rattle.std.specs.Prelude.{IsFalse, IfSome, MatchOption, flat_map}
use Rattle.std.proofs.Math.Seq.{take-nil}
use Rattle.std.proofs.lemmas.List.{map-append, append-nil}
use Rattle.px_annals.specs.declared.entry.LaneEntry.{LaneEntry}
use Rattle.px_annals.specs.History.{noted}
use Rattle.px_ends.specs.Visible.{WhereVisible}
use Rattle.px_ends.specs.Device.{DeviceState}
use Rattle.px_mail.specs.Mailbox.{posted_by}
use Rattle.px_sample.specs.declared.spec.Spec.{Spec}
use Rattle.px_model.specs.Frame.{SampleSpec}
use Rattle.px_model.specs.Stream.{Stream}
use Rattle.px_model.specs.Message.{Message}
use Rattle.px_model.specs.Notice.{Notice}
use Rattle.px_model.specs.Sink.{Sink, specs_of}
use Rattle.px_model.specs.Deciding.{Entry, stop, sink_after, notices_of as notices_by, messages_of as messages_in, CanBe}
use Rattle.px_msg.specs.declared.message.Msg.{Msg}
use Rattle.px_msg.specs.declared.notice.Notice.{Notice as CodeNotice}
use Rattle.px_msg.specs.View.{sample_spec}
use Rattle.px_stream.specs.HeldStream.{HeldStream}
use Rattle.px_stream.specs.Samples.{samples}
use Rattle.px_lane.specs.declared.lane.Turned.{Turned}
use Rattle.px_lane.specs.declared.lane.Turned.TheVariants.{Played, Stopped}
use Rattle.px_lane.specs.Lane.{Mixer, IsAttached, StopsOver}
use Rattle.px_lane.specs.Lists.{plain_notice, messages_of, notices_of}
use Rattle.px_lane.specs.Turned.{Turns}
use Rattle.px_lane_cell.specs.Meaning.{messages_meant, turn_meant, entry_meant, history_meant}
use Rattle.px_lane_cell.specs.History.{unturned, ArePlayed, IsAfter}
use Rattle.px_lane_cell.specs.Moved.{AreTaken}
use Rattle.px_lane_cell.specs.declared.ends.LaneEnds.{LaneEnds}
use Rattle.px_lane_cell.specs.Cell.{Cell, taken_in, posted_in, key_in, AreEnds, IsKeyOf, HasLeft, IsCell}
use Rattle.px_lane_cell.specs.Turning.{consumed_in, IsNoted, Makes, Keeps}
use Rattle.px_lane_cell.proofs.Replayed.{same_start, Sounds, one_more, sounds_on, stops_first, stops_again}
use Rattle.px_lane_cell.proofs.Sent.{took, left_took, left_turned}

-- ---- the entry of a turn

takes_all : (consumed : Option ℕ) (messages : List (Message Stream)) → messages_in (turn_meant consumed messages) ≡ messages
takes_all None messages = refl
takes_all (Some frames) messages = refl

module _ {D : Type 0} (now : D → DeviceState) where
  -- it can be, it leaves the device attached, and what was played is what the history plays
  pub record Goes (before after : Mixer D) (e : Entry) : Type 0 where
    pub can : CanBe before.sink e
    pub attached : IsFalse after.sink.stopped → IsAttached (now after.device) after.sink
    pub sounds : (history : List Entry) (taken held : List (Message Stream)) (posted left : List (Notice Stream))
        → IsAfter (now before.device) before.sink history taken held posted left → Sounds before.sink (history ++ e ∷ []) (now after.device)

  stops_over : (b : Bool) (before after : Mixer D) (messages : List (Message Stream)) → before.sink.stopped ≡ b → StopsOver b now before after → (IsFalse before.sink.stopped → IsAttached (now before.device) before.sink)
      → (history : List Entry) (taken held : List (Message Stream)) (posted left : List (Notice Stream))
      → IsAfter (now before.device) before.sink history taken held posted left → Sounds before.sink (history ++ stop messages ∷ []) (now after.device)
  stops_over true before after messages is over attached history taken held posted left h =
      stops_again (now before.device) (now after.device) before.sink history taken held posted left messages h is (ap now over.0)
  stops_over false before after messages is over attached history taken held posted left h =
      stops_first (now before.device) (now after.device) before.sink history taken held posted left over.0.bytes messages h is (attached is).buffer (ap (λ (d : DeviceState). d.played) over.0.state)

  goes : (before after : Mixer D) (messages : List (Message Stream)) (noticed noticed' : List (Notice Stream)) (turned : Turned) → (IsFalse before.sink.stopped → IsAttached (now before.device) before.sink)
      → Turns now before after messages noticed noticed' turned → Goes before after (turn_meant (consumed_in turned) messages)
  goes before after messages noticed noticed' (Played consumed frames) attached turns = record {
    can = (turns.0.there, turns.0.going);
    attached = λ _. turns.0.attached;
    sounds = λ history taken held posted left h. sounds_on (now before.device) (now after.device) before.sink history taken held posted left frames messages h turns.0.going turns.0.played;
  }
  goes before after messages noticed noticed' (Stopped faults) attached turns = record {
    can = tt;
    attached = λ still. absurd (true≢false (sym (ap (λ (s : Sink). s.stopped) turns.0.sink) ∙ still));
    sounds = λ history taken held posted left h. stops_over before.sink.stopped before after messages refl turns.0.device attached history taken held posted left h;
  }

  -- what a turn gives is what its entry means
  turned_to : (before after : Mixer D) (messages : List (Message Stream)) (noticed noticed' : List (Notice Stream)) (turned : Turned) → Turns now before after messages noticed noticed' turned
      → (after.sink ≡ sink_after samples before.sink (turn_meant (consumed_in turned) messages)) × (noticed' ≡ noticed ++ notices_by samples before.sink (turn_meant (consumed_in turned) messages))
  turned_to before after messages noticed noticed' (Played consumed frames) turns = (turns.0.sink, turns.1)
  turned_to before after messages noticed noticed' (Stopped faults) turns = (turns.0.sink, turns.1)

  pub is_noted : (before after : Mixer D) (messages : List (Message Stream)) (noticed noticed' : List (Notice Stream)) (turned : Turned) (entry : LaneEntry) → entry.consumed ≡ consumed_in turned → messages_meant entry.messages ≡ messages
      → Turns now before after messages noticed noticed' turned → IsNoted now before after messages noticed noticed' turned entry
  is_noted before after messages noticed noticed' turned entry consumed whole turns =
      let to = turned_to before after messages noticed noticed' turned turns in
      let e : turn_meant (consumed_in turned) messages ≡ entry_meant entry = λ k. turn_meant (sym consumed k) (sym whole k) in
      record {
        consumed = consumed;
        whole = whole;
        sink = to.0 ∙ ap (sink_after samples before.sink) e;
        notices = to.1 ∙ ap (λ x. noticed ++ notices_by samples before.sink x) e;
        turns = turns;
      }

  meant : (before after : Mixer D) (messages : List (Message Stream)) (noticed noticed' : List (Notice Stream)) (turned : Turned) (entry : LaneEntry) → IsNoted now before after messages noticed noticed' turned entry
      → turn_meant (consumed_in turned) messages ≡ entry_meant entry
  meant before after messages noticed noticed' turned entry is = λ k. turn_meant (sym is.consumed k) (sym is.whole k)

  pub noted_goes : (before after : Mixer D) (messages : List (Message Stream)) (noticed noticed' : List (Notice Stream)) (turned : Turned) (entry : LaneEntry) → (IsFalse before.sink.stopped → IsAttached (now before.device) before.sink)
      → IsNoted now before after messages noticed noticed' turned entry → Goes before after (entry_meant entry)
  noted_goes before after messages noticed noticed' turned entry attached is =
      subst (λ e. Goes before after e) (meant before after messages noticed noticed' turned entry is) (goes before after messages noticed noticed' turned attached is.turns)

-- ---- where the recorder tells

visible_on : (Before After : List LaneEntry → Type 0) (entry : LaneEntry) → ((entries : List LaneEntry) → Before entries → After (entries ++ entry ∷ [])) → (visible visible' : Option (List LaneEntry)) → visible' ≡ noted entry visible → IfSome visible Before → IfSome visible' After
visible_on Before After entry on None visible' e h = subst (λ t. IfSome t After) (sym e) tt
visible_on Before After entry on (Some entries) visible' e h = subst (λ t. IfSome t After) (sym e) (on entries h)

visible_same : (Before After : List LaneEntry → Type 0) → ((entries : List LaneEntry) → Before entries → After entries) → (visible : Option (List LaneEntry)) → IfSome visible Before → IfSome visible After
visible_same Before After on None h = tt
visible_same Before After on (Some entries) h = on entries h

key_on : (ends ends' : LaneEnds) (sink sink' : Sink) → key_in ends' ≡ key_in ends → unturned sink' ≡ unturned sink → IsKeyOf ends sink → IsKeyOf ends' sink'
key_on ends ends' sink sink' key start h =
    subst (λ (p : Option Spec × SampleSpec). MatchOption p.0 ⊥ (λ k. sample_spec k ≡ p.1)) (λ k. (sym key k, Sink.spec (sym start k))) h

posted_on : (posted posted' gone : List (CodeNotice HeldStream)) → posted' ≡ posted ++ gone → notices_of posted' ≡ notices_of posted ++ notices_of gone
posted_on posted posted' gone e = ap notices_of e ∙ map-append plain_notice posted gone

none_lawful : (key : Option Spec) (taken : List (Msg HeldStream)) → taken ≡ [] → AreTaken key taken
none_lawful None taken e = tt
none_lawful (Some k) taken e = subst (λ l. AreTaken (Some k) l) (sym e) tt

module _ {D R : Type 0} (now : D → DeviceState) (visible : R → Option (List LaneEntry)) where
  abbrev IsReplayed : Cell D R → List LaneEntry → Type 0
  IsReplayed cell entries = IsAfter (now cell.lane.device) cell.lane.sink (history_meant entries) (messages_of (taken_in cell.ends)) cell.messages.messages (notices_of (posted_in cell.ends)) cell.notices.notices

  visible_made : (before after : Cell D R) (turned : Turned) → IsCell now visible before → (m : Makes now visible before after turned) → (entries : List LaneEntry) → IsReplayed before entries → IsReplayed after (entries ++ m.entry ∷ [])
  visible_made before after turned keeps m entries h =
      let e = entry_meant m.entry in
      let history : history_meant entries ++ e ∷ [] ≡ history_meant (entries ++ m.entry ∷ []) = sym (map-append entry_meant entries (m.entry ∷ [])) in
      let step = noted_goes now before.lane after.lane m.messages before.notices.notices m.notices turned m.entry keeps.attached m.turn in
      let all : messages_in e ≡ before.messages.messages ++ messages_of m.takes.got = takes_all m.entry.consumed (messages_meant m.entry.messages) ∙ m.turn.whole ∙ m.takes.stands in
      let taken : messages_of (taken_in before.ends) ++ messages_of m.takes.got ≡ messages_of (taken_in after.ends) =
      sym (took (messages_of (taken_in before.ends)) [] (messages_of m.takes.got) (taken_in before.ends) (taken_in after.ends) (record { got = m.takes.got; moved = m.takes.moved; stands = refl }) (sym (append-nil (messages_of (taken_in before.ends))))) in
      let is = one_more (now before.lane.device) (now after.lane.device) before.lane.sink (history_meant entries) (messages_of (taken_in before.ends)) before.messages.messages (messages_of m.takes.got)
      (notices_of (posted_in before.ends)) before.notices.notices (notices_of (posted_in after.ends)) after.notices.notices (notices_of m.posts.gone) m.notices e h step.can all m.turn.notices
      (posted_on (posted_in before.ends) (posted_in after.ends) m.posts.gone m.posts.moved) m.posts.stays (step.sounds (history_meant entries) (messages_of (taken_in before.ends)) before.messages.messages (notices_of (posted_in before.ends)) before.notices.notices h) in
      subst (λ (p : Sink × List Entry × List (Message Stream) × List (Message Stream)). IsAfter (now after.lane.device) p.0 p.1 p.2 p.3 (notices_of (posted_in after.ends)) after.notices.notices)
      (λ k. (sym m.turn.sink k, history k, taken k, sym m.none_held k)) is

  -- a turn was made
  pub made : (before after : Cell D R) (turned : Turned) → IsCell now visible before → Makes now visible before after turned → AreEnds after.ends → key_in after.ends ≡ key_in before.ends → AreTaken (key_in after.ends) (taken_in after.ends) → 256 ≤ after.messages.capacity
      → IsCell now visible after
  made before after turned keeps m ends key lawful room =
      let e = entry_meant m.entry in
      let step = noted_goes now before.lane after.lane m.messages before.notices.notices m.notices turned m.entry keeps.attached m.turn in
      let start : unturned after.lane.sink ≡ unturned before.lane.sink = ap unturned m.turn.sink ∙ same_start before.lane.sink e in
      let all : messages_in e ≡ m.messages = takes_all m.entry.consumed (messages_meant m.entry.messages) ∙ m.turn.whole in
      let left : HasLeft after.lane.sink (messages_of (taken_in after.ends)) [] =
      subst (λ s. HasLeft s (messages_of (taken_in after.ends)) []) (sym m.turn.sink)
      (left_turned before.lane.sink (messages_of (taken_in after.ends)) m.messages e all (left_took before.lane.sink (taken_in before.ends) (taken_in after.ends) before.messages.messages m.messages m.takes keeps.inputs)) in
      record {
        ends = ends;
        key = key_on before.ends after.ends before.lane.sink after.lane.sink key start keeps.key;
        lawful = lawful;
        few = subst (λ l. length l ≤ 256) (sym m.none_held) (omega arith);
        room = room;
        attached = step.attached;
        inputs = subst (λ l. HasLeft after.lane.sink (messages_of (taken_in after.ends)) l) (sym m.none_held) left;
        history = visible_on (IsReplayed before) (IsReplayed after) m.entry (visible_made before after turned keeps m) (visible before.recorder) (visible after.recorder) m.recorded keeps.history;
      }

  visible_stays : (before after : Cell D R) → (k : Keeps visible before after) → (entries : List LaneEntry) → IsReplayed before entries → IsReplayed after entries
  visible_stays before after k entries h =
      let taken = took (flat_map messages_in (history_meant entries)) before.messages.messages after.messages.messages (taken_in before.ends) (taken_in after.ends) k.takes h.messages in
      let is : IsAfter (now before.lane.device) before.lane.sink (history_meant entries) (messages_of (taken_in after.ends)) after.messages.messages (notices_of (posted_in before.ends)) before.notices.notices =
      record { turns = h.turns; replayed = h.replayed; messages = taken; notices = h.notices; played = h.played } in
      subst (λ (p : Mixer D × List (CodeNotice HeldStream) × List (Notice Stream)). IsAfter (now p.0.device) p.0.sink (history_meant entries) (messages_of (taken_in after.ends)) after.messages.messages (notices_of p.1) p.2)
      (λ i. (sym k.lane i, posted_by (sym k.posted i).pass, sym k.notices i)) is

  -- none was made
  pub held : (before after : Cell D R) → IsCell now visible before → Keeps visible before after → AreEnds after.ends → key_in after.ends ≡ key_in before.ends → AreTaken (key_in after.ends) (taken_in after.ends) → length after.messages.messages ≤ 256 → 256 ≤ after.messages.capacity
      → IsCell now visible after
  held before after keeps k ends key lawful few room =
      let left = left_took before.lane.sink (taken_in before.ends) (taken_in after.ends) before.messages.messages after.messages.messages k.takes keeps.inputs in
      record {
        ends = ends;
        key = key_on before.ends after.ends before.lane.sink after.lane.sink key (ap (λ (l : Mixer D). unturned l.sink) k.lane) keeps.key;
        lawful = lawful;
        few = few;
        room = room;
        attached = subst (λ (l : Mixer D). IsFalse l.sink.stopped → IsAttached (now l.device) l.sink) (sym k.lane) keeps.attached;
        inputs = subst (λ (l : Mixer D). HasLeft l.sink (messages_of (taken_in after.ends)) after.messages.messages) (sym k.lane) left;
        history = subst (λ t. IfSome t (IsReplayed after)) (sym k.recorded) (visible_same (IsReplayed before) (IsReplayed after) (visible_stays before after k) (visible before.recorder) keeps.history);
      }

  -- a new one
  unplayed : (played : Option (List ℕ)) → WhereVisible played (λ bytes. bytes ≡ []) → WhereVisible played (ArePlayed [] [])
  unplayed None h = tt
  unplayed (Some bytes) h = h ∙ sym (take-nil (length bytes - 0))

  visible_at_first : (cell : Cell D R) → cell.lane.sink ≡ unturned cell.lane.sink → WhereVisible (now cell.lane.device).played (λ bytes. bytes ≡ []) → taken_in cell.ends ≡ [] → posted_in cell.ends ≡ [] → cell.messages.messages ≡ [] → cell.notices.notices ≡ []
      → (entries : List LaneEntry) → entries ≡ [] → IsReplayed cell entries
  visible_at_first cell begins played taken posted messages notices entries none =
      subst (λ l. IsReplayed cell l) (sym none) (record {
        turns = tt;
        replayed = begins;
        messages = ap messages_of taken ∙ sym messages;
        notices = (λ k. notices_of (sym posted k) ++ sym notices k);
        played = unplayed (now cell.lane.device).played played;
      })

  pub opened : (cell : Cell D R) → AreEnds cell.ends → IsKeyOf cell.ends cell.lane.sink → cell.lane.sink ≡ unturned cell.lane.sink → IsAttached (now cell.lane.device) cell.lane.sink → WhereVisible (now cell.lane.device).played (λ bytes. bytes ≡ [])
      → IfSome (visible cell.recorder) (λ entries. entries ≡ []) → taken_in cell.ends ≡ [] → posted_in cell.ends ≡ [] → cell.messages.messages ≡ [] → cell.notices.notices ≡ [] → 256 ≤ cell.messages.capacity → IsCell now visible cell
  opened cell ends key begins attached played unnoted taken posted messages notices room = record {
    ends = ends;
    key = key;
    lawful = none_lawful (key_in cell.ends) (taken_in cell.ends) taken;
    few = subst (λ l. length l ≤ 256) (sym messages) (omega arith);
    room = room;
    attached = λ _. attached;
    inputs = record { gone = []; whole = ap messages_of taken ∙ sym messages; inputs = ap (λ (s : Sink). specs_of s.inputs) begins };
    history = visible_same (λ entries. entries ≡ []) (IsReplayed cell) (visible_at_first cell begins played taken posted messages notices) (visible cell.recorder) unnoted;
  }
