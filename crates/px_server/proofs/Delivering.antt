-- What went through a sink's mailboxes, by the histories of both of its sides.
use Rattle.std.proofs.Common.{◌≡◌, ℕ, zero, suc, ◌+◌, List, [], ◌∷◌, ◌++◌, length, map, Option, None, Some, IfSome, refl, sym, subst, ap, ◌∙◌, arith}
use Rattle.std.specs.Prelude.{slice_get, flat_map}
use Rattle.std.specs.Option.{option_to_list}
use Rattle.std.proofs.lemmas.List.{append_assoc, map-append, length-map}
use Rattle.px_types.specs.declared.ids.SinkId.{SinkId}
use Rattle.px_annals.specs.declared.entry.CoreEntry.{CoreEntry}
use Rattle.px_annals.specs.declared.entry.LaneEntry.{LaneEntry}
use Rattle.px_annals.specs.declared.stream.PlainStream.{PlainStream}
use Rattle.px_model.specs.Stream.{Stream}
use Rattle.px_model.specs.Message.{Message}
use Rattle.px_model.specs.Notice.{Notice as ModelNotice}
use Rattle.px_model.specs.Sink.{Sink}
use Rattle.px_model.specs.Deciding.{messages_of as messages_in, replay_notices}
use Rattle.px_msg.specs.declared.message.Msg.{Msg}
use Rattle.px_msg.specs.declared.message.Msg.TheVariants.{New, Attach, Detach, Write, Cork, Flush, Trigger, Prebuf, Drain, Attr, Factors, Query}
use Rattle.px_msg.specs.declared.notice.Notice.{Notice}
use Rattle.px_msg.specs.declared.notice.Notice.TheVariants.{Request, Overflow, Underflow, Started, Drained, Detached, Latency}
use Rattle.px_mail.specs.Mailbox.{posted_by, taken_by}
use Rattle.px_msg.specs.View.{message_of, notice_of}
use Rattle.px_stream.specs.HeldStream.{HeldStream}
use Rattle.px_stream.specs.Samples.{samples}
use Rattle.px_lane.specs.Lane.{Mixer}
use Rattle.px_lane.specs.Lists.{messages_of, notices_of, plain_message as lane_message, plain_notice as lane_notice}
use Rattle.px_lane_cell.specs.declared.ends.LaneEnds.{LaneEnds}
use Rattle.px_lane_cell.specs.Cell.{Cell, IsCell}
use Rattle.px_lane_cell.specs.Meaning.{history_meant}
use Rattle.px_lane_cell.specs.History.{unturned, IsAfter}
use Rattle.px_ends.specs.Device.{DeviceState}
use Rattle.px_header.specs.declared.header.SinkSpec.{SinkSpec}
use Rattle.px_state.specs.State.{State}
use Rattle.px_core_cell.specs.declared.ends.CoreEnd.{CoreEnd}
use Rattle.px_core_cell.specs.Boxes.{Boxes, boxes_of}
use Rattle.px_core_cell.specs.Cell.{SinkEnds, ends_of}
use Rattle.px_core_cell.specs.History.{IsAgreed}
use Rattle.px_core_cell.specs.Parcel.{seen_message, seen_notice}
use Rattle.px_server.specs.Delivered.{IsFrontOf, plain_message, plain_notice, IsDelivered}
use Rattle.px_workers.specs.declared.sink_state.SinkFault.{SinkFault}
use Rattle.px_workers.specs.Working.{Start, start_at, start_of, Unworked, IsHonest}
use Rattle.px_server.specs.Parts.{starts_from, worked, HasPlayed, IsPart, AreAgreed}
use Rattle.px_server.specs.Mailboxes.{boxes_in}

-- ---- both sides see the same

message_seen : (m : Msg HeldStream) → message_of (λ p. p) (seen_message m) ≡ plain_message (lane_message m)
message_seen (New n) = refl
message_seen (Attach input parcel feed factors) = refl
message_seen (Detach input) = refl
message_seen (Write input seek offset frames bytes) = refl
message_seen (Cork input on) = refl
message_seen (Flush input) = refl
message_seen (Trigger input) = refl
message_seen (Prebuf input) = refl
message_seen (Drain input tag) = refl
message_seen (Attr input attr) = refl
message_seen (Factors each) = refl
message_seen (Query input tag) = refl

messages_seen : (all : List (Msg HeldStream)) → map (message_of (λ p. p)) (map seen_message all) ≡ map plain_message (messages_of all)
messages_seen [] = refl
messages_seen (m ∷ all) = λ k. message_seen m k ∷ messages_seen all k

notice_seen : (n : Notice HeldStream) → notice_of (λ p. p) (seen_notice n) ≡ plain_notice (lane_notice n)
notice_seen (Request input frames) = refl
notice_seen (Overflow input) = refl
notice_seen (Underflow input) = refl
notice_seen (Started input) = refl
notice_seen (Drained input tag) = refl
notice_seen (Detached input parcel) = refl
notice_seen (Latency input tag write read buffered playing run) = refl

notices_seen : (all : List (Notice HeldStream)) → map (notice_of (λ p. p)) (map seen_notice all) ≡ map plain_notice (notices_of all)
notices_seen [] = refl
notices_seen (n ∷ all) = λ k. notice_seen n k ∷ notices_seen all k

-- ---- what is left of a sink with the core's ends of its mailboxes

-- what was posted is what was taken and more; what was taken is what the turns took and what is kept
messages_front : (posted taken held : List (Msg HeldStream)) (turns in_hand : List (Message Stream)) (handed : List (Msg PlainStream))
    → posted ≡ taken ++ held → messages_of taken ≡ turns ++ in_hand → map seen_message posted ≡ handed
    → IsFrontOf (map plain_message turns) (map (message_of (λ p. p)) handed)
messages_front posted taken held turns in_hand handed more took same = (
  map plain_message in_hand ++ map plain_message (messages_of held),
  ap (map (message_of (λ p. p))) (sym same)
      ∙ messages_seen posted
      ∙ ap (λ (l : List (Msg HeldStream)). map plain_message (messages_of l)) more
      ∙ ap (map plain_message) (map-append lane_message taken held)
      ∙ map-append plain_message (messages_of taken) (messages_of held)
      ∙ ap (λ (l : List (Message Stream)). map plain_message l ++ map plain_message (messages_of held)) took
      ∙ ap (λ (l : List (Message PlainStream)). l ++ map plain_message (messages_of held)) (map-append plain_message turns in_hand)
      ∙ append_assoc (map plain_message turns) (map plain_message in_hand) (map plain_message (messages_of held)),
)

-- what the turns told was posted, or is left; what was posted is what was taken and more; what was taken is what came to the core and what is kept
notices_front : (posted taken held : List (Notice HeldStream)) (noticed left : List (ModelNotice Stream)) (heard in_hand : List (Notice PlainStream))
    → posted ≡ taken ++ held → noticed ≡ notices_of posted ++ left → map seen_notice taken ≡ heard ++ in_hand
    → IsFrontOf (map (notice_of (λ p. p)) heard) (map plain_notice noticed)
notices_front posted taken held noticed left heard in_hand more all same =
    let later : List (ModelNotice PlainStream) = map plain_notice (notices_of held) ++ map plain_notice left in
    let seen : map plain_notice (notices_of taken) ≡ map (notice_of (λ p. p)) heard ++ map (notice_of (λ p. p)) in_hand =
    sym (notices_seen taken) ∙ ap (map (notice_of (λ p. p))) same ∙ map-append (notice_of (λ p. p)) heard in_hand in (
      map (notice_of (λ p. p)) in_hand ++ later,
      ap (map plain_notice) all
          ∙ map-append plain_notice (notices_of posted) left
          ∙ ap (λ (l : List (Notice HeldStream)). map plain_notice (notices_of l) ++ map plain_notice left) more
          ∙ ap (λ (l : List (ModelNotice Stream)). map plain_notice l ++ map plain_notice left) (map-append lane_notice taken held)
          ∙ ap (λ (l : List (ModelNotice PlainStream)). l ++ map plain_notice left) (map-append plain_notice (notices_of taken) (notices_of held))
          ∙ append_assoc (map plain_notice (notices_of taken)) (map plain_notice (notices_of held)) (map plain_notice left)
          ∙ ap (λ (l : List (ModelNotice PlainStream)). l ++ later) seen
          ∙ append_assoc (map (notice_of (λ p. p)) heard) (map (notice_of (λ p. p)) in_hand) later,
    )

pub closed_is : (began : State PlainStream) (entries : List CoreEntry) (sink : SinkId) (e : SinkEnds) (device : DeviceState) (after : Sink) (visible : Option (List LaneEntry))
    (posted taken held : List (Msg HeldStream)) (notices_posted notices_taken notices_held : List (Notice HeldStream)) (in_hand : List (Message Stream)) (left : List (ModelNotice Stream))
    → IsAgreed began entries sink.0 e → e.posted ≡ map seen_message posted → e.taken ≡ map seen_notice notices_taken
    → posted ≡ taken ++ held → notices_posted ≡ notices_taken ++ notices_held
    → IfSome visible (λ lane. IsAfter device after (history_meant lane) (messages_of taken) in_hand (notices_of notices_posted) left)
    → IfSome visible (IsDelivered began entries sink (unturned after))
closed_is began entries sink e device after None posted taken held notices_posted notices_taken notices_held in_hand left h same_posted same_taken more notices_more none = tt
closed_is began entries sink e device after (Some lane) posted taken held notices_posted notices_taken notices_held in_hand left h same_posted same_taken more notices_more is = record {
  messages = messages_front posted taken held (flat_map messages_in (history_meant lane)) in_hand _ more is.messages (sym same_posted ∙ h.posted);
  notices = notices_front notices_posted notices_taken notices_held (replay_notices samples (unturned after) (history_meant lane)) left _ (option_to_list e.held) notices_more is.notices
      (sym same_taken ∙ h.taken);
}

-- ---- a cell whose mailboxes are closed with the core's ends of them

pub closed_by : {D E : Type 0} (now : D → DeviceState) (visible : E → Option (List LaneEntry)) (cell : Cell D E) (ends : LaneEnds) (recorder : E)
    (began : State PlainStream) (entries : List CoreEntry) (sink : SinkId) (end : CoreEnd) (messages : List (Msg HeldStream)) (notices : List (Notice HeldStream))
    → IsCell now visible cell → ends ≡ cell.ends → recorder ≡ cell.recorder
    → posted_by end.post.pass ≡ taken_by ends.passes.take.pass ++ messages → posted_by ends.passes.post.pass ≡ taken_by end.take.pass ++ notices
    → IsAgreed began entries sink.0 (ends_of end) → IfSome (visible recorder) (IsDelivered began entries sink (unturned cell.lane.sink))
closed_by now visible cell ends recorder began entries sink end messages notices in_hand same recorded more more_notices h =
    subst (λ (r : _). IfSome (visible r) (IsDelivered began entries sink (unturned cell.lane.sink))) (sym recorded)
    (closed_is began entries sink (ends_of end) (now cell.lane.device) cell.lane.sink (visible cell.recorder)
    (posted_by end.post.pass) (taken_by cell.ends.passes.take.pass) messages (posted_by cell.ends.passes.post.pass) (taken_by end.take.pass) notices
    cell.messages.messages cell.notices.notices h refl refl
    (subst (λ (e : LaneEnds). posted_by end.post.pass ≡ taken_by e.passes.take.pass ++ messages) same more)
    (subst (λ (e : LaneEnds). posted_by e.passes.post.pass ≡ taken_by end.take.pass ++ notices) same more_notices)
    in_hand.history)

plays : (device : DeviceState) (sink : Sink) (taken in_hand : List (Message Stream)) (posted left : List (ModelNotice Stream))
    → (o : Option (List LaneEntry)) → IfSome o (λ entries. IsAfter device sink (history_meant entries) taken in_hand posted left) → IfSome o (HasPlayed (unturned sink) device)
plays device sink taken in_hand posted left None none = tt
plays device sink taken in_hand posted left (Some entries) is = record { turns = is.turns; played = is.played }

-- what is left of a cell, where there is no core
pub closed_part : {D E : Type 0} (now : D → DeviceState) (visible : E → Option (List LaneEntry)) (faults fulls : E → ℕ) (began : State PlainStream)
    (sink : SinkId) (cell : Cell D E) (lane : Mixer D) (recorder : E) (device : D) (sink_fault : SinkFault)
    → IsCell now visible cell → lane ≡ cell.lane → recorder ≡ cell.recorder → device ≡ lane.device → IsHonest now faults fulls cell sink_fault
    → IsPart began None now visible faults fulls (worked (start_at sink cell.lane.sink) sink_fault) (record { sink = sink; device = device; recorder = recorder })
closed_part now visible faults fulls began sink cell lane recorder device sink_fault in_hand same recorded out honest =
    let from : device ≡ cell.lane.device = out ∙ ap (λ (l : Mixer _). l.device) same in
    subst (λ (r : _). IsPart began None now visible faults fulls (worked (start_at sink cell.lane.sink) sink_fault) (record { sink = sink; device = device; recorder = r })) (sym recorded)
    (subst (λ (d : _). IsPart began None now visible faults fulls (worked (start_at sink cell.lane.sink) sink_fault) (record { sink = sink; device = d; recorder = cell.recorder })) (sym from)
    (record {
      sink = refl;
      played = plays (now cell.lane.device) cell.lane.sink (messages_of (taken_by cell.ends.passes.take.pass)) cell.messages.messages (notices_of (posted_by cell.ends.passes.post.pass)) cell.notices.notices
          (visible cell.recorder) in_hand.history;
      delivered = tt;
      sink_fault = honest.sink_fault;
    }))

-- the same for any core's entries
pub entries_follow : (core : Option (List CoreEntry)) (P Q : List CoreEntry → Type 0) → ((entries : List CoreEntry) → P entries → Q entries) → IfSome core P → IfSome core Q
entries_follow None P Q each none = tt
entries_follow (Some entries) P Q each p = each entries p

-- ---- which of the core's ends are which sink's

abbrev first_index : List Start → ℕ
first_index [] = 0
first_index (s ∷ starts) = s.index.0

abbrev others : List Start → List Start
others [] = []
others (s ∷ starts) = starts

abbrev less : ℕ → ℕ
less zero = zero
less (suc n) = n

zero_suc : (n : ℕ) → zero ≡ suc n → ⊥
zero_suc n same = omega (arith, same)

-- each end is that of the sink with its place
pub all_agreed : {D E : Type 0} (began : State PlainStream) (core : Option (List CoreEntry)) (k : ℕ) (idle : List (Unworked D E)) (ends : List CoreEnd) (sinks : List SinkSpec)
    → map start_of idle ≡ starts_from k sinks → length idle ≡ length ends
    → ((i : ℕ) (e : SinkEnds) → slice_get (map ends_of ends) i ≡ Some e → IfSome core (λ entries. IsAgreed began entries (k + i) e))
    → AreAgreed began core idle ends
all_agreed began core k [] [] sinks starts count visible = tt
all_agreed began core k [] (end ∷ ends) sinks starts count visible = absurd (zero_suc (length ends) count)
all_agreed began core k (u ∷ idle) [] sinks starts count visible = absurd (zero_suc (length idle) (sym count))
all_agreed began core k (u ∷ idle) (end ∷ ends) [] starts count visible = absurd (none_more starts) where
  none_more : start_of u ∷ map start_of idle ≡ [] → ⊥
  none_more same = zero_suc (length (map start_of idle)) (sym (ap length same))
all_agreed began core k (u ∷ idle) (end ∷ ends) (s ∷ sinks) starts count visible =
    let same : u.sink.0 ≡ k = ap first_index starts in
    let here : k + 0 ≡ u.sink.0 = omega (arith, same) in
    let next : (i : ℕ) → k + suc i ≡ (k + 1) + i = λ i. omega arith in (
      subst (λ (n : ℕ). IfSome core (λ entries. IsAgreed began entries n (ends_of end))) here (visible 0 (ends_of end) refl),
      all_agreed began core (k + 1) idle ends sinks (ap others starts) (ap less count)
          (λ i e is. subst (λ (n : ℕ). IfSome core (λ entries. IsAgreed began entries n e)) (next i) (visible (suc i) e is)),
    )

-- the sinks and the ends have the same mailboxes, so they are as many
pub same_count : {X Y Z : Type 0} (f : X → Z) (g : Y → Z) (xs : List X) (ys : List Y) → map f xs ≡ map g ys → length xs ≡ length ys
same_count f g xs ys same = sym (length-map xs f) ∙ ap length same ∙ length-map ys g

-- ---- the first sink and the first ends

pub agreed_one : {D E : Type 0} (began : State PlainStream) (core : Option (List CoreEntry)) (left rest : List (Unworked D E)) (one : Unworked D E) (ends more : List CoreEnd) (end : CoreEnd)
    → left ≡ one ∷ rest → ends ≡ end ∷ more → AreAgreed began core left ends
    → IfSome core (λ entries. IsAgreed began entries one.sink.0 (ends_of end)) × AreAgreed began core rest more
agreed_one began core left rest one ends more end front next visible =
    subst (λ (l : List _). AreAgreed began core l (end ∷ more)) front (subst (AreAgreed began core left) next visible)

abbrev other_boxes : List Boxes → List Boxes
other_boxes [] = []
other_boxes (b ∷ boxes) = boxes

both_fronts : {D E : Type 0} (left rest : List (Unworked D E)) (one : Unworked D E) (ends more : List CoreEnd) (end : CoreEnd)
    → left ≡ one ∷ rest → ends ≡ end ∷ more → map boxes_in left ≡ map boxes_of ends → boxes_in one ∷ map boxes_in rest ≡ boxes_of end ∷ map boxes_of more
both_fronts left rest one ends more end front next same = ap (map boxes_in) (sym front) ∙ same ∙ ap (map boxes_of) next

pub boxes_rest : {D E : Type 0} (left rest : List (Unworked D E)) (one : Unworked D E) (ends more : List CoreEnd) (end : CoreEnd)
    → left ≡ one ∷ rest → ends ≡ end ∷ more → map boxes_in left ≡ map boxes_of ends → map boxes_in rest ≡ map boxes_of more
boxes_rest left rest one ends more end front next same = ap other_boxes (both_fronts left rest one ends more end front next same)
