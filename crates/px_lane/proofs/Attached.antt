-- A device and the sink whose frames it plays.
use Rattle.std.proofs.Common.{◌≡◌, ℕ, zero, suc, ◌+◌, ◌-◌, ◌*◌, ◌/◌, ◌^◌, ◌≤◌, List, [], ◌∷◌, ◌++◌, length, take, drop, Option, Some, None, refl, ap, sym, ◌∙◌, subst, arith, length-append, length-drop}
use Rattle.std.proofs.Math.Nat.{add-mul, mul-div_cancel}
use Rattle.std.proofs.lemmas.List.{take_all, drop_all, take-append-drop}
use Rattle.std.proofs.lemmas.List.Folds.{concat-append}
use Rattle.std.proofs.Math.Seq.{drop-append-add, take-append-add}
use Rattle.std.specs.List.{concat}
use Rattle.px_ends.specs.Visible.{after_adding, WhereVisible}
use Rattle.px_ends.specs.Device.{DeviceState, Plays, IsPut, played_on, put_at, put_from, without_front, with_front, frames_in}
use Rattle.px_model.specs.Frame.{Frame, frame_size}
use Rattle.px_model.specs.Message.{Message}
use Rattle.px_model.specs.Stream.{Stream}
use Rattle.px_model.specs.Mix.{Samples}
use Rattle.px_model.specs.Sink.{Sink, IsSink}
use Rattle.px_model.specs.Turn.{settled, halted, next_horizon, with_messages, turned, played_by, going_notices, asked_notices, notices_of_messages, turn_notices, stopped_notices}
use Rattle.px_model.specs.Notice.{Notice}
use Rattle.std.specs.Prelude.{flat_map}
use Rattle.px_lane.specs.Needed.{needed}
use Rattle.px_stream.specs.Samples.{samples}
use Rattle.px_lane.proofs.Fits.{turn_fits}
use Rattle.px_lane.specs.Whole.{AreFramesOf}
use Rattle.px_lane.specs.Lane.{IsLane, IsAttached, played_more}

-- ---- frames and their bytes

pub length_concat : (size : ℕ) (frames : List Frame) → AreFramesOf size frames → length (concat frames) ≡ length frames * size
length_concat size [] are = omega arith
length_concat size (f ∷ frames) are = omega (arith, length-append f (concat frames), are.0, length_concat size frames are.1, add-mul 1 (length frames) size)

pub concat_dropped : (size k : ℕ) (frames : List Frame) → AreFramesOf size frames → drop (k * size) (concat frames) ≡ concat (drop k frames)
concat_dropped size zero frames are = let e : 0 * size ≡ 0 = omega arith in ap (λ (n : ℕ). drop n (concat frames)) e
concat_dropped size (suc k) [] are = drop_all (suc k * size) [] (omega arith)
concat_dropped size (suc k) (f ∷ frames) are =
    let e : suc k * size ≡ length f + k * size = omega (arith, add-mul 1 k size, are.0) in
    ap (λ (n : ℕ). drop n (f ++ concat frames)) e
    ∙ drop-append-add f (concat frames) (k * size)
    ∙ concat_dropped size k frames are.1

pub concat_taken : (size k : ℕ) (frames : List Frame) → AreFramesOf size frames → take (k * size) (concat frames) ≡ concat (take k frames)
concat_taken size zero frames are = let e : 0 * size ≡ 0 = omega arith in ap (λ (n : ℕ). take n (concat frames)) e
concat_taken size (suc k) [] are = take_all (suc k * size) [] (omega arith)
concat_taken size (suc k) (f ∷ frames) are =
    let e : suc k * size ≡ length f + k * size = omega (arith, add-mul 1 k size, are.0) in
    ap (λ (n : ℕ). take n (f ++ concat frames)) e
    ∙ take-append-add f (concat frames) (k * size)
    ∙ ap (λ (bytes : List ℕ). f ++ bytes) (concat_taken size k frames are.1)

past_whole : (size n : ℕ) (frames : List Frame) → AreFramesOf size frames → AreFramesOf size (drop n frames)
past_whole size zero frames all = all
past_whole size (suc n) [] all = all
past_whole size (suc n) (f ∷ frames) all = past_whole size n frames all.1

-- ---- a sync

front_visible : (size n : ℕ) (frames : List Frame) → AreFramesOf size frames → (o : Option (List ℕ)) → WhereVisible o (λ bytes. bytes ≡ concat frames)
    → WhereVisible (without_front (n * size) o) (λ bytes. bytes ≡ concat (drop n frames))
front_visible size n frames are None h = tt
front_visible size n frames are (Some bytes) h = ap (drop (n * size)) h ∙ concat_dropped size n frames are

played_visible : (size n : ℕ) (frames : List Frame) → AreFramesOf size frames → (o played : Option (List ℕ)) → WhereVisible o (λ bytes. bytes ≡ concat frames)
    → with_front (n * size) o played ≡ played_more o played (concat (take n frames))
played_visible size n frames are None played h = refl
played_visible size n frames are (Some bytes) played h = ap (after_adding played) (ap (take (n * size)) h ∙ concat_taken size n frames are)

-- a device that consumed some frames plays the sink that went forward by as many
pub synced : (d d' : DeviceState) (sink : Sink) (consumed : ℕ) → IsLane sink → IsAttached d sink → Plays consumed d d' → IsAttached d' (settled sink (consumed - sink.consumed))
synced d d' sink consumed lane at plays =
    let n = consumed - sink.consumed in
    let same : consumed - d.consumed ≡ consumed - sink.consumed = ap (λ (c : ℕ). consumed - c) at.consumed in
    let state : d' ≡ record (played_on (consumed - sink.consumed) d) { next = d'.next } =
    plays.state ∙ ap (λ (k : ℕ). let e : DeviceState = record (played_on k d) { next = d'.next } in e) same in
    record {
      frame = ap (λ (e : DeviceState). e.frame) state ∙ at.frame;
      guard = ap (λ (e : DeviceState). e.guard) state ∙ at.guard;
      depth = ap (λ (e : DeviceState). e.depth) state ∙ at.depth;
      consumed = ap (λ (e : DeviceState). e.consumed) state ∙ ap (λ (c : ℕ). c + (consumed - sink.consumed)) at.consumed;
      filled = ap (λ (e : DeviceState). e.filled) state ∙ at.filled;
      buffer = subst (λ (e : DeviceState). WhereVisible e.buffer (λ bytes. bytes ≡ concat (drop (consumed - sink.consumed) sink.buffer))) (sym state)
          (subst (λ (size : ℕ). WhereVisible (without_front ((consumed - sink.consumed) * size) d.buffer) (λ bytes. bytes ≡ concat (drop (consumed - sink.consumed) sink.buffer))) (sym at.frame)
          (front_visible (frame_size sink.spec) (consumed - sink.consumed) sink.buffer lane.whole d.buffer at.buffer));
    }

pub synced_played : (d d' : DeviceState) (sink : Sink) (consumed : ℕ) → IsLane sink → IsAttached d sink → Plays consumed d d'
    → d'.played ≡ played_more d.buffer d.played (concat (played_by sink (consumed - sink.consumed)))
synced_played d d' sink consumed lane at plays =
    let same : consumed - d.consumed ≡ consumed - sink.consumed = ap (λ (c : ℕ). consumed - c) at.consumed in
    ap (λ (e : DeviceState). e.played) plays.state
    ∙ ap (λ (k : ℕ). with_front (k * d.frame) d.buffer d.played) same
    ∙ ap (λ (size : ℕ). with_front ((consumed - sink.consumed) * size) d.buffer d.played) at.frame
    ∙ played_visible (frame_size sink.spec) (consumed - sink.consumed) sink.buffer lane.whole d.buffer d.played at.buffer

-- ---- a put

-- what is kept and what is put behind it
visible_stays : (size k : ℕ) (old new : List Frame) → AreFramesOf size old → take k new ≡ take k old → (o : Option (List ℕ)) → WhereVisible o (λ bytes. bytes ≡ concat old)
    → WhereVisible (put_from (k * size) (concat (drop k new)) o) (λ bytes. bytes ≡ concat new)
visible_stays size k old new are same None h = tt
visible_stays size k old new are same (Some bytes) h =
    ap (λ (xs : List ℕ). xs ++ concat (drop k new))
    (ap (take (k * size)) h ∙ concat_taken size k old are ∙ ap concat (sym same))
    ∙ sym (concat-append (take k new) (drop k new))
    ∙ ap concat (take-append-drop k new)

put_fits : (d : DeviceState) (sink : Sink) (n stay size : ℕ) (new : List Frame) → size ≡ frame_size sink.spec → IsSink sink → sink.depth ≤ 65536 → 1 ≤ size
    → n ≤ sink.filled - sink.consumed → stay ≤ sink.filled - next_horizon sink n → sink.filled ≤ 2 ^ 60 → AreFramesOf size new → length new ≡ sink.depth → IsAttached d (settled sink n)
    → IsPut d (next_horizon sink n + stay) (concat (drop ((next_horizon sink n - (sink.consumed + n)) + stay) new))
    × (next_horizon sink n + stay + frames_in d (concat (drop ((next_horizon sink n - (sink.consumed + n)) + stay) new)) ≡ sink.consumed + n + sink.depth)
put_fits d sink n stay size new width keeps low some there within few are full at =
    let k : ℕ = (next_horizon sink n - (sink.consumed + n)) + stay in
    let frame : d.frame ≡ size = at.frame ∙ sym width in
    let long : length (concat (drop k new)) ≡ length (drop k new) * size = length_concat size (drop k new) (past_whole size k new are) in
    let count : length (concat (drop k new)) / d.frame ≡ length (drop k new) =
    ap (λ (x : ℕ). x / d.frame) long ∙ ap (λ (f : ℕ). length (drop k new) * size / f) frame ∙ mul-div_cancel (length (drop k new)) some in
    let left = length-drop k new in
    let first : sink.consumed ≤ sink.filled = omega (arith, keeps.consumed_first, keeps.horizon_first) in
    let end : next_horizon sink n + stay + length (concat (drop k new)) / d.frame ≡ sink.consumed + n + sink.depth =
    omega (arith, count, left, full, first, there, within, keeps.filled_bounded) in (
      record {
        whole = long ∙ sym (ap (λ (x : ℕ). x * d.frame) count ∙ ap (λ (f : ℕ). length (drop k new) * f) frame);
        not_near = omega (arith, at.filled, at.consumed, at.guard);
        no_gap = omega (arith, at.filled, within, first, there);
        fit = omega (arith, end, at.consumed, at.depth);
        countable = omega (arith, end, there, first, few, low);
      },
      end,
    )

-- frames are put behind those that stay, and the device has the sink's buffer then
pub put_there : (samples : Samples) (d : DeviceState) (sink : Sink) (n stay : ℕ) (messages : List (Message Stream)) → IsLane sink → IsLane (turned samples sink n messages)
    → n ≤ sink.filled - sink.consumed → stay ≤ sink.filled - next_horizon sink n → sink.filled ≤ 2 ^ 60
    → take ((next_horizon sink n - (sink.consumed + n)) + stay) (turned samples sink n messages).buffer ≡ take ((next_horizon sink n - (sink.consumed + n)) + stay) (drop n sink.buffer)
    → IsAttached d (settled sink n)
    → IsPut d (next_horizon sink n + stay) (concat (drop ((next_horizon sink n - (sink.consumed + n)) + stay) (turned samples sink n messages).buffer))
    × IsAttached (put_at (next_horizon sink n + stay) (concat (drop ((next_horizon sink n - (sink.consumed + n)) + stay) (turned samples sink n messages).buffer)) d) (turned samples sink n messages)
put_there samples d sink n stay messages lane after there within few same at =
    let k : ℕ = (next_horizon sink n - (sink.consumed + n)) + stay in
    let new : List Frame = (turned samples sink n messages).buffer in
    let first : sink.consumed ≤ sink.filled = omega (arith, lane.holds.consumed_first, lane.holds.horizon_first) in
    let full : length new ≡ sink.depth = IsSink.buffer_full after.holds ∙ omega arith in
    let place : next_horizon sink n + stay - d.consumed ≡ k = omega (arith, at.consumed, first, there, lane.holds.consumed_first, lane.holds.horizon_first) in
    let fits = put_fits d sink n stay (frame_size sink.spec) new refl lane.holds lane.low_depth lane.some_bytes there within few after.whole full at in (
      fits.0,
      record {
        frame = at.frame;
        guard = at.guard;
        depth = at.depth;
        consumed = at.consumed;
        filled = fits.1;
        buffer = subst (λ (c : ℕ). WhereVisible (put_from (c * d.frame) (concat (drop k new)) d.buffer) (λ bytes. bytes ≡ concat new)) (sym place)
            (subst (λ (w : ℕ). WhereVisible (put_from (k * w) (concat (drop k new)) d.buffer) (λ bytes. bytes ≡ concat new)) (sym at.frame)
            (visible_stays (frame_size sink.spec) k (drop n sink.buffer) new (past_whole (frame_size sink.spec) n sink.buffer lane.whole) same d.buffer at.buffer));
      },
    )

-- ---- room for the notices of a turn

pub turn_room : (sink : Sink) (n count capacity : ℕ) (messages : List (Message Stream)) → IsSink sink → count + needed sink.inputs messages ≤ capacity
    → count + length (turn_notices samples sink n messages) ≤ capacity
turn_room sink n count capacity messages keeps room =
    omega (
      arith,
      room,
      length-append {A = Notice Stream} (flat_map (going_notices (next_horizon sink n - sink.horizon)) sink.inputs ++ notices_of_messages (settled sink n) messages)
          (flat_map (asked_notices (sink.consumed + n + sink.depth - next_horizon sink n)) (Sink.inputs (with_messages (settled sink n) messages))),
      length-append {A = Notice Stream} (flat_map (going_notices (next_horizon sink n - sink.horizon)) sink.inputs) (notices_of_messages (settled sink n) messages),
      turn_fits (next_horizon sink n - sink.horizon) (sink.filled - next_horizon sink n) (sink.filled - (sink.consumed + n)) (sink.consumed + n + sink.depth - next_horizon sink n) messages sink.inputs keeps.rising,
    )

pub stop_room : (sink : Sink) (count capacity : ℕ) (messages : List (Message Stream)) → IsSink sink → count + needed sink.inputs messages ≤ capacity
    → count + length (stopped_notices sink messages) ≤ capacity
stop_room sink count capacity messages keeps room =
    omega (
      arith,
      room,
      length-append {A = Notice Stream} (flat_map (going_notices (next_horizon sink 0 - sink.horizon)) sink.inputs ++ notices_of_messages (halted sink) messages)
          (flat_map (asked_notices 0) (Sink.inputs (with_messages (halted sink) messages))),
      length-append {A = Notice Stream} (flat_map (going_notices (next_horizon sink 0 - sink.horizon)) sink.inputs) (notices_of_messages (halted sink) messages),
      turn_fits (next_horizon sink 0 - sink.horizon) (next_horizon sink 0 - next_horizon sink 0) (next_horizon sink 0 - (sink.consumed + 0)) 0 messages sink.inputs keeps.rising,
    )
