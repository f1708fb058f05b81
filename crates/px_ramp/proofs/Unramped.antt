-- Ramps that stand at the factors of their streams, and the frames that they make, which are the plain ones.
use Rattle.std.proofs.Common.{◌≡◌, ℕ, zero, suc, ◌+◌, ◌-◌, ◌*◌, ◌≤◌, ◌<◌, List, [], ◌∷◌, ◌++◌, length, map, take, drop, get_or, refl, ap, sym, ◌∙◌, subst, arith, length-drop}
use Rattle.std.specs.Prelude.{min, max}
use Rattle.std.specs.List.{AllByRecursion, concat, range_with_len}
use Rattle.std.proofs.lemmas.List.{take_more, take_all, map-append, length-take-le}
use Rattle.std.proofs.Math.Seq.{drop-append-add}
use Rattle.std.proofs.lemmas.List.Folds.{concat-append}
use Rattle.std.proofs.lemmas.List.FromFn.{length-map-range_with_len}
use Rattle.px_sample.specs.declared.spec.Spec.{Spec}
use Rattle.px_sample.specs.Format.{frame_size_of, IsLinear}
use Rattle.px_msg.specs.View.{sample_spec}
use Rattle.px_model.specs.Frame.{Frame, SampleSpec}
use Rattle.px_model.specs.Message.{Message}
use Rattle.px_model.specs.Stream.{Stream}
use Rattle.px_model.specs.Mix.{mix_of}
use Rattle.px_model.specs.Sink.{Sink, Input as Stands, streams_of}
use Rattle.px_model.specs.Turn.{next_horizon, settled, with_messages, turned}
use Rattle.px_model.proofs.Rounds.{mix_asked}
use Rattle.px_stream.specs.Samples.{samples}
use Rattle.px_lane.specs.declared.input.Input.{Input}
use Rattle.px_lane.specs.Inputs.{input_of, inputs_of}
use Rattle.px_lane.specs.Lane.{IsLane}
use Rattle.px_lane.specs.Whole.{AreFramesOf}
use Rattle.px_lane.proofs.Attached.{length_concat}
use Rattle.px_lane.proofs.Growing.{front_more}
use Rattle.px_lane.proofs.Shares.{mix_sized}
use Rattle.px_ramp.specs.declared.ramp.Ramp.{Ramp}
use Rattle.px_ramp.specs.declared.ramps.InputRamps.{InputRamps}
use Rattle.px_ramp.specs.Lane.{IsRamped}
use Rattle.px_ramp.specs.Ramp.{value_at}
use Rattle.px_ramp.specs.RampMix.{values_at, ramp_frame, StandAt}
use Rattle.px_ramp.specs.Table.{HeldFrames}
use Rattle.px_ramp.proofs.Ramped.{ramp_stays, ramp_ends, inputs_stand, map_same}

-- ---- one ramp

pub ends_after : (n at f factor way m most : ℕ) (r : Ramp) → 1 ≤ n → r.to ≡ factor → r.start ≤ at → way ≡ min (at - r.start) n → m ≡ min (n - way) most → at + m ≤ f → f < at + most
    → value_at n r f ≡ factor
ends_after n at f factor way m most r some aims begun gone is later less = ramp_ends n r f some (omega (arith, some, begun, gone, is, later, less)) ∙ aims

-- the greater of two numbers
pub past_both : (at f a b m : ℕ) → m ≡ max a b → at + m ≤ f → (at + a ≤ f) × (at + b ≤ f)
past_both at f a b m is later = (omega (arith, is, later), omega (arith, is, later))

pub both_few : (a b m most : ℕ) → m ≡ max a b → a ≤ most → b ≤ most → m ≤ most
both_few a b m most is first second = omega (arith, is, first, second)

pub no_way : (n f factor : ℕ) (r : Ramp) → r.to ≡ factor → r.from ≡ r.to → value_at n r f ≡ factor
no_way n f factor r aims same = ramp_stays n r f same ∙ aims

-- ---- one more ramp of an input

pub value_more : (n f : ℕ) (ramps : List Ramp) (factors : List ℕ) (i : ℕ) (d : Ramp) (e : ℕ) → i < length ramps → i < length factors
    → values_at n f (take i ramps) ≡ take i factors → value_at n (get_or ramps i d) f ≡ get_or factors i e
    → values_at n f (take (i + 1) ramps) ≡ take (i + 1) factors
value_more n f ramps factors i d e here there so is =
    ap (values_at n f) (take_more ramps i d here)
    ∙ map-append (λ r. value_at n r f) (take i ramps) (get_or ramps i d ∷ [])
    ∙ (λ j. so j ++ (is j ∷ []))
    ∙ sym (take_more factors i e there)

pub value_all : (n f : ℕ) (ramps : List Ramp) (factors : List ℕ) (i : ℕ) → length ramps ≤ i → length factors ≤ i
    → values_at n f (take i ramps) ≡ take i factors → values_at n f ramps ≡ factors
value_all n f ramps factors i here there so =
    ap (values_at n f) (sym (take_all i ramps here)) ∙ so ∙ take_all i factors there

-- ---- one more input

all_more : (P : Stands → Type 0) (xs : List Stands) (x : Stands) → AllByRecursion P xs → P x → AllByRecursion P (xs ++ x ∷ [])
all_more P [] x all one = (one, tt)
all_more P (y ∷ xs) x all one = (all.0, all_more P xs x all.1 one)

pub stand_more : (n f : ℕ) (ramps : List InputRamps) (items : List Input) (i : ℕ) (x : Input) → i < length items → x ≡ get_or items i x
    → AllByRecursion (StandAt n f ramps) (inputs_of (take i items)) → StandAt n f ramps (input_of x)
    → AllByRecursion (StandAt n f ramps) (inputs_of (take (i + 1) items))
stand_more n f ramps items i x there is all one =
    subst (λ (xs : List Stands). AllByRecursion (StandAt n f ramps) xs) (sym (front_more items i x there is)) (all_more (StandAt n f ramps) (inputs_of (take i items)) (input_of x) all one)

-- ---- the frames

-- from where all stand on, the frames by ramps are the plain ones
pub frames_stand : (n h : ℕ) (ramps : List InputRamps) (spec : SampleSpec) (inputs : List Stands) (from count : ℕ)
    → ((f : ℕ) → h + from ≤ f → f < h + (from + count) → AllByRecursion (StandAt n f ramps) inputs)
    → map (mix_of samples spec (streams_of inputs)) (range_with_len from count) ≡ map (ramp_frame samples n h ramps spec inputs) (range_with_len from count)
frames_stand n h ramps spec inputs from count all =
    map_same (mix_of samples spec (streams_of inputs)) (ramp_frame samples n h ramps spec inputs) from count
    (λ k high less. ap (λ (xs : List Stands). mix_of samples spec (streams_of xs) k) (sym (inputs_stand n (h + k) ramps inputs (all (h + k) (omega (arith, high)) (omega (arith, less))))))

-- they are whole
mixes_sized : (spec : Spec) → IsLinear spec.format → (streams : List Stream) (a n : ℕ) → AreFramesOf (frame_size_of spec) (map (mix_of samples (sample_spec spec) streams) (range_with_len a n))
mixes_sized spec linear streams a zero = tt
mixes_sized spec linear streams a (suc n) = (mix_sized spec linear streams a, mixes_sized spec linear streams (a + 1) n)

pub plain_long : (spec : Spec) → IsLinear spec.format → (streams : List Stream) (count : ℕ)
    → length (concat (map (mix_of samples (sample_spec spec) streams) (range_with_len 0 count))) ≡ count * frame_size_of spec
plain_long spec linear streams count =
    length_concat (frame_size_of spec) (map (mix_of samples (sample_spec spec) streams) (range_with_len 0 count)) (mixes_sized spec linear streams 0 count)
    ∙ ap (λ (m : ℕ). m * frame_size_of spec) (length-map-range_with_len (mix_of samples (sample_spec spec) streams) 0 count)

-- the first `from` of them, and those after these
range_parts : (f : ℕ → Frame) (a n m : ℕ) → map f (range_with_len a (n + m)) ≡ map f (range_with_len a n) ++ map f (range_with_len (a + n) m)
range_parts f a zero m =
    let none : 0 + m ≡ m = omega arith in
    let here : a ≡ a + 0 = omega arith in
    ap (λ (n : ℕ). map f (range_with_len a n)) none ∙ ap (λ (k : ℕ). map f (range_with_len k m)) here
range_parts f a (suc n) m =
    let more : suc n + m ≡ suc (n + m) = omega arith in
    let here : a + 1 + n ≡ a + suc n = omega arith in
    ap (λ (k : ℕ). map f (range_with_len a k)) more
    ∙ ap (λ (fs : List Frame). f a ∷ fs) (range_parts f (a + 1) n m ∙ ap (λ (k : ℕ). map f (range_with_len (a + 1) n) ++ map f (range_with_len k m)) here)

pub frames_split : (f : ℕ → Frame) (from count : ℕ) → from ≤ count
    → concat (map f (range_with_len 0 count)) ≡ concat (map f (range_with_len 0 from)) ++ concat (map f (range_with_len from (count - from)))
frames_split f from count few =
    let whole : count ≡ from + (count - from) = omega (arith, few) in
    let here : 0 + from ≡ from = omega arith in
    ap (λ (n : ℕ). concat (map f (range_with_len 0 n))) whole
    ∙ ap (λ (fs : List Frame). concat fs) (range_parts f 0 from (count - from))
    ∙ concat-append (map f (range_with_len 0 from)) (map f (range_with_len (0 + from) (count - from)))
    ∙ ap (λ (k : ℕ). concat (map f (range_with_len 0 from)) ++ concat (map f (range_with_len k (count - from)))) here

-- the plain bytes without the first `from` frames
plain_after : (spec : Spec) → IsLinear spec.format → (streams : List Stream) (from count : ℕ) → from ≤ count
    → drop (from * frame_size_of spec) (concat (map (mix_of samples (sample_spec spec) streams) (range_with_len 0 count)))
    ≡ concat (map (mix_of samples (sample_spec spec) streams) (range_with_len from (count - from)))
plain_after spec linear streams from count few =
    ap (λ (xs : List ℕ). drop (from * frame_size_of spec) xs) (frames_split (mix_of samples (sample_spec spec) streams) from count few)
    ∙ ap (λ (m : ℕ). drop m (concat (map (mix_of samples (sample_spec spec) streams) (range_with_len 0 from)) ++ concat (map (mix_of samples (sample_spec spec) streams) (range_with_len from (count - from)))))
    (sym (plain_long spec linear streams from))
    ∙ drop_front (concat (map (mix_of samples (sample_spec spec) streams) (range_with_len 0 from))) (concat (map (mix_of samples (sample_spec spec) streams) (range_with_len from (count - from))))
  where
    drop_front : (xs ys : List ℕ) → drop (length xs) (xs ++ ys) ≡ ys
    drop_front [] ys = refl
    drop_front (x ∷ xs) ys = drop_front xs ys

-- bytes over the front of those that were appended
pub over_appended : (front more over : List ℕ) (from to m : ℕ) → from ≡ length front → to ≡ from + m → take from (front ++ more) ++ (over ++ drop to (front ++ more)) ≡ front ++ (over ++ drop m more)
over_appended front more over from to m start end =
    let after : to ≡ length front + m = end ∙ ap (λ (n : ℕ). n + m) start in
    (λ i. take (start i) (front ++ more) ++ (over ++ drop (after i) (front ++ more)))
    ∙ (λ i. front_of front more i ++ (over ++ drop-append-add front more m i))
  where
    front_of : (xs ys : List ℕ) → take (length xs) (xs ++ ys) ≡ xs
    front_of [] ys = refl
    front_of (x ∷ xs) ys = λ i. x ∷ front_of xs ys i

-- the first `running` frames by ramps, then the plain ones, where all stand after the first
pub ramped_then_plain : (n h : ℕ) (ramps : List InputRamps) (spec : Spec) → IsLinear spec.format → (inputs : List Stands) (running count : ℕ) → running ≤ count
    → ((f : ℕ) → h + running ≤ f → f < h + count → AllByRecursion (StandAt n f ramps) inputs)
    → (plain : List ℕ) → plain ≡ concat (map (mix_of samples (sample_spec spec) (streams_of inputs)) (range_with_len 0 count))
    → concat (map (ramp_frame samples n h ramps (sample_spec spec) inputs) (range_with_len 0 running)) ++ drop (running * frame_size_of spec) plain
    ≡ concat (map (ramp_frame samples n h ramps (sample_spec spec) inputs) (range_with_len 0 count))
ramped_then_plain n h ramps spec linear inputs running count few stand plain is =
    ap (λ (xs : List ℕ). concat (map (ramp_frame samples n h ramps (sample_spec spec) inputs) (range_with_len 0 running)) ++ xs)
    (ap (λ (xs : List ℕ). drop (running * frame_size_of spec) xs) is
    ∙ plain_after spec linear (streams_of inputs) running count few
    ∙ ap (λ (fs : List Frame). concat fs) (frames_stand n h ramps (sample_spec spec) inputs running (count - running) (λ f later less. stand f later (omega (arith, less, few)))))
    ∙ sym (frames_split (ramp_frame samples n h ramps (sample_spec spec) inputs) running count few)

-- what a plain turn has mixed from its horizon on is the mix of the inputs that it leaves
pub fresh_plain : (sink : Sink) (k : ℕ) (messages : List (Message Stream)) → IsLane sink → k ≤ sink.filled - sink.consumed
    → drop (next_horizon sink k - (sink.consumed + k) + 0) (turned samples sink k messages).buffer
    ≡ map (mix_of samples sink.spec (streams_of (turned samples sink k messages).inputs)) (range_with_len 0 (sink.consumed + k + sink.depth - next_horizon sink k))
fresh_plain sink k messages lane there =
    let below : ℕ = next_horizon sink k - (sink.consumed + k) in
    let kept : List Frame = take (next_horizon sink k - (sink.consumed + k)) (drop k sink.buffer) in
    let fresh : List Frame = map (mix_of samples sink.spec (streams_of (with_messages (settled sink k) messages).inputs)) (range_with_len 0 (sink.consumed + k + sink.depth - next_horizon sink k)) in
    let enough : next_horizon sink k - (sink.consumed + k) ≤ length (drop k sink.buffer) =
    omega (arith, length-drop k sink.buffer, lane.holds.buffer_full, lane.holds.consumed_first, lane.holds.horizon_first, there) in
    let long : length (take (next_horizon sink k - (sink.consumed + k)) (drop k sink.buffer)) ≡ next_horizon sink k - (sink.consumed + k) =
    length-take-le (next_horizon sink k - (sink.consumed + k)) (drop k sink.buffer) enough in
    ap (λ (m : ℕ). drop (m + 0) (take (next_horizon sink k - (sink.consumed + k)) (drop k sink.buffer)
    ++ map (mix_of samples sink.spec (streams_of (with_messages (settled sink k) messages).inputs)) (range_with_len 0 (sink.consumed + k + sink.depth - next_horizon sink k)))) (sym long)
    ∙ drop-append-add (take (next_horizon sink k - (sink.consumed + k)) (drop k sink.buffer))
    (map (mix_of samples sink.spec (streams_of (with_messages (settled sink k) messages).inputs)) (range_with_len 0 (sink.consumed + k + sink.depth - next_horizon sink k))) 0
    ∙ map_same (mix_of samples sink.spec (streams_of (with_messages (settled sink k) messages).inputs)) (mix_of samples sink.spec (streams_of (turned samples sink k messages).inputs))
    0 (sink.consumed + k + sink.depth - next_horizon sink k)
    (λ j high less. sym (mix_asked samples sink.spec (sink.consumed + k + sink.depth - next_horizon sink k) j (with_messages (settled sink k) messages).inputs))

-- the same of the plain sink beside the bytes that are mixed by ramps, after a turn over k frames
pub plain_played : (sink : Sink) (unaltered guard : ℕ) (held : HeldFrames) → IsRamped sink unaltered guard held → (messages : List (Message Stream)) (k : ℕ) → k ≤ sink.filled - sink.consumed
    → (spec : Spec) (depth : ℕ) → spec ≡ held.spec → depth ≡ held.depth → (low : ℕ) (after : Sink) (inputs : List Stands) (plain : List ℕ)
    → low ≡ next_horizon sink k - (sink.consumed + k) → after ≡ turned samples sink k messages → inputs ≡ (turned samples sink k messages).inputs
    → plain ≡ concat (drop ((after.horizon - after.consumed) + 0) after.buffer)
    → plain ≡ concat (map (mix_of samples (sample_spec spec) (streams_of inputs)) (range_with_len 0 (depth - low)))
plain_played sink unaltered guard held h messages k there spec depth same_spec same_depth low after inputs plain lows is ins so =
    let more : sink.consumed + k + sink.depth - next_horizon sink k ≡ depth - low =
    omega (arith, same_depth, h.same_depth, lows, there, h.lane.holds.consumed_first, h.lane.holds.horizon_first, h.lane.holds.filled_bounded) in
    let specs : sink.spec ≡ sample_spec spec = sym (ap sample_spec same_spec ∙ h.same_spec) in
    so
    ∙ ap (λ (s : Sink). concat (drop ((s.horizon - s.consumed) + 0) s.buffer)) is
    ∙ ap (λ (fs : List Frame). concat fs) (fresh_plain sink k messages h.lane there)
    ∙ (λ i. concat (map (mix_of samples (specs i) (streams_of (sym ins i))) (range_with_len 0 (more i))))
