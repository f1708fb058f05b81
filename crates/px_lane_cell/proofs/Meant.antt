-- What a stream's plain form means is the stream.
use Rattle.std.proofs.Common.{◌≡◌, ℕ, zero, suc, ◌+◌, ◌-◌, List, [], ◌∷◌, ◌++◌, length, refl, ap, sym, ◌∙◌, arith, Option, Some, None, replicate, subst, true≢false}
use Rattle.std.specs.Prelude.{ℤ, flat_map, IsSome}
use Rattle.std.specs.List.{range_with_len}
use Rattle.std.proofs.lemmas.Int.{ints}
use Rattle.px_annals.specs.declared.stream.PlainFrame.{PlainFrame}
use Rattle.px_model.specs.declared.data.Run.{Run}
use Rattle.px_model.specs.declared.data.Run.TheVariants.{Quiet, Playing}
use Rattle.px_model.specs.Frame.{Frame}
use Rattle.px_model.specs.Held.{place, IsTrimmed}
use Rattle.px_model.specs.Index.{above, onward}
use Rattle.px_model.specs.Queue.{Queue}
use Rattle.px_model.specs.Stream.{Stream, IsStream}
use Rattle.px_queue.specs.Plain.{frame_at, frames_up_to}
use Rattle.px_stream.specs.Plain.{plain_run, plain_of}
use Rattle.px_lane_cell.specs.Meaning.{places_meant, run_meant, stream_meant}

-- the frames of places, from place j on
abbrev frames_from : ℤ → ℕ → List (Option Frame) → List PlainFrame
frames_from read j [] = []
frames_from read j (o ∷ held) = frame_at (onward read j) o ++ frames_from read (j + 1) held

listed : (read : ℤ) (f : ℕ → Option Frame) (j : ℕ) (held : List (Option Frame)) → ((i : ℕ) → f (j + i) ≡ place held i)
    → flat_map (λ k. frame_at (onward read k) (f k)) (range_with_len j (length held)) ≡ frames_from read j held
listed read f j [] same = refl
listed read f j (o ∷ held) same =
    let first : j ≡ j + 0 = omega arith in
    let next : (i : ℕ) → (j + 1) + i ≡ j + suc i = λ i. omega arith in
    let here : f j ≡ o = ap f first ∙ same 0 in
    let later : (i : ℕ) → f ((j + 1) + i) ≡ place held i = λ i. ap f (next i) ∙ same (suc i) in
    let rest = listed read f (j + 1) held later in λ k. frame_at (onward read j) (here k) ++ rest k

shifted : {A : Type 0} (n : ℕ) (x : A) (xs : List A) → replicate (suc n) x ++ xs ≡ replicate n x ++ (x ∷ xs)
shifted zero x xs = refl
shifted (suc n) x xs = ap (λ l. x ∷ l) (shifted n x xs)

gap : (read : ℤ) (j n : ℕ) → above (onward read (j + n)) (onward read j) ≡ n
gap read j n = omega (arith, ints)

one_on : (read : ℤ) (j : ℕ) → onward (onward read j) 1 ≡ onward read (j + 1)
one_on read j = omega (arith, ints)

no_way : (read : ℤ) → onward read 0 ≡ read
no_way read = omega (arith, ints)

trimmed_rest : (x o : Option Frame) (held : List (Option Frame)) → IsTrimmed (x ∷ (o ∷ held)) → IsTrimmed (o ∷ held)
trimmed_rest x o held trimmed some =
    let last : length (x ∷ (o ∷ held)) - 1 ≡ suc (length (o ∷ held) - 1) = omega arith in
    subst (λ k. IsSome (place (x ∷ (o ∷ held)) k)) last (trimmed (omega arith))

-- with n holes before them
found : (read : ℤ) (j n : ℕ) (o : Option Frame) (held : List (Option Frame)) → IsTrimmed (o ∷ held)
    → places_meant (onward read j) (frames_from read (j + n) (o ∷ held)) ≡ replicate n None ++ (o ∷ held)
found read j n (Some x) [] trimmed = ap (λ k. replicate k None ++ (Some x ∷ [])) (gap read j n)
found read j n (Some x) (o ∷ held) trimmed =
    let same : (j + n) + 1 ≡ ((j + n) + 1) + 0 = omega arith in
    let rest : places_meant (onward (onward read (j + n)) 1) (frames_from read ((j + n) + 1) (o ∷ held)) ≡ (o ∷ held) =
    (λ k. places_meant (one_on read (j + n) k) (frames_from read (same k) (o ∷ held)))
    ∙ found read ((j + n) + 1) 0 o held (trimmed_rest (Some x) o held trimmed) in
    λ k. replicate (gap read j n k) None ++ (Some x ∷ rest k)
found read j n None [] trimmed = absurd (true≢false (sym (trimmed (omega arith))))
found read j n None (o ∷ held) trimmed =
    let same : (j + n) + 1 ≡ j + suc n = omega arith in
    ap (λ k. places_meant (onward read j) (frames_from read k (o ∷ held))) same
    ∙ found read j (suc n) o held (trimmed_rest None o held trimmed)
    ∙ shifted n None (o ∷ held)

held_found : (read : ℤ) (held : List (Option Frame)) → IsTrimmed held → places_meant read (frames_from read 0 held) ≡ held
held_found read [] trimmed = refl
held_found read (o ∷ held) trimmed = ap (λ index. places_meant index (frames_from read 0 (o ∷ held))) (sym (no_way read)) ∙ found read 0 0 o held trimmed

held_meant : (q : Queue) → IsTrimmed q.held → places_meant q.read (frames_up_to q (length q.held)) ≡ q.held
held_meant q trimmed = ap (places_meant q.read) (listed q.read (place q.held) 0 q.held (λ i. ap (place q.held) (omega arith))) ∙ held_found q.read q.held trimmed

run_same : (run : Run) → run_meant (plain_run run) ≡ run
run_same (Quiet frames) = refl
run_same (Playing frames) = refl

pub stream_same : (s : Stream) → IsStream s → stream_meant (plain_of s) ≡ s
stream_same s keeps =
    let held = held_meant s.queue keeps.queue_holds.trimmed in
    let run = run_same s.run in
    λ k. record s { queue = record s.queue { held = held k }; run = run k }
