-- A turn in which nothing is consumed and no message comes.
use Rattle.std.proofs.Common.{◌≡◌, ℕ, List, [], ◌∷◌, ◌++◌, map, Bool, true, false, refl, ap, sym, ◌∙◌, arith}
use Rattle.std.specs.Prelude.{nat_lt, not, ◌&&◌, ◌||◌, ◌==◌, flat_map, length, min, if◌then◌else◌}
use Rattle.std.specs.List.{AllByRecursion}
use Rattle.px_model.specs.Queue.{is_short, left_of}
use Rattle.px_model.specs.Stream.{Stream}
use Rattle.px_model.specs.Turn.{is_playing}
use Rattle.px_model.specs.Notice.{Notice}
use Rattle.px_model.specs.Going.{after, given_of}
use Rattle.px_model.specs.Sink.{Input as Stands, with_stream}
use Rattle.px_model.specs.Turn.{going_notices, has_started, has_run_out}
use Rattle.px_lane.specs.declared.input.Input.{Input}
use Rattle.px_lane.specs.Inputs.{HasRoom}

-- of no frames none is given
none_given : (corked short : Bool) (left : ℕ) → (if corked then 0 else (if short then 0 else min 0 left)) ≡ 0
none_given true short left = refl
none_given false true left = refl
none_given false false left = omega arith

none_of : (s : Stream) → given_of s 0 ≡ 0
none_of s = none_given s.corked (is_short s.queue) (left_of s.queue)

not_started : (playing : Bool) → (not playing && nat_lt 0 0) ≡ false
not_started true = refl
not_started false = refl

not_run_out : (playing idle : Bool) → ((not playing && (playing || nat_lt 0 0)) && idle) ≡ false
not_run_out true idle = refl
not_run_out false idle = refl

quiet : (x : Stands) → going_notices 0 x ≡ []
quiet x =
    let started : has_started x.stream 0 ≡ false = ap (λ (g : ℕ). not (is_playing x.stream.run) && nat_lt 0 g) (none_of x.stream) ∙ not_started (is_playing x.stream.run) in
    let run_out : has_run_out x.stream 0 ≡ false =
    ap (λ (g : ℕ). (not (is_playing x.stream.run) && (is_playing x.stream.run || nat_lt 0 g)) && length x.stream.draining == 0) (none_of x.stream)
    ∙ not_run_out (is_playing x.stream.run) (length x.stream.draining == 0) in
    ap (λ (b : Bool). (if b then Notice.started x.index ∷ [] else []) ++ (if has_run_out x.stream 0 then Notice.underflow x.index ∷ [] else [])) started
    ∙ ap (λ (b : Bool). if b then Notice.underflow x.index ∷ [] else []) run_out

all_stay : (xs : List Stands) → xs ≡ map (with_stream (λ s. after s 0)) xs
all_stay [] = refl
all_stay (x ∷ xs) = ap (λ (ys : List Stands). x ∷ ys) (all_stay xs)

-- streams that go no frame forward stay where they are
pub stay : (frames : ℕ) (xs : List Stands) → frames ≡ 0 → xs ≡ map (with_stream (λ s. after s frames)) xs
stay frames xs e = all_stay xs ∙ ap (λ (k : ℕ). map (with_stream (λ s. after s k)) xs) (sym e)

all_quiet : (xs : List Stands) → flat_map (going_notices 0) xs ≡ []
all_quiet [] = refl
all_quiet (x ∷ xs) = ap (λ (ns : List (Notice Stream)). ns ++ flat_map (going_notices 0) xs) (quiet x) ∙ all_quiet xs

nothing_behind : (ns : List (Notice Stream)) → ns ≡ ns ++ []
nothing_behind [] = refl
nothing_behind (n ∷ ns) = ap (λ (ms : List (Notice Stream)). n ∷ ms) (nothing_behind ns)

-- and have nothing to tell
pub notice_nothing : (frames : ℕ) (xs : List Stands) (before : List (Notice Stream)) → frames ≡ 0 → before ≡ before ++ flat_map (going_notices frames) xs
notice_nothing frames xs before e =
    nothing_behind before ∙ ap (λ (ns : List (Notice Stream)). before ++ ns) (sym (all_quiet xs) ∙ ap (λ (k : ℕ). flat_map (going_notices k) xs) (sym e))

all_empty : (xs : List Input) → AllByRecursion (HasRoom 0 0) xs
all_empty [] = tt
all_empty (x ∷ xs) = ((omega arith, omega arith), all_empty xs)
