-- Counts of steps put together.
use Rattle.std.proofs.Common.{◌≡◌, ℕ, zero, suc, ◌+◌, ◌-◌, ◌*◌, ◌≤◌, min, List, [], ◌∷◌, length, refl, ap, sym, ◌∙◌, subst, arith}
use Rattle.std.proofs.Math.Nat.{mul-add, add-mul, mul_comm, mul_assoc, mul-le-mul_left}
use Rattle.px_model.specs.Stream.{Stream}
use Rattle.px_model.specs.Message.{Message, StreamMessage}
use Rattle.px_model.specs.Sink.{Sink, Input, stream_at}
use Rattle.px_model.specs.Turn.{inputs_with, next_horizon}
use Rattle.px_lane.specs.declared.input.Input.{Input as Held}
use Rattle.px_lane.specs.Inputs.{inputs_of}
use Rattle.px_lane.specs.Costs.{change_cost, factors_cost, count_others, cost_of, costs_of, mix_cost}

-- ---- products

-- no more than what is paid
pub paid : (c a b x : ℕ) → a + b ≤ x → c * a + c * b ≤ c * x
paid c a b x l = omega (arith, mul-add c a b, mul-le-mul_left c l)

two_fold : (c m : ℕ) → c * m + c * m ≡ c * (2 * m)
two_fold c m = sym (mul-add c m m) ∙ ap (λ (x : ℕ). c * x) (omega arith)

pub twice : (c m : ℕ) → 2 * (c * m) ≡ c * (2 * m)
twice c m = omega (arith, two_fold c m)

pub four_fold : (c m : ℕ) → c * (2 * m) + c * (2 * m) ≡ c * (4 * m)
four_fold c m = sym (mul-add c (2 * m) (2 * m)) ∙ ap (λ (x : ℕ). c * x) (omega arith)

-- one share from a place on
pub one_share : (c k from m s s' : ℕ) → k - from ≡ m → s' ≤ s + 2 * (c * (k - from)) → s' ≤ s + c * (2 * m)
one_share c k from m s s' e h = omega (arith, h, ap (λ (x : ℕ). c * x) e, twice c m)

-- two of them
pub two_shares : (c k k' from m s s' s'' : ℕ) → k - from ≡ m → k' - from ≡ m → s' ≤ s + 2 * (c * (k - from)) → s'' ≤ s' + 2 * (c * (k' - from)) → s'' ≤ s + c * (4 * m)
two_shares c k k' from m s s' s'' e e' h h' = omega (arith, one_share c k from m s s' e h, one_share c k' from m s' s'' e' h', four_fold c m)

-- where a part of what is paid is altered
pub two_shares_within : (c k from m s s' s'' : ℕ) → k - from ≤ m → s' ≤ s + 2 * (c * (k - from)) → s'' ≤ s' + 2 * (c * (k - from)) → s'' ≤ s + c * (4 * m)
two_shares_within c k from m s s' s'' l h h' =
    let four : 4 * (k - from) ≤ 4 * m = omega (arith, l) in
    omega (arith, two_shares c k k from (k - from) s s' s'' refl refl h h', mul-le-mul_left c four)

-- ---- messages

-- what is altered is clipped again
pub clipped_too : (c m n u x s s' : ℕ) → s' ≤ s + c * m → m + (n - u) ≤ x → s' + c * (n - u) ≤ s + c * x
clipped_too c m n u x s s' h l = omega (arith, h, paid c m (n - u) x l)

-- where nothing is
pub none_altered : (c n u s x : ℕ) → n ≤ u → s + c * (n - u) ≤ s + c * x
none_altered c n u s x l = omega (arith, mul-le-mul_left c (none n u x l))
  where
    none : (n u x : ℕ) → n ≤ u → n - u ≤ x
    none n u x l = omega (arith, l)

-- factors of t inputs
pub factors_clipped : (c n t u s s' : ℕ) → s' ≤ s + c * (4 * (n * t)) → (t ≡ 0 → n ≤ u) → s' + c * (n - u) ≤ s + c * factors_cost n t
factors_clipped c n zero u s s' h none = omega (arith, h, nothing, mul-le-mul_left c still)
  where
    still : n - u ≤ 0
    still = omega (arith, none refl)

    nothing : c * (4 * (n * 0)) ≡ c * 0
    nothing = ap (λ (x : ℕ). c * x) (omega arith)
factors_clipped c n (suc t) u s s' h none = clipped_too c (4 * (n * suc t)) n u ((4 * suc t + 1) * n) s s' h (omega (arith, whole))
  where
    whole : (4 * suc t + 1) * n ≡ 4 * (n * suc t) + n
    whole = add-mul (4 * suc t) 1 n ∙ ap (λ (x : ℕ). x + 1 * n) (mul_assoc 4 (suc t) n ∙ ap (λ (x : ℕ). 4 * x) (mul_comm (suc t) n)) ∙ omega arith

-- factors of so many inputs more
pub more_set : (c n k r s s' s'' : ℕ) → s'' ≤ s' + c * (4 * (n * r)) → s' ≤ s + c * (4 * (n * k)) → s'' ≤ s + c * (4 * (n * (k + r)))
more_set c n k r s s' s'' h h' = omega (arith, h, h', ap (λ (x : ℕ). c * x) whole, mul-add c (4 * (n * k)) (4 * (n * r)))
  where
    whole : 4 * (n * (k + r)) ≡ 4 * (n * k) + 4 * (n * r)
    whole = omega (arith, mul-add n k r)

-- one message more
pub next_cost : (c n a b m cost rest s s' start : ℕ) → m ≡ min a b → s' + c * (n - b) ≤ s + c * cost → s + c * (n - a) + c * (cost + rest) ≤ start → s' + c * (n - m) + c * rest ≤ start
next_cost c n a b m cost rest s s' start least here before =
    omega (arith, here, before, mul-add c cost rest, mul-add c (n - a) (n - b), mul-le-mul_left c (both n a b m least))
  where
    both : (n a b m : ℕ) → m ≡ min a b → n - m ≤ (n - a) + (n - b)
    both n a b m e = omega (arith, e)

-- ---- nothing is mixed

change_free : (m : StreamMessage) (xs : List Input) (i : ℕ) → change_cost 0 m (stream_at i xs) ≡ 0
change_free m xs i = omega arith

factors_free : (t : ℕ) → factors_cost 0 t ≡ 0
factors_free zero = refl
factors_free (suc t) = omega arith

free : (m : Message Stream) (xs : List Input) → cost_of 0 m xs ≡ 0
free (Message.new new) xs = refl
free (Message.attach i parcel feed factors) xs = refl
free (Message.detach i) xs = refl
free (Message.write w) xs = change_free (StreamMessage.write w.seek w.offset w.frames w.bytes) xs w.input
free (Message.cork i on) xs = change_free (StreamMessage.cork on) xs i
free (Message.flush i) xs = change_free StreamMessage.flush xs i
free (Message.trigger i) xs = change_free StreamMessage.trigger xs i
free (Message.prebuf i) xs = change_free StreamMessage.prebuf xs i
free (Message.drain i tag) xs = change_free (StreamMessage.drain tag) xs i
free (Message.attr i attr) xs = change_free (StreamMessage.attr attr) xs i
free (Message.factors each) xs = factors_free (count_others each xs)
free (Message.query i tag) xs = refl

pub all_free : (ms : List (Message Stream)) (xs : List Input) → costs_of 0 ms xs ≡ 0
all_free [] xs = refl
all_free (m ∷ ms) xs = omega (arith, free m xs, all_free ms (inputs_with 0 m xs))

-- ---- a turn

-- the new frames and those that are clipped again
pub mixed_cost : (c more streams n u k s s' s'' : ℕ) → k ≡ (n - u) + more → s' ≤ s + streams * (2 * (c * more)) → s'' ≡ s' + c * k → s'' ≤ s + c * mix_cost more streams + c * (n - u)
mixed_cost c more streams n u k s s' s'' all added packed =
    omega (arith, added, packed, ap (λ (x : ℕ). c * x) all, mul-add c (n - u) more, mul-add c (more * (2 * streams)) (more * 1), whole, once, each)
  where
    whole : c * mix_cost more streams ≡ c * (more * (2 * streams) + more * 1)
    whole = ap (λ (x : ℕ). c * x) (mul-add more (2 * streams) 1)

    once : c * (more * 1) ≡ c * more
    once = ap (λ (x : ℕ). c * x) (omega arith)

    each : streams * (2 * (c * more)) ≡ c * (more * (2 * streams))
    each =
        ap (λ (x : ℕ). streams * x) (twice c more)
        ∙ mul_comm streams (c * (2 * more))
        ∙ mul_assoc c (2 * more) streams
        ∙ ap (λ (x : ℕ). c * x) (ap (λ (x : ℕ). x * streams) (mul_comm 2 more) ∙ mul_assoc more 2 streams)

pub turned_cost : (c mix costs altered s s' s'' : ℕ) → s' + altered ≤ s + c * costs → s'' ≤ s' + c * mix + altered → s'' ≤ s + c * (mix + costs)
turned_cost c mix costs altered s s' s'' noticed mixed = omega (arith, noticed, mixed, mul-add c mix costs)

-- each of so many streams read once
pub grown : (streams streams' c k to from s s' : ℕ) → streams ≡ streams' → k ≡ to → s' ≤ s + streams * (2 * (c * (k - from))) → s' ≤ s + streams' * (2 * (c * (to - from)))
grown streams streams' c k to from s s' e e' h = subst (λ (n : ℕ). s' ≤ s + streams' * (2 * (c * (n - from)))) e' (subst (λ (n : ℕ). s' ≤ s + n * (2 * (c * (k - from)))) e h)

pub as_many : (xs : List Held) → length xs ≡ length (inputs_of xs)
as_many [] = refl
as_many (x ∷ xs) = ap suc (as_many xs)

-- the frames that are mixed once a sink has gone forward
pub settled_left : (sink : Sink) (frames : ℕ) → sink.horizon ≤ sink.filled → sink.horizon ≤ sink.consumed + sink.guard
    → (sink.filled - sink.horizon) - (next_horizon sink frames - sink.horizon) ≡ sink.filled - next_horizon sink frames
settled_left sink frames first near = omega (arith, first, near)

-- where nothing is mixed nothing is touched
pub stopped_free : (c n u s s' : ℕ) (ms : List (Message Stream)) (xs : List Input) → n ≡ 0 → s' + c * (n - u) ≤ s + c * costs_of n ms xs → s' ≤ s
stopped_free c n u s s' ms xs none h = omega (arith, subst (λ (m : ℕ). s' + c * (m - u) ≤ s + c * costs_of m ms xs) none h, ap (λ (m : ℕ). c * m) (all_free ms xs))

pub nothing_left : (n : ℕ) → 0 ≡ n - n
nothing_left n = omega arith
