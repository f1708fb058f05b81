-- Indices that were given one after the other, where some go and one more is given; and the clients and streams that connections have, where these change.
use Rattle.std.proofs.Common.{◌≡◌, ◌⊎◌, inl, inr, ℕ, ◌+◌, ◌<◌, List, [], ◌∷◌, ◌++◌, map, Option, Some, None, Bool, true, false, refl, ap, sym, subst, ◌∙◌, arith, cond}
use Rattle.std.specs.Prelude.{◌&&◌, nat_eq, filter, IsSome, MatchOption}
use Rattle.std.specs.List.{AllByRecursion}
use Rattle.std.proofs.lemmas.Bool.{ne_eqb, eqb-false, cond_both, cond-true, cond-false, eqb-true, false≢true}
use Rattle.std.proofs.lemmas.List.{map-append}
use Rattle.std.proofs.lemmas.List.Elements.{filter-append}
use Rattle.std.proofs.lemmas.Option.{same_Some}
use Rattle.px_types.specs.declared.ids.ConnId.{ConnId}
use Rattle.px_names.specs.declared.client.Client.{Client}
use Rattle.px_names.specs.Clients.{is_on, change_first as change_client, without_first}
use Rattle.px_outcome.specs.declared.input.Connection.{Connection}
use Rattle.px_outcome.specs.declared.input.Input.{Input}
use Rattle.px_state.specs.State.{has_number, connection_of, has_index, input_of, goes_on, is_from}
use Rattle.px_state.specs.Change.{change_first, drop_first, with_streams, leaving}
use Rattle.px_core.specs.Connecting.{new_connection}
use Rattle.px_core.specs.Consistency.{IsIncreasing}
use Rattle.px_core.specs.Indexed.{AreGiven, NamesClient, own_client, own_connection, indices_of, streams_of, next_stream}
use Rattle.px_core.proofs.ListLaws.{heads, tails, no_cons, all_push, all_weaken, same_passed}

-- ---- indices of which some go

abbrev IsPart : List ℕ → List ℕ → Type 0
IsPart [] ys = Unit {0}
IsPart (x ∷ xs) [] = ⊥
IsPart (x ∷ xs) (y ∷ ys) = ((x ≡ y) × IsPart xs ys) ⊎ IsPart (x ∷ xs) ys

part_same : (xs : List ℕ) → IsPart xs xs
part_same [] = tt
part_same (x ∷ xs) = inl (refl, part_same xs)

part_less : (y : ℕ) (xs : List ℕ) → IsPart xs (y ∷ xs)
part_less y [] = tt
part_less y (x ∷ xs) = inr (part_same (x ∷ xs))

part_all : (Q : ℕ → Type 0) (xs ys : List ℕ) → IsPart xs ys → AllByRecursion Q ys → AllByRecursion Q xs
part_all Q [] ys p h = tt
part_all Q (x ∷ xs) [] p h = absurd p
part_all Q (x ∷ xs) (y ∷ ys) (inl p) h = (subst Q (sym p.0) h.0, part_all Q xs ys p.1 h.1)
part_all Q (x ∷ xs) (y ∷ ys) (inr p) h = part_all Q (x ∷ xs) ys p h.1

part_rising : (xs ys : List ℕ) → IsPart xs ys → IsIncreasing ys → IsIncreasing xs
part_rising [] ys p h = tt
part_rising (x ∷ xs) [] p h = absurd p
part_rising (x ∷ xs) (y ∷ ys) (inl p) h = (part_all (λ j. x < j) xs ys p.1 (subst (λ i. AllByRecursion (λ j. i < j) ys) (sym p.0) h.0), part_rising xs ys p.1 h.1)
part_rising (x ∷ xs) (y ∷ ys) (inr p) h = part_rising (x ∷ xs) ys p h.1

pub part_given : (next : ℕ) (xs ys : List ℕ) → IsPart xs ys → AreGiven next ys → AreGiven next xs
part_given next xs ys p h = record { rising = part_rising xs ys p h.rising; below = part_all (λ i. i < next) xs ys p h.below }

-- ---- one more is given

rising_more : (is : List ℕ) (n : ℕ) → IsIncreasing is → AllByRecursion (λ i. i < n) is → IsIncreasing (is ++ n ∷ [])
rising_more [] n h a = (tt, tt)
rising_more (i ∷ is) n h a = (all_push (λ j. i < j) is n h.0 a.0, rising_more is n h.1 a.1)

pub given_more : (next : ℕ) (is : List ℕ) → AreGiven next is → AreGiven (next + 1) (is ++ next ∷ [])
given_more next is h = record {
  rising = rising_more is next h.rising h.below;
  below = all_push (λ i. i < next + 1) is next (all_weaken (λ i. i < next) (λ i. i < next + 1) (λ i l. omega (arith, l)) is h.below) (omega arith);
}

-- ---- the next stream of a connection, where connections change

pub next_change : (n : ConnId) (f : Connection → Connection) → ((c : Connection) → (f c).conn.0 ≡ c.conn.0) → ((c : Connection) → (f c).streams ≡ c.streams) → (conn : ConnId) (cs : List Connection) → next_stream (connection_of (change_first (has_number n) f cs) conn) ≡ next_stream (connection_of cs conn)
next_change n f keeps streams conn [] = refl
next_change n f keeps streams conn (c ∷ cs) = step (next_change n f keeps streams conn cs) (nat_eq c.conn.0 n.0)
  where
    own : (b d : Bool) → b ≡ d → next_stream (cond b (Some (f c)) (connection_of cs conn)) ≡ next_stream (cond d (Some c) (connection_of cs conn))
    own true true e = streams c
    own true false e = absurd (false≢true (sym e))
    own false true e = absurd (false≢true e)
    own false false e = refl

    behind : (b : Bool) → next_stream (connection_of (change_first (has_number n) f cs) conn) ≡ next_stream (connection_of cs conn) → next_stream (cond b (Some c) (connection_of (change_first (has_number n) f cs) conn)) ≡ next_stream (cond b (Some c) (connection_of cs conn))
    behind true e = refl
    behind false e = e

    step : next_stream (connection_of (change_first (has_number n) f cs) conn) ≡ next_stream (connection_of cs conn) → (b : Bool) → next_stream (connection_of (cond b (f c ∷ cs) (c ∷ change_first (has_number n) f cs)) conn) ≡ next_stream (cond (nat_eq c.conn.0 conn.0) (Some c) (connection_of cs conn))
    step later true = own (nat_eq (f c).conn.0 conn.0) (nat_eq c.conn.0 conn.0) (ap (λ m. nat_eq m conn.0) (keeps c))
    step later false = behind (nat_eq c.conn.0 conn.0) later

-- of the connection that is counted
pub next_counted : (n : ConnId) (k : ℕ) (cs : List Connection) → IsSome (connection_of cs n) → next_stream (connection_of (change_first (has_number n) (with_streams k) cs) n) ≡ k
next_counted n k [] some = absurd cc
next_counted n k (c ∷ cs) some = step (next_counted n k cs) (nat_eq c.conn.0 n.0) refl some
  where
    step : (IsSome (connection_of cs n) → next_stream (connection_of (change_first (has_number n) (with_streams k) cs) n) ≡ k) → (b : Bool) → nat_eq c.conn.0 n.0 ≡ b → IsSome (cond b (Some c) (connection_of cs n))
        → next_stream (connection_of (cond b (with_streams k c ∷ cs) (c ∷ change_first (has_number n) (with_streams k) cs)) n) ≡ k
    step later true e some = ap next_stream (cond-true (nat_eq c.conn.0 n.0) (Some (with_streams k c)) (connection_of cs n) e)
    step later false e some = ap next_stream (cond-false (nat_eq c.conn.0 n.0) (Some c) (connection_of (change_first (has_number n) (with_streams k) cs) n) e) ∙ later some

-- of another
other_number : (c : Connection) (n conn : ConnId) → nat_eq c.conn.0 n.0 ≡ true → nat_eq n.0 conn.0 ≡ false → nat_eq c.conn.0 conn.0 ≡ false
other_number c n conn t e = ap (λ m. nat_eq m conn.0) (eqb-true c.conn.0 n.0 t) ∙ e

pub next_other : (n conn : ConnId) (k : ℕ) → nat_eq n.0 conn.0 ≡ false → (cs : List Connection) → next_stream (connection_of (change_first (has_number n) (with_streams k) cs) conn) ≡ next_stream (connection_of cs conn)
next_other n conn k e [] = refl
next_other n conn k e (c ∷ cs) = step (next_other n conn k e cs) (nat_eq c.conn.0 n.0) refl
  where
    behind : (b : Bool) → next_stream (connection_of (change_first (has_number n) (with_streams k) cs) conn) ≡ next_stream (connection_of cs conn) → next_stream (cond b (Some c) (connection_of (change_first (has_number n) (with_streams k) cs) conn)) ≡ next_stream (cond b (Some c) (connection_of cs conn))
    behind true g = refl
    behind false g = g

    step : next_stream (connection_of (change_first (has_number n) (with_streams k) cs) conn) ≡ next_stream (connection_of cs conn) → (b : Bool) → nat_eq c.conn.0 n.0 ≡ b
        → next_stream (connection_of (cond b (with_streams k c ∷ cs) (c ∷ change_first (has_number n) (with_streams k) cs)) conn) ≡ next_stream (cond (nat_eq c.conn.0 conn.0) (Some c) (connection_of cs conn))
    step later true t =
        let off = other_number c n conn t e in
        ap next_stream (cond-false (nat_eq c.conn.0 conn.0) (Some (with_streams k c)) (connection_of cs conn) off ∙ sym (cond-false (nat_eq c.conn.0 conn.0) (Some c) (connection_of cs conn) off))
    step later false t = behind (nat_eq c.conn.0 conn.0) later

-- where one is removed
pub next_left : (n conn : ConnId) → nat_eq n.0 conn.0 ≡ false → (cs : List Connection) → connection_of (drop_first (has_number n) cs) conn ≡ connection_of cs conn
next_left n conn e [] = refl
next_left n conn e (c ∷ cs) = step (next_left n conn e cs) (nat_eq c.conn.0 n.0) refl
  where
    behind : (b : Bool) → connection_of (drop_first (has_number n) cs) conn ≡ connection_of cs conn → cond b (Some c) (connection_of (drop_first (has_number n) cs) conn) ≡ cond b (Some c) (connection_of cs conn)
    behind true g = refl
    behind false g = g

    step : connection_of (drop_first (has_number n) cs) conn ≡ connection_of cs conn → (b : Bool) → nat_eq c.conn.0 n.0 ≡ b → connection_of (cond b cs (c ∷ drop_first (has_number n) cs)) conn ≡ cond (nat_eq c.conn.0 conn.0) (Some c) (connection_of cs conn)
    step later true t = sym (cond-false (nat_eq c.conn.0 conn.0) (Some c) (connection_of cs conn) (other_number c n conn t e))
    step later false t = behind (nat_eq c.conn.0 conn.0) later

-- where a new one joins
pub next_joined : (n : ConnId) (client : ℕ) (conn : ConnId) (cs : List Connection) → next_stream (connection_of (cs ++ new_connection n client ∷ []) conn) ≡ next_stream (connection_of cs conn)
next_joined n client conn [] = cond_both (nat_eq n.0 conn.0) (Some (new_connection n client)) None (λ o. next_stream o ≡ 0) (λ e. refl) (λ e. refl)
next_joined n client conn (c ∷ cs) = behind (nat_eq c.conn.0 conn.0) (next_joined n client conn cs)
  where
    behind : (b : Bool) → next_stream (connection_of (cs ++ new_connection n client ∷ []) conn) ≡ next_stream (connection_of cs conn) → next_stream (cond b (Some c) (connection_of (cs ++ new_connection n client ∷ []) conn)) ≡ next_stream (cond b (Some c) (connection_of cs conn))
    behind true g = refl
    behind false g = g

-- ---- a connection that exists, and of which something holds

module _ (Q : Connection → Type 0) where
  abbrev Has : Option Connection → Type 0
  Has o = MatchOption o ⊥ Q

  pub has_change : (n : ConnId) (f : Connection → Connection) → ((c : Connection) → (f c).conn.0 ≡ c.conn.0) → ((c : Connection) → Q c → Q (f c)) → (conn : ConnId) (cs : List Connection) → Has (connection_of cs conn) → Has (connection_of (change_first (has_number n) f cs) conn)
  has_change n f keeps so conn [] h = h
  has_change n f keeps so conn (c ∷ cs) h = step (has_change n f keeps so conn cs) (nat_eq c.conn.0 n.0)
    where
      own : (b d : Bool) → d ≡ b → Has (cond b (Some c) (connection_of cs conn)) → Has (cond d (Some (f c)) (connection_of cs conn))
      own true true e h = so c h
      own true false e h = absurd (false≢true e)
      own false true e h = absurd (false≢true (sym e))
      own false false e h = h

      behind : (Has (connection_of cs conn) → Has (connection_of (change_first (has_number n) f cs) conn)) → (b : Bool) → Has (cond b (Some c) (connection_of cs conn)) → Has (cond b (Some c) (connection_of (change_first (has_number n) f cs) conn))
      behind later true h = h
      behind later false h = later h

      step : (Has (connection_of cs conn) → Has (connection_of (change_first (has_number n) f cs) conn)) → (b : Bool) → Has (connection_of (cond b (f c ∷ cs) (c ∷ change_first (has_number n) f cs)) conn)
      step later true = own (nat_eq c.conn.0 conn.0) (nat_eq (f c).conn.0 conn.0) (ap (λ m. nat_eq m conn.0) (keeps c)) h
      step later false = behind later (nat_eq c.conn.0 conn.0) h

  pub has_joined : (new : Connection) (conn : ConnId) (cs : List Connection) → Has (connection_of cs conn) → Has (connection_of (cs ++ new ∷ []) conn)
  has_joined new conn [] h = absurd h
  has_joined new conn (c ∷ cs) h = step (has_joined new conn cs) (nat_eq c.conn.0 conn.0) h
    where
      step : (Has (connection_of cs conn) → Has (connection_of (cs ++ new ∷ []) conn)) → (b : Bool) → Has (cond b (Some c) (connection_of cs conn)) → Has (cond b (Some c) (connection_of (cs ++ new ∷ []) conn))
      step later true h = h
      step later false h = later h

-- the inputs of the connections that are left, once none of another is live
pub forgotten_named : (n : ConnId) (cs : List Connection) (xs : List Input) → AllByRecursion (NamesClient cs) xs → filter (is_from n) xs ≡ [] → AllByRecursion (NamesClient (drop_first (has_number n) cs)) xs
forgotten_named n cs [] h none = tt
forgotten_named n cs (x ∷ xs) h none = step (forgotten_named n cs xs h.1) (is_from n x) refl none
  where
    apart : (b : Bool) → nat_eq x.conn.0 n.0 ≡ b → goes_on x ≡ true → is_from n x ≡ false → nat_eq n.0 x.conn.0 ≡ false
    apart true e live t = absurd (false≢true (sym t ∙ (λ k. e k && live k)))
    apart false e live t = ne_eqb n.0 x.conn.0 (λ (same : n.0 ≡ x.conn.0). eqb-false x.conn.0 n.0 e (sym same))

    step : (filter (is_from n) xs ≡ [] → AllByRecursion (NamesClient (drop_first (has_number n) cs)) xs) → (b : Bool) → is_from n x ≡ b → cond b (x ∷ filter (is_from n) xs) (filter (is_from n) xs) ≡ [] → AllByRecursion (NamesClient (drop_first (has_number n) cs)) (x ∷ xs)
    step later true t e = absurd (no_cons x (filter (is_from n) xs) e)
    step later false t e =
        ((λ live. subst (λ (o : Option Connection). MatchOption o ⊥ (λ c. x.client ≡ c.client)) (sym (next_left n x.conn (apart (nat_eq x.conn.0 n.0) refl live t) cs)) (h.0 live)), later e)

-- ---- what is the same of each

pub map_change : {A B : Type 0} (q : A → Bool) (f : A → A) (g : A → B) → ((x : A) → g (f x) ≡ g x) → (xs : List A) → map g (change_first q f xs) ≡ map g xs
map_change q f g k [] = refl
map_change q f g k (x ∷ xs) = step (map_change q f g k xs) (q x)
  where
    step : map g (change_first q f xs) ≡ map g xs → (b : Bool) → map g (cond b (f x ∷ xs) (x ∷ change_first q f xs)) ≡ g x ∷ map g xs
    step later true = λ i. k x i ∷ map g xs
    step later false = λ i. g x ∷ later i

pub map_change_client : {B : Type 0} (q : Client → Bool) (f : Client → Client) (g : Client → B) → ((x : Client) → g (f x) ≡ g x) → (xs : List Client) → map g (change_client q f xs) ≡ map g xs
map_change_client q f g k [] = refl
map_change_client q f g k (x ∷ xs) = step (map_change_client q f g k xs) (q x)
  where
    step : map g (change_client q f xs) ≡ map g xs → (b : Bool) → map g (cond b (f x ∷ xs) (x ∷ change_client q f xs)) ≡ g x ∷ map g xs
    step later true = λ i. k x i ∷ map g xs
    step later false = λ i. g x ∷ later i

-- a client goes with its connection
pub left_paired : (n : ConnId) (cs : List Connection) (clients : List Client) → map own_client cs ≡ map own_connection clients → map own_client (drop_first (has_number n) cs) ≡ map own_connection (without_first (is_on n) clients)
left_paired n [] [] e = refl
left_paired n [] (d ∷ ds) e = absurd (no_cons (own_connection d) (map own_connection ds) (sym e))
left_paired n (c ∷ cs) [] e = absurd (no_cons (own_client c) (map own_client cs) e)
left_paired n (c ∷ cs) (d ∷ ds) e = step (left_paired n cs ds rest) (nat_eq c.conn.0 n.0) (nat_eq d.conn.0 n.0) (ap (λ (p : ℕ × ℕ). nat_eq p.0 n.0) own)
  where
    own : own_client c ≡ own_connection d
    own = heads (own_client c) (own_connection d) (map own_client cs) (map own_connection ds) e

    rest : map own_client cs ≡ map own_connection ds
    rest = tails (own_client c) (own_connection d) (map own_client cs) (map own_connection ds) e

    step : map own_client (drop_first (has_number n) cs) ≡ map own_connection (without_first (is_on n) ds) → (a b : Bool) → a ≡ b → map own_client (cond a cs (c ∷ drop_first (has_number n) cs)) ≡ map own_connection (cond b ds (d ∷ without_first (is_on n) ds))
    step later true true g = rest
    step later true false g = absurd (false≢true (sym g))
    step later false true g = absurd (false≢true g)
    step later false false g = λ i. own i ∷ later i

pub left_indices : (q : Client → Bool) (ds : List Client) → IsPart (indices_of (without_first q ds)) (indices_of ds)
left_indices q [] = tt
left_indices q (d ∷ ds) = step (left_indices q ds) (q d)
  where
    step : IsPart (indices_of (without_first q ds)) (indices_of ds) → (b : Bool) → IsPart (indices_of (cond b ds (d ∷ without_first q ds))) (d.index ∷ indices_of ds)
    step later true = part_less d.index (indices_of ds)
    step later false = inl (refl, later)

-- ---- the streams of a connection, where inputs change

pub off : (b : Bool) → (b && false) ≡ false
off true = refl
off false = refl

-- one ends
pub streams_left : (q : Input → Bool) (conn : ConnId) (xs : List Input) → IsPart (streams_of (change_first q leaving xs) conn) (streams_of xs conn)
streams_left q conn [] = tt
streams_left q conn (x ∷ xs) = step (streams_left q conn xs) (q x)
  where
    gone : (a b : Bool) → IsPart (map (λ y. Input.stream y) (cond (a && false) (leaving x ∷ filter (is_from conn) xs) (filter (is_from conn) xs))) (map (λ y. Input.stream y) (cond (a && b) (x ∷ filter (is_from conn) xs) (filter (is_from conn) xs)))
    gone true true = part_less x.stream (streams_of xs conn)
    gone true false = part_same (streams_of xs conn)
    gone false b = part_same (streams_of xs conn)

    behind : IsPart (streams_of (change_first q leaving xs) conn) (streams_of xs conn) → (b : Bool)
        → IsPart (map (λ y. Input.stream y) (cond b (x ∷ filter (is_from conn) (change_first q leaving xs)) (filter (is_from conn) (change_first q leaving xs)))) (map (λ y. Input.stream y) (cond b (x ∷ filter (is_from conn) xs) (filter (is_from conn) xs)))
    behind later true = inl (refl, later)
    behind later false = later

    step : IsPart (streams_of (change_first q leaving xs) conn) (streams_of xs conn) → (b : Bool) → IsPart (streams_of (cond b (leaving x ∷ xs) (x ∷ change_first q leaving xs)) conn) (streams_of (x ∷ xs) conn)
    step later true = gone (nat_eq x.conn.0 conn.0) (goes_on x)
    step later false = behind later (is_from conn x)

-- one changes, and is live as it was
pub streams_same : (x : Input) (f : Input → Input) (inputs : List Input) → input_of inputs x.index ≡ Some x → ((conn : ConnId) → is_from conn (f x) ≡ is_from conn x) → ((y : Input) → (f y).stream ≡ y.stream) → (conn : ConnId) → streams_of (change_first (has_index x.index) f inputs) conn ≡ streams_of inputs conn
streams_same x f inputs here live stream conn =
    same_passed (is_from conn) (has_index x.index) f (λ y. Input.stream y) inputs (λ y found. subst (λ (z : Input). is_from conn (f z) ≡ is_from conn z) (same_Some x y (sym here ∙ found)) (live conn)) stream

pub streams_pushed : (inputs : List Input) (x : Input) (conn : ConnId) → streams_of (inputs ++ x ∷ []) conn ≡ streams_of inputs conn ++ streams_of (x ∷ []) conn
streams_pushed inputs x conn =
    ap (λ (ys : List Input). map (λ y. Input.stream y) ys) (filter-append (is_from conn) inputs (x ∷ []))
    ∙ map-append (λ y. Input.stream y) (filter (is_from conn) inputs) (filter (is_from conn) (x ∷ []))
