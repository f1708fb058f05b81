-- The lines of a sieve, and the connections that they hear.
use Rattle.std.proofs.Common.{◌≡◌, ℕ, zero, suc, ◌+◌, ◌<◌, ◌≤◌, Bool, true, false, cond, not, List, [], ◌∷◌, ◌++◌, length, get_or, set, map, take, drop, filter, Option, None, Some, refl, ap, sym, subst, ◌∙◌, arith, ⊎_elim}
use Rattle.std.specs.Prelude.{nat_eq, nat_lt, ◌&&◌, IfSome}
use Rattle.std.specs.List.{find, position, position_or_len, AllByRecursion}
use Rattle.std.proofs.lemmas.Bool.{cases_Bool, cond-true, cond-false, cond_both, ltb-false}
use Rattle.std.proofs.lemmas.Option.{none-some, slice_get_past}
use Rattle.std.proofs.lemmas.List.Folds.{find_at}
use Rattle.std.proofs.lemmas.List.Quantifiers.{position-Some}
use Rattle.px_types.specs.declared.ids.ConnId.{ConnId}
use Rattle.px_outcome.specs.declared.sending.Reason.{Reason}
use Rattle.px_state.specs.declared.effect.Effect.{Effect}
use Rattle.px_state.specs.declared.effect.Effect.TheVariants.{Sent, Closed}
use Rattle.px_sieve.specs.Piece.{is_reply}
use Rattle.px_sieve.specs.declared.line.Line.{Line}
use Rattle.px_sieve.specs.declared.segment.Segment.{Segment}
use Rattle.px_sieve.specs.Sieve.{Heard, is_of, heard_of, changed, set_one, set_in, is_asked, seen_one, heard_more, heard_by, unheard, first_taken, first_of, Sieve, forget, asked_still}
use Rattle.px_sieve.specs.Standing.{Hears, AreHeard, IsPossible, ArePossible, is_line, line_set, left_in, Sifting, StandsFor}

false-true : false ≡ true → ⊥
false-true e = cc

-- ---- one connection

pub same-test : (conn : ConnId) (line : Line) (h : Heard) → Hears line h → is_of conn h ≡ is_line conn line
same-test conn line h hears = ap (λ (c : ConnId). nat_eq c.0 conn.0) (sym hears.same)

-- ---- none has the number

none-found : (n size : ℕ) → cond (nat_lt n size) (Some n) None ≡ None → size ≤ n
none-found n size none =
    ⊎_elim
    (λ (below : nat_lt n size ≡ true). absurd (none-some n (sym none ∙ cond-true (nat_lt n size) (Some n) None below)))
    (λ (past : nat_lt n size ≡ false). ltb-false n size past)
    (cases_Bool (nat_lt n size))

unfound-in : (conn : ConnId) (lines : List Line) (heard : List Heard) → AreHeard lines heard → find (is_line conn) lines ≡ None → heard_of heard conn ≡ None
unfound-in conn [] [] all none = refl
unfound-in conn [] (h ∷ heard) all none = absurd all
unfound-in conn (line ∷ lines) [] all none = absurd all
unfound-in conn (line ∷ lines) (h ∷ heard) all none =
    ⊎_elim
    (λ (e : is_line conn line ≡ true). absurd (none-some line (sym none ∙ cond-true (is_line conn line) (Some line) (find (is_line conn) lines) e)))
    (λ (e : is_line conn line ≡ false).
    cond-false (is_of conn h) (Some h) (heard_of heard conn) (same-test conn line h all.0 ∙ e)
    ∙ unfound-in conn lines heard all.1 (sym (cond-false (is_line conn line) (Some line) (find (is_line conn) lines) e) ∙ none))
    (cases_Bool (is_line conn line))

pub unfound : (conn : ConnId) (lines : List Line) (heard : List Heard) → AreHeard lines heard → position (is_line conn) lines ≡ None → heard_of heard conn ≡ None
unfound conn lines heard all none =
    unfound-in conn lines heard all
    (find_at (is_line conn) lines
    ∙ slice_get_past lines (position_or_len (is_line conn) lines) (none-found (position_or_len (is_line conn) lines) (length lines) none))

-- so nothing changes
unchanged-in : (change : Heard → Heard) (conn : ConnId) (heard : List Heard) → heard_of heard conn ≡ None → changed change conn heard ≡ heard
unchanged-in change conn [] none = refl
unchanged-in change conn (h ∷ heard) none =
    ⊎_elim
    (λ (e : is_of conn h ≡ true). absurd (none-some h (sym none ∙ cond-true (is_of conn h) (Some h) (heard_of heard conn) e)))
    (λ (e : is_of conn h ≡ false).
    cond-false (is_of conn h) (change h ∷ heard) (h ∷ changed change conn heard) e
    ∙ ap (λ l. h ∷ l) (unchanged-in change conn heard (sym (cond-false (is_of conn h) (Some h) (heard_of heard conn) e) ∙ none)))
    (cases_Bool (is_of conn h))

pub unchanged : (change : Heard → Heard) (conn : ConnId) (heard : List Heard) → heard_of heard conn ≡ None → changed change conn heard ≡ heard
unchanged change conn heard none = unchanged-in change conn heard none

-- one more
pub one-more : (lines : List Line) (heard : List Heard) (line : Line) (h : Heard) → AreHeard lines heard → Hears line h → AreHeard (lines ++ line ∷ []) (heard ++ h ∷ [])
one-more [] [] line h all hears = (hears, tt)
one-more [] (x ∷ heard) line h all hears = absurd all
one-more (l ∷ lines) [] line h all hears = absurd all
one-more (l ∷ lines) (x ∷ heard) line h all hears = (all.0, one-more lines heard line h all.1 hears)

-- ---- one has the number

pub record IsAt (heard : List Heard) (conn : ConnId) (line : Line) : Type 0 where
  pub h : Heard
  pub there : heard_of heard conn ≡ Some h
  pub hears : Hears line h

module _ (conn : ConnId) (d : Line) where
  found-in : (lines : List Line) (heard : List Heard) (i : ℕ) → AreHeard lines heard → i < length lines → is_line conn (get_or lines i d) ≡ true
      → ((k : ℕ) → k < i → is_line conn (get_or lines k d) ≡ false) → IsAt heard conn (get_or lines i d)
  found-in [] heard i all within is before = absurd (omega arith)
  found-in (line ∷ lines) [] i all within is before = absurd all
  found-in (line ∷ lines) (h ∷ heard) zero all within is before = record {
    h = h;
    there = cond-true (is_of conn h) (Some h) (heard_of heard conn) (same-test conn line h all.0 ∙ is);
    hears = all.0;
  }
  found-in (line ∷ lines) (h ∷ heard) (suc i) all within is before =
      let rest = found-in lines heard i all.1 (omega arith) is (λ k below. before (suc k) (omega arith)) in
      record {
        h = rest.h;
        there = cond-false (is_of conn h) (Some h) (heard_of heard conn) (same-test conn line h all.0 ∙ before 0 (omega arith)) ∙ rest.there;
        hears = rest.hears;
      }

  changed-in : (change : Heard → Heard) (next : Line) (lines : List Line) (heard : List Heard) (i : ℕ) → AreHeard lines heard → i < length lines → is_line conn (get_or lines i d) ≡ true
      → ((k : ℕ) → k < i → is_line conn (get_or lines k d) ≡ false)
      → ((h : Heard) → Hears (get_or lines i d) h → Hears next (change h)) → AreHeard (set lines i next) (changed change conn heard)
  changed-in change next [] heard i all within is before hears = absurd (omega arith)
  changed-in change next (line ∷ lines) [] i all within is before hears = absurd all
  changed-in change next (line ∷ lines) (h ∷ heard) zero all within is before hears =
      let test : is_of conn h ≡ true = same-test conn line h all.0 ∙ is in
      subst (AreHeard (next ∷ lines)) (sym (cond-true (is_of conn h) (change h ∷ heard) (h ∷ changed change conn heard) test)) (hears h all.0, all.1)
  changed-in change next (line ∷ lines) (h ∷ heard) (suc i) all within is before hears =
      let test : is_of conn h ≡ false = same-test conn line h all.0 ∙ before 0 (omega arith) in
      subst (AreHeard (line ∷ set lines i next)) (sym (cond-false (is_of conn h) (change h ∷ heard) (h ∷ changed change conn heard) test))
      (all.0, changed-in change next lines heard i all.1 (omega arith) is (λ k below. before (suc k) (omega arith)) hears)

  module _ (lines : List Line) (heard : List Heard) (i : ℕ) (all : AreHeard lines heard) (found : position (is_line conn) lines ≡ Some i) where
    pub found-at : IsAt heard conn (get_or lines i d)
    found-at = let p = position-Some (is_line conn) lines i d found in found-in lines heard i all p.0 p.1 p.2

    pub changed-at : (change : Heard → Heard) (next : Line) → ((h : Heard) → Hears (get_or lines i d) h → Hears next (change h)) → AreHeard (set lines i next) (changed change conn heard)
    changed-at change next hears = let p = position-Some (is_line conn) lines i d found in changed-in change next lines heard i all p.0 p.1 p.2 hears

-- ---- some are dropped

module _ (conn : ConnId) (line : Line) (h : Heard) (lines kept : List Line) (heard left : List Heard) (hears : Hears line h) (all : AreHeard kept left) where
  filtered-next : (b c : Bool) → c ≡ b → AreHeard (cond (not b) (line ∷ kept) kept) (cond (not c) (h ∷ left) left)
  filtered-next true true e = all
  filtered-next true false e = absurd (false-true e)
  filtered-next false true e = absurd (false-true (sym e))
  filtered-next false false e = (hears, all)

pub filtered : (conn : ConnId) (lines : List Line) (heard : List Heard) → AreHeard lines heard → AreHeard (filter (λ line. not (is_line conn line)) lines) (filter (λ h. not (is_of conn h)) heard)
filtered conn [] [] all = tt
filtered conn [] (h ∷ heard) all = absurd all
filtered conn (line ∷ lines) [] all = absurd all
filtered conn (line ∷ lines) (h ∷ heard) all =
    filtered-next conn line h lines (filter (λ line. not (is_line conn line)) lines) heard (filter (λ h. not (is_of conn h)) heard) all.0 (filtered conn lines heard all.1)
    (is_line conn line) (is_of conn h) (same-test conn line h all.0)

pub possible-filtered : (conn : ConnId) (lines : List Line) → ArePossible lines → ArePossible (filter (λ line. not (is_line conn line)) lines)
possible-filtered conn [] all = tt
possible-filtered conn (line ∷ lines) all =
    let kept = filter (λ line. not (is_line conn line)) lines in
    let later : ArePossible kept = possible-filtered conn lines all.1 in
    cond_both (not (is_line conn line)) (line ∷ kept) kept ArePossible (λ e. (all.0, later)) (λ e. later)

-- ---- some are let in, or aren't any longer

module _ (conn : ConnId) (on : Bool) where
  hears-set : (line : Line) (h : Heard) → Hears line h → Hears (line_set conn on line) (set_one conn on h)
  hears-set line h hears = go (is_line conn line) (is_of conn h) (same-test conn line h hears)
    where
      go : (b c : Bool) → c ≡ b → Hears (cond b (record line { let_in = on }) line) (cond c (record h { let_in = on }) h)
      go true true e = record { same = hears.same; fed = hears.fed; rest = hears.rest; waiting = hears.waiting; let_in = refl }
      go true false e = absurd (false-true e)
      go false true e = absurd (false-true (sym e))
      go false false e = hears

  pub all-set : (lines : List Line) (heard : List Heard) → AreHeard lines heard → AreHeard (map (line_set conn on) lines) (set_in conn on heard)
  all-set [] [] all = tt
  all-set [] (h ∷ heard) all = absurd all
  all-set (line ∷ lines) [] all = absurd all
  all-set (line ∷ lines) (h ∷ heard) all = (hears-set line h all.0, all-set lines heard all.1)

  pub possible-set : (lines : List Line) → ArePossible lines → ArePossible (map (line_set conn on) lines)
  possible-set [] all = tt
  possible-set (line ∷ lines) all = (
    cond_both (is_line conn line) (record line { let_in = on }) line (λ (x : Line). AllByRecursion IsPossible x.waiting.items) (λ e. all.0) (λ e. all.0),
    possible-set lines all.1,
  )

-- one line after another
pub set-next : (f : Line → Line) (old : List Line) (i : ℕ) (d : Line) → i < length old → set (map f (take i old) ++ drop i old) i (f (get_or old i d)) ≡ map f (take (suc i) old) ++ drop (suc i) old
set-next f [] i d within = absurd (omega arith)
set-next f (x ∷ old) zero d within = refl
set-next f (x ∷ old) (suc i) d within = ap (λ l. f x ∷ l) (set-next f old i d (omega arith))

pub get-next : (f : Line → Line) (old : List Line) (i : ℕ) (d : Line) → get_or (map f (take i old) ++ drop i old) i d ≡ get_or old i d
get-next f [] zero d = refl
get-next f [] (suc i) d = refl
get-next f (x ∷ old) zero d = refl
get-next f (x ∷ old) (suc i) d = get-next f old i d

pub set-at : (f : Line → Line) (old now : List Line) (i : ℕ) (d next : Line) → i < length old → now ≡ map f (take i old) ++ drop i old → next ≡ f (get_or now i d)
    → set now i next ≡ map f (take (i + 1) old) ++ drop (i + 1) old
set-at f old now i d next within before is =
    let here : get_or now i d ≡ get_or old i d = ap (λ l. get_or l i d) before ∙ get-next f old i d in
    let more : suc i ≡ i + 1 = omega arith in
    ap (λ l. set l i next) before ∙ ap (λ x. set (map f (take i old) ++ drop i old) i x) (is ∙ ap f here) ∙ set-next f old i d within ∙ ap (λ n. map f (take n old) ++ drop n old) more

-- ---- effects are seen

pub seen-in : (asked : Option ConnId) (conn : ConnId) (packet : List ℕ) (effect : Effect) (old new : List Line) (heard : List Heard) → effect ≡ Sent conn packet
    → true ≡ (is_asked asked conn && is_reply packet) → new ≡ map (line_set conn true) old → AreHeard old heard → AreHeard new (seen_one asked effect heard)
seen-in asked conn packet effect old new heard is test set all =
    let now : seen_one asked effect heard ≡ set_in conn true heard =
    ap (λ e. seen_one asked e heard) is ∙ cond-true (is_asked asked conn && is_reply packet) (set_in conn true heard) heard (sym test) in
    subst (AreHeard new) (sym now) (subst (λ l. AreHeard l (set_in conn true heard)) (sym set) (all-set conn true old heard all))

pub seen-out : (asked : Option ConnId) (conn : ConnId) (reason : Reason) (fault at : ℕ) (effect : Effect) (old new : List Line) (heard : List Heard) → effect ≡ Closed conn reason fault at
    → new ≡ map (line_set conn false) old → AreHeard old heard → AreHeard new (seen_one asked effect heard)
seen-out asked conn reason fault at effect old new heard is set all =
    let now : seen_one asked effect heard ≡ set_in conn false heard = ap (λ e. seen_one asked e heard) is in
    subst (AreHeard new) (sym now) (subst (λ l. AreHeard l (set_in conn false heard)) (sym set) (all-set conn false old heard all))

-- ---- bytes arrive, and segments are handed out

module _ (conn : ConnId) (lines : List Line) (heard : List Heard) (all : AreHeard lines heard) where
  pub heard-new : (bytes : List ℕ) (line : Line) → position (is_line conn) lines ≡ None → Hears line (heard_more bytes (unheard conn))
      → AreHeard (lines ++ line ∷ []) (heard_by (heard_of heard conn) conn bytes heard)
  heard-new bytes line none hears =
      subst (λ o. AreHeard (lines ++ line ∷ []) (heard_by o conn bytes heard)) (sym (unfound conn lines heard all none))
      (one-more lines heard line (heard_more bytes (unheard conn)) all hears)

  module _ (i : ℕ) (line : Line) (at : line ≡ get_or lines i line) (found : position (is_line conn) lines ≡ Some i) where
    pub taken-there : (change : Heard → Heard) (next : Line) → ((h : Heard) → Hears line h → Hears next (change h)) → AreHeard (set lines i next) (changed change conn heard)
    taken-there change next hears = changed-at conn line lines heard i all found change next (λ h x. hears h (subst (λ l. Hears l h) (sym at) x))

    pub heard-there : (bytes : List ℕ) (next : Line) → ((h : Heard) → Hears line h → Hears next (heard_more bytes h))
        → AreHeard (set lines i next) (heard_by (heard_of heard conn) conn bytes heard)
    heard-there bytes next hears =
        subst (λ o. AreHeard (set lines i next) (heard_by o conn bytes heard)) (sym (found-at conn line lines heard i all found).there) (taken-there (heard_more bytes) next hears)

    pub first-there : (result : Option (Segment × Bool)) → ((h : Heard) → Hears line h → result ≡ first_of (Some h)) → result ≡ first_of (heard_of heard conn)
    first-there result first =
        let there = found-at conn line lines heard i all found in
        first there.h (subst (λ l. Hears l there.h) (sym at) there.hears) ∙ ap first_of (sym there.there)

pub taken-none : (conn : ConnId) (lines : List Line) (heard : List Heard) → AreHeard lines heard → position (is_line conn) lines ≡ None → AreHeard lines (changed first_taken conn heard)
taken-none conn lines heard all none = subst (AreHeard lines) (sym (unchanged first_taken conn heard (unfound conn lines heard all none))) all

pub first-none : (conn : ConnId) (lines : List Line) (heard : List Heard) → AreHeard lines heard → position (is_line conn) lines ≡ None → None ≡ first_of (heard_of heard conn)
first-none conn lines heard all none = ap first_of (sym (unfound conn lines heard all none))

-- ---- a number is free again

pub forget-stands : (now : Sifting) (numbers : List ℕ) (lines kept : List Line) (last after : Option ConnId) (s : Sieve) (conn : ConnId) → record { own = numbers; lines = lines; asked = last } ≡ now → StandsFor now s
    → kept ≡ filter (λ line. not (is_line conn line)) lines → after ≡ asked_still last conn → StandsFor (record { own = numbers; lines = kept; asked = after }) (forget s conn)
forget-stands now numbers lines kept last after s conn view stands dropped still =
    let was : StandsFor (record { own = numbers; lines = lines; asked = last }) s = subst (λ v. StandsFor v s) (sym view) stands in
    record {
      own = was.own;
      lines = subst (λ l. AreHeard l (filter (λ h. not (is_of conn h)) s.heard)) (sym dropped) (filtered conn lines s.heard was.lines);
      asked = still ∙ ap (λ a. asked_still a conn) was.asked;
    }

-- ---- how many segments wait

pub left-set : (conn : ConnId) (on : Bool) (lines : List Line) → left_in (map (line_set conn on) lines) ≡ left_in lines
left-set conn on [] = refl
left-set conn on (line ∷ lines) =
    ap (λ n. n + left_in (map (line_set conn on) lines))
    (cond_both (is_line conn line) (record line { let_in = on }) line (λ (x : Line). length x.waiting.items ≡ length line.waiting.items) (λ e. refl) (λ e. refl))
    ∙ ap (λ n. length line.waiting.items + n) (left-set conn on lines)

left-at : (lines : List Line) (i : ℕ) (d next : Line) → i < length lines → left_in (set lines i next) + length (get_or lines i d).waiting.items ≡ left_in lines + length next.waiting.items
left-at [] i d next within = absurd (omega arith)
left-at (line ∷ lines) zero d next within = omega arith
left-at (line ∷ lines) (suc i) d next within = let h = left-at lines i d next (omega arith) in omega (arith, h)

pub fewer-there : (conn : ConnId) (lines : List Line) (i : ℕ) (line next : Line) (result : Option (Segment × Bool)) → line ≡ get_or lines i line → position (is_line conn) lines ≡ Some i
    → IfSome result (λ _. length next.waiting.items < length line.waiting.items) → IfSome result (λ _. left_in (set lines i next) < left_in lines)
fewer-there conn lines i line next None at found less = tt
fewer-there conn lines i line next (Some first) at found less =
    let h = left-at lines i line next (position-Some (is_line conn) lines i line found).0 in
    let same : length line.waiting.items ≡ length (get_or lines i line).waiting.items = ap (λ (l : Line). length l.waiting.items) at in
    omega (arith, h, same, less)
