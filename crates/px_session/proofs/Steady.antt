-- What is read, and what is refused for another cause than an early end, stays so whatever follows the bytes.
use Rattle.std.proofs.Common.{◌≡◌, ℕ, ◌+◌, ◌-◌, ◌<◌, ◌≤◌, ltb, leb, Bool, true, false, cond, List, ◌++◌, length, take, drop, Result, Ok, Err, refl, sym, ap, subst, ◌∙◌, ◌⊎◌, inl, inr, arith, length-append, length-drop, add-zero, add_assoc}
use Rattle.std.proofs.lemmas.Bool.{ltb-false, ltb-true, le-ltb, lt-ltb, leb-true, leb-false, le-leb}
use Rattle.std.proofs.lemmas.List.{take-append-le, drop-append-le, drop-drop}
use Rattle.px_session.specs.declared.fault.Cause.{Cause}
use Rattle.px_session.specs.declared.fault.Cause.TheVariants as cause
use Rattle.px_session.specs.Place.{Place, Reading, Refusal, past, limit, available, short_at, bytes_at, done, go_on, and_then}
use Rattle.px_session.proofs.Steps.{go_on_ok, go_on_err, guard_ok, guard_err}

-- the place with more bytes behind it
abbrev pub more : Place → List ℕ → Place
more place behind = record { at = place.at; rest = place.rest ++ behind }

abbrev pub end_of : Place → ℕ
end_of place = place.at + length place.rest

-- the place is some bytes behind the other
pub record IsBehind (place after : Place) : Type 0 where
  pub count : ℕ
  pub fit : count ≤ length place.rest
  pub is : after ≡ past count place

abbrev pub IsEarlyEnd : Refusal → Type 0
IsEarlyEnd f = f.cause ≡ cause.Truncated

abbrev pub IsEndless : Refusal → Type 0
IsEndless f = f.cause ≡ cause.Endless

-- closed are the values that stay so whatever follows
pub record IsSteady {A : Type 0} (closed : A → Type 0) (read : Reading A) : Type 0 where
  pub ok : (place : Place) (x : A × Place) (behind : List ℕ) → read place ≡ Ok x → closed x.0 → read (more place behind) ≡ Ok (x.0, more x.1 behind)
  pub final : (place : Place) (f : Refusal) (behind : List ℕ) → read place ≡ Err f → (IsEarlyEnd f → ⊥) → read (more place behind) ≡ Err f
  pub stays_behind : (place : Place) (x : A × Place) → read place ≡ Ok x → IsBehind place x.1
  pub short : (place : Place) (f : Refusal) → read place ≡ Err f → IsEarlyEnd f → (f.at ≡ end_of place) × (f.at < limit)
  pub endless : (place : Place) (f : Refusal) → read place ≡ Err f → IsEndless f → (f.at ≡ limit) × (limit ≤ end_of place)

abbrev pub any : {A : Type 0} → A → Type 0
any x = Unit {0}

-- ---- places

pub behind_self : (place : Place) → IsBehind place place
behind_self place = record { count = 0; fit = omega arith; is = ap (λ (n : ℕ). record { at = n; rest = place.rest }) (sym (add-zero place.at)) }

behind_twice : (a b c : Place) → IsBehind a b → IsBehind b c → IsBehind a c
behind_twice a b c p q =
    let n = p.count in
    let m = q.count in
    let rest : b.rest ≡ drop n a.rest = ap (λ (z : Place). z.rest) p.is in
    let fit : m ≤ length a.rest - n = omega (arith, q.fit, ap (length {A = ℕ}) rest, length-drop n a.rest) in
    let twice : past m (past n a) ≡ past (n + m) a =
    ap (λ (k : ℕ). record { at = k; rest = drop m (drop n a.rest) }) (add_assoc a.at n m)
    ∙ ap (λ (r : List ℕ). record { at = a.at + (n + m); rest = r }) (drop-drop m n a.rest) in
    record { count = n + m; fit = omega (arith, p.fit); is = q.is ∙ ap (past m) p.is ∙ twice }

pub behind_end : (place after : Place) → IsBehind place after → end_of after ≡ end_of place
behind_end place after b =
    let n = b.count in
    let same : end_of (past n place) ≡ end_of place = omega (arith, length-drop n place.rest, b.fit) in
    ap end_of b.is ∙ same

-- what is left is what stands behind as many bytes as are missing
pub behind_rest : (place after : Place) → IsBehind place after → drop (length place.rest - length after.rest) place.rest ≡ after.rest
behind_rest place after b =
    let same : after.rest ≡ drop b.count place.rest = ap (λ (z : Place). z.rest) b.is in
    let count : length place.rest - length after.rest ≡ b.count = omega (arith, ap (length {A = ℕ}) same, length-drop b.count place.rest, b.fit) in
    ap (λ (n : ℕ). drop n place.rest) count ∙ sym same

pub behind_fewer : (place after : Place) → IsBehind place after → length after.rest ≤ length place.rest
behind_fewer place after b = omega (arith, ap (length {A = ℕ}) (ap (λ (z : Place). z.rest) b.is), length-drop b.count place.rest)

-- ---- steps

abbrev pub answer : {A : Type 0} → A × Place → Result (A × Place) Refusal
answer x = Ok x

pub ok_is : {A : Type 0} (x y : A × Place) → answer x ≡ answer y → x ≡ y
ok_is x y e = cc

abbrev pub refused : {A : Type 0} → Refusal → Result (A × Place) Refusal
refused f = Err f

pub err_is : {A : Type 0} (f h : Refusal) → refused {A = A} f ≡ refused h → f ≡ h
err_is f h e = cc

pub done_steady : {A : Type 0} (closed : A → Type 0) (x : A) → IsSteady closed (done x)
done_steady closed x = record {
  ok = λ place y behind e c. ap (λ z. answer (z.0, more z.1 behind)) (ok_is (x, place) y e);
  final = λ place f behind e late. absurd cc;
  stays_behind = λ place y e. subst (λ (z : Place). IsBehind place z) (ap (λ z. z.1) (ok_is (x, place) y e)) (behind_self place);
  short = λ place f e early. absurd cc;
  endless = λ place f e goes. absurd cc;
}

-- a refusal for another cause
pub refuse_steady : {A : Type 0} (closed : A → Type 0) (f : Refusal) → (IsEarlyEnd f → ⊥) → (IsEndless f → ⊥) → IsSteady closed (λ place. refused {A = A} f)
refuse_steady closed f other finite = record {
  ok = λ place y behind e c. absurd cc;
  final = λ place h behind e late. e;
  stays_behind = λ place y e. absurd cc;
  short = λ place h e early. absurd (other (ap (λ r. r.cause) (err_is f h e) ∙ early));
  endless = λ place h e goes. absurd (finite (ap (λ r. r.cause) (err_is f h e) ∙ goes));
}

pub choice_steady : {A : Type 0} (closed : A → Type 0) (b : Bool) (x y : Reading A) → IsSteady closed x → IsSteady closed y → IsSteady closed (λ place. cond b (x place) (y place))
choice_steady closed true x y hx hy = hx
choice_steady closed false x y hx hy = hy

-- two readings in a row, the second of which may know the offset where the first began
pub go_on_steady : {A B : Type 0} (closed : B → Type 0) (first : Reading A) (next : Place → A → Reading B) → IsSteady any first → ((place : Place) (x : A) → IsSteady closed (next place x)) → ((place : Place) (behind : List ℕ) (x : A) (after : Place) → next (more place behind) x after ≡ next place x after)
    → IsSteady closed (λ place. go_on (first place) (next place))
go_on_steady {A} {B} closed first next hf hn same = record {
  ok = λ place y behind e c.
      (let s = go_on_ok (first place) (next place) y e in
      let h = hf.ok place s.0 behind s.1 tt in
      rw h (same place behind s.0.0 (more s.0.1 behind) ∙ (hn place s.0.0).ok s.0.1 y behind s.2 c));
  final = λ place f behind e late.
      (elim (go_on_err (first place) (next place) f e) [
        | inl h ↦ rw (hf.final place f behind h late) refl
        | inr s ↦ rw (hf.ok place s.0 behind s.1 tt) (same place behind s.0.0 (more s.0.1 behind) ∙ (hn place s.0.0).final s.0.1 f behind s.2 late)
      ]);
  stays_behind = λ place y e.
      (let s = go_on_ok (first place) (next place) y e in
      behind_twice place s.0.1 y.1 (hf.stays_behind place s.0 s.1) ((hn place s.0.0).stays_behind s.0.1 y s.2));
  short = λ place f e early.
      (elim (go_on_err (first place) (next place) f e) [
        | inl h ↦ hf.short place f h early
        | inr s ↦ (let r = (hn place s.0.0).short s.0.1 f s.2 early in (r.0 ∙ behind_end place s.0.1 (hf.stays_behind place s.0 s.1), r.1))
      ]);
  endless = λ place f e goes.
      (elim (go_on_err (first place) (next place) f e) [
        | inl h ↦ hf.endless place f h goes
        | inr s ↦ (let r = (hn place s.0.0).endless s.0.1 f s.2 goes in let same = behind_end place s.0.1 (hf.stays_behind place s.0 s.1) in (r.0, omega (arith, r.1, same)))
      ]);
}

pub then_steady : {A B : Type 0} (closed : B → Type 0) (first : Reading A) (next : A → Reading B) → IsSteady any first → ((x : A) → IsSteady closed (next x)) → IsSteady closed (and_then first next)
unfolding and_then
then_steady closed first next hf hn = go_on_steady closed first (λ place x. next x) hf (λ place x. hn x) (λ place behind x after. refl)

-- what is read, in other words
pub as_steady : {A B : Type 0} (closed : B → Type 0) (mark : A → B) (read : Reading A) → IsSteady (λ x. closed (mark x)) read → IsSteady closed (and_then read (λ x. done (mark x)))
unfolding and_then
as_steady {A} {B} closed mark read h = record {
  ok = λ place y behind e c.
      (let s = go_on_ok (read place) (λ x. done (mark x)) y e in
      let same = ok_is (mark s.0.0, s.0.1) y s.2 in
      let there = h.ok place s.0 behind s.1 (subst closed (sym (ap (λ (z : B × Place). z.0) same)) c) in
      rw there (ap (λ (z : B × Place). answer (z.0, more z.1 behind)) same));
  final = λ place f behind e late. rw (h.final place f behind (err_first place f e) late) refl;
  stays_behind = λ place y e.
      (let s = go_on_ok (read place) (λ x. done (mark x)) y e in
      subst (λ (z : Place). IsBehind place z) (ap (λ (z : B × Place). z.1) (ok_is (mark s.0.0, s.0.1) y s.2)) (h.stays_behind place s.0 s.1));
  short = λ place f e early. h.short place f (err_first place f e) early;
  endless = λ place f e goes. h.endless place f (err_first place f e) goes;
}
  where
    no_ok : (x : B × Place) (f : Refusal) → answer x ≡ refused f → ⊥
    no_ok x f e = cc

    err_first : (place : Place) (f : Refusal) → go_on (read place) (λ x. done (mark x)) ≡ Err f → read place ≡ Err f
    err_first place f e =
        elim (go_on_err (read place) (λ x. done (mark x)) f e) [
          | inl first ↦ first
          | inr s ↦ absurd (no_ok (mark s.0.0, s.0.1) f s.2)
        ]

-- ---- bytes

abbrev refusal_of : ℕ → Cause → Refusal
refusal_of at cause = record { at = at; cause = cause }

short_by : (b : Bool) (end : ℕ) → (b ≡ true → limit ≤ end) → (b ≡ false → end < limit)
    → ((limit ≤ end) × (cond b (refusal_of limit cause.Endless) (refusal_of end cause.Truncated) ≡ refusal_of limit cause.Endless)) ⊎ ((end < limit) × (cond b (refusal_of limit cause.Endless) (refusal_of end cause.Truncated) ≡ refusal_of end cause.Truncated))
short_by true end h l = inl (h refl, refl)
short_by false end h l = inr (l refl, refl)

ok_no_err : {A : Type 0} (x : A × Place) (f : Refusal) → answer x ≡ refused f → ⊥
ok_no_err x f e = cc

early_no_endless : cause.Truncated ≡ cause.Endless → ⊥
early_no_endless e = cc

endless_no_early : cause.Endless ≡ cause.Truncated → ⊥
endless_no_early e = cc

short_cases : (place : Place) → ((limit ≤ end_of place) × (short_at place ≡ refusal_of limit cause.Endless)) ⊎ ((end_of place < limit) × (short_at place ≡ refusal_of (end_of place) cause.Truncated))
short_cases place = short_by (leb limit (end_of place)) (end_of place) (λ e. leb-true limit (end_of place) e) (λ e. leb-false limit (end_of place) e)

pub bytes_steady : (n : ℕ) → IsSteady any (bytes_at n)
unfolding bytes_at
bytes_steady n = record {
  ok = λ place x behind e c.
      (let g = guard_ok (ltb (available place) n) (short_at place) (answer (take n place.rest, past n place)) x e in
      let there : n ≤ available place = ltb-false _ _ g.0 in
      let fits : n ≤ length place.rest = omega arith in
      let still : ltb (available (more place behind)) n ≡ false = le-ltb _ _ (omega (arith, length-append place.rest behind)) in
      let now : answer (take n (place.rest ++ behind), past n (more place behind)) ≡ answer (take n place.rest, more (past n place) behind) = rw (take-append-le n place.rest behind fits, drop-append-le n place.rest behind fits) refl in
      rw still (now ∙ ap (λ (z : List ℕ × Place). answer (z.0, more z.1 behind)) (ok_is (take n place.rest, past n place) x g.1)));
  final = λ place f behind e late.
      (elim (guard_err (ltb (available place) n) (short_at place) (answer (take n place.rest, past n place)) f e) [
        | inl g ↦ (elim (short_cases place) [
          | inl s ↦ (let lacks : available place < n = ltb-true _ _ g.0 in
              let beyond : limit ≤ end_of (more place behind) = omega (arith, s.0, length-append place.rest behind) in
              let still : ltb (available (more place behind)) n ≡ true = lt-ltb _ _ (omega (arith, s.0, length-append place.rest behind)) in
              rw (still, le-leb limit (end_of (more place behind)) beyond) (ap (λ (h : Refusal). refused h) (sym s.1 ∙ g.1)))
          | inr s ↦ absurd (late (ap (λ (h : Refusal). h.cause) (sym g.1 ∙ s.1)))
        ])
        | inr g ↦ absurd (ok_no_err _ f g.1)
      ]);
  stays_behind = λ place x e.
      (let g = guard_ok (ltb (available place) n) (short_at place) (answer (take n place.rest, past n place)) x e in
      let there : n ≤ available place = ltb-false _ _ g.0 in
      subst (λ (z : Place). IsBehind place z) (ap (λ (z : List ℕ × Place). z.1) (ok_is (take n place.rest, past n place) x g.1)) (record { count = n; fit = omega (arith, there); is = refl }));
  short = λ place f e early.
      (elim (guard_err (ltb (available place) n) (short_at place) (answer (take n place.rest, past n place)) f e) [
        | inl g ↦ (elim (short_cases place) [
          | inl s ↦ absurd (endless_no_early (sym (ap (λ (h : Refusal). h.cause) (sym g.1 ∙ s.1)) ∙ early))
          | inr s ↦ (let at : f.at ≡ end_of place = ap (λ (h : Refusal). h.at) (sym g.1 ∙ s.1) in (at, omega (arith, at, s.0)))
        ])
        | inr g ↦ absurd (ok_no_err _ f g.1)
      ]);
  endless = λ place f e goes.
      (elim (guard_err (ltb (available place) n) (short_at place) (answer (take n place.rest, past n place)) f e) [
        | inl g ↦ (elim (short_cases place) [
          | inl s ↦ (ap (λ (h : Refusal). h.at) (sym g.1 ∙ s.1), s.0)
          | inr s ↦ absurd (early_no_endless (sym (ap (λ (h : Refusal). h.cause) (sym g.1 ∙ s.1)) ∙ goes))
        ])
        | inr g ↦ absurd (ok_no_err _ f g.1)
      ]);
}
