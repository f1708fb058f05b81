-- Fields have one spelling for each value.
use Rattle.std.proofs.Common.{◌≡◌, ℕ, ◌+◌, ◌^◌, ◌<◌, ◌≤◌, ltb, Bool, true, false, List, [], ◌∷◌, ◌++◌, length, get_or, take, drop, refl, sym, ap, subst, ◌∙◌, inl, inr, arith, append_assoc, length-append, length-take, add-zero}
use Rattle.std.specs.Int.{Width, w32, w64, byte_len, to_be_bytes, from_be_bytes}
use Rattle.std.proofs.lemmas.Bool.{ltb-false, le-ltb, cases_lt}
use Rattle.std.proofs.lemmas.List.{take-append-drop, take_at, drop_at, get_or-drop, get_or-take, get_or_past, append-nil}
use Rattle.std.proofs.lemmas.Nat.{be_bytes_4, be_bytes_8, from_be_bytes-to_be_bytes_4, from_be_bytes-to_be_bytes_8}
use Rattle.px_session.specs.declared.form.Form.{Form}
use Rattle.px_session.specs.declared.form.Form.TheVariants.{One, Two}
use Rattle.px_session.specs.Form.{width, IsCount}
use Rattle.px_session.specs.Place.{Place, Reading, past, limit, available, short_at, bytes_at, done, go_on, and_then}
use Rattle.px_session.specs.Field.{byte_at, number_at, word_at, count_at, broken_at, checked, ruled}
use Rattle.px_session.specs.Spelling.{word, count}
use Rattle.px_session.specs.Law.{AreBytes, Stands, behind, IsLaw}
use Rattle.px_session.proofs.Steps.{go_on_ok, test_ok, guard_ok}
use Rattle.px_session.proofs.Steady.{answer, ok_is}

-- ---- bytes

pub AreBytes-drop : (n : ℕ) (bytes : List ℕ) → AreBytes bytes → AreBytes (drop n bytes)
AreBytes-drop n bytes h i = rw get_or-drop (h (n + i))

pub AreBytes-take : (n : ℕ) (bytes : List ℕ) → AreBytes bytes → AreBytes (take n bytes)
AreBytes-take n bytes h i =
    elim (cases_lt i n) [
      | inl lt ↦ rw (get_or-take n bytes i 0 lt) (h i)
      | inr le ↦ rw (get_or_past (take n bytes) i 0 (omega (arith, length-take n bytes))) (omega arith)
    ]

pub place_is : (a b : ℕ) (x y : List ℕ) → a ≡ b → x ≡ y → (let p : Place = record { at = a; rest = x } in p) ≡ record { at = b; rest = y }
place_is a b x y p q = ap (λ (n : ℕ). record { at = n; rest = x }) p ∙ ap (λ (r : List ℕ). record { at = b; rest = r }) q

pub Stands-nothing : (place : Place) → AreBytes place.rest → Stands [] place place
Stands-nothing place h = record { joined = refl; at = sym (add-zero place.at); are_bytes = h }

pub Stands-then : (x y : List ℕ) (a b c : Place) → Stands x a b → Stands y b c → Stands (x ++ y) a c
Stands-then x y a b c p q = record {
  joined = p.joined ∙ ap (λ (t : List ℕ). x ++ t) q.joined ∙ sym (append_assoc x y c.rest);
  at = omega (arith, p.at, q.at, length-append x y);
  are_bytes = q.are_bytes;
}

-- ---- how laws are made

-- the value is this one, and has no bytes
abbrev pub Nothing : {A : Type 0} → A → A → List ℕ → Type 0
Nothing x value bytes = (value ≡ x) × (bytes ≡ [])

pub done_law : {A : Type 0} (x : A) → IsLaw (done x) (Nothing x)
done_law x = record {
  found = λ place y h e. (
      let same = ok_is (x, place) y e in
      ([], (sym (ap (λ z. z.0) same), refl), subst (λ (after : Place). Stands [] place after) (ap (λ z. z.1) same) (Stands-nothing place h)));
  again = λ value bytes at rest s fits.
      rw (s.0, s.1) (ap (λ (n : ℕ). answer (x, record { at = n; rest = rest })) (sym (add-zero at)));
}

-- the one spelling, and behind it the next
pub record InTurn {A B : Type 0} (First : A → List ℕ → Type 0) (Next : A → B → List ℕ → Type 0) (value : B) (bytes : List ℕ) : Type 0 where
  pub front : A
  pub front_bytes : List ℕ
  pub back_bytes : List ℕ
  pub first : First front front_bytes
  pub next : Next front value back_bytes
  pub joined : bytes ≡ front_bytes ++ back_bytes

pub then_law : {A B : Type 0} {First : A → List ℕ → Type 0} {Next : A → B → List ℕ → Type 0} (first : Reading A) (next : A → Reading B) → IsLaw first First → ((x : A) → IsLaw (next x) (Next x)) → IsLaw (and_then first next) (InTurn First Next)
unfolding and_then
then_law {A} {B} {First} {Next} first next hf hn = record {
  found = λ place y h e. (
      let s = go_on_ok (first place) next y e in
      let a = hf.found place s.0 h s.1 in
      let b = (hn s.0.0).found s.0.1 y a.2.are_bytes s.2 in
      (a.0 ++ b.0, record { front = s.0.0; front_bytes = a.0; back_bytes = b.0; first = a.1; next = b.1; joined = refl }, Stands-then a.0 b.0 place s.0.1 y.1 a.2 b.2));
  again = λ value bytes at rest s fits. (
      let x = s.front_bytes in
      let y = s.back_bytes in
      let long : length bytes ≡ length x + length y = ap (length {A = ℕ}) s.joined ∙ length-append x y in
      let regrouped : bytes ++ rest ≡ x ++ (y ++ rest) = ap (λ (t : List ℕ). t ++ rest) s.joined ∙ append_assoc x y rest in
      let one : first (record { at = at; rest = x ++ (y ++ rest) }) ≡ answer (s.front, behind at x (y ++ rest)) = hf.again s.front x at (y ++ rest) s.first (omega (arith, long)) in
      let two : next s.front (behind at x (y ++ rest)) ≡ answer (value, behind (at + length x) y rest) = (hn s.front).again value y (at + length x) rest s.next (omega (arith, long)) in
      let whole : go_on (first (record { at = at; rest = x ++ (y ++ rest) })) next ≡ answer (value, behind (at + length x) y rest) = rw one two in
      ap (λ (t : List ℕ). go_on (first (record { at = at; rest = t })) next) regrouped
      ∙ whole
      ∙ ap (λ (n : ℕ). answer (value, record { at = n; rest = rest })) (omega (arith, long)));
}

abbrev pub Under : {A : Type 0} → (A → Bool) → (A → List ℕ → Type 0) → A → List ℕ → Type 0
Under rule Spells value bytes = Spells value bytes × (rule value ≡ true)

pub ruled_law : {A : Type 0} {Spells : A → List ℕ → Type 0} (rule : A → Bool) (read : Reading A) → IsLaw read Spells → IsLaw (ruled rule read) (Under rule Spells)
unfolding ruled
ruled_law {A} {Spells} rule read h = record {
  found = λ place y fits e. (
      let s = go_on_ok (read place) (checked rule place) y e in
      let t = test_ok (rule s.0.0) (broken_at place) (s.0.0, s.0.1) y s.2 in
      let a = h.found place s.0 fits s.1 in
      subst (λ (z : A × Place). (bytes : List ℕ) × Under rule Spells z.0 bytes × Stands bytes place z.1) t.1 (a.0, (a.1, t.0), a.2));
  again = λ value bytes at rest s fits.
      rw (h.again value bytes at rest s.0 fits, s.1) refl;
}

-- a law in other words
pub law_as : {A : Type 0} {Spells Other : A → List ℕ → Type 0} (read : Reading A) → ((value : A) (bytes : List ℕ) → Spells value bytes → Other value bytes) → ((value : A) (bytes : List ℕ) → Other value bytes → Spells value bytes) → IsLaw read Spells → IsLaw read Other
law_as read to from h = record {
  found = λ place y fits e. (let a = h.found place y fits e in (a.0, to y.0 a.0 a.1, a.2));
  again = λ value bytes at rest s fits. h.again value bytes at rest (from value bytes s) fits;
}

-- ---- bytes, a byte, a number

abbrev pub Raw : ℕ → List ℕ → List ℕ → Type 0
Raw n value bytes = (length value ≡ n) × (bytes ≡ value)

pub bytes_law : (n : ℕ) → IsLaw (bytes_at n) (Raw n)
unfolding bytes_at
bytes_law n = record {
  found = λ place y h e. (
      let g = guard_ok (ltb (available place) n) (short_at place) (answer (take n place.rest, past n place)) y e in
      let there : n ≤ available place = ltb-false _ _ g.0 in
      let size : length (take n place.rest) ≡ n = omega (arith, length-take n place.rest) in
      let stands : Stands (take n place.rest) place (past n place) = record { joined = sym (take-append-drop n place.rest); at = omega (arith, size); are_bytes = AreBytes-drop n place.rest h } in
      subst (λ (z : List ℕ × Place). (bytes : List ℕ) × Raw n z.0 bytes × Stands bytes place z.1) (ok_is (take n place.rest, past n place) y g.1) (take n place.rest, (size, refl), stands));
  again = λ value bytes at rest s fits. (
      let start : Place = record { at = at; rest = value ++ rest } in
      let size : length value ≡ n = s.0 in
      let fit : at + length value ≤ limit = subst (λ (b : List ℕ). at + length b ≤ limit) s.1 fits in
      let there : ltb (available start) n ≡ false = le-ltb _ _ (omega (arith, length-append value rest)) in
      rw (s.1) (rw (there, take_at value rest n size, drop_at value rest n size) (ap (λ (k : ℕ). answer (value, record { at = at + k; rest = rest })) (sym size))));
}

abbrev pub Byte : ℕ → List ℕ → Type 0
Byte value bytes = (value < 256) × (bytes ≡ value ∷ [])

one_byte : (value : ℕ) (bytes : List ℕ) → InTurn (Raw 1) (λ b. Nothing (get_or b 0 0)) value bytes → (bytes ≡ value ∷ [])
one_byte value bytes s = s.joined ∙ ap (λ (b : List ℕ). s.front_bytes ++ b) s.next.1 ∙ append-nil s.front_bytes ∙ s.first.1 ∙ single s.front s.first.0 ∙ ap (λ (v : ℕ). v ∷ []) (sym s.next.0)
  where
    single : (b : List ℕ) → length b ≡ 1 → b ≡ get_or b 0 0 ∷ []
    single [] e = absurd cc
    single (x ∷ []) e = refl
    single (x ∷ y ∷ b) e = absurd (omega (arith, e))

pub byte_law : IsLaw byte_at Byte
unfolding byte_at
byte_law =
    let raw = then_law (bytes_at 1) (λ bytes. done (get_or bytes 0 0)) (bytes_law 1) (λ bytes. done_law (get_or bytes 0 0)) in
    record {
      found = λ place y h e. (
          let a = raw.found place y h e in
          let is = one_byte y.0 a.0 a.1 in
          let there : y.0 ≡ get_or place.rest 0 0 = sym (ap (λ (b : List ℕ). get_or b 0 0) (a.2.joined ∙ ap (λ (b : List ℕ). b ++ y.1.rest) is)) in
          (a.0, (subst (λ (n : ℕ). n < 256) (sym there) (h 0), is), a.2));
      again = λ value bytes at rest s fits.
          raw.again value bytes at rest (record { front = value ∷ []; front_bytes = value ∷ []; back_bytes = []; first = (refl, refl); next = (refl, refl); joined = s.1 }) fits;
    }

-- numbers of a width: which ones fit, and that their bytes and they are the same thing
pub record IsWide (w : Width) (Fits : ℕ → Type 0) : Type 0 where
  pub size : (n : ℕ) → length (to_be_bytes w n) ≡ byte_len w
  pub back : (bytes : List ℕ) → length bytes ≡ byte_len w → AreBytes bytes → to_be_bytes w (from_be_bytes w bytes) ≡ bytes
  pub again : (n : ℕ) → Fits n → from_be_bytes w (to_be_bytes w n) ≡ n
  pub fits : (bytes : List ℕ) → AreBytes bytes → Fits (from_be_bytes w bytes)

wide32 : IsWide w32 (λ n. n < 2 ^ 32)
wide32 = record {
  size = λ n. refl;
  back = λ bytes long fits. be_bytes_4 bytes _ long fits refl;
  again = λ n lt. from_be_bytes-to_be_bytes_4 n lt;
  fits = λ bytes fits. omega (arith, fits 0, fits 1, fits 2, fits 3);
}

wide64 : IsWide w64 (λ n. n < 2 ^ 64)
wide64 = record {
  size = λ n. refl;
  back = λ bytes long fits. be_bytes_8 bytes _ long fits refl;
  again = λ n lt. from_be_bytes-to_be_bytes_8 n lt;
  fits = λ bytes fits. omega (arith, fits 0, fits 1, fits 2, fits 3, fits 4, fits 5, fits 6, fits 7);
}

wide : (form : Form) → IsWide (width form) (IsCount form)
wide One = wide32
wide Two = wide64

AreBytes-front : (x y rest : List ℕ) → rest ≡ x ++ y → AreBytes rest → AreBytes x
AreBytes-front x y rest joined h =
    let front : take (length x) rest ≡ x = ap (take (length x)) joined ∙ take_at x y (length x) refl in
    subst AreBytes front (AreBytes-take (length x) rest h)

abbrev pub Number : Width → (ℕ → Type 0) → ℕ → List ℕ → Type 0
Number w Fits value bytes = Fits value × (bytes ≡ to_be_bytes w value)

module _ (w : Width) (Fits : ℕ → Type 0) (is : IsWide w Fits) where
  number_bytes : (value : ℕ) (bytes : List ℕ) → InTurn (Raw (byte_len w)) (λ b. Nothing (from_be_bytes w b)) value bytes → (length bytes ≡ byte_len w) × (value ≡ from_be_bytes w bytes)
  number_bytes value bytes s =
      let same : bytes ≡ s.front = s.joined ∙ ap (λ (b : List ℕ). s.front_bytes ++ b) s.next.1 ∙ append-nil s.front_bytes ∙ s.first.1 in
      (ap (length {A = ℕ}) same ∙ s.first.0, s.next.0 ∙ ap (from_be_bytes w) (sym same))

  number_law : IsLaw (number_at w) (Number w Fits)
  unfolding number_at
  number_law =
      let raw = then_law (bytes_at (byte_len w)) (λ bytes. done (from_be_bytes w bytes)) (bytes_law (byte_len w)) (λ bytes. done_law (from_be_bytes w bytes)) in
      record {
        found = λ place y h e. (
            let a = raw.found place y h e in
            let b = number_bytes y.0 a.0 a.1 in
            let fits = AreBytes-front a.0 y.1.rest place.rest a.2.joined h in
            (a.0, (subst Fits (sym b.1) (is.fits a.0 fits), sym (ap (to_be_bytes w) b.1 ∙ is.back a.0 b.0 fits)), a.2));
        again = λ value bytes at rest s fits.
            raw.again value bytes at rest (record { front = to_be_bytes w value; front_bytes = to_be_bytes w value; back_bytes = []; first = (is.size value, refl); next = (sym (is.again value s.0), refl); joined = s.1 ∙ sym (append-nil (to_be_bytes w value)) }) fits;
      }

abbrev pub Word : ℕ → List ℕ → Type 0
Word value bytes = (value < 2 ^ 32) × (bytes ≡ word value)

pub word_law : IsLaw word_at Word
word_law = number_law w32 (λ n. n < 2 ^ 32) wide32

abbrev pub Count : Form → ℕ → List ℕ → Type 0
Count form value bytes = IsCount form value × (bytes ≡ count form value)

pub count_law : (form : Form) → IsLaw (count_at form) (Count form)
count_law form = number_law (width form) (IsCount form) (wide form)
