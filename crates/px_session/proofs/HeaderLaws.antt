-- A header has one spelling.
use Rattle.std.proofs.Common.{◌≡◌, ℕ, ◌<◌, Bool, true, false, cond, List, [], ◌∷◌, ◌++◌, length, Option, Some, None, find, Ok, refl, sym, ap, subst, ◌∙◌, ◌⊎◌, inl, inr, arith, nat_le}
use Rattle.std.specs.Prelude.{◌&&◌, ◌==◌}
use Rattle.std.specs.List.{AllByRecursion}
use Rattle.std.proofs.lemmas.Bool.{leb-true, le-leb, eqb-true}
use Rattle.std.proofs.lemmas.List.{append-nil}
use Rattle.px_sample.specs.declared.format.Format.{Format}
use Rattle.px_sample.specs.declared.format.Format.TheVariants.{U8, Alaw, Ulaw, S16Le, S16Be, Float32Le, Float32Be, S32Le, S32Be, S24Le, S24Be, S24In32Le, S24In32Be}
use Rattle.px_sample.specs.declared.spec.Spec.{Spec}
use Rattle.px_sample.specs.Format.{code_of, IsLinear}
use Rattle.px_header.specs.declared.header.SinkSpec.{SinkSpec}
use Rattle.px_session.specs.declared.form.Form.{Form}
use Rattle.px_session.specs.declared.form.Form.TheVariants.{One, Two}
use Rattle.px_session.specs.Form.{letter}
use Rattle.px_session.specs.Place.{Place, Reading, bytes_at}
use Rattle.px_session.specs.Field.{byte_at, word_at, ruled}
use Rattle.px_header.specs.HeaderRules.{is_from_to, is_name, is_new, formats, format_of, IsFromTo}
use Rattle.px_session.specs.HeaderReading.{no_magic, compared, letter_at, form_of, formed, last_at, letters_at, magic_at, name_at, known, format_at, spec_at}
use Rattle.px_session.specs.Spelling.{word, magic}
use Rattle.px_session.specs.Law.{Stands, IsLaw}
use Rattle.px_session.proofs.Steps.{go_on_ok, test_ok}
use Rattle.px_session.proofs.Steady.{ok_is}
use Rattle.px_session.proofs.FieldLaws.{done_law, then_law, ruled_law, law_as, bytes_law, byte_law, word_law}

-- ---- tests

pub both_true : (a b : Bool) → (a && b) ≡ true → (a ≡ true) × (b ≡ true)
both_true true b e = (refl, e)
both_true false b e = absurd cc

pub and_true : (a b : Bool) → a ≡ true → b ≡ true → (a && b) ≡ true
and_true a b p q = rw (p, q) refl

pub within : (low high n : ℕ) → is_from_to low high n ≡ true → IsFromTo low high n
within low high n e = let b = both_true (nat_le low n) (nat_le n high) e in (leb-true low n b.0, leb-true n high b.1)

pub is_within : (low high n : ℕ) → IsFromTo low high n → is_from_to low high n ≡ true
is_within low high n p = and_true (nat_le low n) (nat_le n high) (le-leb low n p.0) (le-leb n high p.1)

-- ---- the words PRS1 and PRS2

at_law : {A : Type 0} {Spells : A → List ℕ → Type 0} (read : ℕ → Reading A) → ((at : ℕ) → IsLaw (read at) Spells) → IsLaw (λ place. read place.at place) Spells
at_law read h = record {
  found = λ place x fits e. (h place.at).found place x fits e;
  again = λ value bytes at rest s fits. (h at).again value bytes at rest s fits;
}

abbrev pub Letter : ℕ → ℕ → List ℕ → Type 0
Letter letter value bytes = (value ≡ letter) × (bytes ≡ letter ∷ [])

same_number : (n : ℕ) → (n == n) ≡ true
same_number n = grind arith

letter_law : (start letter : ℕ) → letter < 256 → IsLaw (letter_at start letter) (Letter letter)
unfolding letter_at
letter_law start letter small = record {
  found = λ place y h e. (
      let s = go_on_ok (byte_at place) (compared start letter) y e in
      let t = test_ok (s.0.0 == letter) (no_magic start) (s.0.0, s.0.1) y s.2 in
      let is : s.0.0 ≡ letter = eqb-true _ _ t.0 in
      let a = byte_law.found place s.0 h s.1 in
      subst (λ (z : ℕ × Place). (bytes : List ℕ) × Letter letter z.0 bytes × Stands bytes place z.1) t.1 (a.0, (is, a.1.1 ∙ ap (λ (n : ℕ). n ∷ []) is), a.2));
  again = λ value bytes at rest s fits.
      rw (byte_law.again letter bytes at rest (small, s.1) fits, same_number letter, s.0) refl;
}

-- a test that decides between a value and what is found else
by_test : {A : Type 0} (b : Bool) (x y : A) (rest : Option A) → cond b (Some x) rest ≡ Some y → ((b ≡ true) × (x ≡ y)) ⊎ (rest ≡ Some y)
by_test true x y rest e = inl (refl, cc)
by_test false x y rest e = inr e

form_found : (byte : ℕ) (form : Form) → form_of byte ≡ Some form → byte ≡ letter form
form_found byte form e =
    elim (by_test (byte == letter One) One form _ e) [
      | inl p ↦ eqb-true _ _ p.0 ∙ ap letter p.1
      | inr n ↦ elim (by_test (byte == letter Two) Two form None n) [
        | inl p ↦ eqb-true _ _ p.0 ∙ ap letter p.1
        | inr n ↦ absurd (none_found form n)
      ]
    ]
  where
    none_found : (form : Form) → (let o : Option Form = None in o) ≡ Some form → ⊥
    none_found form e = cc

form_again : (form : Form) → form_of (letter form) ≡ Some form
form_again One = refl
form_again Two = refl

letter_small : (form : Form) → letter form < 256
letter_small One = omega arith
letter_small Two = omega arith

abbrev pub Last : Form → List ℕ → Type 0
Last form bytes = bytes ≡ letter form ∷ []

formed_ok : (start : ℕ) (found : Option Form) (after : Place) (y : Form × Place) → formed start found after ≡ Ok y → (found ≡ Some y.0) × (after ≡ y.1)
formed_ok start None after y e = absurd cc
formed_ok start (Some form) after y e = let same = ok_is (form, after) y e in (ap (λ (z : Form × Place). Some z.0) same, ap (λ (z : Form × Place). z.1) same)

last_law : (start : ℕ) → IsLaw (last_at start) Last
unfolding last_at
last_law start = record {
  found = λ place y h e. (
      let s = go_on_ok (byte_at place) (λ byte. formed start (form_of byte)) y e in
      let k = formed_ok start (form_of s.0.0) s.0.1 y s.2 in
      let is = form_found s.0.0 y.0 k.0 in
      let a = byte_law.found place s.0 h s.1 in
      (a.0, a.1.1 ∙ ap (λ (n : ℕ). n ∷ []) is, subst (λ (z : Place). Stands a.0 place z) k.1 a.2));
  again = λ form bytes at rest s fits.
      rw (byte_law.again (letter form) bytes at rest (letter_small form, s) fits, form_again form) refl;
}

abbrev pub Magic : Form → List ℕ → Type 0
Magic form bytes = bytes ≡ magic form

pub magic_law : IsLaw magic_at Magic
unfolding magic_at letters_at
magic_law = at_law letters_at (λ start. law_as (letters_at start)
    (λ form bytes s. s.joined ∙ ap (λ (b : List ℕ). b ++ s.back_bytes) s.first.1 ∙ ap (λ (b : List ℕ). (0x50 ∷ []) ++ b) (s.next.joined ∙ ap (λ (b : List ℕ). b ++ s.next.back_bytes) s.next.first.1 ∙ ap (λ (b : List ℕ). (0x52 ∷ []) ++ b) (s.next.next.joined ∙ ap (λ (b : List ℕ). b ++ s.next.next.back_bytes) s.next.next.first.1 ∙ ap (λ (b : List ℕ). (0x53 ∷ []) ++ b) s.next.next.next)))
    (λ form bytes s. record {
      front = 0x50;
      front_bytes = 0x50 ∷ [];
      back_bytes = 0x52 ∷ 0x53 ∷ letter form ∷ [];
      first = (refl, refl);
      joined = s;
      next = record {
        front = 0x52;
        front_bytes = 0x52 ∷ [];
        back_bytes = 0x53 ∷ letter form ∷ [];
        first = (refl, refl);
        joined = refl;
        next = record { front = 0x53; front_bytes = 0x53 ∷ []; back_bytes = letter form ∷ []; first = (refl, refl); joined = refl; next = refl };
      };
    })
    (then_law (letter_at start 0x50) _ (letter_law start 0x50 (omega arith)) (λ p. then_law (letter_at start 0x52) _ (letter_law start 0x52 (omega arith)) (λ r. then_law (letter_at start 0x53) _ (letter_law start 0x53 (omega arith)) (λ s. last_law start)))))

-- ---- names

pub record Named (earlier : List SinkSpec) (name bytes : List ℕ) : Type 0 where
  pub size : IsFromTo 1 64 (length name)
  pub lawful : is_name name ≡ true
  pub new : is_new earlier name ≡ true
  pub bytes_is : bytes ≡ length name ∷ name

pub name_law : (earlier : List SinkSpec) → IsLaw (name_at earlier) (Named earlier)
unfolding name_at
name_law earlier = law_as (name_at earlier)
    (λ name bytes s. (
    let size : length name ≡ s.front = s.next.0.0 in
    let rules = both_true (is_name name) (is_new earlier name) s.next.1 in
    record {
      size = subst (IsFromTo 1 64) (sym size) (within 1 64 s.front s.first.1);
      lawful = rules.0;
      new = rules.1;
      bytes_is = s.joined ∙ ap (λ (b : List ℕ). b ++ s.back_bytes) s.first.0.1 ∙ ap (λ (b : List ℕ). s.front ∷ b) s.next.0.1 ∙ ap (λ (n : ℕ). n ∷ name) (sym size);
    }))
    (λ name bytes s. record {
      front = length name;
      front_bytes = length name ∷ [];
      back_bytes = name;
      first = ((omega (arith, s.size.1), refl), is_within 1 64 (length name) s.size);
      next = ((refl, refl), and_true (is_name name) (is_new earlier name) s.lawful s.new);
      joined = s.bytes_is;
    })
    (then_law (ruled (is_from_to 1 64) byte_at) _ (ruled_law (is_from_to 1 64) byte_at byte_law) (λ size. ruled_law (λ name. is_name name && is_new earlier name) (bytes_at size) (bytes_law size)))

-- ---- the sample spec

find_step : {X : Type 0} (P : X → Type 0) (test : X → Bool) (y : X) (rest : Option X) (x : X) (b : Bool) → test y ≡ b → P y → (rest ≡ Some x → P x × (test x ≡ true)) → cond b (Some y) rest ≡ Some x → P x × (test x ≡ true)
find_step P test y rest x true passes holds later e = let same : y ≡ x = cc in subst (λ z. P z × (test z ≡ true)) same (holds, passes)
find_step P test y rest x false fails holds later e = later e

find_ok : {X : Type 0} (P : X → Type 0) (test : X → Bool) (xs : List X) (x : X) → AllByRecursion P xs → find test xs ≡ Some x → P x × (test x ≡ true)
find_ok P test [] x all e = absurd cc
find_ok P test (y ∷ xs) x all e = find_step P test y (find test xs) x (test y) refl all.0 (λ found. find_ok P test xs x all.1 found) e

format_found : (code : ℕ) (f : Format) → format_of code ≡ Some f → IsLinear f × (code_of f ≡ code)
format_found code f e =
    let a = find_ok IsLinear (λ f. code_of f == code) formats f (tt, (tt, (tt, (tt, (tt, (tt, (tt, (tt, (tt, tt))))))))) e in
    (a.0, eqb-true _ _ a.1)

format_again : (f : Format) → IsLinear f → format_of (code_of f) ≡ Some f
format_again U8 l = refl
format_again Alaw l = absurd l
format_again Ulaw l = absurd l
format_again S16Le l = refl
format_again S16Be l = refl
format_again Float32Le l = absurd l
format_again Float32Be l = absurd l
format_again S32Le l = refl
format_again S32Be l = refl
format_again S24Le l = refl
format_again S24Be l = refl
format_again S24In32Le l = refl
format_again S24In32Be l = refl

code_small : (f : Format) → code_of f < 256
code_small U8 = omega arith
code_small Alaw = omega arith
code_small Ulaw = omega arith
code_small S16Le = omega arith
code_small S16Be = omega arith
code_small Float32Le = omega arith
code_small Float32Be = omega arith
code_small S32Le = omega arith
code_small S32Be = omega arith
code_small S24Le = omega arith
code_small S24Be = omega arith
code_small S24In32Le = omega arith
code_small S24In32Be = omega arith

abbrev pub Formatted : Format → List ℕ → Type 0
Formatted f bytes = IsLinear f × (bytes ≡ code_of f ∷ [])

known_ok : (place : Place) (found : Option Format) (after : Place) (y : Format × Place) → known place found after ≡ Ok y → (found ≡ Some y.0) × (after ≡ y.1)
known_ok place None after y e = absurd cc
known_ok place (Some f) after y e = let same = ok_is (f, after) y e in (ap (λ (z : Format × Place). Some z.0) same, ap (λ (z : Format × Place). z.1) same)

format_law : IsLaw format_at Formatted
unfolding format_at
format_law = record {
  found = λ place y h e. (
      let s = go_on_ok (byte_at place) (λ code. known place (format_of code)) y e in
      let k = known_ok place (format_of s.0.0) s.0.1 y s.2 in
      let f = format_found s.0.0 y.0 k.0 in
      let a = byte_law.found place s.0 h s.1 in
      (a.0, (f.0, a.1.1 ∙ ap (λ (n : ℕ). n ∷ []) (sym f.1)), subst (λ (z : Place). Stands a.0 place z) k.1 a.2));
  again = λ f bytes at rest s fits.
      rw (byte_law.again (code_of f) bytes at rest (code_small f, s.1) fits, format_again f s.0) refl;
}

pub record Specified (spec : Spec) (bytes : List ℕ) : Type 0 where
  pub format : IsLinear spec.format
  pub channels : IsFromTo 1 32 spec.channels
  pub rate : IsFromTo 1 192000 spec.rate
  pub bytes_is : bytes ≡ code_of spec.format ∷ spec.channels ∷ word spec.rate

pub spec_law : IsLaw spec_at Specified
unfolding spec_at
spec_law = law_as spec_at
    (λ spec bytes s. (
    let c = s.next in
    let r = s.next.next in
    let made : Spec = record { format = s.front; channels = c.front; rate = r.front } in
    let is : spec ≡ made = r.next.0 in
    let spelled : bytes ≡ code_of s.front ∷ c.front ∷ word r.front =
    s.joined ∙ ap (λ (b : List ℕ). b ++ s.back_bytes) s.first.1
    ∙ ap (λ (b : List ℕ). code_of s.front ∷ b) (c.joined ∙ ap (λ (b : List ℕ). b ++ c.back_bytes) c.first.0.1
    ∙ ap (λ (b : List ℕ). c.front ∷ b) (r.joined ∙ ap (λ (b : List ℕ). r.front_bytes ++ b) r.next.1 ∙ append-nil r.front_bytes ∙ r.first.0.1)) in
    subst (λ (z : Spec). Specified z bytes) (sym is) (record { format = s.first.0; channels = within 1 32 c.front c.first.1; rate = within 1 192000 r.front r.first.1; bytes_is = spelled })))
    (λ spec bytes s. record {
      front = spec.format;
      front_bytes = code_of spec.format ∷ [];
      back_bytes = spec.channels ∷ word spec.rate;
      first = (s.format, refl);
      joined = s.bytes_is;
      next = record {
        front = spec.channels;
        front_bytes = spec.channels ∷ [];
        back_bytes = word spec.rate;
        first = ((omega (arith, s.channels.1), refl), is_within 1 32 spec.channels s.channels);
        joined = refl;
        next = record { front = spec.rate; front_bytes = word spec.rate; back_bytes = []; first = ((omega (arith, s.rate.1), refl), is_within 1 192000 spec.rate s.rate); joined = refl; next = (refl, refl) };
      };
    })
    (then_law format_at _ format_law (λ format. then_law (ruled (is_from_to 1 32) byte_at) _ (ruled_law (is_from_to 1 32) byte_at byte_law) (λ channels. then_law (ruled (is_from_to 1 192000) word_at) _ (ruled_law (is_from_to 1 192000) word_at word_law) (λ rate. done_law _))))
