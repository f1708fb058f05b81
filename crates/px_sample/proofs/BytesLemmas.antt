-- Bytes and the numbers that they spell, both ways.
use Rattle.std.proofs.Common.{◌≡◌, ℕ, ◌+◌, ◌-◌, ◌*◌, ◌/◌, ◌%◌, ◌^◌, ◌<◌, suc, List, [], ◌∷◌, length, reverse, refl, ap, sym, ◌∙◌, subst, arith, inl, inr, ℤ, pos, negsuc, ◌-ℤ◌, ◌*ℤ◌}
use Rattle.std.proofs.lemmas.Int.{ints}
use Rattle.std.proofs.lemmas.List.{length-reverse, reverse-reverse, get_or-reverse}
use Rattle.std.proofs.Math.Nat.{pow-suc, mod-eq_of_lt}
use Rattle.std.proofs.lemmas.Bool.{cases_Bool}
use Rattle.std.specs.Int.{int_div_euclid}
use Rattle.std.specs.List.{All}
use Rattle.std.specs.Prelude.{nat_lt}
use Rattle.px_sample.specs.Bytes.{little_endian, big_endian, little_bytes, big_bytes, signed_of, unsigned_of}

-- each is a byte
abbrev pub AreBytes : List ℕ → Type 0
AreBytes bytes = All (λ b. b < 256) bytes

AreBytes-rest : (byte : ℕ) (rest : List ℕ) → AreBytes (byte ∷ rest) → AreBytes rest
AreBytes-rest byte rest bytes k d below = bytes (suc k) d (omega arith)

-- one byte below a number
low_byte : (byte above : ℕ) → byte < 256 → (byte + 256 * above) % 256 ≡ byte
low_byte byte above small = omega arith

above_byte : (byte above : ℕ) → byte < 256 → (byte + 256 * above) / 256 ≡ above
above_byte byte above small = omega arith

pub little_bytes-little_endian : (bytes : List ℕ) → AreBytes bytes → little_bytes (length bytes) (little_endian bytes) ≡ bytes
little_bytes-little_endian [] are = refl
little_bytes-little_endian (byte ∷ rest) are =
    let small : byte < 256 = are 0 0 (omega arith) in
    ap (λ b. b ∷ little_bytes (length rest) ((byte + 256 * little_endian rest) / 256)) (low_byte byte (little_endian rest) small)
    ∙ ap (λ n. byte ∷ little_bytes (length rest) n) (above_byte byte (little_endian rest) small)
    ∙ ap (λ others. byte ∷ others) (little_bytes-little_endian rest (AreBytes-rest byte rest are))

pub little_endian-below : (bytes : List ℕ) → AreBytes bytes → little_endian bytes < 256 ^ length bytes
little_endian-below [] are = omega arith
little_endian-below (byte ∷ rest) are =
    let small : byte < 256 = are 0 0 (omega arith) in
    let below = little_endian-below rest (AreBytes-rest byte rest are) in
    rw (pow-suc 256 (length rest)) (omega arith)

AreBytes-reverse : (bytes : List ℕ) → AreBytes bytes → AreBytes (reverse bytes)
AreBytes-reverse bytes are k d below =
    let inside : k < length bytes = subst (λ n. k < n) (length-reverse bytes) below in
    subst (λ b. b < 256) (sym (get_or-reverse bytes k d inside)) (are (length bytes - 1 - k) d (omega arith))

pub big_bytes-big_endian : (bytes : List ℕ) → AreBytes bytes → big_bytes (length bytes) (big_endian bytes) ≡ bytes
big_bytes-big_endian bytes are =
    ap (λ n. reverse (little_bytes n (little_endian (reverse bytes)))) (sym (length-reverse bytes))
    ∙ ap reverse (little_bytes-little_endian (reverse bytes) (AreBytes-reverse bytes are))
    ∙ reverse-reverse bytes

pub big_endian-below : (bytes : List ℕ) → AreBytes bytes → big_endian bytes < 256 ^ length bytes
big_endian-below bytes are =
    subst (λ n. big_endian bytes < 256 ^ n) (length-reverse bytes)
    (little_endian-below (reverse bytes) (AreBytes-reverse bytes are))

-- two's complement, both ways
negative_is : (n m : ℕ) → n < m → pos n -ℤ pos m ≡ negsuc (m - 1 - n)
negative_is n m less = omega (arith, ints)

pub unsigned_signed : (bits n : ℕ) → n < 2 ^ bits → unsigned_of bits (signed_of bits n) ≡ n
unsigned_signed bits n fits =
    elim (cases_Bool (nat_lt n (2 ^ (bits - 1)))) [
      | inl positive ↦ rw positive (mod-eq_of_lt fits)
      | inr negative ↦
          let rest : (2 ^ bits - 1 - n) % 2 ^ bits ≡ 2 ^ bits - 1 - n = mod-eq_of_lt (omega arith) in
          rw negative (ap (unsigned_of bits) (negative_is n (2 ^ bits) fits) ∙ omega arith)
    ]

-- 24 bits lie in the upper ones of 32
pub upper_bits : (value : ℤ) → int_div_euclid (value *ℤ pos 256) (pos 256) ≡ value
upper_bits (pos n) = ap pos (omega arith)
upper_bits (negsuc n) =
    let times : negsuc n *ℤ pos 256 ≡ negsuc (256 * n + 255) = omega (arith, ints) in
    ap (λ v. int_div_euclid v (pos 256)) times ∙ ap negsuc (omega arith)
