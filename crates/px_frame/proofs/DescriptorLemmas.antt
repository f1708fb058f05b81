-- A descriptor and its twenty bytes determine each other.
use Rattle.std.proofs.Common.{◌≡◌, ℕ, ◌+◌, ◌^◌, ◌<◌, ◌≤◌, List, [], ◌∷◌, ◌++◌, length, take, drop, refl, zero, suc, lit<, sym, ◌∙◌, ap, arith, length-drop, length-take}
use Rattle.std.specs.Int.{to_be_bytes, from_be_bytes, w32}
use Rattle.std.proofs.lemmas.Nat.{from_be_bytes-to_be_bytes_4, be_bytes_4}
use Rattle.std.proofs.lemmas.List.{get_or-drop, take_all, take-append-drop, drop-drop}
use Rattle.px_frame.specs.declared.descriptor.Descriptor.{Descriptor}
use Rattle.px_frame.specs.Descriptor.{descriptor_bytes, HasWords, AreBytes, word_at, descriptor_in}

pub length-descriptor_bytes : (d : Descriptor) → length (descriptor_bytes d) ≡ 20
unfolding descriptor_bytes
length-descriptor_bytes d = refl

-- one word less
word-front : (b : List ℕ) (k : ℕ) → take 4 (drop k b) ++ drop (k + 4) b ≡ drop k b
word-front b k = rw (← drop-drop) (take-append-drop 4 (drop k b))

-- twenty bytes are five words
pub five_words : (b : List ℕ) → length b ≡ 20 →
    take 4 (drop 0 b) ++ (take 4 (drop 4 b) ++ (take 4 (drop 8 b) ++ (take 4 (drop 12 b) ++ take 4 (drop 16 b)))) ≡ b
five_words b e =
    let last : take 4 (drop 16 b) ≡ drop 16 b = take_all 4 (drop 16 b) (omega (arith, length-drop 16 b)) in
    rw (last, word-front b 12, word-front b 8, word-front b 4) (word-front b 0)

-- five parts and their likes
joined-five : (a b c d e a' b' c' d' e' : List ℕ) → a ≡ a' → b ≡ b' → c ≡ c' → d ≡ d' → e ≡ e' →
    a ++ (b ++ (c ++ (d ++ e))) ≡ a' ++ (b' ++ (c' ++ (d' ++ e')))
joined-five a b c d e a' b' c' d' e' p q r s t = rw (p, q, r, s, t) refl

-- what spells each of the words spells the descriptor
pub spelled : (d : Descriptor) (b : List ℕ) → length b ≡ 20 → to_be_bytes w32 d.length ≡ take 4 (drop 0 b) → to_be_bytes w32 d.channel ≡ take 4 (drop 4 b)
    → to_be_bytes w32 d.offset_high ≡ take 4 (drop 8 b) → to_be_bytes w32 d.offset_low ≡ take 4 (drop 12 b) → to_be_bytes w32 d.flags ≡ take 4 (drop 16 b)
    → descriptor_bytes d ≡ b
unfolding descriptor_bytes
spelled d b n p q r s t = joined-five _ _ _ _ _ _ _ _ _ _ p q r s t ∙ five_words b n

-- descriptors with the same words are the same
same-five : {d e : Descriptor} → d.length ≡ e.length → d.channel ≡ e.channel → d.offset_high ≡ e.offset_high → d.offset_low ≡ e.offset_low → d.flags ≡ e.flags → d ≡ e
same-five {d} {e} p q r s t =
    let made = λ (l c h o f : ℕ). let x : Descriptor = record { length = l; channel = c; offset_high = h; offset_low = o; flags = f } in x in
    let same : made d.length d.channel d.offset_high d.offset_low d.flags ≡ made e.length e.channel e.offset_high e.offset_low e.flags = rw (p, q, r, s, t) refl in
    same

-- the same number is spelled
word-unique : (m n : ℕ) (x y : List ℕ) → m < 2 ^ 32 → n < 2 ^ 32 → to_be_bytes w32 m ++ x ≡ to_be_bytes w32 n ++ y → (m ≡ n) × (x ≡ y)
word-unique m n x y p q e =
    let same : to_be_bytes w32 m ≡ to_be_bytes w32 n = ap (take 4) e in
    (sym (from_be_bytes-to_be_bytes_4 m p) ∙ (ap (from_be_bytes w32) same ∙ from_be_bytes-to_be_bytes_4 n q), ap (drop 4) e)

-- the same descriptor is spelled, and the same bytes follow
pub descriptor-unique : (d e : Descriptor) (x y : List ℕ) → HasWords d → HasWords e → descriptor_bytes d ++ x ≡ descriptor_bytes e ++ y → (d ≡ e) × (x ≡ y)
unfolding descriptor_bytes
descriptor-unique d e x y p q same =
    let a = word-unique d.length e.length _ _ p.length q.length same in
    let b = word-unique d.channel e.channel _ _ p.channel q.channel a.1 in
    let c = word-unique d.offset_high e.offset_high _ _ p.offset_high q.offset_high b.1 in
    let f = word-unique d.offset_low e.offset_low _ _ p.offset_low q.offset_low c.1 in
    let g = word-unique d.flags e.flags _ _ p.flags q.flags f.1 in
    (same-five a.0 b.0 c.0 f.0 g.0, g.1)

-- the twenty bytes that a descriptor is spelled by are read as it
pub descriptor_in-bytes : (d : Descriptor) → HasWords d → descriptor_in (descriptor_bytes d) ≡ d
unfolding descriptor_bytes descriptor_in
descriptor_in-bytes d h =
    same-five (from_be_bytes-to_be_bytes_4 d.length h.length) (from_be_bytes-to_be_bytes_4 d.channel h.channel)
    (from_be_bytes-to_be_bytes_4 d.offset_high h.offset_high) (from_be_bytes-to_be_bytes_4 d.offset_low h.offset_low)
    (from_be_bytes-to_be_bytes_4 d.flags h.flags)

-- what is taken of bytes are bytes
pub take-bytes : (n : ℕ) (b : List ℕ) → AreBytes b → AreBytes (take n b)
take-bytes zero b fits i = lit< tt
take-bytes (suc n) [] fits i = lit< tt
take-bytes (suc n) (x ∷ b) fits zero = fits 0
take-bytes (suc n) (x ∷ b) fits (suc i) = take-bytes n b (λ j. fits (suc j)) i

pub drop-bytes : (n : ℕ) (b : List ℕ) → AreBytes b → AreBytes (drop n b)
drop-bytes n b fits i = rw get_or-drop (fits (n + i))

part-bytes : (k : ℕ) (b : List ℕ) → AreBytes b → AreBytes (take 4 (drop k b))
part-bytes k b fits = take-bytes 4 (drop k b) (drop-bytes k b fits)

word-below : (k : ℕ) (b : List ℕ) → AreBytes b → word_at k b < 2 ^ 32
word-below k b fits =
    let part = part-bytes k b fits in
    omega (arith, part 0, part 1, part 2, part 3)

word-spelled : (k : ℕ) (b : List ℕ) → AreBytes b → k + 4 ≤ length b → to_be_bytes w32 (word_at k b) ≡ take 4 (drop k b)
word-spelled k b fits n =
    be_bytes_4 (take 4 (drop k b)) (word_at k b) (omega (arith, length-take 4 (drop k b), length-drop k b)) (part-bytes k b fits) refl

pub words-descriptor_in : (b : List ℕ) → AreBytes b → HasWords (descriptor_in b)
unfolding descriptor_in
words-descriptor_in b fits = record {
  length = word-below 0 b fits;
  channel = word-below 4 b fits;
  offset_high = word-below 8 b fits;
  offset_low = word-below 12 b fits;
  flags = word-below 16 b fits;
}

pub bytes-descriptor_in : (b : List ℕ) → AreBytes b → length b ≡ 20 → descriptor_bytes (descriptor_in b) ≡ b
unfolding descriptor_in
bytes-descriptor_in b fits n =
    spelled _ b n (word-spelled 0 b fits (omega arith)) (word-spelled 4 b fits (omega arith)) (word-spelled 8 b fits (omega arith))
    (word-spelled 12 b fits (omega arith)) (word-spelled 16 b fits (omega arith))
