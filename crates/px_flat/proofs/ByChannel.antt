-- Numbers channel by channel.
use Rattle.std.proofs.Common.{◌≡◌, ℕ, ◌+◌, ◌<◌, ◌≤◌, List, [], ◌∷◌, ◌++◌, zero, suc, length, get_or, max, refl, ap, sym, ◌∙◌, subst, arith, below_more}
use Rattle.std.proofs.lemmas.List.FromFn.{get_or-map-range_with_len, length-map-range_with_len, map-range_with_len_more}
use Rattle.std.proofs.lemmas.Grind.{same_number_lists}
use Rattle.std.proofs.lemmas.List.Sums.{fold-append}
use Rattle.std.proofs.lemmas.List.{get_or-set_same, get_or-set_other}
use Rattle.std.specs.Prelude.{slice_set}
use Rattle.px_vol.specs.Volume.{IsChannelVolume, greatest}
use Rattle.px_flat.specs.Channels.{at, per_channel, greatest_of}

pub at-per_channel : (number : ℕ → ℕ) (channels c : ℕ) → c < channels → at (per_channel channels number) c ≡ number c
at-per_channel number channels c below = get_or-map-range_with_len number 0 channels c c 0 below (omega arith)

pub length_per_channel : (number : ℕ → ℕ) (channels : ℕ) → length (per_channel channels number) ≡ channels
length_per_channel number channels = length-map-range_with_len number 0 channels

-- a list whose places have the numbers of the channels
pub listed : (number : ℕ → ℕ) (values : List ℕ) (channels : ℕ) → length values ≡ channels
    → ((c : ℕ) → c < channels → at values c ≡ number c) → values ≡ per_channel channels number
listed number values channels long each =
    same_number_lists values (per_channel channels number) (long ∙ sym (length-map-range_with_len number 0 channels))
    (λ c below.
    let inside : c < channels = subst (λ n. c < n) long below in
    each c inside ∙ sym (at-per_channel number channels c inside))

-- a place that is there has its number, whatever stands for the others
pub same_default : (values : List ℕ) (c d e : ℕ) → c < length values → get_or values c d ≡ get_or values c e
same_default [] c d e below = absurd (omega arith)
same_default (v ∷ values) zero d e below = refl
same_default (v ∷ values) (suc c) d e below = same_default values c d e (omega arith)

-- and it is a volume where each is in range
pub is_volume : (values : List ℕ) (channels : ℕ) → length values ≡ channels → 0 < channels → channels ≤ 32
    → ((c : ℕ) → c < channels → at values c ≤ greatest) → IsChannelVolume values
is_volume values channels long some few each = record {
  some = omega arith;
  few = omega arith;
  bounded = λ c d below. subst (λ v. v ≤ greatest) (same_default values c 0 d below) (each c (omega arith));
}

-- a channel of a volume is in range
pub in_range : (values held : List ℕ) (c : ℕ) → held ≡ values → IsChannelVolume values → c < length values → at held c ≤ greatest
in_range values held c same volume below = subst (λ (v : List ℕ). at v c ≤ greatest) (sym same) (volume.bounded c 0 below)

-- what holds of each channel so far holds of one more that is written
pub one_more : (Holds : ℕ → ℕ → Type 0) (values : List ℕ) (c v : ℕ) → c < length values → Holds c v
    → ((k : ℕ) → k < c → Holds k (at values k)) → (k : ℕ) → k < c + 1 → Holds k (at (slice_set values c v) k)
one_more Holds values c v below holds so = below_more (λ (k : ℕ). Holds k (at (slice_set values c v) k)) c
    (λ k within. subst (Holds k) (sym (get_or-set_other values c k v 0 (λ e. absurd (omega (arith, e, within))))) (so k within))
    (subst (Holds c) (sym (get_or-set_same values c v 0 below)) holds)

-- ---- greatest numbers

pub greatest_append : (numbers : List ℕ) (n : ℕ) → greatest_of (numbers ++ n ∷ []) ≡ max (greatest_of numbers) n
greatest_append numbers n = fold-append max 0 numbers (n ∷ [])

-- one channel more
pub greatest_more : (number : ℕ → ℕ) (channels : ℕ) →
    greatest_of (per_channel (channels + 1) number) ≡ max (greatest_of (per_channel channels number)) (number channels)
greatest_more number channels =
    ap greatest_of (map-range_with_len_more number 0 channels channels (omega arith))
    ∙ greatest_append (per_channel channels number) (number channels)
