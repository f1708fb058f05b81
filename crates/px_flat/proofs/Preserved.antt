-- What changes of members keep.
use Rattle.std.proofs.Common.{◌≡◌, ◌==◌, ◌<◌, ℕ, arith, max, refl, inl, inr, Bool, List, [], ◌∷◌, ◌++◌, map, length, sym, ◌∙◌, subst}
use Rattle.std.specs.Prelude.{if◌then◌else◌}
use Rattle.std.specs.List.{AllByRecursion}
use Rattle.std.proofs.lemmas.Bool.{cases_Bool}
use Rattle.std.proofs.lemmas.List.{length-replicate}
use Rattle.px_types.specs.declared.ids.InputId.{InputId}
use Rattle.px_chmap.specs.Plan.{FeedsAll}
use Rattle.px_vol.specs.Volume.{norm, product_of}
use Rattle.px_flat.specs.declared.member.Member.{Member}
use Rattle.px_flat.specs.declared.member.How.{How}
use Rattle.px_flat.specs.declared.member.How.TheVariants.{Absolute, Relative, Kept as WithRatios}
use Rattle.px_flat.specs.Channels.{at, values_for, widened, products_of, ratios_after, ratio_after, per_channel, raised_to}
use Rattle.px_flat.specs.Member.{IsMember, AreRatios, SuitsHow, channels_of, with_volume, with_mute, at_reference, to_reference, to_real, coming, coming_volume, coming_ratios}
use Rattle.px_flat.specs.FlatVolume.{change_first, without_first, real_at, real_over}
use Rattle.px_flat.proofs.ByChannel.{length_per_channel}

-- ---- lists of members

pub all_map : (P Q : Member → Type 0) (f : Member → Member) → ((m : Member) → P m → Q (f m)) → (ms : List Member)
    → AllByRecursion P ms → AllByRecursion Q (map f ms)
all_map P Q f keeps [] all = all
all_map P Q f keeps (m ∷ ms) all = (keeps m all.0, all_map P Q f keeps ms all.1)

pub all_as : (P Q : Member → Type 0) → ((m : Member) → P m → Q m) → (ms : List Member) → AllByRecursion P ms → AllByRecursion Q ms
all_as P Q keeps [] all = all
all_as P Q keeps (m ∷ ms) all = (keeps m all.0, all_as P Q keeps ms all.1)

pub all_change : (P : Member → Type 0) (is : Member → Bool) (f : Member → Member) → ((m : Member) → P m → P (f m)) → (ms : List Member)
    → AllByRecursion P ms → AllByRecursion P (change_first is f ms)
all_change P is f keeps [] all = all
all_change P is f keeps (m ∷ ms) all = elim (cases_Bool (is m)) [
  | inl this ↦ rw this (keeps m all.0, all.1)
  | inr other ↦ rw other (all.0, all_change P is f keeps ms all.1)
]

pub all_without : (P : Member → Type 0) (is : Member → Bool) (ms : List Member) → AllByRecursion P ms → AllByRecursion P (without_first is ms)
all_without P is [] all = all
all_without P is (m ∷ ms) all = elim (cases_Bool (is m)) [
  | inl this ↦ rw this all.1
  | inr other ↦ rw other (all.0, all_without P is ms all.1)
]

pub all_more : (P : Member → Type 0) (ms : List Member) (m : Member) → AllByRecursion P ms → P m → AllByRecursion P (ms ++ m ∷ [])
all_more P [] m all more = (more, all)
all_more P (x ∷ ms) m all more = (all.0, all_more P ms m all.1 more)

-- ---- lengths

pub length_raised : (volumes others : List ℕ) → length (raised_to volumes others) ≡ length volumes
length_raised volumes others = length_per_channel (λ (c : ℕ). max (at volumes c) (at others c)) (length volumes)

pub length_real : (reference : List ℕ) (ms : List Member) → length (real_over reference ms) ≡ length reference
length_real reference [] = refl
length_real reference (m ∷ ms) = length_per_channel (real_at (m ∷ ms)) (length reference)

pub over_some : (reference : List ℕ) (ms : List Member) → 0 < length ms
    → real_over reference ms ≡ per_channel (length reference) (real_at ms)
over_some reference [] some = absurd (omega arith)
over_some reference (m ∷ ms) some = refl

length_ratios : (ratios volumes bases : List ℕ) → length (ratios_after ratios volumes bases) ≡ length ratios
length_ratios ratios volumes bases =
    length_per_channel (λ (c : ℕ). ratio_after (at ratios c) (at volumes c) (at bases c)) (length ratios)

length_products : (ratios volumes : List ℕ) → length (products_of ratios volumes) ≡ length ratios
length_products ratios volumes = length_per_channel (λ (c : ℕ). product_of (at ratios c) (at volumes c)) (length ratios)

pub length_widened : (volumes : List ℕ) (channels : ℕ) → length (widened volumes channels) ≡ channels
length_widened volumes channels =
    length_per_channel (λ (c : ℕ). if length volumes == 1 then at volumes 0 else at volumes c) channels

-- ---- members

pub to_reference_keeps : (sinks : ℕ) (reference : List ℕ) (m : Member) → IsMember sinks m → IsMember sinks (to_reference reference m)
to_reference_keeps sinks reference m k = record {
  feeds = k.feeds;
  ratios = record {
    reference = length_ratios m.ratios.reference m.volume (values_for m.feed reference (length m.volume)) ∙ k.ratios.reference;
    real = k.ratios.real;
  };
}

pub to_real_keeps : (sinks : ℕ) (real : List ℕ) (m : Member) → IsMember sinks m → IsMember sinks (to_real real m)
to_real_keeps sinks real m k = record {
  feeds = k.feeds;
  ratios = record {
    reference = k.ratios.reference;
    real = length_ratios m.ratios.real m.volume (values_for m.feed real (length m.volume)) ∙ k.ratios.real;
  };
}

-- another volume of as many channels
volume_keeps : (sinks : ℕ) (volume : List ℕ) (m : Member) → length volume ≡ length m.volume → IsMember sinks m
    → IsMember sinks (record m { volume = volume })
volume_keeps sinks volume m same k = record {
  feeds = subst (λ (n : ℕ). FeedsAll n sinks m.feed) (sym same) k.feeds;
  ratios = subst (λ (n : ℕ). AreRatios n m.ratios) (sym same) k.ratios;
}

pub with_volume_keeps : (sinks : ℕ) (volume : List ℕ) (m : Member) → IsMember sinks m → IsMember sinks (with_volume volume m)
with_volume_keeps sinks volume m k =
    volume_keeps sinks (widened volume (length m.volume)) m (length_widened volume (length m.volume)) k

pub at_reference_keeps : (sinks : ℕ) (reference : List ℕ) (m : Member) → IsMember sinks m → IsMember sinks (at_reference reference m)
at_reference_keeps sinks reference m k =
    volume_keeps sinks (products_of m.ratios.reference (values_for m.feed reference (length m.volume))) m
    (length_products m.ratios.reference (values_for m.feed reference (length m.volume)) ∙ k.ratios.reference) k

pub with_mute_keeps : (sinks : ℕ) (on : Bool) (m : Member) → IsMember sinks m → IsMember sinks (with_mute on m)
with_mute_keeps sinks on m k = record { feeds = k.feeds; ratios = k.ratios }

length_coming : (reference given : List ℕ) (how : How) (feed : List ℕ) → SuitsHow how (channels_of feed)
    → length (coming_volume reference given how feed) ≡ channels_of feed
length_coming reference given Absolute feed s = length_widened given (channels_of feed)
length_coming reference given Relative feed s =
    length_products (widened given (channels_of feed)) (values_for feed reference (channels_of feed)) ∙ length_widened given (channels_of feed)
length_coming reference given (WithRatios ratios) feed s =
    length_products ratios.reference (values_for feed reference (channels_of feed)) ∙ s.reference

are_coming : (how : How) (feed : List ℕ) → SuitsHow how (channels_of feed) → AreRatios (channels_of feed) (coming_ratios how feed)
are_coming Absolute feed s = record { reference = length-replicate (channels_of feed) norm; real = length-replicate (channels_of feed) norm }
are_coming Relative feed s = record { reference = length-replicate (channels_of feed) norm; real = length-replicate (channels_of feed) norm }
are_coming (WithRatios ratios) feed s = s

pub coming_is : (sinks : ℕ) (input : InputId) (reference given : List ℕ) (how : How) (muted : Bool) (feed : List ℕ)
    → FeedsAll (channels_of feed) sinks feed → SuitsHow how (channels_of feed)
    → IsMember sinks (coming input reference given how muted feed)
coming_is sinks input reference given how muted feed feeds suits =
    let same = length_coming reference given how feed suits in
    record {
      feeds = subst (λ (n : ℕ). FeedsAll n sinks feed) (sym same) feeds;
      ratios = subst (λ (n : ℕ). AreRatios n (coming_ratios how feed)) (sym same) (are_coming how feed suits);
    }
