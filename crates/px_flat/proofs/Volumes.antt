-- Volumes and mutes keep a group's inputs.
use Rattle.std.proofs.Common.{◌≡◌, ℕ, Bool, true, false, inl, inr, List, [], ◌∷◌, map, length, cond, refl, ap, sym, ◌∙◌}
use Rattle.std.specs.Prelude.{filter, nat_eq, ◌||◌, if◌then◌else◌}
use Rattle.std.proofs.lemmas.Bool.{cases_Bool, false≢true}
use Rattle.px_types.specs.declared.ids.InputId.{InputId}
use Rattle.px_flat.specs.declared.member.Member.{Member}
use Rattle.px_flat.specs.Channels.{widened}
use Rattle.px_flat.specs.Member.{is_input, channels_of, with_volume, with_mute, at_reference, to_reference, to_real, factor_at}
use Rattle.px_flat.specs.FlatVolume.{FlatGroup, with_input_volume, with_sink_volume, with_input_mute, with_sink_mute, change_first, factors_of, real_over, real_of, followed_over, raised_over, settled_over}
use Rattle.px_flat.specs.Inputs.{channels_in}
use Rattle.px_flat.specs.Keeps.{HasSameInputs}
use Rattle.px_flat.proofs.ByChannel.{length_per_channel}
use Rattle.px_flat.proofs.Preserved.{length_raised, length_real, length_widened}

-- ---- members that change, but not in their input and their feed

abbrev counts : List Member → List ℕ
counts ms = map (λ m. channels_of (Member.feed m)) ms

abbrev IsSame : Member → Member → Type 0
IsSame m n = (n.input.0 ≡ m.input.0) × (n.feed ≡ m.feed)

behind : (m n : Member) (xs ys : List Member) (input : InputId) → IsSame m n → channels_in xs input ≡ channels_in ys input
    → channels_in (n ∷ xs) input ≡ channels_in (m ∷ ys) input
behind m n xs ys input same rest = step rest (is_input input m) (is_input input n) (ap (λ k. nat_eq k input.0) same.0)
  where
    step : channels_in xs input ≡ channels_in ys input → (b c : Bool) → c ≡ b
        → counts (cond c (n ∷ filter (is_input input) xs) (filter (is_input input) xs)) ≡ counts (cond b (m ∷ filter (is_input input) ys) (filter (is_input input) ys))
    step rest true true e = λ i. channels_of (same.1 i) ∷ rest i
    step rest true false e = absurd (false≢true e)
    step rest false true e = absurd (false≢true (sym e))
    step rest false false e = rest

mapped : (f : Member → Member) → ((m : Member) → IsSame m (f m)) → (ms : List Member) (input : InputId) → channels_in (map f ms) input ≡ channels_in ms input
mapped f same [] input = refl
mapped f same (m ∷ ms) input = behind m (f m) (map f ms) ms input (same m) (mapped f same ms input)

changed : (is : Member → Bool) (f : Member → Member) → ((m : Member) → IsSame m (f m)) → (ms : List Member) (input : InputId)
    → channels_in (change_first is f ms) input ≡ channels_in ms input
changed is f same [] input = refl
changed is f same (m ∷ ms) input = elim (cases_Bool (is m)) [
  | inl this ↦ rw this (behind m (f m) ms ms input (same m) refl)
  | inr other ↦ rw other (behind m m (change_first is f ms) ms input (refl, refl) (changed is f same ms input))
]

followed : (reference : List ℕ) (ms : List Member) (input : InputId) → channels_in (followed_over reference ms) input ≡ channels_in ms input
followed reference ms input = mapped (to_real (real_over reference ms)) (λ m. (refl, refl)) ms input

settled : (reference : List ℕ) (ms : List Member) (input : InputId) → channels_in (settled_over reference ms) input ≡ channels_in ms input
settled reference ms input =
    followed (raised_over reference ms) (map (to_reference (raised_over reference ms)) ms) input
    ∙ mapped (to_reference (raised_over reference ms)) (λ m. (refl, refl)) ms input

-- ---- the rules

pub input_volume : (input : InputId) (volume : List ℕ) (group : FlatGroup) → HasSameInputs group (with_input_volume input volume group)
input_volume input volume group = record {
  channels = length_raised group.reference (real_over group.reference (change_first (is_input input) (with_volume volume) group.members));
  inputs = λ other. settled group.reference (change_first (is_input input) (with_volume volume) group.members) other
      ∙ changed (is_input input) (with_volume volume) (λ m. (refl, refl)) group.members other;
}

pub sink_volume : (volume : List ℕ) (group : FlatGroup) → HasSameInputs group (with_sink_volume volume group)
sink_volume volume group = record {
  channels = length_widened volume (length group.reference);
  inputs = λ other. followed (widened volume (length group.reference)) (map (at_reference (widened volume (length group.reference))) group.members) other
      ∙ mapped (at_reference (widened volume (length group.reference))) (λ m. (refl, refl)) group.members other;
}

pub input_mute : (input : InputId) (on : Bool) (group : FlatGroup) → HasSameInputs group (with_input_mute input on group)
input_mute input on group = record { channels = refl; inputs = λ other. changed (is_input input) (with_mute on) (λ m. (refl, refl)) group.members other }

pub sink_mute : (on : Bool) (group : FlatGroup) → HasSameInputs group (with_sink_mute on group)
sink_mute on group = record { channels = refl; inputs = λ other. refl }

pub factors : (group : FlatGroup) (m : Member) → length (factors_of group m) ≡ length group.reference
factors group m =
    length_per_channel (λ (s : ℕ). if group.muted || m.muted then 0 else factor_at (real_of group) m s) (length (real_of group))
    ∙ length_real group.reference group.members
