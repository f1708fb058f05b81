-- The invariant of a group.
use Rattle.std.specs.Prelude.{ℕ, ◌≡◌, ◌≤◌, ◌<◌, List, length}
use Rattle.std.specs.List.{AllByRecursion}
use Rattle.px_types.specs.declared.ids.InputId.{InputId}
use Rattle.px_vol.specs.Volume.{norm, product_of}
use Rattle.px_flat.specs.declared.member.Member.{Member}
use Rattle.px_flat.specs.Channels.{at, value_for}
use Rattle.px_flat.specs.Member.{IsMember}
use Rattle.px_flat.specs.FlatVolume.{FlatGroup, real_of}
use Rattle.px_flat.specs.Inputs.{channels_in}

-- where the real volume for a channel is at most neutral, the ratio to it gives the member's volume again, exactly
abbrev pub IsTrueTo : List ℕ → Member → Type 0
IsTrueTo real m = (c : ℕ) → c < length m.volume → value_for m.feed real c ≤ norm
    → product_of (at m.ratios.real c) (value_for m.feed real c) ≡ at m.volume c

pub record IsGroup (group : FlatGroup) : Type 0 where
  pub members : AllByRecursion (IsMember (length group.reference)) group.members
  pub true_to : AllByRecursion (IsTrueTo (real_of group)) group.members

-- both groups have equally many channels, and the same inputs, each with equally many channels
pub record HasSameInputs (before after : FlatGroup) : Type 0 where
  pub channels : length after.reference ≡ length before.reference
  pub inputs : (input : InputId) → channels_in after.members input ≡ channels_in before.members input
