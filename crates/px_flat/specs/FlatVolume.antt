-- Flat volumes (PulseAudio: pulsecore/sink.c, sink-input.c; the rules on ratios are own): the loudest input sets a sink's real volume.
use Rattle.std.specs.Prelude.{ℕ, Bool, false, ◌||◌, List, [], ◌∷◌, ◌++◌, map, length, replicate, cond, Option}
use Rattle.std.specs.List.{find}
use Rattle.std.specs.Option.{option_map}
use Rattle.px_types.specs.declared.ids.InputId.{InputId}
use Rattle.px_vol.specs.Volume.{norm}
use Rattle.px_flat.specs.declared.member.Member.{Member}
use Rattle.px_flat.specs.declared.member.How.{How}
use Rattle.px_flat.specs.Channels.{per_channel, greatest_of, widened, raised_to}
use Rattle.px_flat.specs.Member.{is_input, volume_at, with_volume, with_mute, at_reference, to_reference, to_real, coming, factors_under}

pub record FlatGroup : Type 0 where
  -- the reference volume, one number a channel of the sink
  pub reference : List ℕ
  pub muted : Bool
  -- in the order in which they were attached
  pub members : List Member

-- ---- its members

abbrev pub member_of : List Member → InputId → Option Member
member_of members input = find (is_input input) members

abbrev pub change_first : (Member → Bool) → (Member → Member) → List Member → List Member
change_first is change [] = []
change_first is change (m ∷ members) = cond (is m) (change m ∷ members) (m ∷ change_first is change members)

abbrev pub without_first : (Member → Bool) → List Member → List Member
without_first is [] = []
without_first is (m ∷ members) = cond (is m) members (m ∷ without_first is members)

-- ---- the real volume

-- at a sink's channel: the greatest volume that a member has there
abbrev pub real_at : List Member → ℕ → ℕ
real_at members s = greatest_of (map (volume_at s) members)

-- the real volume of a sink, one number a channel; the reference volume where it has no input
abbrev pub real_over : List ℕ → List Member → List ℕ
real_over reference [] = reference
real_over reference (m ∷ members) = per_channel (length reference) (real_at (m ∷ members))

abbrev pub real_of : FlatGroup → List ℕ
real_of group = real_over group.reference group.members

-- the ratios to the real volume are set to match it
abbrev pub followed_over : List ℕ → List Member → List Member
followed_over reference members = map (to_real (real_over reference members)) members

abbrev pub followed : FlatGroup → FlatGroup
followed group = record group { members = followed_over group.reference group.members }

-- the reference volume is raised to the real volume
abbrev pub raised_over : List ℕ → List Member → List ℕ
raised_over reference members = raised_to reference (real_over reference members)

-- and all ratios are set to match
abbrev pub settled_over : List ℕ → List Member → List Member
settled_over reference members =
    followed_over (raised_over reference members) (map (to_reference (raised_over reference members)) members)

abbrev pub settled : FlatGroup → FlatGroup
settled group = record group {
  reference = raised_over group.reference group.members;
  members = settled_over group.reference group.members;
}

-- ---- the rules

-- a group with no input, at the neutral volume
abbrev pub new_group : ℕ → FlatGroup
new_group channels = record { reference = replicate channels norm; muted = false; members = [] }

abbrev pub attached : InputId → List ℕ → How → Bool → List ℕ → FlatGroup → FlatGroup
attached input given how muted feed group =
    settled (record group { members = group.members ++ coming input group.reference given how muted feed ∷ [] })

abbrev pub detached : InputId → FlatGroup → FlatGroup
detached input group = followed (record group { members = without_first (is_input input) group.members })

abbrev pub with_input_volume : InputId → List ℕ → FlatGroup → FlatGroup
with_input_volume input volume group =
    settled (record group { members = change_first (is_input input) (with_volume volume) group.members })

abbrev pub with_sink_volume : List ℕ → FlatGroup → FlatGroup
with_sink_volume volume group =
    let reference : List ℕ = widened volume (length group.reference) in
    followed (record group { reference = reference; members = map (at_reference reference) group.members })

abbrev pub with_input_mute : InputId → Bool → FlatGroup → FlatGroup
with_input_mute input on group =
    record group { members = change_first (is_input input) (with_mute on) group.members }

abbrev pub with_sink_mute : Bool → FlatGroup → FlatGroup
with_sink_mute on group = record group { muted = on }

-- ---- the factors of a member, one a channel of the sink

abbrev pub factors_of : FlatGroup → Member → List ℕ
factors_of group m = factors_under (real_of group) (group.muted || m.muted) m

-- those of an input, if it is in the group
abbrev pub factors_for : FlatGroup → InputId → Option (List ℕ)
factors_for group input = option_map (factors_of group) (member_of group.members input)
