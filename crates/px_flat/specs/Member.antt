-- An input as a member of its sink's group: its volume, one number a channel of its stream, and its ratios to the sink's.
use Rattle.std.specs.Prelude.{ℕ, ◌+◌, ◌≡◌, ◌⊎◌, Bool, List, length, replicate, nat_eq, if◌then◌else◌}
use Rattle.px_types.specs.declared.ids.InputId.{InputId}
use Rattle.px_chmap.specs.Plan.{FeedsAll}
use Rattle.px_vol.specs.Volume.{norm, product_of, cube_of}
use Rattle.px_flat.specs.declared.member.Member.{Member}
use Rattle.px_flat.specs.declared.member.Ratios.{Ratios}
use Rattle.px_flat.specs.declared.member.How.{How}
use Rattle.px_flat.specs.declared.member.How.TheVariants.{Absolute, Relative, Kept}
use Rattle.px_flat.specs.Channels.{at, per_channel, greatest_of, values_for, widened, products_of, ratios_after}

abbrev pub is_input : InputId → Member → Bool
is_input input m = nat_eq m.input.0 input.0

-- how many channels its stream has: the feed names each of them
abbrev pub channels_of : List ℕ → ℕ
channels_of feed = greatest_of feed + 1

-- ---- its volume

-- the volume that it has at a sink's channel
abbrev pub volume_at : ℕ → Member → ℕ
volume_at s m = at m.volume (at m.feed s)

-- another volume
abbrev pub with_volume : List ℕ → Member → Member
with_volume volume m = record m { volume = widened volume (length m.volume) }

-- the volume that its ratio to the reference gives
abbrev pub at_reference : List ℕ → Member → Member
at_reference reference m = record m { volume = products_of m.ratios.reference (values_for m.feed reference (length m.volume)) }

abbrev pub with_mute : Bool → Member → Member
with_mute on m = record m { muted = on }

-- ---- its ratios

-- the ratio to the reference volume is set to match its volume
abbrev pub to_reference : List ℕ → Member → Member
to_reference reference m = record m {
  ratios = record m.ratios {
    reference = ratios_after m.ratios.reference m.volume (values_for m.feed reference (length m.volume));
  };
}

-- the ratio to the real volume is set to match its volume
abbrev pub to_real : List ℕ → Member → Member
to_real real m = record m {
  ratios = record m.ratios {
    real = ratios_after m.ratios.real m.volume (values_for m.feed real (length m.volume));
  };
}

-- ---- a new member

-- the ratios of a new input
abbrev pub neutral : ℕ → Ratios
neutral channels = record { reference = replicate channels norm; real = replicate channels norm }

-- the volume of a new input, under a reference volume
abbrev pub coming_volume : List ℕ → List ℕ → How → List ℕ → List ℕ
coming_volume reference given Absolute feed = widened given (channels_of feed)
coming_volume reference given Relative feed =
    products_of (widened given (channels_of feed)) (values_for feed reference (channels_of feed))
coming_volume reference given (Kept ratios) feed =
    products_of ratios.reference (values_for feed reference (channels_of feed))

abbrev pub coming_ratios : How → List ℕ → Ratios
coming_ratios Absolute feed = neutral (channels_of feed)
coming_ratios Relative feed = neutral (channels_of feed)
coming_ratios (Kept ratios) feed = ratios

abbrev pub coming : InputId → List ℕ → List ℕ → How → Bool → List ℕ → Member
coming input reference given how muted feed = record {
  input = input;
  volume = coming_volume reference given how feed;
  ratios = coming_ratios how feed;
  muted = muted;
  feed = feed;
}

-- ---- its factors

-- the linear factor at a sink's channel, in 16.16
abbrev pub factor_at : List ℕ → Member → ℕ → ℕ
factor_at real m s = cube_of (product_of (at m.ratios.real (at m.feed s)) (at real s))

-- the same for each of them; 0 where the member or the sink is muted
abbrev pub factors_under : List ℕ → Bool → Member → List ℕ
factors_under real silent m = per_channel (length real) (λ s. if silent then 0 else factor_at real m s)

-- ---- the invariant of a member

-- a volume given for n channels: one for all, or one each
abbrev pub SuitsChannels : List ℕ → ℕ → Type 0
SuitsChannels volumes channels = (length volumes ≡ 1) ⊎ (length volumes ≡ channels)

-- ratios for n channels
pub record AreRatios (channels : ℕ) (ratios : Ratios) : Type 0 where
  pub reference : length ratios.reference ≡ channels
  pub real : length ratios.real ≡ channels

-- ratios that an input brings have one number a channel
abbrev pub SuitsHow : How → ℕ → Type 0
SuitsHow Absolute channels = Unit
SuitsHow Relative channels = Unit
SuitsHow (Kept ratios) channels = AreRatios channels ratios

pub record IsMember (sinks : ℕ) (m : Member) : Type 0 where
  pub feeds : FeedsAll (length m.volume) sinks m.feed
  pub ratios : AreRatios (length m.volume) m.ratios
