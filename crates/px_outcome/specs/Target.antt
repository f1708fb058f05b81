-- The sink that a command names.
use Rattle.std.specs.Prelude.{◌≤◌, ◌≡◌, Bool, true, false, length, Option, None, Some, IsTrue}
use Rattle.px_tag.specs.Item.{is_text}
use Rattle.px_tag.specs.declared.raw.RawSpec.{RawSpec}
use Rattle.px_sample.specs.declared.spec.Spec.{Spec}
use Rattle.px_sample.specs.Format.{code_of}
use Rattle.px_outcome.specs.declared.target.Target.{Target}
use Rattle.px_outcome.specs.declared.target.Named.{Named}
use Rattle.px_outcome.specs.declared.target.Named.TheVariants.{Unclear, Unknown, Sink}

abbrev pub is_clear : Named → Bool
is_clear Unclear = false
is_clear Unknown = true
is_clear (Sink target) = true

-- the sink, where it exists
abbrev pub target_of : Named → Option Target
target_of Unclear = None
target_of Unknown = None
target_of (Sink target) = Some target

-- a valid sink: a name without a zero byte, 1 to 32 channels, a rate, and a position for each channel
pub record IsTarget (target : Target) : Type 0 where
  pub name : IsTrue (is_text target.name)
  pub some : 1 ≤ target.spec.channels
  pub few : target.spec.channels ≤ 32
  pub rate : 1 ≤ target.spec.rate
  pub map_size : length target.map ≡ target.spec.channels

-- the named sink, where it exists, is valid
abbrev pub IsNamed : Named → Type 0
IsNamed Unclear = Unit {0}
IsNamed Unknown = Unit {0}
IsNamed (Sink target) = IsTarget target

-- a sample spec in the form that packets carry
abbrev pub raw_of : Spec → RawSpec
raw_of spec = record { format = code_of spec.format; channels = spec.channels; rate = spec.rate }
