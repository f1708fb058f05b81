-- The parts of CREATE_PLAYBACK_STREAM's fields, in the order of the packet.
use Rattle.std.specs.Prelude.{ℕ, List, [], ◌∷◌, ◌++◌, slice_index}
use Rattle.px_cmd.specs.declared.create.Shape.{Shape}
use Rattle.px_cmd.specs.declared.create.Buffering.{Buffering}
use Rattle.px_cmd.specs.declared.create.Matching.{Matching}
use Rattle.px_cmd.specs.declared.create.Playing.{Playing}
use Rattle.px_cmd.specs.declared.create.Manner.{Manner}
use Rattle.px_cmd.specs.declared.create.Later.{Later}
use Rattle.px_cmd.specs.Command.{optional, sink_fields}
use Rattle.px_cmd.specs.Field.{Kind, u32, bool, string, sample_spec, positions, volumes, properties, Field, Number, Flag, SampleSpec, Positions, Volumes, Properties}
use Rattle.px_cmd.specs.Meant.{IsFrom}

abbrev pub shape_kinds : List Kind
shape_kinds = sample_spec ∷ positions ∷ u32 ∷ string ∷ []

abbrev pub shape_fields : Shape → List Field
shape_fields s = SampleSpec s.spec ∷ Positions s.map ∷ sink_fields s.sink

abbrev pub buffering_kinds : List Kind
buffering_kinds = u32 ∷ bool ∷ u32 ∷ u32 ∷ u32 ∷ u32 ∷ volumes ∷ []

abbrev pub buffering_fields : Buffering → List Field
buffering_fields b =
    Number (slice_index b.asked 0) ∷ Flag b.corked ∷ Number (slice_index b.asked 1) ∷ Number (slice_index b.asked 2) ∷ Number (slice_index b.asked 3)
    ∷ Number b.syncid ∷ Volumes b.volume ∷ []

abbrev pub matching_kinds : List Kind
matching_kinds = bool ∷ bool ∷ bool ∷ bool ∷ bool ∷ []

abbrev pub matching_fields : Matching → List Field
matching_fields m = Flag m.no_remap ∷ Flag m.no_remix ∷ Flag m.fix_format ∷ Flag m.fix_rate ∷ Flag m.fix_channels ∷ []

abbrev pub playing_kinds : List Kind
playing_kinds = bool ∷ bool ∷ bool ∷ bool ∷ []

abbrev pub playing_fields : Playing → List Field
playing_fields p = Flag p.no_move ∷ Flag p.variable_rate ∷ Flag p.muted ∷ Flag p.adjust_latency ∷ []

abbrev pub manner_kinds : List Kind
manner_kinds = matching_kinds ++ (playing_kinds ++ properties ∷ [])

abbrev pub manner_fields : Manner → List Field
manner_fields m = matching_fields m.matching ++ (playing_fields m.playing ++ Properties m.list ∷ [])

-- the flags of later versions
abbrev pub later_fields : Later → List Field
later_fields l =
    optional l.volume_set ++ optional l.early_requests ++ optional l.muted_set ++ optional l.dont_inhibit_auto_suspend ++ optional l.fail_on_suspend ++ optional l.relative_volume ++ optional l.passthrough

-- each is there exactly from its version on
pub record IsLater (version : ℕ) (l : Later) : Type 0 where
  pub volume_set : IsFrom 14 version l.volume_set
  pub early_requests : IsFrom 14 version l.early_requests
  pub muted_set : IsFrom 15 version l.muted_set
  pub dont_inhibit_auto_suspend : IsFrom 15 version l.dont_inhibit_auto_suspend
  pub fail_on_suspend : IsFrom 15 version l.fail_on_suspend
  pub relative_volume : IsFrom 17 version l.relative_volume
  pub passthrough : IsFrom 18 version l.passthrough
