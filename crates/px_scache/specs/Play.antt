-- The plays of samples: each is a playback stream of the server's own connection, which speaks version 18.
use Rattle.std.specs.Prelude.{ℕ, pos, Bool, true, false, not, cond, ◌||◌, ◌&&◌, nat_eq, nat_lt, nat_le, List, [], ◌∷◌, ◌++◌, length, Option, None, Some, IsTrue, Ok}
use Rattle.px_types.specs.declared.error_code.ErrorCode.TheVariants.{Invalid, NoEntity, BadState, TooLarge}
use Rattle.px_tag.specs.Item.{number, is_text}
use Rattle.px_cmd.specs.declared.command.SinkRef.{SinkRef}
use Rattle.px_cmd.specs.declared.command.CreateFields.{CreateFields}
use Rattle.px_cmd.specs.declared.command.Command.{Command}
use Rattle.px_cmd.specs.declared.command.Command.TheVariants.{Create, Drain, Delete}
use Rattle.px_cmd.specs.Command.{number_of, fields_of}
use Rattle.px_cmd.specs.Field.{Field, Number, Flag, String, SampleSpec, Positions, Volumes, Properties}
use Rattle.px_cmd.specs.Law.{packet_of}
use Rattle.px_frame.specs.declared.frame.Body.TheVariants.{Control, Write}
use Rattle.px_frame.specs.Spelling.{spelling_of}
use Rattle.px_reply.specs.Front.{reply_to}
use Rattle.px_outcome.specs.Handled.{Handled, ◌>>=◌, check, present}
use Rattle.px_outcome.specs.Target.{raw_of}
use Rattle.px_scache.specs.declared.fields.PlayFields.{PlayFields}
use Rattle.px_scache.specs.declared.play.Plays.{Plays}
use Rattle.px_scache.specs.declared.play.Play.{Play}
use Rattle.px_scache.specs.declared.sample.Sample.{Sample}
use Rattle.px_scache.specs.Cache.{Cache, IsSample, sample_named}

-- ---- PLAY_SAMPLE

-- the volume that stands for the full one
abbrev pub UNSET : ℕ
UNSET = 0xFFFFFFFF

abbrev pub is_volume : ℕ → Bool
is_volume volume = nat_le volume 0x7FFFFFFF || nat_eq volume UNSET

abbrev pub volume_of : ℕ → ℕ
volume_of volume = cond (nat_eq volume UNSET) 65536 volume

-- the most plays that are under way
abbrev pub MOST_PLAYS : ℕ
MOST_PLAYS = 64

-- the index that names no sink
abbrev pub NO_INDEX : ℕ
NO_INDEX = 0xFFFFFFFF

-- the names that sinks can have: at most 64 bytes, without a zero byte
abbrev pub is_name : Option (List ℕ) → Bool
is_name None = true
is_name (Some name) = nat_le (length name) 64 && is_text name

-- a sink that is named by both index and name is unclear; here it is asked only of a name that no sink can have
abbrev pub is_clear : SinkRef → Bool
is_clear sink = is_name sink.name || nat_eq sink.index NO_INDEX

-- the play of a sample as it stands in the cache. A name that no sink can have is refused as its CREATE_PLAYBACK_STREAM would be
abbrev pub begun : Plays → PlayFields → Cache → Handled Play
begun plays a cache = do
  sample ← present (sample_named a.name cache) NoEntity
  volume ← check (is_volume a.volume) Invalid
  few ← check (nat_lt plays.under_way MOST_PLAYS) TooLarge
  there ← check (not plays.closed) BadState
  clear ← check (is_clear a.sink) Invalid
  known ← check (is_name (SinkRef.name a.sink)) NoEntity
  Ok (record { sink = a.sink; volume = volume_of a.volume; sample = sample })

-- the sink input
abbrev pub played_reply : ℕ → ℕ → List ℕ
played_reply tag input = reply_to tag ++ number input

-- ---- the packets of a play

-- the stream waits for all of the sample, since as much is asked for at a time
abbrev pub create_of : Play → CreateFields
create_of p = record {
  spec = raw_of p.sample.spec;
  map = p.sample.map;
  sink = p.sink;
  asked = 4194304 ∷ length p.sample.bytes ∷ 0xFFFFFFFF ∷ length p.sample.bytes ∷ [];
  corked = false;
  syncid = 0;
  volume = p.volume ∷ [];
  no_remap = false;
  no_remix = false;
  fix_format = false;
  fix_rate = false;
  fix_channels = false;
  no_move = false;
  variable_rate = false;
  muted = false;
  adjust_latency = false;
  list = [];
  volume_set = Some true;
  early_requests = Some false;
  muted_set = Some false;
  dont_inhibit_auto_suspend = Some false;
  fail_on_suspend = Some false;
  relative_volume = Some false;
  passthrough = Some false;
}

-- the packet of a command, with a tag
abbrev pub packet : ℕ → Command → List ℕ
packet tag command = packet_of (number_of command) tag (fields_of command)

unfoldable pub create_packet : ℕ → Play → List ℕ
create_packet tag p = packet tag (Create (create_of p))

unfoldable pub drain_packet : ℕ → ℕ → List ℕ
drain_packet tag stream = packet tag (Drain stream)

unfoldable pub delete_packet : ℕ → ℕ → List ℕ
delete_packet tag stream = packet tag (Delete stream)

-- ---- the parts of the fields of CREATE_PLAYBACK_STREAM

-- spec, map, sink index, sink name
abbrev pub shape : Play → List Field
shape p = SampleSpec (raw_of p.sample.spec) ∷ Positions p.sample.map ∷ Number p.sink.index ∷ String p.sink.name ∷ []

-- maxlength, corked, tlength, prebuf, minreq, syncid, volume
abbrev pub buffering : Play → List Field
buffering p =
    Number 4194304 ∷ Flag false ∷ Number (length p.sample.bytes) ∷ Number 0xFFFFFFFF ∷ Number (length p.sample.bytes)
    ∷ Number 0 ∷ Volumes (p.volume ∷ []) ∷ []

-- the nine flags after the volume
abbrev pub manner : List Field
manner = Flag false ∷ Flag false ∷ Flag false ∷ Flag false ∷ Flag false ∷ Flag false ∷ Flag false ∷ Flag false ∷ Flag false ∷ []

abbrev pub no_properties : List Field
no_properties = Properties [] ∷ []

-- the flags of later versions: volume_set, and six more
abbrev pub later : List Field
later = Flag true ∷ Flag false ∷ Flag false ∷ Flag false ∷ Flag false ∷ Flag false ∷ Flag false ∷ []

-- ---- their frames, and that of the sample

abbrev pub create_frame : ℕ → Play → List ℕ
create_frame tag p = spelling_of (Control (create_packet tag p))

abbrev pub drain_frame : ℕ → ℕ → List ℕ
drain_frame tag stream = spelling_of (Control (drain_packet tag stream))

abbrev pub delete_frame : ℕ → ℕ → List ℕ
delete_frame tag stream = spelling_of (Control (delete_packet tag stream))

-- a write at the write index of the stream
abbrev pub data_frame : ℕ → Sample → List ℕ
data_frame stream s = spelling_of (Write stream (pos 0) 0 s.bytes)

-- ---- the invariant

pub record IsPlay (p : Play) : Type 0 where
  pub sample : IsSample p.sample
  pub name : IsTrue (is_name p.sink.name)
