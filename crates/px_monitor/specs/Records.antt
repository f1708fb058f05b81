-- The table of record streams.
use Rattle.std.specs.Prelude.{ℕ, ◌+◌, ◌<◌, ◌≤◌, Bool, not, ◌&&◌, nat_eq, List, [], ◌∷◌, ◌++◌, filter, find, map, codes, Option, None, Some}
use Rattle.std.specs.List.{AllByRecursion}
use Rattle.px_types.specs.declared.ids.ConnId.{ConnId}
use Rattle.px_header.specs.declared.header.SinkSpec.{SinkSpec}
use Rattle.px_sinks.specs.Sinks.{targets_of}
use Rattle.px_outcome.specs.declared.target.Target.{Target}
use Rattle.px_outcome.specs.Target.{IsTarget}
use Rattle.px_monitor.specs.declared.recording.Recording.{Recording}
use Rattle.px_monitor.specs.declared.recording.Count.{Count}

-- the sources, one a sink, in the order of the sinks; the index of the next source output; how many record streams connections have
-- created; the record streams in order of creation
pub record Records : Type 0 where
  pub sources : List Target
  pub next_output : ℕ
  pub counts : List Count
  pub streams : List Recording

-- ---- sources

-- the monitor of a sink: its name is the sink's and `.monitor`
abbrev pub monitor_of : Target → Target
monitor_of sink = record sink { name = sink.name ++ codes ".monitor" }

abbrev pub sources_of : List SinkSpec → List Target
sources_of sinks = map monitor_of (targets_of sinks)

-- before the first command
abbrev pub no_records : List SinkSpec → Records
no_records sinks = record { sources = sources_of sinks; next_output = 0; counts = []; streams = [] }

-- ---- the record streams of a connection

abbrev pub is_by : ConnId → Recording → Bool
is_by conn r = nat_eq (Recording.conn r).0 conn.0

abbrev pub streams_of : ConnId → List Recording → List Recording
streams_of conn streams = filter (is_by conn) streams

-- the stream with a number
abbrev pub is_stream : ConnId → ℕ → Recording → Bool
is_stream conn stream r = is_by conn r && nat_eq r.stream stream

-- ---- how many record streams each connection has created, 0 where none is counted

abbrev pub counts_for : ConnId → Count → Bool
counts_for conn c = nat_eq (Count.conn c).0 conn.0

abbrev pub number_in : Option Count → ℕ
number_in None = 0
number_in (Some c) = c.streams

abbrev pub count_of : ConnId → List Count → ℕ
count_of conn counts = number_in (find (counts_for conn) counts)

abbrev pub other_counts : ConnId → List Count → List Count
other_counts conn counts = filter (λ c. not (counts_for conn c)) counts

abbrev pub with_count : ConnId → ℕ → List Count → List Count
with_count conn streams counts = other_counts conn counts ++ record { conn = conn; streams = streams } ∷ []

-- ---- changes

-- a record stream is added
abbrev pub with_stream : Recording → Records → Records
with_stream r records = record records {
  next_output = records.next_output + 1;
  counts = with_count (Recording.conn r) (r.stream + 1) records.counts;
  streams = records.streams ++ r ∷ [];
}

abbrev pub without_stream : ConnId → ℕ → Records → Records
without_stream conn stream records = record records { streams = filter (λ r. not (is_stream conn stream r)) records.streams }

-- a connection is closed: its record streams end, and one that has the same number later counts from 0
abbrev pub without_conn : ConnId → Records → Records
without_conn conn records = record records {
  counts = other_counts conn records.counts;
  streams = filter (λ r. not (is_by conn r)) records.streams;
}

-- ---- the invariant

-- a record stream: its number isn't that of control packets, and each data frame has at least one byte and at most 65,536
pub record IsRecording (r : Recording) : Type 0 where
  pub stream : r.stream < 0xFFFFFFFF
  pub some : 1 ≤ r.fragsize
  pub few : r.fragsize ≤ 65536

pub record AreRecords (records : Records) : Type 0 where
  pub sources : AllByRecursion IsTarget records.sources
  pub streams : AllByRecursion IsRecording records.streams
