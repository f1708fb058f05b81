-- The uploads of samples that aren't finished.
use Rattle.std.specs.Prelude.{◌≡◌, ℕ, ◌+◌, ◌-◌, ◌%◌, ◌<◌, ◌≤◌, ℤ, unsigned_abs, Bool, not, cond, ◌&&◌, nat_eq, nat_lt, nat_le, List, [], ◌∷◌, ◌++◌, length, take, filter, find, Option, None, Some, Ok, Err}
use Rattle.std.specs.List.{AllByRecursion, list_any}
use Rattle.px_types.specs.declared.ids.ConnId.{ConnId}
use Rattle.px_types.specs.declared.error_code.ErrorCode.TheVariants.{Invalid, NoEntity, BadState, NotSupported, TooLarge}
use Rattle.px_tag.specs.declared.raw.RawSpec.{RawSpec}
use Rattle.px_tag.specs.Item.{number}
use Rattle.px_sample.specs.declared.spec.Spec.{Spec}
use Rattle.px_sample.specs.Format.{format_with, frame_size_of}
use Rattle.px_chmap.specs.ChannelMap.{IsChannelMap}
use Rattle.px_reply.specs.Front.{reply_to}
use Rattle.px_outcome.specs.declared.refusal.Refusal.TheVariants.{Code}
use Rattle.px_outcome.specs.Handled.{Handled, ◌>>=◌, check, present}
use Rattle.px_ctl_play.specs.Asked.{is_spec, is_map}
use Rattle.px_scache.specs.declared.fields.UploadFields.{UploadFields}
use Rattle.px_scache.specs.declared.upload.Counter.{Counter}
use Rattle.px_scache.specs.declared.upload.Upload.{Upload}
use Rattle.px_scache.specs.declared.sample.Sample.{Sample}

-- the next stream numbers of connections that have created uploads; the uploads in order of creation
pub record Uploads : Type 0 where
  pub counters : List Counter
  pub list : List Upload

abbrev pub no_uploads : Uploads
no_uploads = record { counters = []; list = [] }

-- ---- the uploads of a connection

abbrev pub is_by : ConnId → Upload → Bool
is_by conn u = nat_eq (Upload.conn u).0 conn.0

abbrev pub uploads_of : ConnId → List Upload → List Upload
uploads_of conn list = filter (is_by conn) list

-- the upload with a stream number
abbrev pub is_upload : ConnId → ℕ → Upload → Bool
is_upload conn stream u = is_by conn u && nat_eq u.stream stream

abbrev pub has_upload : ConnId → ℕ → Uploads → Bool
has_upload conn stream uploads = list_any (is_upload conn stream) uploads.list

-- ---- the stream number of each connection's next upload

abbrev pub FIRST_STREAM : ℕ
FIRST_STREAM = 0x80000000

abbrev pub LAST_STREAM : ℕ
LAST_STREAM = 0xFFFFFFFF

abbrev pub counts_for : ConnId → Counter → Bool
counts_for conn c = nat_eq (Counter.conn c).0 conn.0

abbrev pub next_in : Option Counter → ℕ
next_in None = FIRST_STREAM
next_in (Some c) = c.next

abbrev pub next_of : ConnId → List Counter → ℕ
next_of conn counters = next_in (find (counts_for conn) counters)

abbrev pub other_counters : ConnId → List Counter → List Counter
other_counters conn counters = filter (λ c. not (counts_for conn c)) counters

abbrev pub with_counter : ConnId → ℕ → List Counter → List Counter
with_counter conn next counters = other_counters conn counters ++ record { conn = conn; next = next } ∷ []

-- ---- changes

abbrev pub with_upload : Upload → Uploads → Uploads
with_upload u uploads = record {
  counters = with_counter (Upload.conn u) (u.stream + 1) uploads.counters;
  list = uploads.list ++ u ∷ [];
}

abbrev pub without_upload : ConnId → ℕ → Uploads → Uploads
without_upload conn stream uploads = record uploads { list = filter (λ u. not (is_upload conn stream u)) uploads.list }

-- a connection is closed: its uploads end, and one that has the same number later counts from the first stream number
abbrev pub without_conn : ConnId → Uploads → Uploads
without_conn conn uploads = record {
  counters = other_counters conn uploads.counters;
  list = filter (λ u. not (is_by conn u)) uploads.list;
}

-- ---- data

-- data is added up to the upload's length, and the rest of it is dropped
abbrev pub added : List ℕ → Upload → Upload
added more u = record u { bytes = u.bytes ++ take (u.length - length u.bytes) more }

abbrev pub change_first : (Upload → Bool) → (Upload → Upload) → List Upload → List Upload
change_first is change [] = []
change_first is change (u ∷ list) = cond (is u) (change u ∷ list) (u ∷ change_first is change list)

-- data that follows what was sent before: at offset 0 from the write index
abbrev pub follows : ℤ → ℕ → Bool
follows offset seek = nat_eq (unsigned_abs offset) 0 && nat_eq seek 0

-- a data frame to an upload; any other offset or seek mode is ignored
abbrev pub written : ConnId → ℕ → ℤ → ℕ → List ℕ → Uploads → Uploads
written conn stream offset seek more uploads =
    cond (follows offset seek) (record uploads { list = change_first (is_upload conn stream) (added more) uploads.list }) uploads

-- ---- CREATE_UPLOAD_STREAM

-- the name of the sample, which may not be empty
abbrev pub named : Option (List ℕ) → Handled (List ℕ)
named None = Err (Code Invalid)
named (Some name) = check (nat_lt 0 (length name)) Invalid >>= λ some. Ok name

abbrev pub is_lawful : UploadFields → Bool
is_lawful a = is_spec a.spec && is_map a.spec a.map

-- no floating point
abbrev pub is_supported : UploadFields → Bool
is_supported a = not (nat_eq a.spec.format 5) && not (nat_eq a.spec.format 6)

abbrev pub spec_of : RawSpec → Spec
spec_of spec = record { format = format_with spec.format; channels = spec.channels; rate = spec.rate }

-- some frames, all of them whole
abbrev pub is_whole : UploadFields → Bool
is_whole a = nat_lt 0 a.length && nat_eq (a.length % frame_size_of (spec_of a.spec)) 0

-- the most bytes of a sample, and the most uploads of a connection
abbrev pub MOST_BYTES : ℕ
MOST_BYTES = 1048576

abbrev pub MOST_UPLOADS : ℕ
MOST_UPLOADS = 16

abbrev pub has_room : ConnId → UploadFields → Uploads → Bool
has_room conn a uploads =
    nat_le a.length MOST_BYTES
    && nat_lt (length (uploads_of conn uploads.list)) MOST_UPLOADS
    && nat_lt (next_of conn uploads.counters) LAST_STREAM

abbrev pub upload_of : ConnId → List ℕ → UploadFields → Uploads → Upload
upload_of conn name a uploads = record {
  conn = conn;
  stream = next_of conn uploads.counters;
  name = name;
  spec = spec_of a.spec;
  map = a.map;
  length = a.length;
  bytes = [];
}

-- the new upload
abbrev pub made : ConnId → UploadFields → Uploads → Handled Upload
made conn a uploads = do
  name ← named a.name
  lawful ← check (is_lawful a) Invalid
  supported ← check (is_supported a) NotSupported
  whole ← check (is_whole a) Invalid
  room ← check (has_room conn a uploads) TooLarge
  Ok (upload_of conn name a uploads)

-- stream, length
abbrev pub created_reply : ℕ → Upload → List ℕ
created_reply tag u = reply_to tag ++ number u.stream ++ number u.length

abbrev pub Done : Type 0
Done = Uploads × List ℕ

abbrev pub create : ConnId → ℕ → UploadFields → Uploads → Handled Done
create conn tag a uploads = made conn a uploads >>= λ u. Ok (with_upload u uploads, created_reply tag u)

-- ---- DELETE_UPLOAD_STREAM and FINISH_UPLOAD_STREAM

abbrev pub delete : ConnId → ℕ → ℕ → Uploads → Handled Done
delete conn tag stream uploads = do
  there ← check (has_upload conn stream uploads) NoEntity
  Ok (without_upload conn stream uploads, reply_to tag)

abbrev pub sample_of : Upload → Sample
sample_of u = record { name = u.name; spec = u.spec; map = u.map; bytes = u.bytes }

-- the sample of an upload that has all its bytes
abbrev pub finished : ConnId → ℕ → Uploads → Handled Sample
finished conn stream uploads = do
  u ← present (find (is_upload conn stream) uploads.list) NoEntity
  whole ← check (nat_eq (length (Upload.bytes u)) (Upload.length u)) BadState
  Ok (sample_of u)

-- ---- the invariant

pub record IsUpload (u : Upload) : Type 0 where
  pub map : IsChannelMap u.map
  pub channels : length u.map ≡ u.spec.channels
  pub rate : u.spec.rate ≤ 192000
  pub some : 0 < u.length
  pub few : u.length ≤ MOST_BYTES
  pub within : length u.bytes ≤ u.length

abbrev pub AreUploads : Uploads → Type 0
AreUploads uploads = AllByRecursion IsUpload uploads.list
