-- Each data frame of a record stream has at least one byte, since the frames of its sink have.
use Rattle.std.proofs.Common.{◌≡◌, ℕ, zero, suc, ◌+◌, ◌*◌, ◌≤◌, List, [], ◌∷◌, ◌++◌, map, take, Option, None, Some, Result, Ok, Err, refl, subst, arith, not}
use Rattle.std.proofs.Math.Nat.{mul-le-mul_left}
use Rattle.std.specs.Prelude.{find, slice_get, nat_eq, bytes_eq}
use Rattle.std.specs.List.{AllByRecursion, list_any}
use Rattle.px_types.specs.declared.ids.ConnId.{ConnId}
use Rattle.px_types.specs.declared.error_code.ErrorCode.TheVariants.{Invalid, NoEntity, NotSupported, TooLarge}
use Rattle.px_tag.specs.declared.fault.TagFault.{TagFault}
use Rattle.px_tag.specs.Place.{Place, start_of}
use Rattle.px_cmd.specs.declared.fault.CmdFault.{CmdFault}
use Rattle.px_cmd.specs.declared.fault.CmdFault.TheVariants.{Protocol, Unknown, Unsupported, NoMemory}
use Rattle.px_cmd.specs.Packet.{head_at}
use Rattle.px_sample.specs.declared.spec.Spec.{Spec}
use Rattle.px_sample.specs.Format.{frame_size_of, size_of}
use Rattle.px_sample.specs.declared.format.Format.{Format}
use Rattle.px_sample.specs.declared.format.Format.TheVariants.{U8, Alaw, Ulaw, S16Le, S16Be, Float32Le, Float32Be, S32Le, S32Be, S24Le, S24Be, S24In32Le, S24In32Be}
use Rattle.px_header.specs.declared.header.Header.{Header}
use Rattle.px_header.specs.declared.header.SinkSpec.{SinkSpec}
use Rattle.px_header.specs.HeaderRules.{IsHeader, AreSinks}
use Rattle.px_session.specs.declared.event.Event.{Event}
use Rattle.px_session.specs.declared.event.Event.TheVariants.{Connect, Bytes, Close, Cut, Turn, Collect, Stop}
use Rattle.px_state.specs.declared.effect.Effect.{Effect}
use Rattle.px_state.specs.declared.effect.Effect.TheVariants.{Sent, Closed}
use Rattle.px_outcome.specs.declared.refusal.Refusal.TheVariants.{Code, NoMemory as OutOfMemory}
use Rattle.px_outcome.specs.declared.target.Target.{Target}
use Rattle.px_outcome.specs.Handled.{Handled, ◌>>=◌, check, present}
use Rattle.px_reply.specs.Front.{reply_to}
use Rattle.px_sinks.specs.Sinks.{targets_from, MOST_SINKS}
use Rattle.px_sieve.specs.declared.segment.Segment.{Segment}
use Rattle.px_sieve.specs.declared.piece.Piece.{Piece}
use Rattle.px_sieve.specs.declared.piece.Piece.TheVariants.{Pass, Broken, Own, Write}
use Rattle.px_sieve.specs.Scene.{shown_by}
use Rattle.px_monitor.specs.declared.fields.RecordFields.{RecordFields}
use Rattle.px_monitor.specs.declared.command.Request.{Request}
use Rattle.px_monitor.specs.declared.command.Request.TheVariants.{Create, Delete}
use Rattle.px_monitor.specs.declared.recording.Recording.{Recording}
use Rattle.px_monitor.specs.Command.{request_at}
use Rattle.px_monitor.specs.Records.{Records, monitor_of, is_by, is_stream, with_stream, without_stream, without_conn}
use Rattle.px_monitor.specs.Create.{NO_INDEX, place_of, named, is_lawful, is_supported, has_room, fragsize_of, recording_of, created_reply, maxlength_of, Done, made, create, delete, handled, replied, requested, after_head}
use Rattle.px_monitor.specs.Monitor.{Monitor, new_monitor, records_seen, version_on, packet_of, handled_in, handed_out, piece_for, piece_items, after_segment, after_segments, hearing, to_hand_out, alone, monitor_after}
use Rattle.px_monitor.specs.Run.{AreSized}
use Rattle.px_monitor.proofs.Kept.{kept, found, placed, present_ok, checked}

abbrev HasChannels : Target → Type 0
HasChannels t = 1 ≤ t.spec.channels

abbrev HasSize : Recording → Type 0
HasSize r = 1 ≤ r.fragsize

-- the sources have channels, and the record streams sizes
record Sized (records : Records) : Type 0 where
  sources : AllByRecursion HasChannels records.sources
  sizes : AllByRecursion HasSize records.streams

-- ---- a new record stream

some-size : (f : Format) → 1 ≤ size_of f
some-size U8 = omega arith
some-size Alaw = omega arith
some-size Ulaw = omega arith
some-size S16Le = omega arith
some-size S16Be = omega arith
some-size Float32Le = omega arith
some-size Float32Be = omega arith
some-size S32Le = omega arith
some-size S32Be = omega arith
some-size S24Le = omega arith
some-size S24Be = omega arith
some-size S24In32Le = omega arith
some-size S24In32Be = omega arith

some-frame : (spec : Spec) → 1 ≤ spec.channels → 1 ≤ frame_size_of spec
some-frame spec channels =
    let all : size_of spec.format * 1 ≤ size_of spec.format * spec.channels = mul-le-mul_left (size_of spec.format) channels in
    omega (arith, all, some-size spec.format)

same-ok : {a b : Recording × List ℕ} → ◌≡◌ {A = Handled (Recording × List ℕ)} (Ok a) (Ok b) → a ≡ b
same-ok e = cc

same-done : {a b : Done} → ◌≡◌ {A = Handled Done} (Ok a) (Ok b) → a ≡ b
same-done e = cc

bound : {A B : Type 0} (h : Handled A) (f : A → Handled B) (y : B) → (h >>= f) ≡ Ok y → (x : A) × (h ≡ Ok x) × (f x ≡ Ok y)
bound (Ok x) f y e = (x, refl, e)
bound (Err refusal) f y e = absurd cc

some-fragsize : (spec : Spec) (asked : ℕ) → 1 ≤ spec.channels → 1 ≤ fragsize_of spec asked
some-fragsize spec asked channels = let one = some-frame spec channels in omega (arith, one)

named-channels : (sources : List Target) (index : ℕ) (name : Option (List ℕ)) (t : Target) → AllByRecursion HasChannels sources → named sources index name ≡ Ok t → HasChannels t
named-channels sources index None t all e = placed HasChannels sources (place_of index) t all (present_ok (slice_get sources (place_of index)) NoEntity t e)
named-channels sources index (Some name) t all e =
    let called = find (λ source. bytes_eq (Target.name source) name) sources in
    found HasChannels (λ source. bytes_eq (Target.name source) name) sources t all (present_ok called NoEntity t (checked (nat_eq index NO_INDEX) Invalid (present called NoEntity) t e))

-- the new record stream and its reply, once the source is known
abbrev new-on : ConnId → ℕ → RecordFields → Records → Target → Handled (Recording × List ℕ)
new-on conn tag a records source = Ok (recording_of conn source a records, created_reply tag source (maxlength_of a) (recording_of conn source a records))

abbrev roomy-on : ConnId → ℕ → RecordFields → Records → Target → Handled (Recording × List ℕ)
roomy-on conn tag a records source = check (has_room conn records) TooLarge >>= λ room. new-on conn tag a records source

abbrev made-on : ConnId → ℕ → RecordFields → Records → Target → Handled (Recording × List ℕ)
made-on conn tag a records source = check (is_supported source a) NotSupported >>= λ supported. roomy-on conn tag a records source

made-size : (conn : ConnId) (tag : ℕ) (a : RecordFields) (records : Records) (new : Recording × List ℕ) → AllByRecursion HasChannels records.sources → made conn tag a records ≡ Ok new → HasSize new.0
made-size conn tag a records new all e =
    let lawful = bound (check (is_lawful a) Invalid) (λ one. named records.sources a.source.index a.source.name >>= made-on conn tag a records) new e in
    let source = bound (named records.sources a.source.index a.source.name) (made-on conn tag a records) new lawful.2 in
    let supported = bound (check (is_supported source.0 a) NotSupported) (λ supported. roomy-on conn tag a records source.0) new source.2 in
    let room = bound (check (has_room conn records) TooLarge) (λ room. new-on conn tag a records source.0) new supported.2 in
    let same : (recording_of conn source.0 a records, created_reply tag source.0 (maxlength_of a) (recording_of conn source.0 a records)) ≡ new = same-ok room.2 in
    subst (λ (n : Recording × List ℕ). HasSize n.0) same
    (some-fragsize source.0.spec a.fragsize (named-channels records.sources a.source.index a.source.name source.0 all source.1))

-- ---- commands

all-more : (streams : List Recording) (r : Recording) → AllByRecursion HasSize streams → HasSize r → AllByRecursion HasSize (streams ++ r ∷ [])
all-more [] r all is = (is, tt)
all-more (s ∷ streams) r all is = (all.0, all-more streams r all.1 is)

created-sized : (conn : ConnId) (tag : ℕ) (a : RecordFields) (records : Records) (done : Done) → Sized records → create conn tag a records ≡ Ok done → Sized done.0
created-sized conn tag a records done s e =
    let new = bound (made conn tag a records) (λ new. Ok (with_stream new.0 records, new.1)) done e in
    let same : (with_stream new.0.0 records, new.0.1) ≡ done = same-done new.2 in
    subst (λ (d : Done). Sized d.0) same (record { sources = s.sources; sizes = all-more records.streams new.0.0 s.sizes (made-size conn tag a records new.0 s.sources new.1) })

deleted-sized : (conn : ConnId) (tag stream : ℕ) (records : Records) (done : Done) → Sized records → delete conn tag stream records ≡ Ok done → Sized done.0
deleted-sized conn tag stream records done s e =
    let there = bound (check (list_any (is_stream conn stream) records.streams) NoEntity) (λ there. Ok (without_stream conn stream records, reply_to tag)) done e in
    let same : (without_stream conn stream records, reply_to tag) ≡ done = same-done there.2 in
    subst (λ (d : Done). Sized d.0) same (record { sources = s.sources; sizes = kept HasSize (λ r. not (is_stream conn stream r)) records.streams s.sizes })

handled-sized : (conn : ConnId) (tag : ℕ) (request : Request) (records : Records) (done : Done) → Sized records → handled conn tag request records ≡ Ok done → Sized done.0
handled-sized conn tag (Create a) records done s e = created-sized conn tag a records done s e
handled-sized conn tag (Delete stream) records done s e = deleted-sized conn tag stream records done s e

replied-sized : (tag : ℕ) (records : Records) (h : Handled Done) → Sized records → ((done : Done) → h ≡ Ok done → Sized done.0) → Sized (replied tag records h).0
replied-sized tag records (Ok done) s k = k done refl
replied-sized tag records (Err (Code code)) s k = s
replied-sized tag records (Err OutOfMemory) s k = s

requested-sized : (conn : ConnId) (tag : ℕ) (records : Records) (r : Result Request CmdFault) → Sized records → Sized (requested conn tag records r).0
requested-sized conn tag records (Ok request) s = replied-sized tag records (handled conn tag request records) s (λ done e. handled-sized conn tag request records done s e)
requested-sized conn tag records (Err (Protocol fault)) s = s
requested-sized conn tag records (Err (Unknown number)) s = s
requested-sized conn tag records (Err (Unsupported number)) s = s
requested-sized conn tag records (Err NoMemory) s = s

head-sized : (version : ℕ) (conn : ConnId) (records : Records) (r : Result ((ℕ × ℕ) × Place) TagFault) → Sized records → Sized (after_head version conn records r).0
head-sized version conn records (Err fault) s = s
head-sized version conn records (Ok head) s = requested-sized conn head.0.1 records (request_at version head.0.0 head.1) s

-- ---- events

without-sized : (conn : ConnId) (records : Records) → Sized records → Sized (without_conn conn records)
without-sized conn records s = record { sources = s.sources; sizes = kept HasSize (λ r. not (is_by conn r)) records.streams s.sizes }

seen-sized : (effects : List Effect) (records : Records) → Sized records → Sized (records_seen effects records)
seen-sized [] records s = s
seen-sized (Sent conn packet ∷ effects) records s = seen-sized effects records s
seen-sized (Closed conn reason fault at ∷ effects) records s = seen-sized effects (without_conn conn records) (without-sized conn records s)

handled-in-sized : (m : Monitor) (conn : ConnId) (piece : Piece) → Sized m.records → Sized (handled_in m conn piece).records
handled-in-sized m conn (Pass frame) s = s
handled-in-sized m conn (Broken bytes) s = s
handled-in-sized m conn (Write frame) s = s
handled-in-sized m conn (Own frame) s = head-sized (version_on m conn) conn m.records (head_at (start_of (packet_of frame.body))) s

segment-sized : (m : Monitor) (conn : ConnId) (segment : Segment) → Sized m.records → Sized (after_segment m conn segment).records
segment-sized m conn segment s =
    let piece = piece_for m conn segment in
    let h = handled_in (handed_out m conn) conn piece in
    seen-sized (shown_by h.world (piece_items (handed_out m conn) conn piece)) h.records (handled-in-sized (handed_out m conn) conn piece s)

segments-sized : (m : Monitor) (conn : ConnId) (segments : List Segment) → Sized m.records → Sized (after_segments m conn segments).records
segments-sized m conn [] s = s
segments-sized m conn (segment ∷ segments) s = segments-sized (after_segment m conn segment) conn segments (segment-sized m conn segment s)

event-sized : (m : Monitor) (e : Event) → Sized m.records → Sized (monitor_after m e).records
event-sized m (Connect conn) s = seen-sized (shown_by m.world (alone (Connect conn))) m.records s
event-sized m (Bytes conn bytes) s = segments-sized (hearing m conn bytes) conn (to_hand_out (hearing m conn bytes) conn) s
event-sized m (Close conn) s = without-sized conn (records_seen (shown_by m.world (alone (Close conn))) m.records) (seen-sized (shown_by m.world (alone (Close conn))) m.records s)
event-sized m (Cut conn) s = seen-sized (shown_by m.world (alone (Cut conn))) m.records s
event-sized m (Turn sink frames n) s = seen-sized (shown_by m.world (alone (Turn sink frames n))) m.records s
event-sized m (Collect sink n) s = seen-sized (shown_by m.world (alone (Collect sink n))) m.records s
event-sized m (Stop sink) s = seen-sized (shown_by m.world (alone (Stop sink))) m.records s

run-sized : (m : Monitor) (events : List Event) → Sized m.records → AreSized m events
run-sized m [] s = tt
run-sized m (e ∷ events) s = let next = event-sized m e s in (next.sizes, run-sized (monitor_after m e) events next)

-- ---- the first state

sources-sized : (n index : ℕ) (earlier sinks : List SinkSpec) → AreSinks earlier sinks → AllByRecursion HasChannels (map monitor_of (targets_from index (take n sinks)))
sources-sized zero index earlier [] h = tt
sources-sized (suc n) index earlier [] h = tt
sources-sized zero index earlier (sink ∷ sinks) h = tt
sources-sized (suc n) index earlier (sink ∷ sinks) h = (h.0.channels.0, sources-sized n (index + 1) (earlier ++ sink ∷ []) sinks h.1)

pub all-sized : (header : Header) (events : List Event) → IsHeader header → AreSized (new_monitor header) events
all-sized header events h = run-sized (new_monitor header) events (record { sources = sources-sized MOST_SINKS 0 [] header.sinks h.sinks; sizes = tt })
