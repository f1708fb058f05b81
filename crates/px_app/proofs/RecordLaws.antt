-- The records that are written are those of the effects and of a turn's frames.
use Rattle.std.proofs.Common.{◌≡◌, ◌<◌, ◌^◌, ℕ, List, ◌++◌, length, length-append, Bor, Option, None, Some, refl, sym, ap, ◌∙◌, arith, eqb, false}
use Rattle.std.proofs.lemmas.Bool.{ne_eqb}
use Rattle.std.specs.List.{concat, flat_map}
use Rattle.px_types.specs.declared.ids.ConnId.{ConnId}
use Rattle.px_session.specs.declared.event.Event.{Event}
use Rattle.px_session.specs.declared.event.Event.TheVariants.{Connect, Bytes, Close, Cut, Turn, Collect, Stop}
use Rattle.px_session.specs.declared.output.OutRecord.TheVariants as written
use Rattle.px_session.specs.Output.{record_of}
use Rattle.px_outcome.specs.declared.sending.Reason.{Reason}
use Rattle.px_state.specs.declared.effect.Effect.{Effect}
use Rattle.px_state.specs.declared.effect.Effect.TheVariants as effect
use Rattle.px_frame.specs.declared.frame.Body.{Body}
use Rattle.px_frame.specs.declared.frame.Body.TheVariants.{Control, Write}
use Rattle.px_frame.specs.Descriptor.{descriptor_bytes, control_descriptor, data_descriptor}
use Rattle.px_frame.specs.Frame.{IsBody}
use Rattle.px_frame.specs.Spelling.{spelling_of}
use Rattle.px_state.specs.Effect.{reason_code, IsSendable}
use Rattle.px_world.specs.World.{World}
use Rattle.px_world.specs.Event.{effects_after, frames_played, stopped_by}
use Rattle.px_world.specs.Output.{effect_record, stopped_or_played, turn_record, records_of}
use Rattle.px_app.specs.Records.{turn_sink, turn_part}

pub sent_is : (conn : ConnId) (packet : List ℕ) (bytes : Bor (List ℕ)) → bytes.now ≡ packet → record_of (written.Sent conn bytes) ≡ effect_record (effect.Sent conn packet)
sent_is conn packet bytes same = rw same refl

pub closed_is : (conn : ConnId) (reason : Reason) (code fault at : ℕ) → code ≡ reason_code reason → record_of (written.Closed conn code fault at) ≡ effect_record (effect.Closed conn reason fault at)
closed_is conn reason code fault at same = rw same refl

pub played_is : (sink frames : ℕ) (bytes : Bor (List ℕ)) → 0 < frames → record_of (written.Played sink frames bytes) ≡ turn_part (Some sink) None frames bytes.now
played_is sink frames bytes some =
    let not_zero : eqb frames 0 ≡ false = ne_eqb frames 0 (λ e. omega (arith, some, e)) in
    rw not_zero refl

stopped_is : (sink : ℕ) (stopped : Option ℕ) (frames : List (List ℕ)) → stopped_or_played sink stopped frames ≡ turn_part (Some sink) stopped (length frames) (concat frames)
stopped_is sink None frames = refl
stopped_is sink (Some filled) frames = refl

-- the record of a turn, from its stop and its frames' count and bytes
pub turn_is : (w : World) (e : Event) → turn_record w e ≡ turn_part (turn_sink e) (stopped_by w e) (length (frames_played w e)) (concat (frames_played w e))
turn_is w (Connect conn) = refl
turn_is w (Bytes conn bytes) = refl
turn_is w (Close conn) = refl
turn_is w (Cut conn) = refl
turn_is w (Turn sink frames messages) = stopped_is sink (stopped_by w (Turn sink frames messages)) (frames_played w (Turn sink frames messages))
turn_is w (Collect sink notices) = refl
turn_is w (Stop sink) = refl

-- the records of an event, from what it did
pub outcome_is : (w : World) (e : Event) (effects : List Effect) (stopped : Option ℕ) (frames : ℕ) (played : List ℕ) → effects ≡ effects_after w e → stopped ≡ stopped_by w e → frames ≡ length (frames_played w e) → played ≡ concat (frames_played w e)
    → flat_map effect_record effects ++ turn_part (turn_sink e) stopped frames played ≡ records_of w e
outcome_is w e effects stopped frames played same stop count bytes =
    ap (λ (es : List Effect). flat_map effect_record es ++ turn_part (turn_sink e) stopped frames played) same
    ∙ ap (λ (o : Option ℕ). flat_map effect_record (effects_after w e) ++ turn_part (turn_sink e) o frames played) stop
    ∙ ap (λ (n : ℕ). flat_map effect_record (effects_after w e) ++ turn_part (turn_sink e) (stopped_by w e) n played) count
    ∙ ap (λ (b : List ℕ). flat_map effect_record (effects_after w e) ++ turn_part (turn_sink e) (stopped_by w e) (length (frames_played w e)) b) bytes
    ∙ ap (λ (r : List ℕ). flat_map effect_record (effects_after w e) ++ r) (sym (turn_is w e))

-- ---- how long a record is

-- a frame is its descriptor's twenty bytes and its payload
frame_fits : (body : Body) → IsBody body → length (spelling_of body) < 2 ^ 32
unfolding descriptor_bytes
frame_fits (Control packet) (some, few) = omega (arith, few, length-append (descriptor_bytes (control_descriptor (length packet))) packet)
frame_fits (Write stream offset seek bytes) (other, mode, some, few) =
    omega (arith, few, length-append (descriptor_bytes (data_descriptor (length bytes) stream offset seek)) bytes)

-- a frame that a client is sent has a length of four bytes
pub sendable_fits : (conn : ConnId) (packet bytes : List ℕ) → bytes ≡ packet → IsSendable (effect.Sent conn packet) → length bytes < 2 ^ 32
sendable_fits conn packet bytes same frame = omega (arith, ap (length {A = ℕ}) same, ap (length {A = ℕ}) frame.is, frame_fits frame.body frame.possible)
