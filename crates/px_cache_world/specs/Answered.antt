-- What the server is answered on its own connection. DRAIN has the number of its stream as its tag, and each other command the tag that no stream has as its number.
use Rattle.std.specs.Prelude.{◌≢◌, ℕ, cond, nat_eq, List, [], ◌∷◌, drop, Result, Ok, Err}
use Rattle.px_types.specs.declared.error_code.ErrorCode.TheVariants.{BadState}
use Rattle.px_types.specs.ErrorCode.{code_of}
use Rattle.px_types.specs.declared.limits.TheConstants.{CONTROL_CHANNEL}
use Rattle.px_tag.specs.declared.fault.TagFault.{TagFault}
use Rattle.px_tag.specs.Place.{Place, start_of, ◌>>=◌}
use Rattle.px_tag.specs.Reading.{number_at}
use Rattle.px_cmd.specs.Packet.{head_at}
use Rattle.px_reply.specs.Front.{refusal}
use Rattle.px_state.specs.declared.effect.Effect.{Effect}
use Rattle.px_state.specs.declared.effect.Effect.TheVariants.{Sent, Closed}
use Rattle.px_scache.specs.Play.{played_reply}
use Rattle.px_cache_world.specs.declared.answered.Verdict.{Verdict}
use Rattle.px_cache_world.specs.declared.answered.Verdict.TheVariants.{Replied, Failed, Other}
use Rattle.px_cache_world.specs.declared.answered.Created.{Created}
use Rattle.px_cache_world.specs.declared.answered.Created.TheVariants.{Made, Refused, Unanswered}
use Rattle.px_cache_world.specs.Own.{is_hidden}

-- the tag of every command but DRAIN
abbrev pub NO_STREAM : ℕ
NO_STREAM = 0xFFFFFFFF

-- the numbers of the packets that answer commands
abbrev pub ERROR : ℕ
ERROR = 0

abbrev pub REPLY : ℕ
REPLY = 2

-- the packet of a whole frame, which follows the twenty bytes of its descriptor
abbrev pub packet_in : List ℕ → List ℕ
packet_in frame = drop 20 frame

-- ---- an answer: a reply to the command with a tag, or an error

abbrev pub verdict_by : ℕ → ℕ → Verdict
verdict_by command tag = cond (nat_eq command REPLY) (Replied tag) (cond (nat_eq command ERROR) (Failed tag) Other)

abbrev pub verdict_after : Result ((ℕ × ℕ) × Place) TagFault → Verdict
verdict_after (Ok head) = verdict_by head.0.0 head.0.1
verdict_after (Err fault) = Other

unfoldable pub verdict_of : List ℕ → Verdict
verdict_of frame = verdict_after (head_at (start_of (packet_in frame)))

-- ---- the answer to CREATE_PLAYBACK_STREAM: the stream and the sink input, or the code of an error

abbrev pub made_by : ℕ → ℕ → Created
made_by stream input = cond (nat_eq stream NO_STREAM) Unanswered (Made stream input)

abbrev pub made_from : Result (ℕ × ℕ) TagFault → Created
made_from (Ok numbers) = made_by numbers.0 numbers.1
made_from (Err fault) = Unanswered

abbrev pub made_at : Place → Created
made_at place = made_from (number_at place >>= λ stream. number_at stream.1 >>= λ input. Ok (stream.0, input.0))

abbrev pub refused_from : Result (ℕ × Place) TagFault → Created
refused_from (Ok code) = Refused code.0
refused_from (Err fault) = Unanswered

abbrev pub refused_at : Place → Created
refused_at place = refused_from (number_at place)

abbrev pub created_at : ℕ → ℕ → Place → Created
created_at command tag place =
    cond (nat_eq tag NO_STREAM) (cond (nat_eq command REPLY) (made_at place) (cond (nat_eq command ERROR) (refused_at place) Unanswered)) Unanswered

abbrev pub created_after : Result ((ℕ × ℕ) × Place) TagFault → Created
created_after (Ok head) = created_at head.0.0 head.0.1 head.1
created_after (Err fault) = Unanswered

unfoldable pub created_of : List ℕ → Created
created_of frame = created_after (head_at (start_of (packet_in frame)))

abbrev pub or_later : Created → Created → Created
or_later (Made stream input) later = Made stream input
or_later (Refused code) later = Refused code
or_later Unanswered later = later

-- the first answer among the effects of its event
abbrev pub created_by : List Effect → Created
created_by [] = Unanswered
created_by (Sent to frame ∷ effects) = cond (is_hidden to) (or_later (created_of frame) (created_by effects)) (created_by effects)
created_by (Closed to reason fault at ∷ effects) = created_by effects

-- what PLAY_SAMPLE with a tag is answered then: the sink input, or the error. Where the connection was closed instead it is BadState, as where that was so before
abbrev pub play_reply : ℕ → Created → List ℕ
play_reply tag (Made stream input) = played_reply tag input
play_reply tag (Refused code) = refusal tag code
play_reply tag Unanswered = refusal tag (code_of BadState)

-- the stream is one that data can be written to
abbrev pub HasStream : Created → Type 0
HasStream (Made stream input) = stream ≢ CONTROL_CHANNEL
HasStream (Refused code) = Unit {0}
HasStream Unanswered = Unit {0}

-- ---- the tag of a client's command

abbrev pub tag_after : Result ((ℕ × ℕ) × Place) TagFault → ℕ
tag_after (Ok head) = head.0.1
tag_after (Err fault) = 0

unfoldable pub tag_in : List ℕ → ℕ
tag_in packet = tag_after (head_at (start_of packet))
