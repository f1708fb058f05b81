-- The effects of a step on clients.
use Rattle.std.specs.Prelude.{◌≡◌, ℕ, ◌+◌, ◌-◌, ◌^◌, min, Bool, cond, ◌&&◌, nat_lt, nat_le, List, [], ◌∷◌, ◌++◌, length}
use Rattle.std.specs.List.{AllByRecursion}
use Rattle.px_types.specs.declared.ids.ConnId.{ConnId}
use Rattle.px_tag.specs.declared.fault.TagFault.{TagFault}
use Rattle.px_tag.specs.declared.fault.TagFault.TheVariants.{WrongTag, Short, BadValue, Left}
use Rattle.px_frame.specs.declared.frame.Body.{Body}
use Rattle.px_frame.specs.Descriptor.{descriptor_bytes, control_descriptor}
use Rattle.px_frame.specs.Frame.{IsBody}
use Rattle.px_frame.specs.Spelling.{spelling_of, HasNumbers}
use Rattle.px_outcome.specs.declared.sending.Reason.{Reason}
use Rattle.px_outcome.specs.declared.sending.Reason.TheVariants.{Protocol}
pub use Rattle.px_outcome.specs.Outcome.{reason_code}
use Rattle.px_state.specs.declared.effect.Effect.{Effect}
use Rattle.px_state.specs.declared.effect.Effect.TheVariants.{Sent, Closed}

-- a packet as a whole frame: its descriptor and its bytes
unfoldable pub framed : List ℕ → List ℕ
framed packet = descriptor_bytes (control_descriptor (length packet)) ++ packet

-- a packet goes to a connection, as a whole frame
abbrev pub sent : ConnId → List ℕ → Effect
sent conn packet = Sent conn (framed packet)

-- a frame carries packets of 1 to 16,777,216 bytes
abbrev pub MOST_BYTES : ℕ
MOST_BYTES = 16777216

abbrev pub fits : List ℕ → Bool
fits packet = nat_lt 0 (length packet) && nat_le (length packet) MOST_BYTES

-- a packet is sent to a connection where a frame can carry it
abbrev pub sending : ConnId → List ℕ → List Effect
sending conn packet = cond (fits packet) (sent conn packet ∷ []) []

-- the number of a fault in a packet, after the five of frame faults
abbrev pub fault_code : TagFault → ℕ
fault_code (WrongTag at) = 6
fault_code (Short at) = 7
fault_code (BadValue at) = 8
fault_code (Left at) = 9

-- and its place in the packet
abbrev pub fault_place : TagFault → ℕ
fault_place (WrongTag at) = at
fault_place (Short at) = at
fault_place (BadValue at) = at
fault_place (Left at) = at

-- an offset in a connection's bytes, saturated to 64 bits
abbrev pub offset_behind : ℕ → ℕ → ℕ
offset_behind at place = min (at + place) (2 ^ 64 - 1)

-- a connection is ended for a fault at an offset of its bytes
abbrev pub closed_at : ConnId → ℕ → ℕ → Effect
closed_at conn fault at = Closed conn Protocol fault at

-- a connection is ended for another reason
abbrev pub closed_for : ConnId → Reason → Effect
closed_for conn reason = Closed conn reason 0 0

-- ---- the length of a packet

-- these bytes are one whole frame, of a control packet or of a write, with 1 to 16,777,216 bytes of payload
pub record IsFrame (bytes : List ℕ) : Type 0 where
  pub body : Body
  pub is : bytes ≡ spelling_of body
  pub possible : IsBody body
  pub numbers : HasNumbers body

-- bytes sent to a client are such a frame
abbrev pub IsSendable : Effect → Type 0
IsSendable (Sent conn bytes) = IsFrame bytes
IsSendable (Closed conn reason fault at) = Unit {0}

abbrev pub AreSendable : List Effect → Type 0
AreSendable effects = AllByRecursion IsSendable effects
