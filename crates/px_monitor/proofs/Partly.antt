-- What the parts of a world with monitors do, from what each of them does.
use Rattle.std.proofs.Common.{◌≡◌, ℕ, List, [], ◌∷◌, ◌++◌, unwrap_or, ap, sym, subst, ◌∙◌, append-nil}
use Rattle.px_types.specs.declared.ids.ConnId.{ConnId}
use Rattle.px_session.specs.declared.event.Event.{Event}
use Rattle.px_session.specs.declared.event.Event.TheVariants.{Bytes}
use Rattle.px_state.specs.declared.effect.Effect.{Effect}
use Rattle.px_tag.specs.declared.fault.TagFault.{TagFault}
use Rattle.px_types.specs.declared.limits.TheConstants.{LEAST_PROTOCOL_VERSION}
use Rattle.px_state.specs.State.{State}
use Rattle.px_core.specs.Connecting.{version_of}
use Rattle.px_state.specs.Effect.{sending, fault_code, fault_place, offset_behind}
use Rattle.px_world.specs.World.{World}
use Rattle.px_world.specs.Event.{world_after, effects_after}
use Rattle.px_world.specs.Output.{world_by}
use Rattle.px_world.specs.Running.{Running, StandsFor as WorldStands}
use Rattle.px_sieve.specs.declared.shift.Shift.{Shift}
use Rattle.px_sieve.specs.declared.shift.Shift.TheVariants.{Unshifted, Faulted}
use Rattle.px_sieve.specs.Scene.{shifted, inner, shown_by}
use Rattle.px_sieve.proofs.Shifting.{unshifted}
use Rattle.px_monitor.specs.declared.answer.Answer.{Answer}
use Rattle.px_monitor.specs.declared.answer.Answer.TheVariants.{Packet, Fault}
use Rattle.px_monitor.specs.declared.parts.Parts.{Parts}
use Rattle.px_monitor.specs.Create.{Answered, answer}
use Rattle.px_monitor.specs.Records.{Records}
use Rattle.px_monitor.specs.Monitor.{Monitor, alone, version_on, answered_by, answer_items, zero_length, skipped_of, shift_by, passed_on, StandsForMonitor}

-- the effects of one event, and those of an event that is shown as it is
pub shown-one : (w : World) (e : Event) (shift : Shift) (effects : List Effect) → effects ≡ shifted shift (effects_after w e) → effects ≡ shifted shift (effects_after w e) ++ []
shown-one w e shift effects is = is ∙ sym (append-nil (shifted shift (effects_after w e)))

pub shown-alone : (w : World) (e : Event) (effects : List Effect) → effects ≡ effects_after w e → effects ≡ shown_by w (alone e)
shown-alone w e effects is = shown-one w e Unshifted effects (is ∙ unshifted (effects_after w e))

-- the effects of a reply
pub shown-reply : (effects replies : List Effect) → effects ≡ replies → effects ≡ replies ++ []
shown-reply effects replies is = is ∙ sym (append-nil replies)

-- ---- the answer to a command

-- the version is that of the connection in the world that the code's world stands for
pub answered-is : (m : Monitor) (running : Running) (records after : Records) (version : ℕ) (conn : ConnId) (packet : List ℕ) (given : Answer) → WorldStands running m.world → records ≡ m.records
    → version ≡ unwrap_or (version_of running.core.connections conn) LEAST_PROTOCOL_VERSION → answer version conn packet records ≡ (after, given) → answered_by m conn packet ≡ (after, given)
answered-is m running records after version conn packet given stands same spoken is =
    ap (λ r. answer (version_on m conn) conn packet r) (sym same)
    ∙ ap (λ v. answer v conn packet records) (sym (spoken ∙ ap (λ core. unwrap_or (version_of (State.connections core) conn) LEAST_PROTOCOL_VERSION) stands.core))
    ∙ is

module _ (m : Monitor) (conn : ConnId) (at : ℕ) (packet : List ℕ) (after : Records) where
  pub packet-shown : (given : List ℕ) (effects : List Effect) → answered_by m conn packet ≡ (after, Packet given) → effects ≡ sending conn given
      → effects ≡ shown_by m.world (answer_items conn at (answered_by m conn packet).1)
  packet-shown given effects is sent = shown-reply effects (sending conn given) sent ∙ ap (λ (a : Answered). shown_by m.world (answer_items conn at a.1)) (sym is)

  pub packet-world : (given : List ℕ) (running : Running) → answered_by m conn packet ≡ (after, Packet given) → WorldStands running m.world
      → WorldStands running (world_by m.world (inner (answer_items conn at (answered_by m conn packet).1)))
  packet-world given running is stands = subst (λ (a : Answered). WorldStands running (world_by m.world (inner (answer_items conn at a.1)))) (sym is) stands

  pub fault-shown : (fault : TagFault) (zero : List ℕ) (code place : ℕ) (effects : List Effect) → answered_by m conn packet ≡ (after, Fault fault) → zero ≡ zero_length → code ≡ fault_code fault
      → place ≡ offset_behind at (fault_place fault) → effects ≡ shifted (Faulted conn code place) (effects_after m.world (Bytes conn zero))
      → effects ≡ shown_by m.world (answer_items conn at (answered_by m conn packet).1)
  fault-shown fault zero code place effects is twenty coded placed shown =
      let e = Bytes conn zero_length in
      shown-one m.world e (Faulted conn (fault_code fault) (offset_behind at (fault_place fault))) effects (
      shown
      ∙ ap (λ z. shifted (Faulted conn code place) (effects_after m.world (Bytes conn z))) twenty
      ∙ ap (λ n. shifted (Faulted conn n place) (effects_after m.world e)) coded
      ∙ ap (λ n. shifted (Faulted conn (fault_code fault) n) (effects_after m.world e)) placed
      )
      ∙ ap (λ (a : Answered). shown_by m.world (answer_items conn at a.1)) (sym is)

  pub fault-world : (fault : TagFault) (zero : List ℕ) (running : Running) → answered_by m conn packet ≡ (after, Fault fault) → zero ≡ zero_length → WorldStands running (world_after m.world (Bytes conn zero))
      → WorldStands running (world_by m.world (inner (answer_items conn at (answered_by m conn packet).1)))
  fault-world fault zero running is twenty stands =
      subst (λ (a : Answered). WorldStands running (world_by m.world (inner (answer_items conn at a.1)))) (sym is)
      (subst (λ z. WorldStands running (world_after m.world (Bytes conn z))) twenty stands)

-- ---- the parts

module _ (m : Monitor) (parts : Parts) (conn : ConnId) (stands : StandsForMonitor parts m) where
  pub passed-shown : (bytes : List ℕ) (shift : Shift) (skipped : ℕ) (effects : List Effect) → shift ≡ shift_by conn skipped → skipped ≡ skipped_of conn parts.skips.items
      → effects ≡ shifted shift (effects_after m.world (Bytes conn bytes)) → effects ≡ shown_by m.world (passed_on m conn bytes ∷ [])
  passed-shown bytes shift skipped effects by left shown =
      let same : shift ≡ shift_by conn (skipped_of conn m.skips) = by ∙ ap (shift_by conn) (left ∙ ap (skipped_of conn) stands.skips) in
      shown-one m.world (Bytes conn bytes) (shift_by conn (skipped_of conn m.skips)) effects (shown ∙ ap (λ s. shifted s (effects_after m.world (Bytes conn bytes))) same)
