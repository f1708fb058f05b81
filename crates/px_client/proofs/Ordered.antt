-- A dialogue that is done has had its replies in order.
use Rattle.std.proofs.Common.{◌≡◌, ℕ, Bool, true, false, not, cond, ◌==◌, List, [], ◌∷◌, Result, Ok, Err, refl, ap, sym, ◌∙◌}
use Rattle.px_tag.specs.declared.fault.TagFault.{TagFault}
use Rattle.px_tag.specs.Place.{Place, start_of}
use Rattle.px_cmd.specs.Packet.{head_at}
use Rattle.px_frame.specs.declared.frame.Frame.{Frame}
use Rattle.px_frame.specs.declared.frame.Body.{Body}
use Rattle.px_frame.specs.declared.frame.Body.TheVariants.{Control, Write}
use Rattle.px_client.specs.declared.errand.Errand.{Errand}
use Rattle.px_client.specs.declared.inputs.Input.{Input}
use Rattle.px_client.specs.declared.awaited.Awaited.{Awaited}
use Rattle.px_client.specs.declared.awaited.Awaited.TheVariants as awaits
use Rattle.px_client.specs.declared.answer.Verdict.{Verdict}
use Rattle.px_client.specs.declared.answer.Verdict.TheVariants.{Message, Reply, Refusal, Other}
use Rattle.px_client.specs.Answers.{tag_of, reply_by, refusal_by, fields_at, only_number, judged_behind, judged}
use Rattle.px_client.specs.Dialogue.{Stage, Waiting, Done, Refused, Astray, last_awaited, judged_body, stage_after, stage_by, stage_from, stage_of}
use Rattle.px_client.specs.Answered.{has_no_tag, is_message, is_answer, answers, IsReply, AreAnswers}
use Rattle.px_client.proofs.Scanned.{refused_stays, astray_stays}
use Rattle.px_client.proofs.Talking.{done_stays, last_ends}

-- ---- messages

no_reply_message : (r : Result (List Input) TagFault) → reply_by r ≡ Message → ⊥
no_reply_message (Ok inputs) e = absurd cc
no_reply_message (Err fault) e = absurd cc

no_refusal_message : (r : Result ℕ TagFault) → refusal_by r ≡ Message → ⊥
no_refusal_message (Ok code) e = absurd cc
no_refusal_message (Err fault) e = absurd cc

only_message : (none fits reply error : Bool) (r s : Verdict) → (r ≡ Message → ⊥) → (s ≡ Message → ⊥) → cond none Message (cond fits (cond reply r (cond error s Other)) Other) ≡ Message → none ≡ true
only_message true fits reply error r s nr ns e = refl
only_message false true true error r s nr ns e = absurd (nr e)
only_message false true false true r s nr ns e = absurd (ns e)
only_message false true false false r s nr ns e = absurd cc
only_message false false reply error r s nr ns e = absurd cc

never_message : (none : Bool) (v : Verdict) (inputs : List Input) → cond none Message v ≡ Reply inputs → none ≡ false
never_message true v inputs e = absurd cc
never_message false v inputs e = refl

head_message : (awaited : Awaited) (size : ℕ) (head : Result ((ℕ × ℕ) × Place) TagFault) → judged_behind awaited size head ≡ Message → has_no_tag head ≡ true
head_message awaited size (Ok head) e =
    only_message (head.0.1 == 0xFFFFFFFF) (head.0.1 == tag_of awaited) (head.0.0 == 2) (head.0.0 == 0) (reply_by (fields_at awaited size head.1)) (refusal_by (only_number head.1))
    (no_reply_message (fields_at awaited size head.1)) (no_refusal_message (only_number head.1)) e
head_message awaited size (Err fault) e = absurd cc

head_reply : (awaited : Awaited) (size : ℕ) (head : Result ((ℕ × ℕ) × Place) TagFault) (inputs : List Input) → judged_behind awaited size head ≡ Reply inputs → has_no_tag head ≡ false
head_reply awaited size (Ok head) inputs e = never_message (head.0.1 == 0xFFFFFFFF) _ inputs e
head_reply awaited size (Err fault) inputs e = refl

packet_message : (awaited : Awaited) (packet : List ℕ) → judged awaited packet ≡ Message → is_message packet ≡ true
unfolding judged is_message
packet_message awaited packet e = head_message awaited _ (head_at (start_of packet)) e

packet_reply : (awaited : Awaited) (packet : List ℕ) (inputs : List Input) → judged awaited packet ≡ Reply inputs → is_message packet ≡ false
unfolding judged is_message
packet_reply awaited packet inputs e = head_reply awaited _ (head_at (start_of packet)) inputs e

body_message : (awaited : Awaited) (body : Body) → judged_body awaited body ≡ Message → is_answer body ≡ false
body_message awaited (Control packet) e = ap not (packet_message awaited packet e)
body_message awaited (Write stream offset seek bytes) e = absurd cc

body_reply : (awaited : Awaited) (body : Body) (inputs : List Input) → judged_body awaited body ≡ Reply inputs → is_answer body ≡ true
body_reply awaited (Control packet) inputs e = ap not (packet_reply awaited packet inputs e)
body_reply awaited (Write stream offset seek bytes) inputs e = absurd cc

-- ---- the next answer

record Next (errand : Errand) (awaited : Awaited) (frames : List Frame) (inputs : List Input) : Type 0 where
  answer : Frame
  rest : List Frame
  found : answers frames ≡ answer ∷ answers rest
  reply : List Input
  is : IsReply awaited reply answer
  goes_on : stage_from errand (stage_after errand awaited reply) rest ≡ Done inputs

next_by : (errand : Errand) (awaited : Awaited) (frame : Frame) (frames : List Frame) (inputs : List Input) (verdict : Verdict) → judged_body awaited frame.body ≡ verdict
    → stage_from errand (stage_by errand awaited frame.at verdict) frames ≡ Done inputs → (stage_from errand (Waiting awaited) frames ≡ Done inputs → Next errand awaited frames inputs) → Next errand awaited (frame ∷ frames) inputs
next_by errand awaited frame frames inputs Message is e more =
    let next = more e in
    record {
      answer = next.answer;
      rest = next.rest;
      found = ap (λ (b : Bool). cond b (frame ∷ answers frames) (answers frames)) (body_message awaited frame.body is) ∙ next.found;
      reply = next.reply;
      is = next.is;
      goes_on = next.goes_on;
    }
next_by errand awaited frame frames inputs (Reply reply) is e more = record {
  answer = frame;
  rest = frames;
  found = ap (λ (b : Bool). cond b (frame ∷ answers frames) (answers frames)) (body_reply awaited frame.body reply is);
  reply = reply;
  is = is;
  goes_on = e;
}
next_by errand awaited frame frames inputs (Refusal code) is e more = absurd (let bad : Refused code ≡ Done inputs = sym (refused_stays errand code frames) ∙ e in cc)
next_by errand awaited frame frames inputs Other is e more = absurd (let bad : Astray frame.at ≡ Done inputs = sym (astray_stays errand frame.at frames) ∙ e in cc)

next : (errand : Errand) (awaited : Awaited) (frames : List Frame) (inputs : List Input) → stage_from errand (Waiting awaited) frames ≡ Done inputs → Next errand awaited frames inputs
next errand awaited [] inputs e = absurd cc
next errand awaited (frame ∷ frames) inputs e = next_by errand awaited frame frames inputs (judged_body awaited frame.body) refl e (next errand awaited frames inputs)

inputs_are : (a b : List Input) → Done a ≡ Done b → a ≡ b
inputs_are a b e = cc

pub in_order : (errand : Errand) (frames : List Frame) (inputs : List Input) → stage_of errand frames ≡ Done inputs → AreAnswers errand frames inputs
in_order errand frames inputs e =
    let one = next errand awaits.Version frames inputs e in
    let two = next errand awaits.Client one.rest inputs one.goes_on in
    let three = next errand (last_awaited errand) two.rest inputs two.goes_on in
    let same : three.reply ≡ inputs = inputs_are three.reply inputs
    (sym (ap (λ (s : Stage). stage_from errand s three.rest) (last_ends errand three.reply) ∙ done_stays errand three.reply three.rest) ∙ three.goes_on) in
    record {
      version = one.answer;
      client = two.answer;
      last = three.answer;
      later = answers three.rest;
      in_order = one.found ∙ ap (λ (fs : List Frame). one.answer ∷ fs) two.found ∙ ap (λ (fs : List Frame). one.answer ∷ two.answer ∷ fs) three.found;
      version_is = (one.reply, one.is);
      client_is = (two.reply, two.is);
      last_is = three.is ∙ ap Reply same;
    }
