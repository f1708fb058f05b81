-- What kind of outcome each step has: no change with one effect at most, a reply first, no effect, or the end of a connection.
use Rattle.std.proofs.Common.{◌≡◌, ◌≤◌, ℕ, zero, suc, length, List, [], ◌∷◌, ◌++◌, Option, Some, None, Bool, true, false, refl, ap, sym, ◌∙◌, arith}
use Rattle.std.specs.Prelude.{get_or, slice_get, filter, replicate, flat_map, Result, Ok, Err}
use Rattle.std.proofs.lemmas.Bool.{cond_both, cond-true, cond-false, false≢true}
use Rattle.std.proofs.lemmas.List.{append_assoc}
use Rattle.px_types.specs.declared.ids.ConnId.{ConnId}
use Rattle.px_types.specs.declared.ids.SinkId.{SinkId}
use Rattle.px_types.specs.declared.error_code.ErrorCode.{ErrorCode}
use Rattle.px_types.specs.declared.error_code.ErrorCode.TheVariants.{Access, Command as UnknownCommand, NotSupported, TooLarge}
use Rattle.px_types.specs.ErrorCode.{code_of}
use Rattle.px_tag.specs.declared.fault.TagFault.{TagFault}
use Rattle.px_tag.specs.Place.{Place, start_of}
use Rattle.px_tag.specs.Item.{number}
use Rattle.px_cmd.specs.Packet.{head_at}
use Rattle.px_cmd.specs.Meant.{meant}
use Rattle.px_cmd.specs.declared.command.Command.{Command}
use Rattle.px_cmd.specs.declared.fault.CmdFault.{CmdFault}
use Rattle.px_cmd.specs.declared.fault.CmdFault.TheVariants.{Protocol, Unknown, Unsupported, NoMemory as OutOfMemory}
use Rattle.px_frame.specs.Descriptor.{descriptor_bytes}
use Rattle.px_frame.specs.declared.frame.Frame.{Frame}
use Rattle.px_frame.specs.declared.frame.Body.{Body}
use Rattle.px_frame.specs.declared.frame.Body.TheVariants.{Control, Write}
use Rattle.px_reply.specs.Front.{reply_to, refusal}
use Rattle.px_reply.specs.Message.{latency_reply, moved_message}
use Rattle.px_model.specs.Frame.{SampleSpec}
use Rattle.px_msg.specs.declared.notice.Notice.{Notice}
use Rattle.px_msg.specs.declared.notice.Notice.TheVariants.{Request, Overflow, Underflow, Started, Drained, Detached, Latency}
use Rattle.px_outcome.specs.declared.refusal.Refusal.TheVariants.{Code, NoMemory}
use Rattle.px_outcome.specs.declared.change.Change.TheVariants.{Released, Forgotten}
use Rattle.px_outcome.specs.declared.sending.Reason.{Reason}
use Rattle.px_outcome.specs.declared.sending.Reason.TheVariants.{Protocol as Breach}
use Rattle.px_outcome.specs.declared.input.Connection.{Connection}
use Rattle.px_outcome.specs.declared.input.Input.{Input}
use Rattle.px_outcome.specs.declared.waiting.Waiting.{Waiting}
use Rattle.px_outcome.specs.Waiting.{drain_under, question_under}
use Rattle.px_outcome.specs.Outcome.{idle, notifying}
use Rattle.px_outcome.specs.Handled.{Handled}
use Rattle.px_ctl_play.specs.declared.notified.News.{News}
use Rattle.px_ctl_play.specs.declared.notified.News.TheVariants as news
use Rattle.px_ctl_play.specs.declared.timing.Progress.{Progress}
use Rattle.px_ctl_play.specs.Answer.{answered}
use Rattle.px_ctl_play.specs.Drain.{drain_answered, drained}
use Rattle.px_ctl_play.specs.Latency.{fields_of, time_given, latency_answered, measured}
use Rattle.px_flat.specs.FlatVolume.{FlatGroup}
use Rattle.px_ctl_play.specs.Notified.{message_of, notified, gives_up, gone, left}
use Rattle.px_state.specs.declared.effect.Effect.{Effect}
use Rattle.px_state.specs.declared.effect.Effect.TheVariants.{Sent, Closed}
use Rattle.px_state.specs.State.{State, goes_on, stream_of, marked_of, is_from}
use Rattle.px_state.specs.Change.{Change}
use Rattle.px_state.specs.Effect.{framed, fits, sent, sending, fault_code, fault_place, offset_behind}
use Rattle.px_state.specs.Outcome.{CoreOutcome, reply_to_asker, sent_all, closed_all, outcome_effects, refused, reply_fits, requested, ended_by, broken_off}
use Rattle.px_core.specs.Command.{spoken_by, handle, read_answer, is_barred, command_answer, head_answer}
use Rattle.px_core.specs.Connecting.{ended, ends, swept, sweep_of}
use Rattle.px_types.specs.declared.ids.InputId.{InputId}
use Rattle.px_flat.specs.declared.member.Member.{Member}
use Rattle.px_flat.specs.FlatVolume.{member_of}
use Rattle.px_outcome.specs.declared.input.Standing.{Standing}
use Rattle.px_outcome.specs.declared.input.Standing.TheVariants.{Settled, Moving, Leaving}
use Rattle.px_outcome.specs.declared.target.Target.{Target}
use Rattle.px_ctl_play.specs.Arrival.{hands_over, attributes_in_bytes, arrived_message, arrival_of, arrival_by, arriving_with}
use Rattle.px_ctl_play.specs.Create.{latency_of}
use Rattle.px_ctl_play.specs.Move.{feed_to}
use Rattle.px_state.specs.Delayed.{delayed_of}
use Rattle.px_core.specs.Notice.{input_on, owner_of, left_of, arrival_between, arrival_at, arrived_with, given_up_by, given_up, notice_answer}
use Rattle.px_sinks.specs.Sinks.{rate_on, target_at}
use Rattle.px_core.specs.Step.{body_answer, frame_of}
use Rattle.px_core.proofs.HandledLaws.{Each}
use Rattle.px_core.proofs.Silent.{data_silent}
use Rattle.px_core.proofs.RepliesLaws.{Replies, a_reply, nothing, plain_byte, latency_byte, handle_replies}

-- ---- an error is no reply

abbrev bytes_of : Effect → List ℕ
bytes_of (Sent conn packet) = packet
bytes_of (Closed conn reason fault at) = []

-- the byte of a packet that names its command
framed_byte : (packet : List ℕ) → get_or (framed packet) 24 0 ≡ get_or packet 4 0
unfolding framed descriptor_bytes
framed_byte packet = refl

pub refusal_byte : (tag code : ℕ) → get_or (refusal tag code) 4 0 ≡ 0
unfolding number
refusal_byte tag code = refl

pub sent_apart : (a b : ConnId) (packet other : List ℕ) → 1 ≤ get_or packet 4 0 → get_or other 4 0 ≡ 0 → sent a packet ≡ sent b other → ⊥
sent_apart a b packet other some none e =
    let bytes : get_or (framed packet) 24 0 ≡ get_or (framed other) 24 0 = ap (λ effect. get_or (bytes_of effect) 24 0) e in
    absurd (omega (arith, bytes, framed_byte packet, framed_byte other, some, none))

abbrev is_sent : Effect → Bool
is_sent (Sent conn packet) = true
is_sent (Closed conn reason fault at) = false

pub closed_apart : (a b : ConnId) (reason : Reason) (fault at : ℕ) (packet : List ℕ) → Closed a reason fault at ≡ sent b packet → ⊥
closed_apart a b reason fault at packet e = false≢true (ap is_sent e)

-- ---- what kind of outcome each is

pub data Kind {P : Type 0} (asker : Option ConnId) (outcome : CoreOutcome P) : Type 0 where
  -- nothing changes, and there is one effect at most
  still : outcome.changes ≡ [] → length (outcome_effects asker outcome) ≤ 1 → Kind asker outcome
  -- a connection is sent what is no error, before all else
  replies : (to : ConnId) (packet : List ℕ) (more : List Effect) → outcome_effects asker outcome ≡ sent to packet ∷ more → 1 ≤ get_or packet 4 0 → Kind asker outcome
  -- it has no effect
  silent : outcome_effects asker outcome ≡ [] → Kind asker outcome
  -- a connection ends
  ending : (to : ConnId) (reason : Option Reason) (fault at : ℕ) → outcome ≡ ended_by to reason fault at → Kind asker outcome

-- an error is one effect at most, and so is a message to one connection
refused_kind : {P : Type 0} (to : ConnId) (t : ℕ) (code : ErrorCode) → Kind {P = P} (Some to) (refused t code)
refused_kind to t code =
    still refl
    (cond_both (fits (refusal t (code_of code))) (sent to (refusal t (code_of code)) ∷ []) [] (λ effects. length (((effects ++ []) ++ []) ++ []) ≤ 1) (λ e. omega arith) (λ e. omega arith))

idle_kind : {P : Type 0} (asker : Option ConnId) → Kind {P = P} asker idle
idle_kind asker = still refl (omega arith)

notifying_kind : {P : Type 0} (to : ConnId) (packet : List ℕ) → Kind {P = P} None (notifying to packet)
notifying_kind to packet = still refl (cond_both (fits packet) (sent to packet ∷ []) [] (λ effects. length ((effects ++ []) ++ []) ≤ 1) (λ e. omega arith) (λ e. omega arith))

reply_first : {P : Type 0} (to : ConnId) (outcome : CoreOutcome P) (packet : List ℕ) → outcome.reply ≡ Some packet → fits packet ≡ true → outcome_effects (Some to) outcome ≡ sent to packet ∷ (sent_all outcome.errors ++ sent_all outcome.notified ++ closed_all outcome.changes)
reply_first to outcome packet e f =
    ap (λ r. reply_to_asker r (Some to) ++ sent_all outcome.errors ++ sent_all outcome.notified ++ closed_all outcome.changes) e
    ∙ ap (λ effects. effects ++ sent_all outcome.errors ++ sent_all outcome.notified ++ closed_all outcome.changes) (cond-true (fits packet) (sent to packet ∷ []) [] f)

fitting_kind : {P : Type 0} (to : ConnId) (outcome : CoreOutcome P) → Replies outcome → reply_fits outcome.reply ≡ true → Kind (Some to) outcome
fitting_kind to outcome (a_reply packet is two) e = replies to packet (sent_all outcome.errors ++ sent_all outcome.notified ++ closed_all outcome.changes) (reply_first to outcome packet is (sym (ap reply_fits is) ∙ e)) (omega (arith, two))
fitting_kind to outcome (nothing none) e = silent (none (Some to))

requested_kind : {P : Type 0} (to : ConnId) (t : ℕ) (given : Handled (CoreOutcome P)) → Each Replies given → Kind (Some to) (requested t given)
requested_kind {P} to t (Ok outcome) r = cond_both (reply_fits outcome.reply) outcome (refused t TooLarge) (Kind {P = P} (Some to)) (λ e. fitting_kind to outcome r e) (λ e. refused_kind to t TooLarge)
requested_kind to t (Err (Code code)) r = refused_kind to t code
requested_kind to t (Err NoMemory) r = idle_kind (Some to)

-- ---- packets and data

broken_off_kind : {P : Type 0} (asker : Option ConnId) (to : ConnId) (at : ℕ) (fault : TagFault) → Kind {P = P} asker (broken_off to at fault)
broken_off_kind asker to at fault = ending to (Some Breach) (fault_code fault) (offset_behind at (fault_place fault)) refl

read_kind : {P : Type 0} (state : State P) (n : ConnId) (c : Connection) (at t : ℕ) (r : Result Command CmdFault) → Kind (Some n) (read_answer state c at t r)
read_kind state n c at t (Ok command) = requested_kind n t (handle state c t command) (handle_replies state c t command)
read_kind state n c at t (Err (Protocol fault)) = broken_off_kind (Some n) c.conn at fault
read_kind state n c at t (Err (Unknown command)) = refused_kind n t UnknownCommand
read_kind state n c at t (Err (Unsupported command)) = refused_kind n t NotSupported
read_kind state n c at t (Err OutOfMemory) = idle_kind (Some n)

command_kind : {P : Type 0} (state : State P) (n : ConnId) (c : Connection) (at : ℕ) (packet : List ℕ) (command t : ℕ) → Kind (Some n) (command_answer state c at packet command t)
command_kind {P} state n c at packet command t =
    cond_both (is_barred c command) (refused t Access) (read_answer state c at t (meant (spoken_by c) packet)) (Kind {P = P} (Some n)) (λ e. refused_kind n t Access) (λ e. read_kind state n c at t (meant (spoken_by c) packet))

head_kind : {P : Type 0} (state : State P) (n : ConnId) (c : Connection) (at : ℕ) (packet : List ℕ) (r : Result ((ℕ × ℕ) × Place) TagFault) → Kind (Some n) (head_answer state c at packet r)
head_kind state n c at packet (Err fault) = broken_off_kind (Some n) c.conn at fault
head_kind state n c at packet (Ok head) = command_kind state n c at packet head.0.0 head.0.1

body_kind : {P : Type 0} (state : State P) (n : ConnId) (c : Connection) (at : ℕ) (body : Body) → Kind (Some n) (body_answer state c at body)
body_kind state n c at (Control packet) = head_kind state n c at packet (head_at (start_of packet))
body_kind {P} state n c at (Write stream offset seek bytes) = silent (data_silent P (Some n) (stream_of state.inputs c.conn stream) offset seek bytes)

pub frame_kind : {P : Type 0} (state : State P) (n : ConnId) (o : Option Connection) (f : Frame) → Kind (Some n) (frame_of state o f)
frame_kind state n None f = idle_kind (Some n)
frame_kind state n (Some c) f = body_kind state n c f.at f.body

pub ended_kind : {P : Type 0} (asker : Option ConnId) (o : Option Connection) (reason : Option Reason) (fault at : ℕ) → Kind {P = P} asker (ended o reason fault at)
ended_kind asker None reason fault at = idle_kind asker
ended_kind asker (Some c) reason fault at = ending c.conn reason fault at refl

-- ---- sweeps and notices

inputs_silent : {P : Type 0} (xs : List Input) (rest : List (Change P)) → closed_all (flat_map ends xs ++ rest) ≡ closed_all rest
inputs_silent [] rest = refl
inputs_silent (x ∷ xs) rest = inputs_silent xs rest

swept_silent : (P : Type 0) (inputs : List Input) (cs : List Connection) → closed_all {P = P} (flat_map (swept inputs) cs) ≡ []
swept_silent P inputs [] = refl
swept_silent P inputs (c ∷ cs) =
    ap closed_all (append_assoc (flat_map ends (filter (is_from c.conn) inputs)) (Forgotten c.conn ∷ []) (flat_map (swept inputs) cs))
    ∙ inputs_silent (filter (is_from c.conn) inputs) (Forgotten c.conn ∷ flat_map (swept inputs) cs)
    ∙ swept_silent P inputs cs

pub sweep_kind : {P : Type 0} (state : State P) → Kind None (sweep_of state)
sweep_kind {P} state = silent (swept_silent P state.inputs (marked_of state.connections))

notified_kind : {P : Type 0} (input : Option Input) (owner : Option Connection) (about : News) → Kind {P = P} None (notified input owner about)
notified_kind None owner about = idle_kind None
notified_kind (Some x) None about = idle_kind None
notified_kind {P} (Some x) (Some c) about = cond_both (goes_on x) (notifying c.conn (message_of about x)) idle (Kind {P = P} None) (λ e. notifying_kind c.conn (message_of about x)) (λ e. idle_kind None)

left_kind : {P : Type 0} (input : Option Input) (group : Option FlatGroup) (spec : SampleSpec) (inputs : List Input) → Kind {P = P} None (left input group spec inputs)
left_kind None group spec inputs = idle_kind None
left_kind {P} (Some x) group spec inputs = cond_both (gives_up spec x) (gone x group inputs) idle (Kind {P = P} None) (λ e. goes group) (λ e. idle_kind None)
  where
    goes : (group : Option FlatGroup) → Kind {P = P} None (gone x group inputs)
    goes None = idle_kind None
    goes (Some own) = silent refl

-- an input is on the sink that it moves to: its client is notified
released_silent : (P : Type 0) (n : ℕ) (index : InputId) → closed_all {P = P} (replicate n (Released index)) ≡ []
released_silent P zero index = refl
released_silent P (suc n) index = released_silent P n index

moved_byte : (stream sink : ℕ) (name attr : List ℕ) (latency : ℕ) → get_or (moved_message stream sink name attr latency) 4 0 ≡ 78
unfolding number
moved_byte stream sink name attr latency = refl

arrival_kind : {P : Type 0} (state : State P) (x : Input) (parcel : P) (sink : Target) (from group : FlatGroup) (waited : ℕ) (m : Member) (feed : List ℕ) (owner : Option Connection)
    → Kind {P = P} None (arriving_with x.index parcel (arrival_of x m feed from group sink owner state.inputs waited))
arrival_kind {P} state x parcel sink from group waited m feed None = silent (released_silent P waited x.index)
arrival_kind {P} state x parcel sink from group waited m feed (Some c) = by (fits packet) refl
  where
    packet : List ℕ
    packet = arrived_message x sink

    closing : (effects : List Effect) → (effects ++ []) ++ closed_all {P = P} (replicate waited (Released x.index)) ≡ (effects ++ []) ++ []
    closing effects = ap (λ more. (effects ++ []) ++ more) (released_silent P waited x.index)

    by : (b : Bool) → fits packet ≡ b → Kind {P = P} None (arriving_with x.index parcel (arrival_of x m feed from group sink (Some c) state.inputs waited))
    by true e =
        replies c.conn packet [] (closing (sending c.conn packet) ∙ ap (λ effects. (effects ++ []) ++ []) (cond-true (fits packet) (sent c.conn packet ∷ []) [] e))
        (omega (arith, moved_byte x.stream sink.index.0 sink.name (attributes_in_bytes x) (latency_of sink)))
    by false e = silent (closing (sending c.conn packet) ∙ ap (λ effects. (effects ++ []) ++ []) (cond-false (fits packet) (sent c.conn packet ∷ []) [] e))

arrived_kind : {P : Type 0} (state : State P) (x : Input) (parcel : P) (t : Option Target) (f g : Option FlatGroup) → Kind {P = P} None (arrived_with x.index parcel (arrival_between state x t f g))
arrived_kind state x parcel None f g = idle_kind None
arrived_kind state x parcel (Some sink) None g = idle_kind None
arrived_kind state x parcel (Some sink) (Some from) None = idle_kind None
arrived_kind {P} state x parcel (Some sink) (Some from) (Some group) = by (member_of from.members x.index) (feed_to x sink.map)
  where
    waited : ℕ
    waited = length (delayed_of state.delayed x.index)

    by : (o : Option Member) (r : Option (List ℕ)) → Kind {P = P} None (arrived_with x.index parcel (arrival_by x o r from group sink (owner_of state.connections (Some x)) state.inputs waited))
    by None r = idle_kind None
    by (Some m) None = idle_kind None
    by (Some m) (Some feed) = arrival_kind state x parcel sink from group waited m feed (owner_of state.connections (Some x))

given_up_kind : {P : Type 0} (spec_of : P → SampleSpec) (state : State P) (sink : SinkId) (o : Option Input) (parcel : P) → Kind None (given_up spec_of state sink o parcel)
given_up_kind spec_of state sink None parcel = idle_kind None
given_up_kind {P} spec_of state sink (Some x) parcel = by x.standing
  where
    leaves : Kind None (left_of spec_of state sink (Some x) parcel)
    leaves = left_kind (Some x) (slice_get state.groups sink.0) (spec_of parcel) state.inputs

    by : (standing : Standing) → Kind None (given_up_by spec_of state sink x parcel standing)
    by Settled = leaves
    by (Moving to) =
        cond_both (hands_over (spec_of parcel) x) (arrived_with x.index parcel (arrival_at state to x)) (left_of spec_of state sink (Some x) parcel) (Kind None)
        (λ e. arrived_kind state x parcel (target_at state.sinks to) (slice_get state.groups x.sink.0) (slice_get state.groups to.0))
        (λ e. leaves)
    by Leaving = leaves

-- a request is answered: its client has a reply
answered_kind : {P : Type 0} (owner : Option Connection) (w : Waiting) (reply : List ℕ) → get_or reply 4 0 ≡ 2 → Kind {P = P} None (answered owner w reply)
answered_kind None w reply two = silent refl
answered_kind {P} (Some c) w reply two = by (fits reply) refl
  where
    by : (b : Bool) → fits reply ≡ b → Kind {P = P} None (answered (Some c) w reply)
    by true e = replies c.conn reply [] (ap (λ effects. (effects ++ []) ++ []) (cond-true (fits reply) (sent c.conn reply ∷ []) [] e)) (omega (arith, two))
    by false e = silent (ap (λ effects. (effects ++ []) ++ []) (cond-false (fits reply) (sent c.conn reply ∷ []) [] e))

drain_answered_kind : {P : Type 0} (owner : Option Connection) (o : Option Waiting) → Kind {P = P} None (drain_answered owner o)
drain_answered_kind owner None = idle_kind None
drain_answered_kind owner (Some w) = answered_kind owner w (reply_to w.tag) (plain_byte w.tag)

drained_kind : {P : Type 0} (input : Option Input) (owner : Option Connection) (waiting : List Waiting) (t : ℕ) → Kind {P = P} None (drained input owner waiting t)
drained_kind None owner waiting t = idle_kind None
drained_kind {P} (Some x) owner waiting t =
    cond_both (goes_on x) (drain_answered owner (drain_under waiting x.index t)) idle (Kind {P = P} None) (λ e. drain_answered_kind owner (drain_under waiting x.index t)) (λ e. idle_kind None)

latency_answered_kind : {P : Type 0} (rate : ℕ) (x : Input) (owner : Option Connection) (o : Option Waiting) (progress : Progress) → Kind {P = P} None (latency_answered rate x owner o progress)
latency_answered_kind rate x owner None progress = idle_kind None
latency_answered_kind rate x owner (Some w) progress =
    answered_kind owner w (latency_reply w.tag (fields_of rate x progress (time_given w.awaited))) (latency_byte w.tag (fields_of rate x progress (time_given w.awaited)))

measured_kind : {P : Type 0} (input : Option Input) (owner : Option Connection) (waiting : List Waiting) (rate t : ℕ) (progress : Progress) → Kind {P = P} None (measured input owner waiting rate t progress)
measured_kind None owner waiting rate t progress = idle_kind None
measured_kind {P} (Some x) owner waiting rate t progress =
    cond_both (goes_on x) (latency_answered rate x owner (question_under waiting x.index t) progress) idle (Kind {P = P} None) (λ e. latency_answered_kind rate x owner (question_under waiting x.index t) progress) (λ e. idle_kind None)

pub notice_kind : {P : Type 0} (spec_of : P → SampleSpec) (state : State P) (sink : SinkId) (n : Notice P) → Kind None (notice_answer spec_of state sink n)
notice_kind spec_of state sink (Request input frames) = notified_kind (input_on state.inputs sink input) (owner_of state.connections (input_on state.inputs sink input)) (news.Request frames)
notice_kind spec_of state sink (Overflow input) = notified_kind (input_on state.inputs sink input) (owner_of state.connections (input_on state.inputs sink input)) news.Overflow
notice_kind spec_of state sink (Underflow input) = notified_kind (input_on state.inputs sink input) (owner_of state.connections (input_on state.inputs sink input)) news.Underflow
notice_kind spec_of state sink (Started input) = notified_kind (input_on state.inputs sink input) (owner_of state.connections (input_on state.inputs sink input)) news.Started
notice_kind spec_of state sink (Drained input t) = drained_kind (input_on state.inputs sink input) (owner_of state.connections (input_on state.inputs sink input)) state.waiting t
notice_kind spec_of state sink (Detached input parcel) = given_up_kind spec_of state sink (input_on state.inputs sink input) parcel
notice_kind spec_of state sink (Latency input t write read buffered playing run) =
    measured_kind (input_on state.inputs sink input) (owner_of state.connections (input_on state.inputs sink input)) state.waiting (rate_on state.sinks sink) t (record { write = write; read = read; buffered = buffered; playing = playing; run = run })
