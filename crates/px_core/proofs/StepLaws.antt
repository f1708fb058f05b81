-- Each step keeps what the state keeps, and so does a new state.
use Rattle.std.proofs.Common.{◌≡◌, ℕ, zero, suc, List, [], ◌∷◌, ◌++◌, length, Option, Some, None, Bool, true, false, refl, ap, sym, subst, ◌∙◌, arith, cond, ⊎_elim, inl, inr}
use Rattle.std.specs.Prelude.{nat_eq, nat_le, ◌+◌, replicate, get_or, not, is_some, IsSome, Result, Ok, Err}
use Rattle.std.specs.List.{AllByRecursion}
use Rattle.std.specs.FinMap as finite
use Rattle.std.proofs.lemmas.Bool.{cond_both, eqb-true, eqb-false, cases_lt, and_parts}
use Rattle.std.proofs.lemmas.List.{length-replicate, get_or-replicate, get_or_past}
use Rattle.std.proofs.lemmas.Option.{none-some}
use Rattle.px_types.specs.declared.ids.ConnId.{ConnId}
use Rattle.px_types.specs.declared.ids.SinkId.{SinkId}
use Rattle.px_types.specs.declared.error_code.ErrorCode.TheVariants.{Access, BadState, Invalid, NoEntity, Version, TooLarge}
use Rattle.px_tag.specs.declared.fault.TagFault.{TagFault}
use Rattle.px_tag.specs.Place.{Place, start_of}
use Rattle.px_cmd.specs.Packet.{head_at}
use Rattle.px_cmd.specs.Meant.{meant}
use Rattle.px_cmd.specs.declared.command.Command.{Command}
use Rattle.px_cmd.specs.declared.command.Command.TheVariants as commands
use Rattle.px_cmd.specs.declared.fault.CmdFault.{CmdFault}
use Rattle.px_cmd.specs.declared.fault.CmdFault.TheVariants.{Protocol, Unknown, Unsupported, NoMemory as OutOfMemory}
use Rattle.px_frame.specs.declared.frame.Frame.{Frame}
use Rattle.px_frame.specs.declared.frame.Body.{Body}
use Rattle.px_frame.specs.declared.frame.Body.TheVariants.{Control, Write}
use Rattle.px_frame.specs.Frame.{IsBody}
use Rattle.px_frame.specs.Fault.{code_of as rule_of}
use Rattle.px_header.specs.declared.header.Header.{Header}
use Rattle.px_header.specs.HeaderRules.{IsHeader}
use Rattle.px_names.specs.Names.{Naming, same_text, sink_named}
use Rattle.px_names.specs.Clients.{new_client, client_on, client_numbered}
use Rattle.px_names.specs.InputLists.{list_of as list_of_input}
use Rattle.px_model.specs.Frame.{SampleSpec}
use Rattle.px_msg.specs.declared.notice.Notice.{Notice}
use Rattle.px_msg.specs.declared.notice.Notice.TheVariants.{Request, Overflow, Underflow, Started, Drained, Detached, Latency}
use Rattle.px_outcome.specs.declared.refusal.Refusal.TheVariants.{Code, NoMemory}
use Rattle.px_outcome.specs.declared.sending.Reason.{Reason}
use Rattle.px_outcome.specs.declared.sending.Reason.TheVariants.{Protocol as Breach, Cut as ForMemory}
use Rattle.px_outcome.specs.declared.input.Connection.{Connection}
use Rattle.px_outcome.specs.declared.input.Input.{Input}
use Rattle.px_outcome.specs.Outcome.{idle, notifying}
use Rattle.px_outcome.specs.Handled.{Handled, check, present}
use Rattle.px_outcome.specs.Target.{is_clear, target_of}
use Rattle.px_ctl_info.specs.Clients.{LEAST_VERSION, version_in, auth, connection_with, is_mask}
use Rattle.px_ctl_info.specs.Properties.{list_of, mode_of, has_keys, name_in}
use Rattle.px_ctl_info.specs.Infos.{group_on, member_on}
use Rattle.px_ctl_info.specs.Sinks.{sink_called}
use Rattle.px_ctl_play.specs.declared.notified.News.{News}
use Rattle.px_ctl_play.specs.declared.notified.News.TheVariants as news
use Rattle.px_ctl_play.specs.Arrival.{hands_over}
use Rattle.px_ctl_play.specs.Notified.{message_of, has_left, same_spec, notified}
use Rattle.px_msg.specs.View.{sample_spec}
use Rattle.px_types.specs.declared.ids.InputId.{InputId}
use Rattle.px_outcome.specs.declared.input.Standing.{Standing}
use Rattle.px_outcome.specs.declared.input.Standing.TheVariants.{Settled, Moving, Leaving}
use Rattle.px_state.specs.State.{State, new_state, new_state_with, goes_on, connection_of, input_named, stream_of}
use Rattle.px_core.specs.Command.{spoken_by, default_sink, handle, read_answer, is_barred, command_answer, head_answer}
use Rattle.px_core.specs.Connecting.{is_full, new_connection, joined, connected, ended, going_on}
use Rattle.px_core.specs.Notice.{is_on, input_on, owner_of, notified_of, left_of, arrival_at, arrived_with, given_up_by, given_up, notice_answer}
use Rattle.px_core.specs.Parcels.{Brought, moved_stream, given_by, given_in}
use Rattle.px_core.specs.Orderly.{inputs_there}
use Rattle.px_core.specs.Consistency.{AreDistinct, AreInStep, IsConsistent, IsStep, Spares, handed_out_by}
use Rattle.px_state.specs.Out.{next_for, handed_out}
use Rattle.px_state.specs.Outcome.{CoreOutcome, refused, reply_fits, requested, broken_off}
use Rattle.px_sinks.specs.Sinks.{rate_of, rate_on, depth_of, sink_of, named_by}
use Rattle.px_core.specs.Step.{Step, connect, frame, broken, close, cut, sweep, notice, out, body_answer, frame_of, answered, answer_of, stepped, stepped_by}
use Rattle.px_core.proofs.ListLaws.{all_push, found_test}
use Rattle.px_core.proofs.ChangeLaws.{sink_at, held_on}
use Rattle.px_core.proofs.HandingLaws.{out_keeps, out_spares}
use Rattle.px_core.proofs.GroupLaws.{changes_grouped, past_grouped, new_grouped}
use Rattle.px_core.proofs.VerbLaws.{others_keep, changes_follow}
use Rattle.px_core.proofs.HandledLaws.{Each, each_check, each_then}
use Rattle.px_core.proofs.Going.{going_there, going_by_own}
use Rattle.px_sinks.proofs.Sinks.{named_there}
use Rattle.px_core.proofs.EntryLaws.{found_by_index}
use Rattle.px_core.proofs.AnswerLaws.{IsLawful, data_lawful, away, left_lawful}
use Rattle.px_core.proofs.ArrivalLaws.{IsSound, spec_is, arrival_sound, arrival_committed}
use Rattle.px_core.proofs.StillLaws.{changes_still, past_still}
use Rattle.px_core.proofs.StreamLaws.{cork_lawful, flush_lawful, trigger_lawful, prebuf_lawful, attributes_lawful, drain_lawful, latency_lawful, delete_lawful, drained_lawful, measured_lawful}
use Rattle.px_core.proofs.SweepLaws.{sweep_lawful}
use Rattle.px_core.proofs.RoadLaws.{move_lawful}
use Rattle.px_core.proofs.KillLaws.{kill_client_lawful, kill_input_lawful}
use Rattle.px_core.proofs.CreateLaws.{create_lawful}
use Rattle.px_core.proofs.VolumeLaws.{sink_volume_lawful, sink_mute_lawful, input_volume_lawful, input_mute_lawful}

-- ---- a new state

no_lists : {A : Type 0} (none : List A) (n index : ℕ) → get_or (replicate n none) index none ≡ none
no_lists none n index = ⊎_elim (λ l. get_or-replicate n index none none l) (λ l. get_or_past (replicate n none) index none (omega (arith, l, length-replicate n none))) (cases_lt index n)

pub new_keeps_with : {P : Type 0} (spec_of : P → SampleSpec) (source : Option (List ℕ)) (header : Header) → IsHeader header → IsConsistent spec_of (new_state_with {P = P} source header)
new_keeps_with {P} spec_of source header h = record {
  steady = record {
    sinks = h.sinks;
    distinct = tt;
    rising = tt;
    inputs = tt;
    waiting = tt;
    lists = length-replicate (length header.sinks) [];
    in_step = λ index s e. subst (AreInStep spec_of (sink_at index) s []) (sym (no_lists [] (length header.sinks) index))
        (record { orderly = tt; leaves = refl; bring = λ i. refl; each = tt; few = omega arith });
  };
  grouped = new_grouped header.sinks;
  still = tt;
}

pub new_keeps : {P : Type 0} (spec_of : P → SampleSpec) (header : Header) → IsHeader header → IsConsistent spec_of (new_state {P = P} header)
new_keeps spec_of header h = new_keeps_with spec_of None header h

-- ---- commands

auth_lawful : {P : Type 0} (state : State P) (names : Naming) (me : Connection) (tag version : ℕ) (cookie : List ℕ) → Each (IsLawful state) (auth names me tag version cookie)
auth_lawful {P} state names me tag version cookie =
    each_check (IsLawful state) (not (is_some me.version)) BadState _
    (each_check (IsLawful state) (nat_le LEAST_VERSION (version_in version)) Version _
    (each_check (IsLawful state) (same_text cookie names.cookie) Access _ (tt, tt)))

handle_lawful : {P : Type 0} (spec_of : P → SampleSpec) (state : State P) → IsConsistent spec_of state → (me : Connection) → going_on state.connections me.conn ≡ Some me → (tag : ℕ) (command : Command) → Each (IsLawful state) (handle state me tag command)
handle_lawful spec_of state h me here tag (commands.Auth version cookie) = auth_lawful state state.names me tag version cookie
handle_lawful spec_of state h me here tag (commands.SetClientName list) = (tt, tt)
handle_lawful spec_of state h me here tag (commands.Create fields) =
    create_lawful spec_of state h me (going_there state.connections me here) tag (named_by state.names state.sinks fields.sink true) fields
    (named_there state.sinks (sink_named state.names fields.sink.index fields.sink.name true))
handle_lawful spec_of state h me here tag (commands.Delete stream) = delete_lawful state (stream_of state.inputs me.conn stream) state.waiting tag
handle_lawful spec_of state h me here tag (commands.Drain stream) = drain_lawful state h.steady.rising me.conn stream tag (stream_of state.inputs me.conn stream) refl
handle_lawful spec_of state h me here tag (commands.Latency stream time) = latency_lawful state h.steady.rising me.conn stream time tag (stream_of state.inputs me.conn stream) refl
handle_lawful spec_of state h me here tag (commands.Cork stream on) = cork_lawful state h.steady.rising me.conn stream on tag (stream_of state.inputs me.conn stream) refl
handle_lawful spec_of state h me here tag (commands.Flush stream) = flush_lawful state h.steady.rising me.conn stream tag (stream_of state.inputs me.conn stream) refl
handle_lawful spec_of state h me here tag (commands.Trigger stream) = trigger_lawful state h.steady.rising me.conn stream tag (stream_of state.inputs me.conn stream) refl
handle_lawful spec_of state h me here tag (commands.Prebuf stream) = prebuf_lawful state h.steady.rising me.conn stream tag (stream_of state.inputs me.conn stream) refl
handle_lawful spec_of state h me here tag (commands.Attributes stream asked adjust_latency early_requests) =
    attributes_lawful state h.steady.rising me.conn stream (depth_of (sink_of state.sinks (stream_of state.inputs me.conn stream))) (rate_of (sink_of state.sinks (stream_of state.inputs me.conn stream))) asked tag (stream_of state.inputs me.conn stream) refl
handle_lawful spec_of state h me here tag (commands.EmptyList number) = tt
handle_lawful spec_of state h me here tag (commands.LookupSink name) = each_then (IsLawful state) (sink_called state.names name) _ (λ sink. tt)
handle_lawful spec_of state h me here tag (commands.DefaultSink name) = each_then (IsLawful state) (sink_called state.names name) _ (λ sink. (tt, tt))
handle_lawful spec_of state h me here tag commands.ServerInfo = each_then (IsLawful state) (present (target_of (default_sink state)) NoEntity) _ (λ sink. tt)
handle_lawful spec_of state h me here tag (commands.ClientInfo client) = each_then (IsLawful state) (present (client_numbered state.names.clients client) NoEntity) _ (λ found. tt)
handle_lawful spec_of state h me here tag commands.ClientInfoList = tt
handle_lawful spec_of state h me here tag (commands.UpdateClient mode list) = each_then (IsLawful state) (present (mode_of mode) Invalid) _ (λ known. (tt, tt))
handle_lawful spec_of state h me here tag (commands.RemoveClient keys) =
    each_then (IsLawful state) (check (has_keys (list_of (client_on state.names.clients me.conn)) keys) NoEntity) _ (λ there. (tt, tt))
handle_lawful spec_of state h me here tag (commands.SinkInfo sink) =
    each_check (IsLawful state) (is_clear (named_by state.names state.sinks sink false)) Invalid _
    (each_then (IsLawful state) (present (target_of (named_by state.names state.sinks sink false)) NoEntity) _
    (λ found. each_then (IsLawful state) (present (group_on state.groups found) NoEntity) _ (λ group. tt)))
handle_lawful spec_of state h me here tag commands.SinkInfoList = tt
handle_lawful spec_of state h me here tag (commands.InputInfo input) =
    each_then (IsLawful state) (present (input_named state.inputs input) NoEntity) _ (λ x. each_then (IsLawful state) (present (member_on state.groups x) NoEntity) _ (λ m. tt))
handle_lawful spec_of state h me here tag commands.InputInfoList = tt
handle_lawful spec_of state h me here tag (commands.Subscribe mask) = each_check (IsLawful state) (is_mask mask) Invalid _ (tt, tt)
handle_lawful spec_of state h me here tag (commands.StreamName stream name) =
    each_then (IsLawful state) (present (stream_of state.inputs me.conn stream) NoEntity) _ (λ x. each_then (IsLawful state) (present (name_in name) Invalid) _ (λ text. (tt, tt)))
handle_lawful spec_of state h me here tag (commands.UpdateStream stream mode list) =
    each_then (IsLawful state) (present (stream_of state.inputs me.conn stream) NoEntity) _ (λ x. each_then (IsLawful state) (present (mode_of mode) Invalid) _ (λ known. (tt, tt)))
handle_lawful spec_of state h me here tag (commands.RemoveStream stream keys) =
    each_then (IsLawful state) (present (stream_of state.inputs me.conn stream) NoEntity) _
    (λ x. each_then (IsLawful state) (check (has_keys (list_of_input state.lists (Input.index x)) keys) NoEntity) _ (λ there. (tt, tt)))
handle_lawful spec_of state h me here tag (commands.KillClient client) = kill_client_lawful state h.steady.distinct client tag (connection_with state.connections client) refl
handle_lawful spec_of state h me here tag (commands.Move input sink) =
    move_lawful state input tag (named_by state.names state.sinks sink false) (named_there state.sinks (sink_named state.names sink.index sink.name false))
handle_lawful spec_of state h me here tag (commands.KillInput input) =
    kill_input_lawful state (input_named state.inputs input) (owner_of state.connections (input_named state.inputs input)) state.waiting tag
handle_lawful spec_of state h me here tag (commands.SinkVolume sink volume) =
    sink_volume_lawful spec_of state h (named_by state.names state.sinks sink false) (named_there state.sinks (sink_named state.names sink.index sink.name false)) tag volume
handle_lawful spec_of state h me here tag (commands.SinkMute sink on) =
    sink_mute_lawful spec_of state h (named_by state.names state.sinks sink false) (named_there state.sinks (sink_named state.names sink.index sink.name false)) tag on
handle_lawful spec_of state h me here tag (commands.InputVolume input volume) = input_volume_lawful spec_of state h input tag volume
handle_lawful spec_of state h me here tag (commands.InputMute input on) = input_mute_lawful spec_of state h input tag on

requested_lawful : {P : Type 0} (state : State P) (tag : ℕ) (given : Handled (CoreOutcome P)) → Each (IsLawful state) given → IsLawful state (requested tag given)
requested_lawful state tag (Ok outcome) h = cond_both (reply_fits outcome.reply) outcome (refused tag TooLarge) (IsLawful state) (λ e. h) (λ e. tt)
requested_lawful state tag (Err (Code code)) h = tt
requested_lawful state tag (Err NoMemory) h = tt

ended_lawful : {P : Type 0} (state : State P) (conn : ConnId) (o : Option Connection) → going_on state.connections conn ≡ o → (reason : Option Reason) (fault at : ℕ) → IsLawful state (ended o reason fault at)
ended_lawful state conn None e reason fault at = tt
ended_lawful state conn (Some c) e reason fault at = (subst IsSome (sym (going_by_own state.connections conn c e)) refl, tt)

broken_off_lawful : {P : Type 0} (state : State P) (c : Connection) → going_on state.connections c.conn ≡ Some c → (at : ℕ) (fault : TagFault) → IsLawful state (broken_off c.conn at fault)
broken_off_lawful state c e at fault = (subst IsSome (sym e) refl, tt)

read_lawful : {P : Type 0} (spec_of : P → SampleSpec) (state : State P) → IsConsistent spec_of state → (c : Connection) → going_on state.connections c.conn ≡ Some c → (at tag : ℕ) (r : Result Command CmdFault) → IsLawful state (read_answer state c at tag r)
read_lawful spec_of state h c e at tag (Ok command) = requested_lawful state tag (handle state c tag command) (handle_lawful spec_of state h c e tag command)
read_lawful spec_of state h c e at tag (Err (Protocol fault)) = broken_off_lawful state c e at fault
read_lawful spec_of state h c e at tag (Err (Unknown command)) = tt
read_lawful spec_of state h c e at tag (Err (Unsupported command)) = tt
read_lawful spec_of state h c e at tag (Err OutOfMemory) = tt

command_lawful : {P : Type 0} (spec_of : P → SampleSpec) (state : State P) → IsConsistent spec_of state → (c : Connection) → going_on state.connections c.conn ≡ Some c → (at : ℕ) (packet : List ℕ) (command tag : ℕ) → IsLawful state (command_answer state c at packet command tag)
command_lawful spec_of state h c e at packet command tag =
    cond_both (is_barred c command) (refused tag Access) (read_answer state c at tag (meant (spoken_by c) packet)) (IsLawful state)
    (λ f. tt) (λ f. read_lawful spec_of state h c e at tag (meant (spoken_by c) packet))

pub head_lawful : {P : Type 0} (spec_of : P → SampleSpec) (state : State P) → IsConsistent spec_of state → (c : Connection) → going_on state.connections c.conn ≡ Some c → (at : ℕ) (packet : List ℕ) (r : Result ((ℕ × ℕ) × Place) TagFault) → IsLawful state (head_answer state c at packet r)
head_lawful spec_of state h c e at packet (Err fault) = broken_off_lawful state c e at fault
head_lawful spec_of state h c e at packet (Ok head) = command_lawful spec_of state h c e at packet head.0.0 head.0.1

-- ---- frames

body_lawful : {P : Type 0} (spec_of : P → SampleSpec) (state : State P) → IsConsistent spec_of state → (c : Connection) → going_on state.connections c.conn ≡ Some c → (at : ℕ) (body : Body) → IsBody body → IsLawful state (body_answer state c at body)
body_lawful spec_of state h c e at (Control packet) is = head_lawful spec_of state h c e at packet (head_at (start_of packet))
body_lawful spec_of state h c e at (Write stream offset seek bytes) is = data_lawful state h.steady.rising c.conn stream offset seek bytes is.1 (stream_of state.inputs c.conn stream) refl

frame_lawful : {P : Type 0} (spec_of : P → SampleSpec) (state : State P) → IsConsistent spec_of state → (conn : ConnId) (o : Option Connection) → going_on state.connections conn ≡ o → (f : Frame) → IsBody f.body → IsLawful state (frame_of state o f)
frame_lawful spec_of state h conn None e f is = tt
frame_lawful spec_of state h conn (Some c) e f is = body_lawful spec_of state h c (going_by_own state.connections conn c e) f.at f.body is

-- ---- connections

distinct_push : (conn : ConnId) (client : ℕ) (cs : List Connection) → connection_of cs conn ≡ None → AreDistinct cs → AreDistinct (cs ++ new_connection conn client ∷ [])
distinct_push conn client [] e d = (tt, tt)
distinct_push conn client (c ∷ cs) e d = step (distinct_push conn client cs) (nat_eq c.conn.0 conn.0) refl e
  where
    step : (connection_of cs conn ≡ None → AreDistinct cs → AreDistinct (cs ++ new_connection conn client ∷ [])) → (b : Bool) → nat_eq c.conn.0 conn.0 ≡ b → cond b (Some c) (connection_of cs conn) ≡ None → AreDistinct (c ∷ (cs ++ new_connection conn client ∷ []))
    step later true t f = absurd (none-some c (sym f))
    step later false t f =
        (all_push (λ b. (Connection.conn b).0 ≡ c.conn.0 → ⊥) cs (new_connection conn client) d.0 (λ same. eqb-false c.conn.0 conn.0 t (sym same)), later f d.1)

connected_keeps : {P : Type 0} (spec_of : P → SampleSpec) (state : State P) → IsConsistent spec_of state → (o : Option Connection) (conn : ConnId) → connection_of state.connections conn ≡ o → IsConsistent spec_of (connected o conn state)
connected_keeps spec_of state h (Some c) conn e = h
connected_keeps spec_of state h None conn e =
    cond_both (is_full state) state (joined conn state) (IsConsistent spec_of)
    (λ f. h)
    (λ f. record {
      steady = others_keep spec_of state h.steady (state.connections ++ new_connection conn state.clients_made ∷ []) (distinct_push conn state.clients_made state.connections e h.steady.distinct)
          (record state.names { clients = state.names.clients ++ new_client conn state.clients_made ∷ [] }) (state.clients_made + 1);
      grouped = h.grouped;
      still = h.still;
    })

-- ---- notices

notified_lawful : {P : Type 0} (state : State P) (input : Option Input) (owner : Option Connection) (about : News) → IsLawful state (notified input owner about)
notified_lawful state None owner about = tt
notified_lawful state (Some x) None about = tt
notified_lawful state (Some x) (Some c) about = cond_both (goes_on x) (notifying c.conn (message_of about x)) idle (IsLawful state) (λ e. tt) (λ e. tt)

notified_of_lawful : {P : Type 0} (state : State P) (input : Option Input) (about : News) → IsLawful state (notified_of state input about)
notified_of_lawful state input about = notified_lawful state input (owner_of state.connections input) about

-- a sink has given up a stream
given_up_sound : {P : Type 0} (spec_of : P → SampleSpec) (state : State P) → IsConsistent spec_of state → (sink : SinkId) (input : InputId) (parcel : P) (o : Option Input) → input_on state.inputs sink input ≡ o
    → IsSound spec_of state (given_up spec_of state sink o parcel) (moved_stream input.0 parcel ∷ [])
given_up_sound spec_of state h sink input parcel None e = inl tt
given_up_sound {P} spec_of state h sink input parcel (Some x) e =
    subst (λ index. IsSound spec_of state (given_up spec_of state sink (Some x) parcel) (moved_stream index parcel ∷ [])) own (by x.standing refl)
  where
    -- it is of the input that is found
    own : x.index.0 ≡ input.0
    own = eqb-true x.index.0 input.0 (and_parts (nat_eq x.index.0 input.0) (nat_eq x.sink.0 sink.0) (found_test (is_on sink input) state.inputs x e)).0

    lawful : IsLawful state (left_of spec_of state sink (Some x) parcel)
    lawful = left_lawful spec_of state h sink input (spec_of parcel) (Some x) e

    by : (standing : Standing) → x.standing ≡ standing → IsSound spec_of state (given_up_by spec_of state sink x parcel standing) (moved_stream x.index.0 parcel ∷ [])
    by Settled is = inl lawful
    by (Moving to) is =
        cond_both (hands_over (spec_of parcel) x) (arrived_with x.index parcel (arrival_at state to x)) (left_of spec_of state sink (Some x) parcel) (λ outcome. IsSound spec_of state outcome (moved_stream x.index.0 parcel ∷ []))
        (λ t.
        let parts = and_parts (has_left x.way) (same_spec (spec_of parcel) (sample_spec x.spec)) t in
        arrival_sound spec_of state h x to parcel (found_by_index (is_on sink input) state.inputs h.steady.rising x e) is (away x.way parts.0) (spec_is (spec_of parcel) (sample_spec x.spec) parts.1))
        (λ t. inl lawful)
    by Leaving is = inl lawful

notice_sound : {P : Type 0} (spec_of : P → SampleSpec) (state : State P) → IsConsistent spec_of state → (sink : SinkId) (n : Notice P) → IsSound spec_of state (notice_answer spec_of state sink n) (given_by n)
notice_sound spec_of state h sink (Request input frames) = inl (notified_of_lawful state (input_on state.inputs sink input) (news.Request frames))
notice_sound spec_of state h sink (Overflow input) = inl (notified_of_lawful state (input_on state.inputs sink input) news.Overflow)
notice_sound spec_of state h sink (Underflow input) = inl (notified_of_lawful state (input_on state.inputs sink input) news.Underflow)
notice_sound spec_of state h sink (Started input) = inl (notified_of_lawful state (input_on state.inputs sink input) news.Started)
notice_sound spec_of state h sink (Drained input tag) =
    inl (drained_lawful state (input_on state.inputs sink input) (owner_of state.connections (input_on state.inputs sink input)) state.waiting tag)
notice_sound spec_of state h sink (Detached input parcel) = given_up_sound spec_of state h sink input parcel (input_on state.inputs sink input) refl
notice_sound spec_of state h sink (Latency input tag write read buffered playing run) =
    inl (measured_lawful state (input_on state.inputs sink input) (owner_of state.connections (input_on state.inputs sink input)) state.waiting (rate_on state.sinks sink) tag (record { write = write; read = read; buffered = buffered; playing = playing; run = run }))

-- ---- steps

connected_inputs : {P : Type 0} (o : Option Connection) (conn : ConnId) (state : State P) → (connected o conn state).inputs ≡ state.inputs
connected_inputs (Some c) conn state = refl
connected_inputs None conn state = cond_both (is_full state) state (joined conn state) (λ after. after.inputs ≡ state.inputs) (λ e. refl) (λ e. refl)

pub answer_sound : {P : Type 0} (spec_of : P → SampleSpec) (state : State P) (s : Step P) → IsStep s → IsConsistent spec_of state → IsSound spec_of state (answer_of spec_of state s) (given_in s)
answer_sound spec_of state (connect conn) is h = inl tt
answer_sound spec_of state (frame conn f) is h = inl (frame_lawful spec_of state h conn (going_on state.connections conn) refl f is)
answer_sound spec_of state (broken conn fault at) is h = inl (ended_lawful state conn (going_on state.connections conn) refl (Some Breach) (rule_of fault) at)
answer_sound spec_of state (close conn) is h = inl (ended_lawful state conn (going_on state.connections conn) refl None 0 0)
answer_sound spec_of state (cut conn) is h = inl (ended_lawful state conn (going_on state.connections conn) refl (Some ForMemory) 0 0)
answer_sound spec_of state sweep is h = inl (sweep_lawful state h.steady.rising)
answer_sound spec_of state (notice sink n) is h = notice_sound spec_of state h sink n
answer_sound spec_of state (out sink) is h = inl tt

-- what is sound keeps what the state keeps, and each sink has the inputs that it had
pub record Preserves {P : Type 0} (spec_of : P → SampleSpec) (before after : State P) : Type 0 where
  pub consistent : IsConsistent spec_of after
  pub held : (k : ℕ) → held_on k after.inputs ≡ held_on k before.inputs

sound_keeps : {P : Type 0} (spec_of : P → SampleSpec) (state : State P) (outcome : CoreOutcome P) (given : List (Brought P)) → IsConsistent spec_of state → IsSound spec_of state outcome given → Preserves spec_of state (answered state outcome)
sound_keeps spec_of state outcome given h (inl lawful) =
    let after = changes_follow spec_of [] state outcome.changes h.steady lawful in
    record {
      consistent = record { steady = after.keeps; grouped = changes_grouped [] state outcome.changes lawful h.grouped; still = changes_still [] state outcome.changes lawful h.still };
      held = after.held;
    }
sound_keeps {P} spec_of state outcome given h (inr a) =
    let after = changes_follow spec_of a.owed a.after a.behind a.follows.keeps a.lawful in
    subst (Preserves spec_of state) (sym (arrival_committed spec_of state outcome given a))
    (record {
      consistent = record { steady = after.keeps; grouped = changes_grouped a.owed a.after a.behind a.lawful a.grouped; still = a.still };
      held = λ k. after.held k ∙ a.follows.held k;
    })

step_answered : {P : Type 0} (spec_of : P → SampleSpec) (state : State P) (s : Step P) → IsStep s → IsConsistent spec_of state → Preserves spec_of state (answered state (answer_of spec_of state s))
step_answered spec_of state s is h = sound_keeps spec_of state (answer_of spec_of state s) (given_in s) h (answer_sound spec_of state s is h)

answer_keeps : {P : Type 0} (spec_of : P → SampleSpec) (state : State P) (s : Step P) → IsStep s → IsConsistent spec_of state → IsConsistent spec_of (answered state (answer_of spec_of state s))
answer_keeps spec_of state s is h = (step_answered spec_of state s is h).consistent

-- what is handed out
pub out_consistent : {P : Type 0} (spec_of : P → SampleSpec) (state : State P) (sink : SinkId) → IsConsistent spec_of state → IsConsistent spec_of (handed_out sink state)
out_consistent spec_of state sink h = record { steady = out_keeps spec_of state sink h.steady; grouped = past_grouped state (next_for state sink) sink h.grouped; still = past_still state (next_for state sink) sink h.still }

pub outs_consistent : {P : Type 0} (spec_of : P → SampleSpec) (state : State P) (sink : SinkId) (n : ℕ) → IsConsistent spec_of state → IsConsistent spec_of (handed_out_by n sink state)
outs_consistent spec_of state sink zero h = h
outs_consistent spec_of state sink (suc n) h = outs_consistent spec_of (handed_out sink state) sink n (out_consistent spec_of state sink h)

pub step_keeps : {P : Type 0} (spec_of : P → SampleSpec) (state : State P) (s : Step P) → IsStep s → IsConsistent spec_of state → IsConsistent spec_of (stepped spec_of state s)
step_keeps spec_of state (connect conn) is h = connected_keeps spec_of state h (connection_of state.connections conn) conn refl
step_keeps spec_of state (frame conn f) is h = answer_keeps spec_of state (frame conn f) is h
step_keeps spec_of state (broken conn fault at) is h = answer_keeps spec_of state (broken conn fault at) is h
step_keeps spec_of state (close conn) is h = answer_keeps spec_of state (close conn) is h
step_keeps spec_of state (cut conn) is h = answer_keeps spec_of state (cut conn) is h
step_keeps spec_of state sweep is h = answer_keeps spec_of state sweep is h
step_keeps spec_of state (notice sink n) is h = answer_keeps spec_of state (notice sink n) is h
step_keeps spec_of state (out sink) is h = out_consistent spec_of state sink h

-- and all of them, one after the other
pub steps_keep : {P : Type 0} (spec_of : P → SampleSpec) (state : State P) (steps : List (Step P)) → AllByRecursion IsStep steps → IsConsistent spec_of state → IsConsistent spec_of (stepped_by spec_of state steps)
steps_keep spec_of state [] is h = h
steps_keep spec_of state (s ∷ steps) is h = steps_keep spec_of (stepped spec_of state s) steps is.1 (step_keeps spec_of state s is.0 h)

-- a sink has the inputs that it had, but where a message is handed out to it
pub step_spares : {P : Type 0} (spec_of : P → SampleSpec) (state : State P) (s : Step P) (sink : SinkId) → IsStep s → Spares sink s → IsConsistent spec_of state → inputs_there (stepped spec_of state s) sink ≡ inputs_there state sink
step_spares {P} spec_of state s sink is spares h = ap finite.from_entries (same s is spares)
  where
    same : (t : Step P) → IsStep t → Spares sink t → held_on sink.0 (stepped spec_of state t).inputs ≡ held_on sink.0 state.inputs
    same (connect conn) is spares = ap (held_on sink.0) (connected_inputs (connection_of state.connections conn) conn state)
    same (frame conn f) is spares = (step_answered spec_of state (frame conn f) is h).held sink.0
    same (broken conn fault at) is spares = (step_answered spec_of state (broken conn fault at) is h).held sink.0
    same (close conn) is spares = (step_answered spec_of state (close conn) is h).held sink.0
    same (cut conn) is spares = (step_answered spec_of state (cut conn) is h).held sink.0
    same sweep is spares = (step_answered spec_of state sweep is h).held sink.0
    same (notice from n) is spares = (step_answered spec_of state (notice from n) is h).held sink.0
    same (out to) is spares = out_spares spec_of state to sink (λ e. spares (sym e)) h.steady
