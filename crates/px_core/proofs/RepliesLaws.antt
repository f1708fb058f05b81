-- What each command's handler tells who asked: a reply that is no error, or nothing yet.
use Rattle.std.proofs.Common.{◌≡◌, ℕ, List, [], ◌∷◌, ◌++◌, Option, Some, None, Bool, true, false, Ok, refl, ap}
use Rattle.std.specs.Prelude.{not, get_or, map, fold, is_some, nat_eq, nat_le, length}
use Rattle.px_types.specs.declared.ids.ConnId.{ConnId}
use Rattle.px_types.specs.declared.error_code.ErrorCode.TheVariants.{Access, BadState, Busy, Invalid, NoEntity, NotSupported, TooLarge, Version}
use Rattle.px_tag.specs.Item.{number}
use Rattle.px_cmd.specs.declared.command.CreateFields.{CreateFields}
use Rattle.px_cmd.specs.declared.command.Command.{Command}
use Rattle.px_cmd.specs.declared.command.Command.TheVariants as commands
use Rattle.px_names.specs.Names.{Naming, same_text}
use Rattle.px_reply.specs.Front.{reply_to}
use Rattle.px_reply.specs.declared.played.Created.{Created}
use Rattle.px_reply.specs.declared.info.ClientInfo.{ClientInfo}
use Rattle.px_reply.specs.declared.info.InputInfo.{InputInfo}
use Rattle.px_reply.specs.declared.info.ServerInfo.{ServerInfo}
use Rattle.px_reply.specs.declared.info.SinkInfo.{SinkInfo}
use Rattle.px_reply.specs.Info.{server_reply, with_sink, with_input, with_client, sinks_reply, inputs_reply, clients_reply}
use Rattle.px_reply.specs.declared.played.LatencyFields.{LatencyFields}
use Rattle.px_reply.specs.Message.{created_reply, latency_reply, attributes_reply}
use Rattle.px_msg.specs.Repair.{repaired, bytes_of as bytes_of_attr}
use Rattle.px_tag.specs.declared.raw.TimeVal.{TimeVal}
use Rattle.px_outcome.specs.declared.input.Connection.{Connection}
use Rattle.px_outcome.specs.declared.input.Input.{Input}
use Rattle.px_outcome.specs.declared.target.Named.{Named}
use Rattle.px_outcome.specs.declared.waiting.Waiting.{Waiting}
use Rattle.px_outcome.specs.Handled.{check, present}
use Rattle.px_outcome.specs.Target.{is_clear, target_of}
use Rattle.px_names.specs.Clients.{client_on, client_numbered}
use Rattle.px_names.specs.InputLists.{list_of as list_of_input}
use Rattle.px_ctl_info.specs.Clients.{LEAST_VERSION, SERVER_VERSION, version_in, auth, info_of, connection_with, is_mask}
use Rattle.px_ctl_info.specs.Infos.{sink_of as info_of_sink, input_of as info_of_input, group_on, member_on, sink_info_list, input_info_list}
use Rattle.px_ctl_info.specs.Properties.{list_of, mode_of, has_keys, name_in}
use Rattle.px_ctl_info.specs.Sinks.{sink_called, server_of}
use Rattle.px_flat.specs.declared.member.Member.{Member}
use Rattle.px_flat.specs.FlatVolume.{FlatGroup, member_of}
use Rattle.px_ctl_vol.specs.Asked.{is_volume, fits}
use Rattle.px_outcome.specs.Input.{is_moving}
use Rattle.px_ctl_play.specs.Create.{created_of, input_made, create}
use Rattle.px_ctl_play.specs.Attributes.{attributes}
use Rattle.px_ctl_play.specs.Control.{cork, flush, trigger, prebuf}
use Rattle.px_ctl_play.specs.Delete.{delete}
use Rattle.px_ctl_play.specs.Drain.{drain}
use Rattle.px_ctl_play.specs.Latency.{latency}
use Rattle.px_ctl_play.specs.Move.{feed_to, has_place, sent_off, move_input}
use Rattle.px_outcome.specs.Outcome.{replied}
use Rattle.px_outcome.specs.declared.target.Target.{Target}
use Rattle.std.proofs.lemmas.Bool.{cond_both}
use Rattle.px_ctl_play.specs.Time.{microseconds}
use Rattle.px_ctl_play.proofs.Passed.{IsCreated, create_passed}
use Rattle.px_state.specs.State.{State, stream_of, input_named}
use Rattle.px_state.specs.Outcome.{CoreOutcome, outcome_effects}
use Rattle.px_core.specs.Command.{spoken_by, default_sink, sink_volume, sink_mute, input_volume, input_mute, handle}
use Rattle.px_sinks.specs.Sinks.{rate_of, depth_of, sink_of, named_by, group_named, group_under, targets_of}
use Rattle.px_core.proofs.HandledLaws.{Each, each_check, each_then, each_by}

-- ---- replies: the fifth byte, the last of a reply's first number, is 2

pub reply_byte : (tag : ℕ) (rest : List ℕ) → get_or (reply_to tag ++ rest) 4 0 ≡ 2
unfolding number
reply_byte tag rest = refl

pub plain_byte : (tag : ℕ) → get_or (reply_to tag) 4 0 ≡ 2
unfolding number
plain_byte tag = refl

pub created_byte : (tag : ℕ) (c : Created) → get_or (created_reply tag c) 4 0 ≡ 2
unfolding number
created_byte tag c = refl

pub attributes_byte : (tag : ℕ) (attr : List ℕ) (time : ℕ) → get_or (attributes_reply tag attr time) 4 0 ≡ 2
unfolding number
attributes_byte tag attr time = refl

pub latency_byte : (tag : ℕ) (fields : LatencyFields) → get_or (latency_reply tag fields) 4 0 ≡ 2
unfolding number
latency_byte tag fields = refl

pub server_byte : (version tag : ℕ) (info : ServerInfo) → get_or (server_reply version tag info) 4 0 ≡ 2
unfolding number
server_byte version tag info = refl

pub client_byte : (tag : ℕ) (info : ClientInfo) → get_or (with_client (reply_to tag) info) 4 0 ≡ 2
unfolding number
client_byte tag info = refl

-- more clients behind the front of a packet
pub clients_front : (a b c d e : ℕ) (rest : List ℕ) (infos : List ClientInfo) → get_or (fold with_client (a ∷ b ∷ c ∷ d ∷ e ∷ rest) infos) 4 0 ≡ e
clients_front a b c d e rest [] = refl
clients_front a b c d e rest (i ∷ infos) = clients_front a b c d e (with_client rest i) infos

pub clients_byte : (tag : ℕ) (infos : List ClientInfo) → get_or (clients_reply tag infos) 4 0 ≡ 2
unfolding number
clients_byte tag infos = clients_front _ _ _ _ _ _ infos

pub sink_byte : (version tag : ℕ) (info : SinkInfo) → get_or (with_sink version (reply_to tag) info) 4 0 ≡ 2
unfolding number
sink_byte version tag info = refl

pub input_byte : (tag : ℕ) (info : InputInfo) → get_or (with_input (reply_to tag) info) 4 0 ≡ 2
unfolding number
input_byte tag info = refl

-- more sinks and inputs behind the front of a packet
sinks_front : (version a b c d e : ℕ) (rest : List ℕ) (infos : List SinkInfo) → get_or (fold (with_sink version) (a ∷ b ∷ c ∷ d ∷ e ∷ rest) infos) 4 0 ≡ e
sinks_front version a b c d e rest [] = refl
sinks_front version a b c d e rest (i ∷ infos) = sinks_front version a b c d e (with_sink version rest i) infos

inputs_front : (a b c d e : ℕ) (rest : List ℕ) (infos : List InputInfo) → get_or (fold with_input (a ∷ b ∷ c ∷ d ∷ e ∷ rest) infos) 4 0 ≡ e
inputs_front a b c d e rest [] = refl
inputs_front a b c d e rest (i ∷ infos) = inputs_front a b c d e (with_input rest i) infos

pub sinks_byte : (version tag : ℕ) (infos : List SinkInfo) → get_or (sinks_reply version tag infos) 4 0 ≡ 2
unfolding number
sinks_byte version tag infos = sinks_front version _ _ _ _ _ _ infos

pub inputs_byte : (tag : ℕ) (infos : List InputInfo) → get_or (inputs_reply tag infos) 4 0 ≡ 2
unfolding number
inputs_byte tag infos = inputs_front _ _ _ _ _ _ infos

-- ---- what a handler tells

-- a handler's outcome has a reply that is no error, or tells nobody anything
pub data Replies {P : Type 0} (outcome : CoreOutcome P) : Type 0 where
  a_reply : (packet : List ℕ) → outcome.reply ≡ Some packet → get_or packet 4 0 ≡ 2 → Replies outcome
  nothing : ((asker : Option ConnId) → outcome_effects asker outcome ≡ []) → Replies outcome

-- ---- the handlers of streams

pub delete_replies : (P : Type 0) (o : Option Input) (waiting : List Waiting) (t : ℕ) → Each (Replies {P = P}) (delete o waiting t)
delete_replies P None waiting t = tt
delete_replies P (Some x) waiting t = a_reply (reply_to t) refl (plain_byte t)

pub drain_replies : (P : Type 0) (o : Option Input) (t : ℕ) → Each (Replies {P = P}) (drain o t)
drain_replies P None t = tt
drain_replies P (Some x) t = nothing (λ asker. refl)

pub latency_replies : (P : Type 0) (o : Option Input) (time : TimeVal) (t : ℕ) → Each (Replies {P = P}) (latency o time t)
latency_replies P None time t = tt
latency_replies P (Some x) time t = nothing (λ asker. refl)

pub cork_replies : (P : Type 0) (o : Option Input) (on : Bool) (t : ℕ) → Each (Replies {P = P}) (cork o on t)
cork_replies P None on t = tt
cork_replies P (Some x) on t = a_reply (reply_to t) refl (plain_byte t)

pub flush_replies : (P : Type 0) (o : Option Input) (t : ℕ) → Each (Replies {P = P}) (flush o t)
flush_replies P None t = tt
flush_replies P (Some x) t = a_reply (reply_to t) refl (plain_byte t)

pub trigger_replies : (P : Type 0) (o : Option Input) (t : ℕ) → Each (Replies {P = P}) (trigger o t)
trigger_replies P None t = tt
trigger_replies P (Some x) t = a_reply (reply_to t) refl (plain_byte t)

pub prebuf_replies : (P : Type 0) (o : Option Input) (t : ℕ) → Each (Replies {P = P}) (prebuf o t)
prebuf_replies P None t = tt
prebuf_replies P (Some x) t = a_reply (reply_to t) refl (plain_byte t)

pub attributes_replies : (P : Type 0) (o : Option Input) (depth rate : ℕ) (wanted : List ℕ) (t : ℕ) → Each (Replies {P = P}) (attributes o depth rate wanted t)
attributes_replies P None depth rate wanted t = tt
attributes_replies P (Some x) depth rate wanted t =
    a_reply (attributes_reply t (bytes_of_attr x.spec (repaired x.spec wanted)) (microseconds rate depth)) refl (attributes_byte t (bytes_of_attr x.spec (repaired x.spec wanted)) (microseconds rate depth))

-- ---- all handlers

pub auth_replies : (P : Type 0) (names : Naming) (me : Connection) (t version : ℕ) (cookie : List ℕ) → Each (Replies {P = P}) (auth names me t version cookie)
auth_replies P names me t version cookie =
    each_check (Replies {P = P}) (not (is_some me.version)) BadState _
    (each_check (Replies {P = P}) (nat_le LEAST_VERSION (version_in version)) Version _
    (each_check (Replies {P = P}) (same_text cookie names.cookie) Access _
    (a_reply (reply_to t ++ number SERVER_VERSION) refl (reply_byte t (number SERVER_VERSION)))))

pub create_replies : (P : Type 0) (inputs : List Input) (made : ℕ) (me : Connection) (t : ℕ) (named : Named) (group : Option FlatGroup) (a : CreateFields) → Each (Replies {P = P}) (create inputs made me t named group a)
create_replies P inputs made me t named group a = each_by (Replies {P = P}) (create inputs made me t named group a) (λ outcome e. by outcome (create_passed inputs made me t named group a outcome e))
  where
    by : (outcome : CoreOutcome P) → IsCreated inputs made me t named group a outcome → Replies outcome
    by outcome p =
        a_reply (created_reply t (created_of p.sink a (input_made made me p.sink a))) (ap (λ (x : CoreOutcome P). x.reply) p.handled) (created_byte t (created_of p.sink a (input_made made me p.sink a)))

-- volumes and mutes
module _ {P : Type 0} (state : State P) (t : ℕ) where
  pub sink_volume_replies : (named : Named) (volume : List ℕ) → Each (Replies {P = P}) (sink_volume state named volume t)
  sink_volume_replies named volume =
      each_check (Replies {P = P}) (is_clear named) Invalid _
      (each_check (Replies {P = P}) (is_volume volume) Invalid _
      (each_then (Replies {P = P}) (present (target_of named) NoEntity) _
      (λ sink. each_then (Replies {P = P}) (present (group_named state.groups named) NoEntity) _
      (λ group. each_check (Replies {P = P}) (fits volume (length (FlatGroup.reference group))) Invalid _ (a_reply (reply_to t) refl (plain_byte t))))))

  pub sink_mute_replies : (named : Named) (on : Bool) → Each (Replies {P = P}) (sink_mute state named on t)
  sink_mute_replies named on =
      each_check (Replies {P = P}) (is_clear named) Invalid _
      (each_then (Replies {P = P}) (present (target_of named) NoEntity) _
      (λ sink. each_then (Replies {P = P}) (present (group_named state.groups named) NoEntity) _ (λ group. a_reply (reply_to t) refl (plain_byte t))))

  pub input_volume_replies : (input : Option Input) (volume : List ℕ) → Each (Replies {P = P}) (input_volume state input volume t)
  input_volume_replies input volume =
      each_check (Replies {P = P}) (is_volume volume) Invalid _
      (each_then (Replies {P = P}) (present input NoEntity) _
      (λ x. each_then (Replies {P = P}) (present (group_under state.groups input) NoEntity) _
      (λ group. each_then (Replies {P = P}) (present (member_of (FlatGroup.members group) (Input.index x)) NoEntity) _
      (λ member. each_check (Replies {P = P}) (fits volume (length (Member.volume member))) Invalid _
      (each_check (Replies {P = P}) (not (is_moving (Input.standing x))) Busy _ (a_reply (reply_to t) refl (plain_byte t)))))))

  pub input_mute_replies : (input : Option Input) (on : Bool) → Each (Replies {P = P}) (input_mute state input on t)
  input_mute_replies input on =
      each_then (Replies {P = P}) (present input NoEntity) _
      (λ x. each_then (Replies {P = P}) (present (group_under state.groups input) NoEntity) _
      (λ group. each_then (Replies {P = P}) (present (member_of (FlatGroup.members group) (Input.index x)) NoEntity) _
      (λ member. each_check (Replies {P = P}) (not (is_moving (Input.standing x))) Busy _ (a_reply (reply_to t) refl (plain_byte t)))))

  pub move_replies : (input : Option Input) (named : Named) (inputs : List Input) → Each (Replies {P = P}) (move_input input named inputs t)
  move_replies input named inputs =
      each_check (Replies {P = P}) (is_clear named) Invalid _
      (each_then (Replies {P = P}) (present input NoEntity) _
      (λ x. each_then (Replies {P = P}) (present (target_of named) NoEntity) _
      (λ sink. each_check (Replies {P = P}) (not (is_moving (Input.standing x))) Busy _
      (cond_both (nat_eq (Input.sink x).0 (Target.index sink).0) (Ok (replied (reply_to t) [])) (sent_off x sink inputs t) (Each (Replies {P = P}))
      (λ e. a_reply (reply_to t) refl (plain_byte t))
      (λ e. each_check (Replies {P = P}) (not x.no_move) Invalid _
      (each_check (Replies {P = P}) (nat_eq x.spec.rate sink.spec.rate) NotSupported _
      (each_then (Replies {P = P}) (present (feed_to x sink.map) NotSupported) _
      (λ feed. each_check (Replies {P = P}) (has_place inputs sink.index) TooLarge _ (a_reply (reply_to t) refl (plain_byte t))))))))))

pub handle_replies : {P : Type 0} (state : State P) (me : Connection) (t : ℕ) (command : Command) → Each Replies (handle state me t command)
handle_replies {P} state me t (commands.Auth version cookie) = auth_replies P state.names me t version cookie
handle_replies state me t (commands.SetClientName list) = a_reply (reply_to t ++ number me.client) refl (reply_byte t (number me.client))
handle_replies {P} state me t (commands.Create fields) = create_replies P state.inputs state.inputs_made me t (named_by state.names state.sinks fields.sink true) (group_named state.groups (named_by state.names state.sinks fields.sink true)) fields
handle_replies {P} state me t (commands.Delete stream) = delete_replies P (stream_of state.inputs me.conn stream) state.waiting t
handle_replies {P} state me t (commands.Drain stream) = drain_replies P (stream_of state.inputs me.conn stream) t
handle_replies {P} state me t (commands.Latency stream time) = latency_replies P (stream_of state.inputs me.conn stream) time t
handle_replies {P} state me t (commands.Cork stream on) = cork_replies P (stream_of state.inputs me.conn stream) on t
handle_replies {P} state me t (commands.Flush stream) = flush_replies P (stream_of state.inputs me.conn stream) t
handle_replies {P} state me t (commands.Trigger stream) = trigger_replies P (stream_of state.inputs me.conn stream) t
handle_replies {P} state me t (commands.Prebuf stream) = prebuf_replies P (stream_of state.inputs me.conn stream) t
handle_replies {P} state me t (commands.Attributes stream asked adjust_latency early_requests) =
    attributes_replies P (stream_of state.inputs me.conn stream) (depth_of (sink_of state.sinks (stream_of state.inputs me.conn stream))) (rate_of (sink_of state.sinks (stream_of state.inputs me.conn stream))) asked t
handle_replies state me t (commands.EmptyList n) = a_reply (reply_to t) refl (plain_byte t)
handle_replies {P} state me t (commands.LookupSink name) = each_then (Replies {P = P}) (sink_called state.names name) _ (λ sink. a_reply (reply_to t ++ number sink.0) refl (reply_byte t (number sink.0)))
handle_replies {P} state me t (commands.DefaultSink name) = each_then (Replies {P = P}) (sink_called state.names name) _ (λ sink. a_reply (reply_to t) refl (plain_byte t))
handle_replies {P} state me t commands.ServerInfo = each_then (Replies {P = P}) (present (target_of (default_sink state)) NoEntity) _ (λ sink. a_reply (server_reply (spoken_by me) t (server_of state.names.source sink)) refl (server_byte (spoken_by me) t (server_of state.names.source sink)))
handle_replies {P} state me t (commands.ClientInfo client) =
    each_then (Replies {P = P}) (present (client_numbered state.names.clients client) NoEntity) _ (λ found. a_reply (with_client (reply_to t) (info_of found)) refl (client_byte t (info_of found)))
handle_replies state me t commands.ClientInfoList = a_reply (clients_reply t (map info_of state.names.clients)) refl (clients_byte t (map info_of state.names.clients))
handle_replies {P} state me t (commands.UpdateClient mode list) = each_then (Replies {P = P}) (present (mode_of mode) Invalid) _ (λ known. a_reply (reply_to t) refl (plain_byte t))
handle_replies {P} state me t (commands.RemoveClient keys) =
    each_then (Replies {P = P}) (check (has_keys (list_of (client_on state.names.clients me.conn)) keys) NoEntity) _ (λ there. a_reply (reply_to t) refl (plain_byte t))
handle_replies {P} state me t (commands.SinkInfo sink) =
    each_check (Replies {P = P}) (is_clear (named_by state.names state.sinks sink false)) Invalid _
    (each_then (Replies {P = P}) (present (target_of (named_by state.names state.sinks sink false)) NoEntity) _
    (λ found. each_then (Replies {P = P}) (present (group_on state.groups found) NoEntity) _
    (λ group. a_reply (with_sink (spoken_by me) (reply_to t) (info_of_sink found group)) refl (sink_byte (spoken_by me) t (info_of_sink found group)))))
handle_replies state me t commands.SinkInfoList = a_reply (sinks_reply (spoken_by me) t (sink_info_list state.groups (targets_of state.sinks))) refl (sinks_byte (spoken_by me) t (sink_info_list state.groups (targets_of state.sinks)))
handle_replies {P} state me t (commands.InputInfo input) =
    each_then (Replies {P = P}) (present (input_named state.inputs input) NoEntity) _
    (λ x. each_then (Replies {P = P}) (present (member_on state.groups x) NoEntity) _
    (λ m. a_reply (with_input (reply_to t) (info_of_input x m (list_of_input state.lists (Input.index x)))) refl (input_byte t (info_of_input x m (list_of_input state.lists (Input.index x))))))
handle_replies state me t commands.InputInfoList =
    a_reply (inputs_reply t (input_info_list state.groups state.lists state.inputs)) refl (inputs_byte t (input_info_list state.groups state.lists state.inputs))
handle_replies {P} state me t (commands.Subscribe mask) = each_check (Replies {P = P}) (is_mask mask) Invalid _ (a_reply (reply_to t) refl (plain_byte t))
handle_replies {P} state me t (commands.StreamName stream name) =
    each_then (Replies {P = P}) (present (stream_of state.inputs me.conn stream) NoEntity) _ (λ x. each_then (Replies {P = P}) (present (name_in name) Invalid) _ (λ text. a_reply (reply_to t) refl (plain_byte t)))
handle_replies {P} state me t (commands.UpdateStream stream mode list) =
    each_then (Replies {P = P}) (present (stream_of state.inputs me.conn stream) NoEntity) _ (λ x. each_then (Replies {P = P}) (present (mode_of mode) Invalid) _ (λ known. a_reply (reply_to t) refl (plain_byte t)))
handle_replies {P} state me t (commands.RemoveStream stream keys) =
    each_then (Replies {P = P}) (present (stream_of state.inputs me.conn stream) NoEntity) _
    (λ x. each_then (Replies {P = P}) (check (has_keys (list_of_input state.lists (Input.index x)) keys) NoEntity) _ (λ there. a_reply (reply_to t) refl (plain_byte t)))
handle_replies {P} state me t (commands.KillClient client) = each_then (Replies {P = P}) (present (connection_with state.connections client) NoEntity) _ (λ c. a_reply (reply_to t) refl (plain_byte t))
handle_replies state me t (commands.Move input sink) = move_replies state t (input_named state.inputs input) (named_by state.names state.sinks sink false) state.inputs
handle_replies {P} state me t (commands.KillInput input) = each_then (Replies {P = P}) (present (input_named state.inputs input) NoEntity) _ (λ x. a_reply (reply_to t) refl (plain_byte t))
handle_replies state me t (commands.SinkVolume sink volume) = sink_volume_replies state t (named_by state.names state.sinks sink false) volume
handle_replies state me t (commands.SinkMute sink on) = sink_mute_replies state t (named_by state.names state.sinks sink false) on
handle_replies state me t (commands.InputVolume input volume) = input_volume_replies state t (input_named state.inputs input) volume
handle_replies state me t (commands.InputMute input on) = input_mute_replies state t (input_named state.inputs input) on
