-- Each connection that goes on is sent, in order, the events that its mask has, and after each step's own effects all that became is told.
use Rattle.std.proofs.Common.{◌≡◌, ℕ, Bool, true, false, List, [], ◌∷◌, ◌++◌, map, Option, None, Some, refl, ap, sym, ◌∙◌}
use Rattle.std.specs.Prelude.{◌≢◌, cond, nat_eq, filter, flat_map, slice_get}
use Rattle.std.specs.Option.{option_to_list}
use Rattle.std.specs.List.{AllByRecursion}
use Rattle.std.proofs.lemmas.List.{append-nil}
use Rattle.std.proofs.lemmas.List.Elements.{filter-append}
use Rattle.std.proofs.lemmas.Bool.{eqb-true, ne_eqb}
use Rattle.px_types.specs.declared.ids.ConnId.{ConnId}
use Rattle.px_types.specs.declared.ids.InputId.{InputId}
use Rattle.px_types.specs.declared.ids.SinkId.{SinkId}
use Rattle.px_tag.specs.Item.{number}
use Rattle.px_model.specs.Frame.{SampleSpec}
use Rattle.px_flat.specs.FlatVolume.{FlatGroup}
use Rattle.px_flat.specs.declared.member.Member.{Member}
use Rattle.px_names.specs.declared.client.Client.{Client}
use Rattle.px_names.specs.declared.input_lists.InputList.{InputList}
use Rattle.px_names.specs.Clients.{client_on, mask_of}
use Rattle.px_outcome.specs.declared.input.Connection.{Connection}
use Rattle.px_outcome.specs.declared.sending.Sending.{Sending}
use Rattle.px_outcome.specs.declared.sending.Reason.{Reason}
use Rattle.px_outcome.specs.declared.sending.Reason.TheVariants.{Protocol, Cut}
use Rattle.px_outcome.specs.declared.input.Input.{Input}
use Rattle.px_outcome.specs.declared.input.Way.{Way}
use Rattle.px_outcome.specs.declared.input.Way.TheVariants.{There, Left}
use Rattle.px_outcome.specs.Outcome.{OutcomeParts}
use Rattle.px_input_table.specs.Inputs.{on_way}
use Rattle.px_frame.specs.Fault.{code_of}
use Rattle.px_reply.specs.declared.info.InputInfo.{InputInfo}
use Rattle.px_ctl_info.specs.Infos.{input_info_of, member_with, inputs_with, input_info_list}
use Rattle.px_msg.specs.declared.message.Msg.{Msg}
use Rattle.px_msg.specs.declared.message.Msg.TheVariants.{New, Attach, Detach, Write, Cork, Flush, Trigger, Prebuf, Drain, Attr, Factors, Query}
use Rattle.px_subscribe.proofs.Unchanged.{none_since}
use Rattle.px_subscribe.specs.declared.announce.Subscriber.{Subscriber}
use Rattle.px_subscribe.specs.declared.event.Event.{Event}
use Rattle.px_subscribe.specs.declared.event.Facility.{Facility}
use Rattle.px_subscribe.specs.declared.event.Facility.TheVariants as facility
use Rattle.px_subscribe.specs.Event.{message_of, hears}
use Rattle.px_subscribe.specs.Announce.{notified_to, announced, announced_all}
use Rattle.px_subscribe.specs.Became.{events_between}
use Rattle.px_subscribe.specs.InfoBytes.{infos_in}
use Rattle.px_subscribe.specs.Moments.{info_lists_of, given_in, subscriber_of, subscribers_of}
use Rattle.px_state.specs.Effect.{sent, sending, fits}
use Rattle.px_state.specs.State.{State, has_number, has_index, goes_on, connection_of}
use Rattle.px_state.specs.Outcome.{sent_all, ended_by}
use Rattle.px_core.specs.Connecting.{unmarked, going_on, ended}
use Rattle.px_state.specs.Out.{with_way, inputs_past, past, next_for, handed_out}
use Rattle.px_core.specs.Step.{Step, connect, frame, broken, close, cut, sweep, notice, out, answered, stepped, effects_of}
use Rattle.px_core.specs.Consistency.{AreDistinct}
use Rattle.px_state.specs.Events.{scene_of, step_events}
use Rattle.px_core.specs.Heard.{infos_of, events_of, mask_by, mask_on, heard, sent_events, goes_to, sent_to, own_effects}
use Rattle.px_core.proofs.ListLaws.{found_test}
use Rattle.px_state.proofs.SceneLaws.{events_are, none_events, quiet_events}
use Rattle.px_state.proofs.AddedLaws.{none_added}

-- ---- lists

either_none : {A : Type 0} (b : Bool) → ◌≡◌ {A = List A} [] (cond b [] [])
either_none true = refl
either_none false = refl

one_filtered : {B : Type 0} (q : B → Bool) (y : B) (a : Bool) → filter q (cond a (y ∷ []) []) ≡ cond (q y) (cond a (y ∷ []) []) []
one_filtered q y true = refl
one_filtered q y false = either_none (q y)

filtered_through : {A B : Type 0} (p : A → Bool) (q : B → Bool) (f : A → List B) → ((x : A) → filter q (f x) ≡ cond (p x) (f x) []) → (xs : List A) → filter q (flat_map f xs) ≡ flat_map f (filter p xs)
filtered_through p q f each [] = refl
filtered_through p q f each (x ∷ xs) =
    filter-append q (f x) (flat_map f xs)
    ∙ (λ k. each x k ++ filtered_through p q f each xs k)
    ∙ by (p x)
  where
    by : (b : Bool) → cond b (f x) [] ++ flat_map f (filter p xs) ≡ flat_map f (cond b (x ∷ filter p xs) (filter p xs))
    by true = refl
    by false = refl

-- ---- numbers

apart : (n m k : ℕ) → n ≢ m → m ≡ k → nat_eq n k ≡ false
apart n m k l e = ne_eqb n k (λ same. l (same ∙ sym e))

same : (n k : ℕ) → nat_eq n k ≡ true → n ≡ k
same n k e = eqb-true n k e

-- ---- what a subscriber is told

abbrev message_on : ConnId → Event → Sending
message_on conn e = record { conn = conn; packet = message_of e }

-- it is told of the events that its mask has
notified_alone : (s : Subscriber) (events : List Event) → announced_all (s ∷ []) events ≡ map (message_on s.conn) (heard s.mask events)
notified_alone s [] = refl
notified_alone s (e ∷ events) = (λ k. append-nil (notified_to e s) k ++ notified_alone s events k) ∙ by (hears s.mask e.facility)
  where
    by : (b : Bool) → cond b (message_on s.conn e ∷ []) [] ++ map (message_on s.conn) (heard s.mask events) ≡ map (message_on s.conn) (cond b (e ∷ heard s.mask events) (heard s.mask events))
    by true = refl
    by false = refl

-- where there is none nobody is told anything
notified_nobody : (events : List Event) → announced_all [] events ≡ []
notified_nobody [] = refl
notified_nobody (e ∷ events) = notified_nobody events

no_facility : (f : Facility) → hears 0 f ≡ false
no_facility facility.Sink = refl
no_facility facility.Input = refl
no_facility facility.Client = refl
no_facility facility.Server = refl

-- and a mask of nothing has none
heard_nothing : (events : List Event) → heard 0 events ≡ []
heard_nothing [] = refl
heard_nothing (e ∷ events) = ap (λ b. cond b (e ∷ heard 0 events) (heard 0 events)) (no_facility e.facility) ∙ heard_nothing events

-- a frame carries each message
message_fits : (e : Event) → fits (message_of e) ≡ true
unfolding number
message_fits e = refl

sent_messages : (conn : ConnId) (events : List Event) → sent_all (map (message_on conn) events) ≡ sent_events conn events
sent_messages conn [] = refl
sent_messages conn (e ∷ events) = λ k. cond (message_fits e k) (sent conn (message_of e) ∷ []) [] ++ sent_messages conn events k

-- ---- one connection's part

module _ (conn : ConnId) where
  abbrev is_mine : Sending → Bool
  is_mine x = nat_eq x.conn.0 conn.0

  abbrev is_me : Subscriber → Bool
  is_me s = nat_eq s.conn.0 conn.0

  effects_filtered : (sendings : List Sending) → sent_to conn (sent_all sendings) ≡ sent_all (filter is_mine sendings)
  effects_filtered = filtered_through is_mine (goes_to conn) (λ x. sending (Sending.conn x) x.packet) (λ x. one_filtered (goes_to conn) (sent (Sending.conn x) x.packet) (fits x.packet))

  notified_filtered : (e : Event) (s : Subscriber) → filter is_mine (notified_to e s) ≡ cond (is_me s) (notified_to e s) []
  notified_filtered e s = one_filtered is_mine (record { conn = s.conn; packet = message_of e }) (hears s.mask e.facility)

  announced_filtered : (subscribers : List Subscriber) (events : List Event) → filter is_mine (announced_all subscribers events) ≡ announced_all (filter is_me subscribers) events
  announced_filtered subscribers [] = refl
  announced_filtered subscribers (e ∷ events) =
      filter-append is_mine (announced subscribers e) (announced_all subscribers events)
      ∙ (λ k. filtered_through is_me is_mine (notified_to e) (notified_filtered e) subscribers k ++ announced_filtered subscribers events k)

  subscriber_filtered : (clients : List Client) (c : Connection) → filter is_me (subscriber_of clients c) ≡ cond (has_number conn c) (subscriber_of clients c) []
  subscriber_filtered clients c = by c.marked
    where
      by : (b : Bool) → filter is_me (cond b [] (record { conn = c.conn; mask = mask_of (client_on clients c.conn) } ∷ []))
          ≡ cond (has_number conn c) (cond b [] (record { conn = c.conn; mask = mask_of (client_on clients c.conn) } ∷ [])) []
      by false = refl
      by true = either_none (has_number conn c)

  -- of connections with numbers of their own one at most has this
  strange : (c : Connection) (cs : List Connection) → AllByRecursion (λ d. (Connection.conn d).0 ≢ c.conn.0) cs → c.conn.0 ≡ conn.0 → filter (has_number conn) cs ≡ []
  strange c [] all e = refl
  strange c (d ∷ cs) all e = ap (λ b. cond b (d ∷ filter (has_number conn) cs) (filter (has_number conn) cs)) (apart d.conn.0 c.conn.0 conn.0 all.0 e) ∙ strange c cs all.1 e

  alone : (cs : List Connection) → AreDistinct cs → filter (has_number conn) cs ≡ option_to_list (connection_of cs conn)
  alone [] distinct = refl
  alone (c ∷ cs) distinct = by (nat_eq c.conn.0 conn.0) refl (alone cs distinct.1)
    where
      by : (b : Bool) → nat_eq c.conn.0 conn.0 ≡ b → filter (has_number conn) cs ≡ option_to_list (connection_of cs conn)
          → cond b (c ∷ filter (has_number conn) cs) (filter (has_number conn) cs) ≡ option_to_list (cond b (Some c) (connection_of cs conn))
      by true e later = ap (λ (rest : List Connection). c ∷ rest) (strange c cs distinct.0 (same c.conn.0 conn.0 e))
      by false e later = later

  -- the one with this number is sent the events that its mask has
  sent_one : (clients : List Client) (o : Option Connection) → ((c : Connection) → o ≡ Some c → c.conn ≡ conn) → (events : List Event)
      → sent_all (announced_all (flat_map (subscriber_of clients) (option_to_list o)) events) ≡ sent_events conn (heard (mask_by (unmarked o) clients) events)
  sent_one clients None it events = ap (λ notified. sent_all notified) (notified_nobody events) ∙ ap (λ those. sent_events conn those) (sym (heard_nothing events))
  sent_one clients (Some c) it events = by c.marked
    where
      by : (b : Bool) → sent_all (announced_all (cond b [] (record { conn = c.conn; mask = mask_of (client_on clients c.conn) } ∷ []) ++ []) events) ≡ sent_events conn (heard (mask_by (cond b None (Some c)) clients) events)
      by true = ap (λ notified. sent_all notified) (notified_nobody events) ∙ ap (λ those. sent_events conn those) (sym (heard_nothing events))
      by false =
          ap (λ notified. sent_all notified) (notified_alone (record { conn = c.conn; mask = mask_of (client_on clients c.conn) }) events)
          ∙ ap (λ who. sent_all (map (message_on who) (heard (mask_of (client_on clients c.conn)) events))) (it c refl)
          ∙ sent_messages conn (heard (mask_of (client_on clients c.conn)) events)

  its_number : (cs : List Connection) (c : Connection) → connection_of cs conn ≡ Some c → c.conn ≡ conn
  its_number cs c e = ap (λ n. record { 0 = n }) (same c.conn.0 conn.0 (found_test (has_number conn) cs c e))

  pub sent_by_mask : {P : Type 0} (before after : State P) → AreDistinct after.connections → after.sinks ≡ before.sinks
      → sent_to conn (step_events before after) ≡ sent_events conn (heard (mask_on after conn) (events_of before after))
  sent_by_mask before after distinct same_sinks =
      let clients = after.names.clients in
      let cs = after.connections in
      let subscribers = subscribers_of (scene_of after) in
      let events = events_between (given_in before.sinks after.clients_made (scene_of after)) (infos_of before) (infos_in (info_lists_of before.sinks (scene_of after))) in
      ap (λ effects. sent_to conn effects) (events_are before after)
      ∙ effects_filtered (announced_all subscribers events)
      ∙ ap (λ notified. sent_all notified) (announced_filtered subscribers events)
      ∙ ap (λ those. sent_all (announced_all those events))
      (filtered_through (has_number conn) is_me (subscriber_of clients) (subscriber_filtered clients) cs ∙ ap (λ those. flat_map (subscriber_of clients) those) (alone cs distinct))
      ∙ sent_one clients (connection_of cs conn) (its_number cs) events
      ∙ ap (λ sinks. sent_events conn (heard (mask_on after conn) (events_between (given_in sinks after.clients_made (scene_of after)) (infos_of before) (infos_in (info_lists_of sinks (scene_of after))))))
      (sym same_sinks)

-- ---- steps that only mark a connection, or hand out a message, change nothing that is told

ended_events : {P : Type 0} (o : Option Connection) (reason : Option Reason) (fault at : ℕ) (state : State P) → step_events state (answered state (ended o reason fault at)) ≡ []
ended_events None reason fault at state = none_events state
ended_events {P} (Some c) reason fault at state = quiet_events state (OutcomeParts.changes (ended_by {P = P} c.conn reason fault at)) refl

-- whether a message that names an input was handed out isn't told
module _ (groups : List FlatGroup) (lists : List InputList) where
  member_same : (way : Way) (x : Input) (o : Option FlatGroup) → member_with o (on_way way x) ≡ member_with o x
  member_same way x None = refl
  member_same way x (Some group) = refl

  info_same : (way : Way) (x : Input) (o : Option Member) → inputs_with lists (on_way way x) o ≡ inputs_with lists x o
  info_same way x None = refl
  info_same way x (Some m) = refl

  infos_same : (way : Way) (x : Input) → input_info_of groups lists (on_way way x) ≡ input_info_of groups lists x
  infos_same way x =
      ap (λ (infos : List InputInfo). cond (goes_on x) infos [])
      (info_same way x (member_with (slice_get groups x.sink.0) (on_way way x)) ∙ ap (λ (o : Option Member). inputs_with lists x o) (member_same way x (slice_get groups x.sink.0)))

  infos_by_way : (index : InputId) (way : Way) (xs : List Input) → input_info_list groups lists (with_way index way xs) ≡ input_info_list groups lists xs
  infos_by_way index way [] = refl
  infos_by_way index way (x ∷ xs) = by (infos_by_way index way xs) (has_index index x)
    where
      by : input_info_list groups lists (with_way index way xs) ≡ input_info_list groups lists xs → (b : Bool)
          → input_info_list groups lists (cond b (on_way way x ∷ xs) (x ∷ with_way index way xs)) ≡ input_info_list groups lists (x ∷ xs)
      by later true = ap (λ (first : List InputInfo). first ++ input_info_list groups lists xs) (infos_same way x)
      by later false = ap (λ (rest : List InputInfo). input_info_of groups lists x ++ rest) later

  infos_past : {P : Type 0} (m : Msg P) (xs : List Input) → input_info_list groups lists (inputs_past m xs) ≡ input_info_list groups lists xs
  infos_past (New n) xs = infos_by_way n.input There xs
  infos_past (Attach input parcel feed factors) xs = infos_by_way input There xs
  infos_past (Detach input) xs = infos_by_way input Left xs
  infos_past (Write input seek offset frames bytes) xs = refl
  infos_past (Cork input on) xs = refl
  infos_past (Flush input) xs = refl
  infos_past (Trigger input) xs = refl
  infos_past (Prebuf input) xs = refl
  infos_past (Drain input tag) xs = refl
  infos_past (Attr input attr) xs = refl
  infos_past (Factors each) xs = refl
  infos_past (Query input tag) xs = refl

past_events : {P : Type 0} (o : Option (Msg P)) (sink : SinkId) (state : State P) → step_events state (past o sink state) ≡ []
past_events None sink state = none_events state
past_events (Some m) sink state =
    events_are state (past (Some m) sink state)
    ∙ ap (λ notified. sent_all notified)
    (none_since state.sinks state.clients_made (info_lists_of state.sinks (scene_of state)) (scene_of (past (Some m) sink state))
    (ap (λ inputs. record (info_lists_of state.sinks (scene_of state)) { inputs = inputs }) (infos_past state.groups state.lists m state.inputs)))

pub all_effects : {P : Type 0} (spec_of : P → SampleSpec) (state : State P) (s : Step P) → effects_of spec_of state s ≡ own_effects spec_of state s ++ step_events state (stepped spec_of state s)
all_effects spec_of state (connect conn) = refl
all_effects spec_of state (frame conn f) = refl
all_effects spec_of state (broken conn fault at) = none_added (own_effects spec_of state (broken conn fault at)) (step_events state (stepped spec_of state (broken conn fault at))) (ended_events (going_on state.connections conn) (Some Protocol) (code_of fault) at state)
all_effects spec_of state (close conn) = none_added (own_effects spec_of state (close conn)) (step_events state (stepped spec_of state (close conn))) (ended_events (going_on state.connections conn) None 0 0 state)
all_effects spec_of state (cut conn) = none_added (own_effects spec_of state (cut conn)) (step_events state (stepped spec_of state (cut conn))) (ended_events (going_on state.connections conn) (Some Cut) 0 0 state)
all_effects spec_of state sweep = refl
all_effects spec_of state (notice sink n) = refl
all_effects spec_of state (out sink) = none_added [] (step_events state (handed_out sink state)) (past_events (next_for state sink) sink state)
