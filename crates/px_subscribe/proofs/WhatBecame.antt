-- The events about an object are the one that says what became of it.
use Rattle.std.proofs.Common.{◌≡◌, ℕ, zero, suc, ◌+◌, ◌<◌, ◌≤◌, Bool, true, false, cond, List, [], ◌∷◌, ◌++◌, Option, None, Some, refl, ap, ◌∙◌, arith}
use Rattle.std.specs.Prelude.{◌&&◌, nat_eq, filter, flat_map, option_map, option_to_list}
use Rattle.std.specs.List.{range_with_len}
use Rattle.std.proofs.lemmas.List.{append-nil}
use Rattle.std.proofs.lemmas.List.Elements.{filter-append}
use Rattle.std.proofs.lemmas.Slice.Eq.{bytes_eq-Decides}
use Rattle.std.proofs.lemmas.Bool.{eq-eqb}
use Rattle.std.proofs.lemmas.Bool.Decides.{nat_tests}
use Rattle.px_reply.specs.declared.info.ClientInfo.{ClientInfo}
use Rattle.px_reply.specs.Front.{reply_to}
use Rattle.px_reply.specs.Info.{server_reply, with_sink, with_input, with_client}
use Rattle.px_ctl_info.specs.Clients.{SERVER_VERSION}
use Rattle.px_subscribe.specs.declared.event.Facility.{Facility}
use Rattle.px_subscribe.specs.declared.event.Facility.TheVariants.{Sink, Input, Client, Server}
use Rattle.px_subscribe.specs.declared.event.Kind.{Kind}
use Rattle.px_subscribe.specs.declared.event.Kind.TheVariants.{Change}
use Rattle.px_subscribe.specs.declared.event.Event.{Event}
use Rattle.px_subscribe.specs.Event.{facility_code}
use Rattle.px_subscribe.specs.Infos.{Infos, Given}
use Rattle.px_subscribe.specs.Became.{NO_INDEX, became, event, events_at, events_of, server_events, events_between, is_about, about, SayWhatBecame}

-- ---- one object

same_number : (n : ℕ) → nat_eq n n ≡ true
same_number n = eq-eqb n n refl

both : (a b : Bool) → a ≡ true → b ≡ true → (a && b) ≡ true
both true true p q = refl
both true false p q = q
both false b p q = p

apart_left : (a b : Bool) → a ≡ false → (a && b) ≡ false
apart_left false b e = refl
apart_left true b e = absurd cc

apart_right : (a b : Bool) → b ≡ false → (a && b) ≡ false
apart_right false b e = refl
apart_right true b e = e

-- its event, where there is one, is about it, and about no other
own : (f : Facility) (i : ℕ) (o : Option Kind) → about f i (option_to_list (option_map (event f i) o)) ≡ option_to_list (option_map (event f i) o)
own f i None = refl
own f i (Some kind) =
    ap (λ b. cond b (event f i kind ∷ []) []) (both (nat_eq (facility_code f) (facility_code f)) (nat_eq i i) (same_number (facility_code f)) (same_number i))

other : (f g : Facility) (i j : ℕ) (o : Option Kind) → (nat_eq (facility_code g) (facility_code f) && nat_eq j i) ≡ false → about f i (option_to_list (option_map (event g j) o)) ≡ []
other f g i j None e = refl
other f g i j (Some kind) e = ap (λ b. cond b (event g j kind ∷ []) []) e

below_apart : (i j : ℕ) → i < j → nat_eq j i ≡ false
below_apart i j l = grind (arith, nat_tests)

same_place : (i j : ℕ) → nat_eq i j ≡ true → i ≡ j
same_place i j e = grind (arith, nat_tests)

same_next : (i j : ℕ) → nat_eq i j ≡ true → j < i + 1
same_next i j e = grind (arith, nat_tests)

beyond : (i j : ℕ) → i ≤ j → nat_eq i j ≡ false → i + 1 ≤ j
beyond i j l e = grind (arith, nat_tests)

-- ---- the objects of a facility

module _ {A : Type 0} (f : Facility) (info_bytes : A → List ℕ) (before after : ℕ → Option A) where
  abbrev here : ℕ → List Event
  here = events_at f info_bytes before after

  its_own : (i : ℕ) → about f i (here i) ≡ here i
  its_own i = own f i (became info_bytes (before i) (after i))

  of_another : (i j : ℕ) → nat_eq j i ≡ false → about f i (here j) ≡ []
  of_another i j e = other f f i j (became info_bytes (before j) (after j)) (apart_right (nat_eq (facility_code f) (facility_code f)) (nat_eq j i) e)

  -- those about an object are the front's and the rest's
  joined : (i start n : ℕ) → about f i (flat_map here (range_with_len start (suc n))) ≡ about f i (here start) ++ about f i (flat_map here (range_with_len (start + 1) n))
  joined i start n = filter-append (is_about f i) (here start) (flat_map here (range_with_len (start + 1) n))

  -- none behind an object is about it
  none_behind : (i start n : ℕ) → i < start → about f i (flat_map here (range_with_len start n)) ≡ []
  none_behind i start zero l = refl
  none_behind i start (suc n) l =
      joined i start n
      ∙ ap (λ (first : List Event). first ++ about f i (flat_map here (range_with_len (start + 1) n))) (of_another i start (below_apart i start l))
      ∙ none_behind i (start + 1) n (omega (arith, l))

  each : (i start n : ℕ) → start ≤ i → i < start + n → about f i (flat_map here (range_with_len start n)) ≡ here i
  each i start zero l u = absurd (omega (arith, l, u))
  each i start (suc n) l u = by (λ past. each i (start + 1) n past (omega (arith, u))) (nat_eq start i) refl
    where
      by : (start + 1 ≤ i → about f i (flat_map here (range_with_len (start + 1) n)) ≡ here i) → (b : Bool) → nat_eq start i ≡ b
          → about f i (flat_map here (range_with_len start (suc n))) ≡ here i
      by later true e =
          joined i start n
          ∙ ap (λ (rest : List Event). about f i (here start) ++ rest) (none_behind i (start + 1) n (same_next start i e))
          ∙ append-nil (about f i (here start))
          ∙ ap (λ k. about f i (here k)) (same_place start i e)
          ∙ its_own i
      by later false e =
          joined i start n
          ∙ ap (λ (first : List Event). first ++ about f i (flat_map here (range_with_len (start + 1) n))) (of_another i start e)
          ∙ later (beyond start i l e)

-- none of a facility is about an object of another
module _ {A : Type 0} (f g : Facility) (apart : nat_eq (facility_code g) (facility_code f) ≡ false) (info_bytes : A → List ℕ) (before after : ℕ → Option A) where
  strange : (i : ℕ) (js : List ℕ) → about f i (flat_map (events_at g info_bytes before after) js) ≡ []
  strange i [] = refl
  strange i (j ∷ js) =
      filter-append (is_about f i) (events_at g info_bytes before after j) (flat_map (events_at g info_bytes before after) js)
      ∙ ap (λ (first : List Event). first ++ about f i (flat_map (events_at g info_bytes before after) js))
      (other f g i j (became info_bytes (before j) (after j)) (apart_left (nat_eq (facility_code g) (facility_code f)) (nat_eq j i) apart))
      ∙ strange i js

-- ---- all of them

joined_four : (a x b y c z d w : List Event) → a ≡ x → b ≡ y → c ≡ z → d ≡ w → a ++ b ++ c ++ d ≡ x ++ y ++ z ++ w
joined_four a x b y c z d w p q r s = λ k. p k ++ q k ++ r k ++ s k

parts : (test : Event → Bool) (a b c d : List Event) → filter test (a ++ b ++ c ++ d) ≡ filter test a ++ filter test b ++ filter test c ++ filter test d
parts test a b c d =
    filter-append test (a ++ b ++ c) d
    ∙ ap (λ (front : List Event). front ++ filter test d)
    (filter-append test (a ++ b) c ∙ ap (λ (front : List Event). front ++ filter test c) (filter-append test a b))

first_alone : (a : List Event) → a ++ [] ++ [] ++ [] ≡ a
first_alone a = append-nil (a ++ [] ++ []) ∙ append-nil (a ++ []) ∙ append-nil a

second_alone : (a : List Event) → [] ++ a ++ [] ++ [] ≡ a
second_alone a = append-nil ([] ++ a ++ []) ∙ append-nil ([] ++ a)

third_alone : (a : List Event) → [] ++ [] ++ a ++ [] ≡ a
third_alone a = append-nil ([] ++ [] ++ a)

module _ (given : Given) (before after : Infos) where
  abbrev of_sinks : List Event
  of_sinks = events_of Sink (with_sink SERVER_VERSION (reply_to 0)) before.sinks after.sinks given.sinks

  abbrev of_inputs : List Event
  of_inputs = events_of Input (with_input (reply_to 0)) before.inputs after.inputs given.inputs

  abbrev of_clients : List Event
  of_clients = events_of Client (with_client (reply_to 0)) before.clients after.clients given.clients

  abbrev of_server : List Event
  of_server = server_events before after

  -- the events about an object are those of each facility about it, joined
  in_parts : (f : Facility) (i : ℕ) → about f i (events_between given before after) ≡ about f i of_sinks ++ about f i of_inputs ++ about f i of_clients ++ about f i of_server
  in_parts f i = parts (is_about f i) of_sinks of_inputs of_clients of_server

  only : (f : Facility) (i : ℕ) (a b c d : List Event) → about f i of_sinks ≡ a → about f i of_inputs ≡ b → about f i of_clients ≡ c → about f i of_server ≡ d
      → about f i (events_between given before after) ≡ a ++ b ++ c ++ d
  only f i a b c d p q r s =
      in_parts f i ∙ joined_four (about f i of_sinks) a (about f i of_inputs) b (about f i of_clients) c (about f i of_server) d p q r s

  not_server : (f : Facility) (i : ℕ) → nat_eq (facility_code Server) (facility_code f) ≡ false → about f i of_server ≡ []
  not_server f i apart =
      other f Server i NO_INDEX (became (server_reply SERVER_VERSION 0) before.server after.server) (apart_left (nat_eq (facility_code Server) (facility_code f)) (nat_eq NO_INDEX i) apart)

  no_sink : (f : Facility) (i : ℕ) → nat_eq (facility_code Sink) (facility_code f) ≡ false → about f i of_sinks ≡ []
  no_sink f i apart = strange f Sink apart (with_sink SERVER_VERSION (reply_to 0)) before.sinks after.sinks i (range_with_len 0 given.sinks)

  no_input : (f : Facility) (i : ℕ) → nat_eq (facility_code Input) (facility_code f) ≡ false → about f i of_inputs ≡ []
  no_input f i apart = strange f Input apart (with_input (reply_to 0)) before.inputs after.inputs i (range_with_len 0 given.inputs)

  no_client : (f : Facility) (i : ℕ) → nat_eq (facility_code Client) (facility_code f) ≡ false → about f i of_clients ≡ []
  no_client f i apart = strange f Client apart (with_client (reply_to 0)) before.clients after.clients i (range_with_len 0 given.clients)

  pub say_what_became : SayWhatBecame given before after
  say_what_became = record {
    sinks = λ i l.
        only Sink i (events_at Sink (with_sink SERVER_VERSION (reply_to 0)) before.sinks after.sinks i) [] [] []
        (each Sink (with_sink SERVER_VERSION (reply_to 0)) before.sinks after.sinks i 0 given.sinks (omega arith) (omega (arith, l))) (no_input Sink i refl) (no_client Sink i refl) (not_server Sink i refl)
        ∙ first_alone (events_at Sink (with_sink SERVER_VERSION (reply_to 0)) before.sinks after.sinks i);
    inputs = λ i l.
        only Input i [] (events_at Input (with_input (reply_to 0)) before.inputs after.inputs i) [] []
        (no_sink Input i refl) (each Input (with_input (reply_to 0)) before.inputs after.inputs i 0 given.inputs (omega arith) (omega (arith, l))) (no_client Input i refl) (not_server Input i refl)
        ∙ second_alone (events_at Input (with_input (reply_to 0)) before.inputs after.inputs i);
    clients = λ i l.
        only Client i [] [] (events_at Client (with_client (reply_to 0)) before.clients after.clients i) []
        (no_sink Client i refl) (no_input Client i refl) (each Client (with_client (reply_to 0)) before.clients after.clients i 0 given.clients (omega arith) (omega (arith, l))) (not_server Client i refl)
        ∙ third_alone (events_at Client (with_client (reply_to 0)) before.clients after.clients i);
    server = only Server NO_INDEX [] [] [] of_server (no_sink Server NO_INDEX refl) (no_input Server NO_INDEX refl) (no_client Server NO_INDEX refl)
        (own Server NO_INDEX (became (server_reply SERVER_VERSION 0) before.server after.server));
  }

-- ---- between a moment and itself

nothing_became : {A : Type 0} (info_bytes : A → List ℕ) (o : Option A) → became info_bytes o o ≡ None
nothing_became info_bytes None = refl
nothing_became info_bytes (Some x) = ap (λ b. cond b None (Some Change)) ((bytes_eq-Decides (info_bytes x) (info_bytes x)).1 refl)

none_at : {A : Type 0} (f : Facility) (info_bytes : A → List ℕ) (infos : ℕ → Option A) (i : ℕ) → events_at f info_bytes infos infos i ≡ []
none_at f info_bytes infos i = ap (λ o. option_to_list (option_map (event f i) o)) (nothing_became info_bytes (infos i))

none_of : {A : Type 0} (f : Facility) (info_bytes : A → List ℕ) (infos : ℕ → Option A) (is : List ℕ) → flat_map (events_at f info_bytes infos infos) is ≡ []
none_of f info_bytes infos [] = refl
none_of f info_bytes infos (i ∷ is) = ap (λ (first : List Event). first ++ flat_map (events_at f info_bytes infos infos) is) (none_at f info_bytes infos i) ∙ none_of f info_bytes infos is

pub none_between : (given : Given) (infos : Infos) → events_between given infos infos ≡ []
none_between given infos =
    joined_four
    (events_of Sink (with_sink SERVER_VERSION (reply_to 0)) infos.sinks infos.sinks given.sinks) [] (events_of Input (with_input (reply_to 0)) infos.inputs infos.inputs given.inputs) []
    (events_of Client (with_client (reply_to 0)) infos.clients infos.clients given.clients) [] (server_events infos infos) []
    (none_of Sink (with_sink SERVER_VERSION (reply_to 0)) infos.sinks (range_with_len 0 given.sinks)) (none_of Input (with_input (reply_to 0)) infos.inputs (range_with_len 0 given.inputs))
    (none_of Client (with_client (reply_to 0)) infos.clients (range_with_len 0 given.clients))
    (ap (λ o. option_to_list (option_map (event Server NO_INDEX) o)) (nothing_became (server_reply SERVER_VERSION 0) infos.server))

-- ---- between moments that differ in clients alone

alone : (sinks inputs clients server : List Event) → sinks ≡ [] → inputs ≡ [] → server ≡ [] → sinks ++ inputs ++ clients ++ server ≡ clients
alone sinks inputs clients server no_sinks no_inputs no_server = (λ k. no_sinks k ++ no_inputs k ++ clients ++ no_server k) ∙ append-nil clients

pub clients_alone : (given : Given) (infos : Infos) (clients : ℕ → Option ClientInfo)
    → events_between given infos (record infos { clients = clients }) ≡ events_of Client (with_client (reply_to 0)) infos.clients clients given.clients
clients_alone given infos clients =
    alone
    (events_of Sink (with_sink SERVER_VERSION (reply_to 0)) infos.sinks infos.sinks given.sinks)
    (events_of Input (with_input (reply_to 0)) infos.inputs infos.inputs given.inputs)
    (events_of Client (with_client (reply_to 0)) infos.clients clients given.clients)
    (server_events infos infos)
    (none_of Sink (with_sink SERVER_VERSION (reply_to 0)) infos.sinks (range_with_len 0 given.sinks))
    (none_of Input (with_input (reply_to 0)) infos.inputs (range_with_len 0 given.inputs))
    (ap (λ o. option_to_list (option_map (event Server NO_INDEX) o)) (nothing_became (server_reply SERVER_VERSION 0) infos.server))
