-- Each client is the one with its index, and the events about it follow its own info.
use Rattle.std.proofs.Common.{◌≡◌, ℕ, ◌<◌, ◌≤◌, List, [], ◌∷◌, map, Option, Some, Bool, true, false, refl, ap, ◌∙◌, arith, cond}
use Rattle.std.specs.Prelude.{nat_eq, option_map, option_to_list}
use Rattle.std.specs.List.{AllByRecursion}
use Rattle.std.proofs.lemmas.Bool.{cond-true, cond-false, eq-eqb, ne_eqb}
use Rattle.px_names.specs.declared.client.Client.{Client}
use Rattle.px_names.specs.Clients.{client_numbered}
use Rattle.px_model.specs.Frame.{SampleSpec}
use Rattle.px_reply.specs.Front.{reply_to}
use Rattle.px_reply.specs.Info.{with_client}
use Rattle.px_ctl_info.specs.Clients.{info_of}
use Rattle.px_subscribe.specs.declared.event.Facility.TheVariants as facility
use Rattle.px_subscribe.specs.Became.{became, event, about, SayWhatBecame}
use Rattle.px_subscribe.specs.InfoBytes.{client_at}
use Rattle.px_subscribe.proofs.WhatBecame.{say_what_became}
use Rattle.px_state.specs.State.{State}
use Rattle.px_core.specs.Consistency.{IsIncreasing, IsConsistent, IsStep}
use Rattle.px_core.specs.Heard.{IsOwn, SayOfClients, infos_of, given_by, events_of, client_events}
use Rattle.px_core.specs.Indexed.{indices_of, IsIndexed}
use Rattle.px_core.specs.Step.{Step, stepped}
use Rattle.px_core.proofs.AgainLaws.{none_again}
use Rattle.px_core.proofs.IndexLaws.{step_indexed}

-- ---- a client is the one with its index

info_found : (clients : List Client) (i : ℕ) → client_at (map info_of clients) i ≡ option_map info_of (client_numbered clients i)
info_found [] i = refl
info_found (c ∷ cs) i = step (info_found cs i) (nat_eq c.index i)
  where
    step : client_at (map info_of cs) i ≡ option_map info_of (client_numbered cs i) → (b : Bool) → cond b (Some (info_of c)) (client_at (map info_of cs) i) ≡ option_map info_of (cond b (Some c) (client_numbered cs i))
    step later true = refl
    step later false = later

-- found among `all` by its own index
abbrev IsFound : List Client → Client → Type 0
IsFound all c = client_numbered all c.index ≡ Some c

found_later : (c : Client) (cs ds : List Client) → AllByRecursion (λ j. c.index < j) (indices_of ds) → AllByRecursion (IsFound cs) ds → AllByRecursion (IsFound (c ∷ cs)) ds
found_later c cs [] above h = tt
found_later c cs (d ∷ ds) above h =
    (cond-false (nat_eq c.index d.index) (Some c) (client_numbered cs d.index) (ne_eqb c.index d.index (λ (same : c.index ≡ d.index). absurd (omega (arith, above.0, same)))) ∙ h.0, found_later c cs ds above.1 h.1)

all_found : (cs : List Client) → IsIncreasing (indices_of cs) → AllByRecursion (IsFound cs) cs
all_found [] r = tt
all_found (c ∷ cs) r = (cond-true (nat_eq c.index c.index) (Some c) (client_numbered cs c.index) (eq-eqb c.index c.index refl), found_later c cs cs r.0 (all_found cs r.1))

own_each : {P : Type 0} (state : State P) (ds : List Client) → AllByRecursion (λ i. i < state.clients_made) (indices_of ds) → AllByRecursion (IsFound state.names.clients) ds → AllByRecursion (IsOwn state) ds
own_each state [] below found = tt
own_each state (d ∷ ds) below found = (
  record { given = below.0; found = found.0; info = info_found state.names.clients d.index ∙ ap (λ (o : Option Client). option_map info_of o) found.0 },
  own_each state ds below.1 found.1,
)

pub all_own : {P : Type 0} (state : State P) → IsIndexed state → AllByRecursion (IsOwn state) state.names.clients
all_own state h = own_each state state.names.clients h.clients_given.below (all_found state.names.clients h.clients_given.rising)

-- ---- the events about each

module _ {P : Type 0} (before after : State P) where
  said : SayWhatBecame (given_by after) (infos_of before) (infos_of after)
  said = say_what_became (given_by after) (infos_of before) (infos_of after)

  -- by the clients with an index
  events_at_index : (i : ℕ) → i < after.clients_made → about facility.Client i (events_of before after) ≡ client_events i (client_numbered before.names.clients i) (client_numbered after.names.clients i)
  events_at_index i l =
      said.clients i l
      ∙ (λ k. option_to_list (option_map (event facility.Client i) (became (with_client (reply_to 0)) (info_found before.names.clients i k) (info_found after.names.clients i k))))

  said_after : (cs : List Client) → AllByRecursion (IsOwn after) cs → AllByRecursion (λ c. about facility.Client (Client.index c) (events_of before after) ≡ client_events c.index (client_numbered before.names.clients c.index) (Some c)) cs
  said_after [] own = tt
  said_after (c ∷ cs) own =
      (events_at_index c.index own.0.given ∙ ap (λ (o : Option Client). client_events c.index (client_numbered before.names.clients c.index) o) own.0.found, said_after cs own.1)

  said_before : before.clients_made ≤ after.clients_made → (cs : List Client) → AllByRecursion (IsOwn before) cs → AllByRecursion (λ c. about facility.Client (Client.index c) (events_of before after) ≡ client_events c.index (Some c) (client_numbered after.names.clients c.index)) cs
  said_before more [] own = tt
  said_before more (c ∷ cs) own =
      (events_at_index c.index (omega (arith, own.0.given, more)) ∙ ap (λ (o : Option Client). client_events c.index o (client_numbered after.names.clients c.index)) own.0.found, said_before more cs own.1)

pub say_of_clients : {P : Type 0} (spec_of : P → SampleSpec) (state : State P) (s : Step P) → IsStep s → IsConsistent spec_of state → IsIndexed state → SayOfClients state (stepped spec_of state s)
say_of_clients {P} spec_of state s is consistent h =
    let after : State P = stepped spec_of state s in
    record {
      here = said_after state after after.names.clients (all_own after (step_indexed spec_of state s is consistent h));
      gone = said_before state after (none_again spec_of state (s ∷ []) (is, tt) consistent).counts.0 state.names.clients (all_own state h);
    }
