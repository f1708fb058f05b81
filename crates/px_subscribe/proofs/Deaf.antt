-- Where no client hears of anything, nobody is told anything.
use Rattle.std.proofs.Common.{◌≡◌, ℕ, Bool, true, false, List, [], ◌∷◌, ◌++◌, Some, refl, ap, ◌∙◌, arith}
use Rattle.std.specs.Prelude.{cond, ◌&&◌, nat_eq}
use Rattle.std.specs.List.{list_all, AllByRecursion}
use Rattle.std.proofs.lemmas.Bool.Decides.{nat_tests}
use Rattle.std.proofs.lemmas.Bool.{false≢true}
use Rattle.px_types.specs.declared.ids.ConnId.{ConnId}
use Rattle.px_tag.specs.PropList.{Property}
use Rattle.px_flat.specs.FlatVolume.{FlatGroup}
use Rattle.px_names.specs.declared.client.Client.{Client}
use Rattle.px_names.specs.Clients.{is_on, change_first, without_first, with_list, client_on, mask_of, new_client}
use Rattle.px_header.specs.declared.header.SinkSpec.{SinkSpec}
use Rattle.px_msg.specs.declared.message.Msg.{Msg}
use Rattle.px_outcome.specs.declared.change.Change.{Change}
use Rattle.px_outcome.specs.declared.change.Change.TheVariants.{Authed, Named, Masked, Defaulted, Made, Described, Leaves, Moves, Arrives, Released, Posted, Regrouped, Asked, Answered, Gone, Ended, Forgotten}
use Rattle.px_outcome.specs.declared.input.Connection.{Connection}
use Rattle.px_subscribe.specs.declared.announce.Subscriber.{Subscriber}
use Rattle.px_subscribe.specs.declared.event.Facility.{Facility}
use Rattle.px_subscribe.specs.declared.event.Facility.TheVariants.{Sink, Input, Client as AClient, Server}
use Rattle.px_subscribe.specs.declared.event.Event.{Event}
use Rattle.px_subscribe.specs.Event.{hears, message_of}
use Rattle.px_subscribe.specs.Announce.{notified_to, announced, announced_all}
use Rattle.px_subscribe.specs.Became.{events_between}
use Rattle.px_subscribe.specs.InfoBytes.{InfoLists, infos_in}
use Rattle.px_subscribe.specs.Scene.{Scene, scene_changed, scene_after, scene_joined, is_maskless, is_deaf, are_deaf, nobody_hears}
use Rattle.px_subscribe.specs.Moments.{info_lists_of, subscribers_in, subscribers_of, given_in, notified_since, notified_between}

first_true : (a b : Bool) → (a && b) ≡ true → a ≡ true
first_true true b e = refl
first_true false b e = e

second_true : (a b : Bool) → (a && b) ≡ true → b ≡ true
second_true true b e = e
second_true false b e = absurd (false≢true e)

both_true : (a b : Bool) → a ≡ true → b ≡ true → (a && b) ≡ true
both_true true b p q = q
both_true false b p q = p

-- ---- the clients stay so

named_deaf : (conn : ConnId) (list : List Property) (clients : List Client) → are_deaf (change_first (is_on conn) (with_list list) clients) ≡ are_deaf clients
named_deaf conn list [] = refl
named_deaf conn list (c ∷ clients) = by (named_deaf conn list clients) (is_on conn c)
  where
    by : are_deaf (change_first (is_on conn) (with_list list) clients) ≡ are_deaf clients → (b : Bool)
        → are_deaf (cond b (with_list list c ∷ clients) (c ∷ change_first (is_on conn) (with_list list) clients)) ≡ are_deaf (c ∷ clients)
    by later true = refl
    by later false = ap (λ b. is_deaf c && b) later

forgotten_deaf : (conn : ConnId) (clients : List Client) → are_deaf clients ≡ true → are_deaf (without_first (is_on conn) clients) ≡ true
forgotten_deaf conn [] e = refl
forgotten_deaf conn (c ∷ clients) e = by (forgotten_deaf conn clients (second_true (is_deaf c) (are_deaf clients) e)) (is_on conn c)
  where
    by : are_deaf (without_first (is_on conn) clients) ≡ true → (b : Bool) → are_deaf (cond b clients (c ∷ without_first (is_on conn) clients)) ≡ true
    by later true = second_true (is_deaf c) (are_deaf clients) e
    by later false = both_true (is_deaf c) (are_deaf (without_first (is_on conn) clients)) (first_true (is_deaf c) (are_deaf clients) e) later

joined_deaf : (conn : ConnId) (client : ℕ) (clients : List Client) → are_deaf clients ≡ true → are_deaf (clients ++ new_client conn client ∷ []) ≡ true
joined_deaf conn client [] e = refl
joined_deaf conn client (c ∷ clients) e =
    both_true (is_deaf c) (are_deaf (clients ++ new_client conn client ∷ [])) (first_true (is_deaf c) (are_deaf clients) e) (joined_deaf conn client clients (second_true (is_deaf c) (are_deaf clients) e))

change_deaf : {P : Type 0} (s : Scene) (c : Change (Msg P) FlatGroup) → is_maskless c ≡ true → are_deaf s.clients ≡ true → are_deaf (Scene.clients (scene_changed s c)) ≡ true
change_deaf s (Authed conn version) m e = e
change_deaf s (Named conn list) m e = named_deaf conn list s.clients ∙ e
change_deaf s (Masked conn mask) m e = absurd (false≢true m)
change_deaf s (Defaulted sink) m e = e
change_deaf s (Made x n streams inputs) m e = e
change_deaf s (Described index list) m e = e
change_deaf s (Leaves index) m e = e
change_deaf s (Moves index to) m e = e
change_deaf s (Arrives index n) m e = e
change_deaf s (Released index) m e = e
change_deaf s (Posted index n) m e = e
change_deaf s (Regrouped sink group n) m e = e
change_deaf s (Asked w) m e = e
change_deaf s (Answered w) m e = e
change_deaf s (Gone index) m e = e
change_deaf s (Ended conn reason fault at) m e = e
change_deaf s (Forgotten conn) m e = forgotten_deaf conn s.clients e

changes_deaf : {P : Type 0} (s : Scene) (changes : List (Change (Msg P) FlatGroup)) → list_all is_maskless changes ≡ true → are_deaf s.clients ≡ true → are_deaf (Scene.clients (scene_after s changes)) ≡ true
changes_deaf s [] m e = e
changes_deaf s (c ∷ changes) m e =
    changes_deaf (scene_changed s c) changes (second_true (is_maskless c) (list_all is_maskless changes) m) (change_deaf s c (first_true (is_maskless c) (list_all is_maskless changes) m) e)

-- ---- nobody is told

no_mask : (conn : ConnId) (clients : List Client) → are_deaf clients ≡ true → mask_of (client_on clients conn) ≡ 0
no_mask conn [] e = refl
no_mask conn (c ∷ clients) e = by (no_mask conn clients (second_true (is_deaf c) (are_deaf clients) e)) (is_on conn c)
  where
    zero_mask : (mask : ℕ) → nat_eq mask 0 ≡ true → mask ≡ 0
    zero_mask mask t = grind (arith, nat_tests)

    by : mask_of (client_on clients conn) ≡ 0 → (b : Bool) → mask_of (cond b (Some c) (client_on clients conn)) ≡ 0
    by later true = zero_mask c.mask (first_true (is_deaf c) (are_deaf clients) e)
    by later false = later

all_deaf : (clients : List Client) (connections : List Connection) → are_deaf clients ≡ true → AllByRecursion (λ (s : Subscriber). s.mask ≡ 0) (subscribers_in clients connections)
all_deaf clients [] e = tt
all_deaf clients (c ∷ connections) e = by (all_deaf clients connections e) c.marked
  where
    by : AllByRecursion (λ (s : Subscriber). s.mask ≡ 0) (subscribers_in clients connections) → (b : Bool)
        → AllByRecursion (λ (s : Subscriber). s.mask ≡ 0) (cond b [] (record { conn = c.conn; mask = mask_of (client_on clients c.conn) } ∷ []) ++ subscribers_in clients connections)
    by later true = later
    by later false = (no_mask c.conn clients e, later)

nothing_heard : (f : Facility) → hears 0 f ≡ false
nothing_heard Sink = refl
nothing_heard Input = refl
nothing_heard AClient = refl
nothing_heard Server = refl

notified_none : (e : Event) (s : Subscriber) → s.mask ≡ 0 → notified_to e s ≡ []
notified_none e s z = ap (λ b. cond b (record { conn = s.conn; packet = message_of e } ∷ []) []) (ap (λ mask. hears mask e.facility) z ∙ nothing_heard e.facility)

announced_none : (e : Event) (subscribers : List Subscriber) → AllByRecursion (λ (s : Subscriber). s.mask ≡ 0) subscribers → announced subscribers e ≡ []
announced_none e [] all = refl
announced_none e (s ∷ subscribers) all = λ k. notified_none e s all.0 k ++ announced_none e subscribers all.1 k

all_none : (subscribers : List Subscriber) (events : List Event) → AllByRecursion (λ (s : Subscriber). s.mask ≡ 0) subscribers → announced_all subscribers events ≡ []
all_none subscribers [] all = refl
all_none subscribers (e ∷ events) all = λ k. announced_none e subscribers all k ++ all_none subscribers events all k

deaf_since : (sinks : List SinkSpec) (clients_made : ℕ) (before : InfoLists) (s : Scene) → are_deaf s.clients ≡ true → notified_since sinks clients_made before s ≡ []
deaf_since sinks clients_made before s e =
    all_none (subscribers_of s) (events_between (given_in sinks clients_made s) (infos_in before) (infos_in (info_lists_of sinks s))) (all_deaf s.clients s.connections e)

pub deaf_changes : {P : Type 0} (sinks : List SinkSpec) (clients_made : ℕ) (s : Scene) (changes : List (Change (Msg P) FlatGroup)) → nobody_hears s.clients changes ≡ true → notified_between sinks clients_made s (scene_after s changes) ≡ []
deaf_changes sinks clients_made s changes e =
    deaf_since sinks clients_made (info_lists_of sinks s) (scene_after s changes)
    (changes_deaf s changes (second_true (are_deaf s.clients) (list_all is_maskless changes) e) (first_true (are_deaf s.clients) (list_all is_maskless changes) e))

pub deaf_joined : (sinks : List SinkSpec) (clients_made : ℕ) (s : Scene) (conn : ConnId) (client : ℕ) → are_deaf s.clients ≡ true → notified_between sinks clients_made s (scene_joined conn client s) ≡ []
deaf_joined sinks clients_made s conn client e = deaf_since sinks clients_made (info_lists_of sinks s) (scene_joined conn client s) (joined_deaf conn client s.clients e)
