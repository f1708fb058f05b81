-- Changes of nothing that is told leave all that is told.
use Rattle.std.proofs.Common.{◌≡◌, ℕ, Bool, true, false, List, [], ◌∷◌, ◌++◌, Option, Some, None, refl, ap, sym, ◌∙◌}
use Rattle.std.specs.Prelude.{cond, ◌&&◌, map, slice_get}
use Rattle.std.proofs.lemmas.Bool.{false≢true}
use Rattle.px_types.specs.declared.ids.ConnId.{ConnId}
use Rattle.px_types.specs.declared.ids.InputId.{InputId}
use Rattle.px_flat.specs.FlatVolume.{FlatGroup}
use Rattle.px_names.specs.declared.input_lists.InputList.{InputList}
use Rattle.px_header.specs.declared.header.SinkSpec.{SinkSpec}
use Rattle.px_model.specs.declared.data.Attr.{Attr as Attributes}
use Rattle.px_msg.specs.declared.message.Msg.{Msg}
use Rattle.px_msg.specs.declared.message.Msg.TheVariants.{New, Attach, Detach, Write, Cork, Flush, Trigger, Prebuf, Drain, Attr, Factors, Query}
use Rattle.px_outcome.specs.declared.input.Input.{Input}
use Rattle.px_outcome.specs.declared.input.Standing.{Standing}
use Rattle.px_outcome.specs.declared.input.Standing.TheVariants.{Settled, Moving, Leaving}
use Rattle.px_outcome.specs.declared.change.Change.{Change}
use Rattle.px_outcome.specs.declared.change.Change.TheVariants.{Authed, Named, Masked, Defaulted, Made, Described, Leaves, Moves, Arrives, Released, Posted, Regrouped, Asked, Answered, Gone, Ended, Forgotten}
use Rattle.px_outcome.specs.Input.{goes_on, input_of, has_index}
use Rattle.px_input_table.specs.Lists.{change_first}
use Rattle.px_input_table.specs.Inputs.{with_attr}
use Rattle.px_reply.specs.declared.info.InputInfo.{InputInfo}
use Rattle.px_flat.specs.declared.member.Member.{Member}
use Rattle.px_ctl_info.specs.Clients.{info_of}
use Rattle.px_ctl_info.specs.Infos.{input_info_of, member_with, inputs_with, input_info_list as listed_infos}
use Rattle.px_subscribe.specs.Announce.{announced_all}
use Rattle.px_subscribe.specs.InfoBytes.{InfoLists, infos_in, client_at}
use Rattle.px_subscribe.proofs.WhatBecame.{none_between, clients_alone}
use Rattle.px_subscribe.specs.Scene.{Scene, inputs_noted, inputs_posted_to, inputs_posted_if_there, scene_changed, scene_after, scene_joined, is_quiet, are_quiet}
use Rattle.px_subscribe.specs.Moments.{info_lists_of, subscribers_of, given_in, notified_since, notified_between, joined_since}

module _ (groups : List FlatGroup) (lists : List InputList) where
  member_same : (attr : Attributes) (x : Input) (o : Option FlatGroup) → member_with o (with_attr attr x) ≡ member_with o x
  member_same attr x None = refl
  member_same attr x (Some group) = refl

  info_same : (attr : Attributes) (x : Input) (o : Option Member) → inputs_with lists (with_attr attr x) o ≡ inputs_with lists x o
  info_same attr x None = refl
  info_same attr x (Some m) = refl

  infos_same : (attr : Attributes) (x : Input) → input_info_of groups lists (with_attr attr x) ≡ input_info_of groups lists x
  infos_same attr x =
      ap (λ (l : List InputInfo). cond (goes_on x) l [])
      (info_same attr x (member_with (slice_get groups x.sink.0) (with_attr attr x)) ∙ ap (λ (o : Option Member). inputs_with lists x o) (member_same attr x (slice_get groups x.sink.0)))

  -- buffer attributes aren't told
  infos_by_attr : (index : InputId) (attr : Attributes) (xs : List Input) → listed_infos groups lists (change_first (has_index index) (with_attr attr) xs) ≡ listed_infos groups lists xs
  infos_by_attr index attr [] = refl
  infos_by_attr index attr (x ∷ xs) = by (infos_by_attr index attr xs) (has_index index x)
    where
      by : listed_infos groups lists (change_first (has_index index) (with_attr attr) xs) ≡ listed_infos groups lists xs → (b : Bool)
          → listed_infos groups lists (cond b (with_attr attr x ∷ xs) (x ∷ change_first (has_index index) (with_attr attr) xs)) ≡ listed_infos groups lists (x ∷ xs)
      by later true = ap (λ (first : List InputInfo). first ++ listed_infos groups lists xs) (infos_same attr x)
      by later false = ap (λ (rest : List InputInfo). input_info_of groups lists x ++ rest) later

  infos_by_message : {P : Type 0} (index : InputId) (m : Msg P) (xs : List Input) → listed_infos groups lists (inputs_noted index m xs) ≡ listed_infos groups lists xs
  infos_by_message index (New n) xs = refl
  infos_by_message index (Attach input parcel feed factors) xs = refl
  infos_by_message index (Detach input) xs = refl
  infos_by_message index (Write input seek offset frames bytes) xs = refl
  infos_by_message index (Cork input on) xs = refl
  infos_by_message index (Flush input) xs = refl
  infos_by_message index (Trigger input) xs = refl
  infos_by_message index (Prebuf input) xs = refl
  infos_by_message index (Drain input tag) xs = refl
  infos_by_message index (Attr input attr) xs = infos_by_attr index attr xs
  infos_by_message index (Factors each) xs = refl
  infos_by_message index (Query input tag) xs = refl

  infos_by_posted : {P : Type 0} (standing : Standing) (x : Input) (m : Msg P) (xs : List Input) → listed_infos groups lists (inputs_posted_to standing x m xs) ≡ listed_infos groups lists xs
  infos_by_posted Settled x m xs = infos_by_message x.index m xs
  infos_by_posted (Moving to) x m xs = infos_by_message x.index m xs
  infos_by_posted Leaving x m xs = refl

  infos_posted : {P : Type 0} (o : Option Input) (m : Msg P) (xs : List Input) → listed_infos groups lists (inputs_posted_if_there o m xs) ≡ listed_infos groups lists xs
  infos_posted None m xs = refl
  infos_posted (Some x) m xs = infos_by_posted x.standing x m xs

module _ (sinks : List SinkSpec) where
  quiet_change : {P : Type 0} (s : Scene) (c : Change (Msg P) FlatGroup) → is_quiet c ≡ true → info_lists_of sinks (scene_changed s c) ≡ info_lists_of sinks s
  quiet_change s (Authed conn version) e = refl
  quiet_change s (Named conn list) e = absurd (false≢true e)
  quiet_change s (Masked conn mask) e = absurd (false≢true e)
  quiet_change s (Defaulted sink) e = absurd (false≢true e)
  quiet_change s (Made x m streams inputs) e = absurd (false≢true e)
  quiet_change s (Described index list) e = absurd (false≢true e)
  quiet_change s (Leaves index) e = absurd (false≢true e)
  quiet_change s (Moves index to) e = absurd (false≢true e)
  quiet_change s (Arrives index m) e = absurd (false≢true e)
  quiet_change s (Released index) e = refl
  quiet_change s (Posted index m) e = ap (λ inputs. record (info_lists_of sinks s) { inputs = inputs }) (infos_posted s.groups s.lists (input_of s.inputs index) m s.inputs)
  quiet_change s (Regrouped sink group m) e = absurd (false≢true e)
  quiet_change s (Asked w) e = refl
  quiet_change s (Answered w) e = refl
  quiet_change s (Gone index) e = absurd (false≢true e)
  quiet_change s (Ended conn reason fault at) e = refl
  quiet_change s (Forgotten conn) e = absurd (false≢true e)

  first_true : (a b : Bool) → (a && b) ≡ true → a ≡ true
  first_true true b e = refl
  first_true false b e = e

  second_true : (a b : Bool) → (a && b) ≡ true → b ≡ true
  second_true true b e = e
  second_true false b e = absurd (false≢true e)

  quiet_changes : {P : Type 0} (s : Scene) (changes : List (Change (Msg P) FlatGroup)) → are_quiet changes ≡ true → info_lists_of sinks (scene_after s changes) ≡ info_lists_of sinks s
  quiet_changes s [] e = refl
  quiet_changes s (c ∷ changes) e =
      quiet_changes (scene_changed s c) changes (second_true (is_quiet c) (are_quiet changes) e) ∙ quiet_change s c (first_true (is_quiet c) (are_quiet changes) e)

  -- where the same is told as before nobody is told anything
  pub none_since : (clients_made : ℕ) (before : InfoLists) (s : Scene) → info_lists_of sinks s ≡ before → notified_since sinks clients_made before s ≡ []
  none_since clients_made before s e =
      ap (λ t. notified_since sinks clients_made t s) (sym e)
      ∙ ap (λ events. announced_all (subscribers_of s) events) (none_between (given_in sinks clients_made s) (infos_in (info_lists_of sinks s)))

  pub quiet_notifies_nobody : {P : Type 0} (clients_made : ℕ) (s : Scene) (changes : List (Change (Msg P) FlatGroup)) → are_quiet changes ≡ true → notified_between sinks clients_made s (scene_after s changes) ≡ []
  quiet_notifies_nobody clients_made s changes e = none_since clients_made (info_lists_of sinks s) (scene_after s changes) (quiet_changes s changes e)

-- a client that connects changes the infos of clients alone
pub joined_alone : (sinks : List SinkSpec) (clients_made : ℕ) (s : Scene) (conn : ConnId) (client : ℕ)
    → joined_since clients_made (map info_of s.clients) (scene_joined conn client s) ≡ notified_between sinks clients_made s (scene_joined conn client s)
joined_alone sinks clients_made s conn client =
    ap (λ events. announced_all (subscribers_of (scene_joined conn client s)) events)
    (sym (clients_alone (given_in sinks clients_made s) (infos_in (info_lists_of sinks s)) (client_at (map info_of (Scene.clients (scene_joined conn client s))))))
