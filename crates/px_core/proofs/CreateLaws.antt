-- The changes of CREATE are lawful.
use Rattle.std.proofs.Common.{◌≡◌, ℕ, zero, suc, ◌<◌, ◌≤◌, List, [], ◌∷◌, ◌++◌, length, min, max, Option, Some, None, Bool, true, false, refl, ap, sym, subst, ◌∙◌, arith, cond}
use Rattle.std.specs.Prelude.{◌+◌, ◌-◌, ◌*◌, ◌/◌, ◌≢◌, not, nat_eq, nat_lt, nat_le, slice_get, slice_index, unwrap_or, IsSome, MatchOption}
use Rattle.std.specs.List.{list_all}
use Rattle.std.specs.Option.{option_map}
use Rattle.std.proofs.lemmas.Bool.{cond_both, eqb-true, eqb-false, leb-true, ltb-true, and_parts, not-true, agree_below_at}
use Rattle.std.proofs.lemmas.Option.{none-some, same_Some, slice_get_within}
use Rattle.px_types.specs.declared.ids.InputId.{InputId}
use Rattle.px_types.specs.declared.ids.SinkId.{SinkId}
use Rattle.px_cmd.specs.declared.command.CreateFields.{CreateFields}
use Rattle.px_sample.specs.declared.format.Format.{Format}
use Rattle.px_sample.specs.declared.format.Format.TheVariants.{U8, Alaw, Ulaw, S16Le, S16Be, Float32Le, Float32Be, S32Le, S32Be, S24Le, S24Be, S24In32Le, S24In32Be}
use Rattle.px_sample.specs.declared.spec.Spec.{Spec}
use Rattle.px_sample.specs.Format.{code_of, format_with, frame_size_of}
use Rattle.px_chmap.specs.Plan.{FeedsAll}
use Rattle.px_chmap.proofs.PlanLemmas.{plan_fits}
use Rattle.px_chmap.specs.ChannelMap.{IsChannelMap}
use Rattle.px_header.specs.declared.header.SinkSpec.{SinkSpec}
use Rattle.px_header.specs.HeaderRules.{IsSink, AreSinks}
use Rattle.px_model.specs.Frame.{SampleSpec}
use Rattle.px_model.specs.Orderly.{IsPlayable, IsRepaired, IsNewStream}
use Rattle.px_msg.specs.Repair.{UNSET, MAXLENGTH, repaired, frames_asked, between_one_and, maxlength_of, tlength_of, minreq_of, prebuf_of}
use Rattle.px_msg.specs.View.{sample_spec}
use Rattle.px_outcome.specs.declared.input.Connection.{Connection}
use Rattle.px_outcome.specs.declared.input.Input.{Input}
use Rattle.px_state.specs.State.{State, connection_of, is_settled, settled_on, bound_for}
use Rattle.px_state.specs.Change.{changed}
use Rattle.px_outcome.specs.declared.change.Change.TheVariants.{Made}
use Rattle.px_outcome.specs.declared.target.Target.{Target}
use Rattle.px_outcome.specs.declared.target.Named.{Named}
use Rattle.px_outcome.specs.Target.{target_of as target_in}
use Rattle.px_ctl_play.specs.Asked.{format_on, channels_on, positions_on, spec_on, attr_on, is_lawful, is_supported, feed_on, has_room, MOST_ON_SINK}
use Rattle.px_ctl_play.specs.Create.{input_made, new_of}
use Rattle.px_ctl_play.specs.Factors.{own_factors}
use Rattle.px_ctl_play.specs.Joining.{given_on, how_on, joined}
use Rattle.px_flat.specs.declared.member.Member.{Member}
use Rattle.px_flat.specs.Member.{channels_of}
use Rattle.px_flat.specs.FlatVolume.{FlatGroup, member_of, factors_of}
use Rattle.px_flat.proofs.Inputs.{attached_in, attached_channels, attached_there, length_factors, feeds_count}
use Rattle.px_ctl_play.proofs.Passed.{IsCreated, create_passed}
use Rattle.px_core.specs.Command.{create_named}
use Rattle.px_core.specs.Grouped.{channels_there, IsGroupOf}
use Rattle.px_state.specs.Outcome.{CoreOutcome}
use Rattle.px_sinks.specs.Sinks.{group_of, group_named}
use Rattle.px_core.proofs.HandledLaws.{Each, each_by}
use Rattle.px_sinks.proofs.Sinks.{IsThere}
use Rattle.px_core.specs.Consistency.{IsInput, IsConsistent, IsRising}
use Rattle.px_core.specs.Indexed.{IsNextStream}
use Rattle.px_core.specs.Lawful.{IsNew}
use Rattle.px_core.proofs.ListLaws.{all_weaken}
use Rattle.px_core.proofs.EntryLaws.{rising_push}
use Rattle.px_core.proofs.AnswerLaws.{IsLawful, regroups, is_paid, rising_filter, all_filter}
use Rattle.px_core.proofs.GroupLaws.{made_there}

-- ---- attributes as repaired

prebuf_bound : (size tlength minreq asked : ℕ) → prebuf_of size tlength minreq asked ≤ tlength + 1 - minreq
prebuf_bound size tlength minreq asked =
    cond_both (nat_eq asked UNSET) (tlength + 1 - minreq) (min ((asked + (size - 1)) / size) (tlength + 1 - minreq)) (λ n. n ≤ tlength + 1 - minreq) (λ e. omega arith) (λ e. omega arith)

between_one : (most frames : ℕ) → 1 ≤ most → (1 ≤ between_one_and most frames) × (between_one_and most frames ≤ most)
between_one most frames l = (omega arith, omega arith)

maxlength_bound : (size asked : ℕ) → (1 ≤ maxlength_of size asked) × (maxlength_of size asked ≤ 4194304)
maxlength_bound size asked = (omega arith, bound (min asked MAXLENGTH) (omega arith))
  where
    bound : (n : ℕ) → n ≤ 4194304 → max (n / size) 1 ≤ 4194304
    bound n l = omega (arith, l)

pub repaired_fits : (spec : Spec) (asked : List ℕ) → IsRepaired (repaired spec asked)
repaired_fits spec asked =
    let m = maxlength_bound (frame_size_of spec) (slice_index asked 0) in
    let t = between_one (maxlength_of (frame_size_of spec) (slice_index asked 0)) (frames_asked (frame_size_of spec) (2 * spec.rate) (slice_index asked 1)) m.0 in
    let q = between_one (tlength_of spec (maxlength_of (frame_size_of spec) (slice_index asked 0)) (slice_index asked 1)) (frames_asked (frame_size_of spec) (spec.rate * 20 / 1000) (slice_index asked 3)) t.0 in
    record {
      minreq_positive = q.0;
      minreq_bounded = q.1;
      tlength_bounded = t.1;
      maxlength_bounded = m.1;
      prebuf_bounded = prebuf_bound (frame_size_of spec) (tlength_of spec (maxlength_of (frame_size_of spec) (slice_index asked 0)) (slice_index asked 1))
          (minreq_of spec (tlength_of spec (maxlength_of (frame_size_of spec) (slice_index asked 0)) (slice_index asked 1)) (slice_index asked 3)) (slice_index asked 2);
    }

-- ---- the format

same_code : (code : ℕ) → code ≤ 12 → code_of (format_with code) ≡ code
same_code code l = eqb-true (code_of (format_with code)) code (agree_below_at (λ n. nat_eq (code_of (format_with n)) n) (λ n. true) 13 code refl (omega (arith, l)))

few_codes : (format : Format) → code_of format ≤ 12
few_codes U8 = omega arith
few_codes Alaw = omega arith
few_codes Ulaw = omega arith
few_codes S16Le = omega arith
few_codes S16Be = omega arith
few_codes Float32Le = omega arith
few_codes Float32Be = omega arith
few_codes S32Le = omega arith
few_codes S32Be = omega arith
few_codes S24Le = omega arith
few_codes S24Be = omega arith
few_codes S24In32Le = omega arith
few_codes S24In32Be = omega arith

-- ---- the sinks

pub sink_rules : (earlier sinks : List SinkSpec) (k : ℕ) (s : SinkSpec) → AreSinks earlier sinks → slice_get sinks k ≡ Some s → (before : List SinkSpec) × IsSink before s
sink_rules earlier [] k s h e = absurd (none-some s e)
sink_rules earlier (x ∷ sinks) zero s h e = (earlier, subst (IsSink earlier) (same_Some x s e) h.0)
sink_rules earlier (x ∷ sinks) (suc k) s h e = sink_rules (earlier ++ x ∷ []) sinks k s h.1 e

-- ---- what is asked fits

-- there is a position for each channel
mapped : (fix : Bool) (sink : Target) (a : CreateFields) → length sink.map ≡ sink.spec.channels → length a.map ≡ a.spec.channels → length (cond fix sink.map a.map) ≡ cond fix sink.spec.channels a.spec.channels
mapped true sink a own asked = own
mapped false sink a own asked = asked

channels_fit : (fix : Bool) (sink : Target) (a : CreateFields) → (1 ≤ sink.spec.channels) × (sink.spec.channels ≤ 32) → (1 ≤ a.spec.channels) × (a.spec.channels ≤ 32)
    → (1 ≤ cond fix sink.spec.channels a.spec.channels) × (cond fix sink.spec.channels a.spec.channels ≤ 32)
channels_fit true sink a own asked = own
channels_fit false sink a own asked = asked

formats_fit : (fix : Bool) (sink : Target) (a : CreateFields) → a.spec.format ≤ 12 → cond fix (code_of sink.spec.format) a.spec.format ≤ 12
formats_fit true sink a l = few_codes sink.spec.format
formats_fit false sink a l = l

-- what is asked of a sink was tested
pub record Asked (sink : Target) (a : CreateFields) : Type 0 where
  pub format : format_on sink a ≤ 12
  pub no_float_le : format_on sink a ≢ 5
  pub no_float_be : format_on sink a ≢ 6
  pub channels : (1 ≤ channels_on sink a) × (channels_on sink a ≤ 32)
  pub mapped : length (positions_on sink a) ≡ channels_on sink a

pub asked_by : (sink : Target) (a : CreateFields) → (1 ≤ sink.spec.channels) × (sink.spec.channels ≤ 32) → length sink.map ≡ sink.spec.channels → is_lawful a ≡ true → is_supported sink a ≡ true → Asked sink a
asked_by sink a some own can supported =
    let spec_map = and_parts _ _ (and_parts _ _ can).0 in
    let spec_3 = and_parts _ _ (and_parts _ _ spec_map.0).0 in
    let spec_2 = and_parts _ (nat_le a.spec.channels 32) spec_3.0 in
    let spec_1 = and_parts (nat_le a.spec.format 12) (nat_lt 0 a.spec.channels) spec_2.0 in
    let positions = and_parts (nat_eq (length a.map) a.spec.channels) (list_all (λ p. nat_le p 50) a.map) spec_map.1 in
    let floats = and_parts (not (nat_eq (format_on sink a) 5)) (not (nat_eq (format_on sink a) 6)) (and_parts _ _ (and_parts _ _ (and_parts _ _ supported).0).0).0 in
    record {
      format = formats_fit a.fix_format sink a (leb-true a.spec.format 12 spec_1.0);
      no_float_le = eqb-false (format_on sink a) 5 (not-true (nat_eq (format_on sink a) 5) floats.0);
      no_float_be = eqb-false (format_on sink a) 6 (not-true (nat_eq (format_on sink a) 6) floats.1);
      channels = channels_fit a.fix_channels sink a some (ltb-true 0 a.spec.channels spec_1.1, leb-true a.spec.channels 32 spec_2.1);
      mapped = mapped a.fix_channels sink a own (eqb-true (length a.map) a.spec.channels positions.0);
    }

-- ---- the new input fits

playable : (sink : Target) (a : CreateFields) → Asked sink a → IsPlayable (sample_spec (spec_on sink a))
playable sink a asked =
    let code : code_of (format_with (format_on sink a)) ≡ format_on sink a = same_code (format_on sink a) asked.format in
    record {
      known = subst (λ n. n ≤ 12) (sym code) asked.format;
      no_float_le = λ e. asked.no_float_le (sym code ∙ e);
      no_float_be = λ e. asked.no_float_be (sym code ∙ e);
      some_channels = asked.channels.0;
      few_channels = asked.channels.1;
    }

-- a plan has a place for each of the sink's channels, and names the stream's
planned : (sink : Target) (a : CreateFields) (feed : List ℕ) → IsChannelMap sink.map → length sink.map ≡ sink.spec.channels → Asked sink a → feed_on sink a ≡ Some feed → FeedsAll (channels_on sink a) sink.spec.channels feed
planned sink a feed can own asked fed =
    subst (λ n. FeedsAll n sink.spec.channels feed) asked.mapped
    (subst (λ n. FeedsAll (length (positions_on sink a)) n feed) own
    (plan_fits (positions_on sink a) sink.map a.no_remap a.no_remix (Some feed) can (sym fed)))

pub own_fits : (group : FlatGroup) (index : InputId) → IsSome (member_of group.members index) → length (own_factors group index) ≡ length group.reference
own_fits group index some = step (member_of group.members index) some
  where
    step : (o : Option Member) → IsSome o → length (unwrap_or (option_map (factors_of group) o) []) ≡ length group.reference
    step None some = absurd cc
    step (Some m) some = length_factors group m

new_fits : (sink : Target) (s : SinkSpec) → sink.spec.channels ≡ s.spec.channels → (a : CreateFields) → Asked sink a → (feed factors : List ℕ) → FeedsAll (channels_on sink a) sink.spec.channels feed → length factors ≡ s.spec.channels → (input : ℕ)
    → IsNewStream (sample_spec s.spec) (record { input = input; spec = sample_spec (spec_on sink a); feed = feed; factors = factors; attr = attr_on sink a; corked = a.corked })
new_fits sink s same a asked feed factors feeds fit input = record {
  playable = playable sink a asked;
  feed_fits = record { places = feeds.places ∙ same; channels = feeds.known };
  factors_fit = fit;
  attr_repaired = repaired_fits (spec_on sink a) a.asked;
}

room_on : (inputs : List Input) (made : ℕ) (me : Connection) (sink : SinkId) → has_room inputs made me sink ≡ true → length (bound_for inputs sink) < MOST_ON_SINK
room_on inputs made me sink e = ltb-true (length (bound_for inputs sink)) MOST_ON_SINK (and_parts _ _ (and_parts _ _ (and_parts _ _ e).0).0).0

-- ---- the group of the sink with the new input

joined_is : (sink : Target) (s : SinkSpec) (inputs : List Input) (a : CreateFields) (feed : List ℕ) (x : Input) (group : FlatGroup) → x.sink ≡ sink.index → channels_of feed ≡ x.spec.channels → IsGroupOf sink.index s inputs group
    → IsGroupOf sink.index s (inputs ++ x ∷ []) (joined group sink a feed x)
joined_is sink s inputs a feed x group on count is = record {
  channels = attached_channels x.index (given_on sink a) (how_on a) a.muted feed group ∙ is.channels;
  members = λ i. attached_in x.index (given_on sink a) (how_on a) a.muted feed group i
      ∙ (λ k. is.members i k ++ cond (nat_eq x.index.0 i.0) (count k ∷ []) [])
      ∙ sym (subst (λ (n : SinkId). channels_there (inputs ++ x ∷ []) n i ≡ channels_there inputs n i ++ cond (nat_eq x.index.0 i.0) (x.spec.channels ∷ []) []) on (made_there inputs x i));
}

-- ---- the handler

module _ {P : Type 0} (spec_of : P → SampleSpec) (state : State P) (h : IsConsistent spec_of state) (me : Connection) (here : connection_of state.connections me.conn ≡ Some me) (tag : ℕ) (named : Named) (a : CreateFields) (outcome : CoreOutcome P)
    (made : IsCreated state.inputs state.inputs_made me tag named (group_named state.groups named) a outcome) (it : IsThere state.sinks made.sink) where
  abbrev x : Input
  x = input_made state.inputs_made me made.sink a

  abbrev after : FlatGroup
  after = joined made.owner made.sink a made.feed x

  there : made.sink.index.0 < length state.sinks
  there = slice_get_within state.sinks made.sink.index.0 it.sink it.there

  owned : slice_get state.groups made.sink.index.0 ≡ Some made.owner
  owned = sym (ap (group_of state.groups) made.there) ∙ made.owned

  rules : (before : List SinkSpec) × IsSink before it.sink
  rules = sink_rules [] state.sinks made.sink.index.0 it.sink h.steady.sinks it.there

  same : (s : SinkSpec) → slice_get state.sinks made.sink.index.0 ≡ Some s → made.sink.spec.channels ≡ s.spec.channels
  same s e = ap (λ (t : Target). t.spec.channels) it.is ∙ ap (λ (z : SinkSpec). z.spec.channels) (same_Some it.sink s (sym it.there ∙ e))

  few : (1 ≤ made.sink.spec.channels) × (made.sink.spec.channels ≤ 32)
  few = subst (λ (t : Target). (1 ≤ t.spec.channels) × (t.spec.channels ≤ 32)) (sym it.is) rules.1.channels

  own : length made.sink.map ≡ made.sink.spec.channels
  own = subst (λ (t : Target). length t.map ≡ t.spec.channels) (sym it.is) rules.1.map_size

  asked : Asked made.sink a
  asked = asked_by made.sink a few own made.lawful made.supported

  feeds : FeedsAll (channels_on made.sink a) made.sink.spec.channels made.feed
  feeds = planned made.sink a made.feed (subst (λ (t : Target). IsChannelMap t.map) (sym it.is) rules.1.map) own asked made.fed

  follows : (s : SinkSpec) → slice_get state.sinks made.sink.index.0 ≡ Some s → IsGroupOf made.sink.index s (state.inputs ++ x ∷ []) after
  follows s e =
      joined_is made.sink s state.inputs a made.feed x made.owner refl (feeds_count (channels_on made.sink a) made.sink.spec.channels made.feed asked.channels.0 feeds)
      (h.grouped.each made.sink.index.0 s made.owner e owned refl)

  fit : (s : SinkSpec) → slice_get state.sinks made.sink.index.0 ≡ Some s → length (own_factors after x.index) ≡ s.spec.channels
  fit s e = own_fits after x.index (attached_there x.index (given_on made.sink a) (how_on a) a.muted made.feed made.owner) ∙ (follows s e).channels

  new : IsNew state x (new_of a after made.feed x)
  new = record {
    next = refl;
    way = refl;
    standing = refl;
    is = record {
      given = omega arith;
      sink_there = there;
      goes_there = tt;
      playable = playable made.sink a asked;
      map = asked.mapped;
      repaired = repaired_fits (spec_on made.sink a) a.asked;
    };
    room = room_on state.inputs state.inputs_made me made.sink.index made.room;
    brings = λ s e. (refl, refl, new_fits made.sink s (same s e) a asked made.feed (own_factors after x.index) feeds (fit s e) state.inputs_made);
  }

  next : IsNextStream state.connections x (me.streams + 1)
  next = record { next = subst (λ (o : Option Connection). MatchOption o ⊥ (λ c. me.streams ≡ c.streams)) (sym here) refl; counted = refl; client = subst (λ (o : Option Connection). MatchOption o ⊥ (λ c. me.client ≡ c.client)) (sym here) refl }

  rising : IsRising (settled_on state.inputs made.sink.index ++ x ∷ [])
  rising = rising_push (settled_on state.inputs made.sink.index) x (rising_filter (is_settled made.sink.index) state.inputs h.steady.rising) (all_filter (λ y. (Input.index y).0 < state.inputs_made) (is_settled made.sink.index) state.inputs
      (all_weaken (IsInput state.sinks state.inputs_made) (λ y. (Input.index y).0 < state.inputs_made) (λ y i. i.given) state.inputs h.steady.inputs))

  created_lawful : IsLawful state outcome
  created_lawful =
      subst (IsLawful state) (sym made.handled)
      ((new, refl, next), (regroups (changed state (Made x (new_of a after made.feed x) (me.streams + 1) (state.inputs_made + 1))) made.sink.index after there follows (settled_on state.inputs made.sink.index ++ x ∷ []) rising, (tt, is_paid made.sink.index)))

pub create_lawful : {P : Type 0} (spec_of : P → SampleSpec) (state : State P) → IsConsistent spec_of state → (me : Connection) → connection_of state.connections me.conn ≡ Some me → (tag : ℕ) (named : Named) (a : CreateFields) → ((target : Target) → target_in named ≡ Some target → IsThere state.sinks target)
    → Each (IsLawful state) (create_named state me tag a named)
create_lawful {P} spec_of state h me here tag named a there =
    each_by (IsLawful state) (create_named state me tag a named)
    (λ outcome e.
    let made = create_passed state.inputs state.inputs_made me tag named (group_named state.groups named) a outcome e in
    created_lawful spec_of state h me here tag named a outcome made (there made.sink made.there))
