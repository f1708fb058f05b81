-- Every frame that a sink plays in a run with ramps is what its deciding turn made of it.
use Rattle.std.proofs.Common.{◌≡◌, ℕ, ◌≤◌, ◌<◌, false, List, [], ◌∷◌, ◌++◌, length, Option, None, Some, refl, ap, sym, subst, ◌∙◌, arith}
use Rattle.std.specs.Prelude.{option_map, IsSome}
use Rattle.std.specs.List.{slice_get}
use Rattle.std.proofs.lemmas.Bool.{both_ways}
use Rattle.std.proofs.lemmas.Option.{slice_get-map}
use Rattle.px_header.specs.declared.header.Header.{Header}
use Rattle.px_header.specs.declared.header.SinkSpec.{SinkSpec}
use Rattle.px_session.specs.declared.event.Event.{Event}
use Rattle.px_msg.specs.View.{sample_spec}
use Rattle.px_model.specs.Frame.{Frame}
use Rattle.px_model.specs.Deciding.{Entry, turn, stop, CanBe}
use Rattle.px_stream.specs.Samples.{samples}
use Rattle.px_ramp.specs.RampMix.{RampSink}
use Rattle.px_ramp.specs.Deciding.{ramp_after, ramp_replay, ramp_played, IsRampHistory, frame_ramped, ramp_deciding, ramp_decided, IsLastRamp}
use Rattle.px_ramp.proofs.Decided.{run_is_consumed, run_is_decided, run_has_one, last_reaching}
use Rattle.px_ramp_world.specs.World.{RampedMixer, new_ramped_mixer, new_ramp_world}
use Rattle.px_ramp_world.specs.Output.{ramp_world_by, AreRampAdmitted}
use Rattle.px_ramp_world.specs.History.{ramp_history_by, ramp_played_by_run, ramp_begun, ramp_sink_at, IsRampDecidedIn, IsRampDecided}
use Rattle.px_ramp_world.proofs.Histories.{HasGone, has_gone}

-- ---- what was consumed lies below the horizon

module _ (n : ℕ) where
  forward : (rs : RampSink) (x : Entry) → rs.sink.consumed ≤ rs.sink.filled → CanBe rs.sink x
      → ((ramp_after samples n rs x).sink.consumed ≤ (ramp_after samples n rs x).sink.horizon) × ((ramp_after samples n rs x).sink.consumed ≤ (ramp_after samples n rs x).sink.filled)
  forward rs (turn k messages) first can = (omega (arith, first, can.0), omega (arith, first, can.0))
  forward rs (stop messages) first can = (omega (arith, first), omega (arith, first))

  reached_forward : (rs : RampSink) (earlier : List Entry) (x : Entry) (later : List Entry) → rs.sink.consumed ≤ rs.sink.filled → IsRampHistory samples n rs (earlier ++ (x ∷ later))
      → (ramp_after samples n (ramp_replay samples n rs earlier) x).sink.consumed ≤ (ramp_after samples n (ramp_replay samples n rs earlier) x).sink.horizon
  reached_forward rs [] x later first h = (forward rs x first h.0).0
  reached_forward rs (y ∷ earlier) x later first h = reached_forward (ramp_after samples n rs y) earlier x later (forward rs y first h.0).1 h.1

  -- the deciding turn ends before the frame is played
  early : (start : RampSink) (history : List Entry) (f : ℕ) (rs : RampSink) → start.sink.consumed ≤ start.sink.filled → IsRampHistory samples n start history → IsLastRamp samples n start history f rs → rs.sink.consumed ≤ f
  early start history f rs first h l =
      let below : rs.sink.consumed ≤ rs.sink.horizon =
      subst (λ (t : RampSink). t.sink.consumed ≤ t.sink.horizon) (sym l.left)
      (reached_forward start l.earlier l.entry l.later first (subst (IsRampHistory samples n start) l.whole h)) in
      omega (arith, below, l.reached)

-- ---- from the empty sink

module _ (n : ℕ) (s : SinkSpec) (history : List Entry) (played : List Frame) (same : played ≡ ramp_played samples n (ramp_begun s) history) (h : IsRampHistory samples n (ramp_begun s) history) where
  all-consumed : length played ≡ (ramp_replay samples n (ramp_begun s) history).sink.consumed
  all-consumed = ap length same ∙ run_is_consumed samples n (sample_spec s.spec) s.guard s.depth history h

  -- the sink that decides it
  from : (f : ℕ) → slice_get played f ≡ ramp_decided samples n (ramp_begun s) history f → (o : Option RampSink) → ramp_deciding samples n (ramp_begun s) history f ≡ o → IsSome o → IsRampDecidedIn n (ramp_begun s) history played f
  from f frame None is some = absurd (both_ways false refl some)
  from f frame (Some by) is some =
      let last : IsLastRamp samples n (ramp_begun s) history f by = last_reaching samples n (ramp_begun s) history f by is in
      record { by = by; last = last; early = early n (ramp_begun s) history f by (omega arith) h last; frame = frame ∙ ap (option_map (frame_ramped samples n f)) is }

  decided-in : (f : ℕ) → f < length played → IsRampDecidedIn n (ramp_begun s) history played f
  decided-in f below =
      let within : f < (ramp_replay samples n (ramp_begun s) history).sink.consumed = omega (arith, below, all-consumed) in
      from f (ap (λ l. slice_get l f) same ∙ run_is_decided samples n (sample_spec s.spec) s.guard s.depth history h f within) (ramp_deciding samples n (ramp_begun s) history f) refl
      (run_has_one samples n (sample_spec s.spec) s.guard s.depth history h f within)

-- ---- a run of events

module _ (n : ℕ) (header : Header) (events : List Event) (k : ℕ) (s : SinkSpec) (there : slice_get header.sinks k ≡ Some s) where
  gone : HasGone (new_ramp_world n header) events k n (ramp_begun s)
  gone = has_gone (new_ramp_world n header) events k (new_ramped_mixer n s) (slice_get-map (new_ramped_mixer n) header.sinks k ∙ ap (option_map (new_ramped_mixer n)) there)

  pub sink-replayed : ramp_sink_at (ramp_world_by (new_ramp_world n header) events) k ≡ Some (ramp_replay samples n (ramp_begun s) (ramp_history_by (new_ramp_world n header) events k))
  sink-replayed = ap (option_map (λ m. RampedMixer.ramped m)) gone.there ∙ ap (λ (t : RampSink). Some t) gone.ramped

  pub played-replayed : ramp_played_by_run (new_ramp_world n header) events k ≡ ramp_played samples n (ramp_begun s) (ramp_history_by (new_ramp_world n header) events k)
  played-replayed = gone.played

  pub history-lawful : AreRampAdmitted (new_ramp_world n header) events → IsRampHistory samples n (ramp_begun s) (ramp_history_by (new_ramp_world n header) events k)
  history-lawful = gone.history

  pub played-consumed : AreRampAdmitted (new_ramp_world n header) events
      → length (ramp_played_by_run (new_ramp_world n header) events k) ≡ (ramp_replay samples n (ramp_begun s) (ramp_history_by (new_ramp_world n header) events k)).sink.consumed
  played-consumed admitted = all-consumed n s (ramp_history_by (new_ramp_world n header) events k) (ramp_played_by_run (new_ramp_world n header) events k) gone.played (gone.history admitted)

  pub is-decided : AreRampAdmitted (new_ramp_world n header) events → (f : ℕ) → f < length (ramp_played_by_run (new_ramp_world n header) events k) → IsRampDecided n header events k s f
  is-decided admitted f below = decided-in n s (ramp_history_by (new_ramp_world n header) events k) (ramp_played_by_run (new_ramp_world n header) events k) gone.played (gone.history admitted) f below
