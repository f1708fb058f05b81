-- Every frame that a sink plays in a run is what its deciding turn made of it.
use Rattle.std.proofs.Common.{◌≡◌, ℕ, ◌≤◌, ◌<◌, false, List, [], ◌∷◌, ◌++◌, length, Option, None, Some, refl, ap, sym, subst, ◌∙◌, arith}
use Rattle.std.specs.Prelude.{option_map, IsSome}
use Rattle.std.specs.List.{slice_get}
use Rattle.std.proofs.lemmas.Bool.{both_ways}
use Rattle.std.proofs.lemmas.Option.{slice_get-map}
use Rattle.px_header.specs.declared.header.Header.{Header}
use Rattle.px_header.specs.declared.header.SinkSpec.{SinkSpec}
use Rattle.px_session.specs.declared.event.Event.{Event}
use Rattle.px_msg.specs.View.{sample_spec}
use Rattle.px_model.specs.Frame.{Frame}
use Rattle.px_model.specs.Sink.{Sink}
use Rattle.px_model.specs.Turn.{frame_mixed}
use Rattle.px_model.specs.Deciding.{Entry, turn, stop, sink_after, replay, replay_played, CanBe, IsHistory, deciding, decided, IsLastReaching}
use Rattle.px_model.proofs.Decided.{run_is_consumed, run_is_decided, run_has_one, last_reaching}
use Rattle.px_stream.specs.Samples.{samples}
use Rattle.px_world.specs.World.{Mixer, new_mixer, new_world}
use Rattle.px_world.specs.Output.{world_by, AreAdmitted}
use Rattle.px_world.specs.History.{history_by, played_by_run, begun, sink_at, IsDecidedIn, IsDecided}
use Rattle.px_world.proofs.Histories.{HasGone, has_gone}

-- ---- what was consumed lies below the horizon

forward : (sink : Sink) (x : Entry) → sink.consumed ≤ sink.filled → CanBe sink x
    → ((sink_after samples sink x).consumed ≤ (sink_after samples sink x).horizon) × ((sink_after samples sink x).consumed ≤ (sink_after samples sink x).filled)
forward sink (turn n messages) first can = (omega (arith, first, can.0), omega (arith, first, can.0))
forward sink (stop messages) first can = (omega (arith, first), omega (arith, first))

reached_forward : (sink : Sink) (earlier : List Entry) (x : Entry) (later : List Entry) → sink.consumed ≤ sink.filled → IsHistory samples sink (earlier ++ (x ∷ later))
    → (sink_after samples (replay samples sink earlier) x).consumed ≤ (sink_after samples (replay samples sink earlier) x).horizon
reached_forward sink [] x later first h = (forward sink x first h.0).0
reached_forward sink (y ∷ earlier) x later first h = reached_forward (sink_after samples sink y) earlier x later (forward sink y first h.0).1 h.1

-- the deciding turn ends before the frame is played
early : (start : Sink) (history : List Entry) (f : ℕ) (sink : Sink) → start.consumed ≤ start.filled → IsHistory samples start history → IsLastReaching samples start history f sink → sink.consumed ≤ f
early start history f sink first h l =
    let below : sink.consumed ≤ sink.horizon =
    subst (λ t. Sink.consumed t ≤ Sink.horizon t) (sym l.left)
    (reached_forward start l.earlier l.entry l.later first (subst (IsHistory samples start) l.whole h)) in
    omega (arith, below, l.reached)

-- ---- from the empty sink

module _ (s : SinkSpec) (history : List Entry) (played : List Frame) (same : played ≡ replay_played samples (begun s) history) (h : IsHistory samples (begun s) history) where
  pub all-consumed : length played ≡ (replay samples (begun s) history).consumed
  all-consumed = ap length same ∙ run_is_consumed samples (sample_spec s.spec) s.guard s.depth history h

  -- the sink that decides it
  from : (f : ℕ) → slice_get played f ≡ decided samples (begun s) history f → (o : Option Sink) → deciding samples (begun s) history f ≡ o → IsSome o → IsDecidedIn (begun s) history played f
  from f frame None is some = absurd (both_ways false refl some)
  from f frame (Some by) is some =
      let last : IsLastReaching samples (begun s) history f by = last_reaching samples (begun s) history f by is in
      record { by = by; last = last; early = early (begun s) history f by (omega arith) h last; frame = frame ∙ ap (option_map (frame_mixed samples f)) is }

  pub decided-in : (f : ℕ) → f < length played → IsDecidedIn (begun s) history played f
  decided-in f below =
      let within : f < (replay samples (begun s) history).consumed = omega (arith, below, all-consumed) in
      from f (ap (λ l. slice_get l f) same ∙ run_is_decided samples (sample_spec s.spec) s.guard s.depth history h f within) (deciding samples (begun s) history f) refl
      (run_has_one samples (sample_spec s.spec) s.guard s.depth history h f within)

-- ---- a run of events

module _ (header : Header) (events : List Event) (k : ℕ) (s : SinkSpec) (there : slice_get header.sinks k ≡ Some s) where
  gone : HasGone (new_world header) events k (new_mixer s)
  gone = has_gone (new_world header) events k (new_mixer s) (slice_get-map new_mixer header.sinks k ∙ ap (option_map new_mixer) there)

  pub sink-replayed : sink_at (world_by (new_world header) events) k ≡ Some (replay samples (begun s) (history_by (new_world header) events k))
  sink-replayed = ap (option_map (λ m. Mixer.sink m)) gone.there ∙ ap (λ t. Some t) gone.sink

  pub played-replayed : played_by_run (new_world header) events k ≡ replay_played samples (begun s) (history_by (new_world header) events k)
  played-replayed = gone.played

  pub history-lawful : AreAdmitted (new_world header) events → IsHistory samples (begun s) (history_by (new_world header) events k)
  history-lawful = gone.history

  pub played-consumed : AreAdmitted (new_world header) events
      → length (played_by_run (new_world header) events k) ≡ (replay samples (begun s) (history_by (new_world header) events k)).consumed
  played-consumed admitted = all-consumed s (history_by (new_world header) events k) (played_by_run (new_world header) events k) gone.played (gone.history admitted)

  pub is-decided : AreAdmitted (new_world header) events → (f : ℕ) → f < length (played_by_run (new_world header) events k) → IsDecided header events k s f
  is-decided admitted f below = decided-in s (history_by (new_world header) events k) (played_by_run (new_world header) events k) gone.played (gone.history admitted) f below
