-- What the events of a connection do, from what their parts do.
use Rattle.std.proofs.Common.{◌≡◌, List, [], ◌∷◌, ◌++◌, map, Option, None, Some, Result, Ok, Err, refl, ap, sym, subst, ◌∙◌, append-nil}
use Rattle.std.specs.Prelude.{All}
use Rattle.std.specs.List.{AllByRecursion}
use Rattle.px_types.specs.declared.ids.ConnId.{ConnId}
use Rattle.px_types.specs.declared.ids.SinkId.{SinkId}
use Rattle.px_frame.specs.declared.fault.FrameError.{FrameError}
use Rattle.px_frame.specs.declared.fault.FrameError.TheVariants.{Fault, Failed, NoMemory}
use Rattle.px_frame.specs.declared.frame.Frame.{Frame}
use Rattle.px_frame.specs.Frame.{IsBody}
use Rattle.px_frame.specs.Progress.{GivesBodies}
use Rattle.px_model.specs.Stream.{Stream}
use Rattle.px_model.specs.Frame.{SampleSpec}
use Rattle.px_state.specs.declared.effect.Effect.{Effect}
use Rattle.px_outcome.specs.declared.input.Connection.{Connection}
use Rattle.px_state.specs.State.{State}
use Rattle.px_state.specs.Outcome.{outcome_effects}
use Rattle.px_core.specs.Connecting.{going_on, ended}
use Rattle.px_core.specs.Consistency.{IsStep, Spares}
use Rattle.px_core.specs.Parcels.{Takes}
use Rattle.px_core.specs.Step.{Step, frame, broken, close, sweep, stepped, effects_of, stepped_by, effects_by}
use Rattle.px_world.specs.World.{Mixer}
use Rattle.px_world.specs.Running.{steps_given}
use Rattle.px_world.specs.Consistency.{HasStream, AreConsistent}
use Rattle.px_world.proofs.Going.{all-first, all-rest}
use Rattle.px_world.proofs.Consistent.{consistent-steps}

-- ---- one step and the sweep

module _ {P : Type 0} (spec_of : P → SampleSpec) (state next : State P) (s : Step P) where
  pub one-swept : (last : State P) → next ≡ stepped spec_of state s → last ≡ stepped_by spec_of next (sweep ∷ []) → last ≡ stepped_by spec_of state (s ∷ sweep ∷ [])
  one-swept last e l = l ∙ ap (λ t. stepped_by spec_of t (sweep ∷ [])) e

  pub one-swept-caused : (before all : List Effect) → next ≡ stepped spec_of state s → before ≡ effects_of spec_of state s → all ≡ before ++ effects_by spec_of next (sweep ∷ [])
      → all ≡ effects_by spec_of state (s ∷ sweep ∷ [])
  one-swept-caused before all e b a =
      a ∙ ap (λ l. l ++ effects_by spec_of next (sweep ∷ [])) b ∙ ap (λ t. effects_of spec_of state s ++ effects_by spec_of t (sweep ∷ [])) e

pub close-silent : {P : Type 0} (spec_of : P → SampleSpec) (state : State P) (conn : ConnId) → effects_of spec_of state (close conn) ≡ []
close-silent {P} spec_of state conn = go (going_on state.connections conn)
  where
    go : (o : Option Connection) → outcome_effects (Some conn) (ended {P = P} o None 0 0) ≡ []
    go None = refl
    go (Some c) = refl

-- ---- the steps of a connection can be, and hand out nothing

frames-are : (conn : ConnId) (frames : List Frame) (rest : List (Step Stream)) → All (λ (f : Frame). IsBody f.body) frames → AllByRecursion IsStep rest → AllByRecursion IsStep (map (frame conn) frames ++ rest)
frames-are conn [] rest h r = r
frames-are conn (f ∷ frames) rest h r =
    (all-first (λ (x : Frame). IsBody x.body) f frames (f ∷ frames) refl h, frames-are conn frames rest (all-rest (λ (x : Frame). IsBody x.body) f frames (f ∷ frames) refl h) r)

frames-spare : (sink : SinkId) (conn : ConnId) (frames : List Frame) (rest : List (Step Stream)) → AllByRecursion (Spares sink) rest → AllByRecursion (Spares sink) (map (frame conn) frames ++ rest)
frames-spare sink conn [] rest r = r
frames-spare sink conn (f ∷ frames) rest r = (tt, frames-spare sink conn frames rest r)

given-are : (conn : ConnId) (given : Result (List Frame) FrameError) → GivesBodies given → AllByRecursion IsStep (steps_given conn given)
given-are conn (Ok frames) h = subst (AllByRecursion IsStep) (append-nil (map (frame conn) frames)) (frames-are conn frames [] h tt)
given-are conn (Err (Fault frames fault at)) h = frames-are conn frames (broken conn fault at ∷ []) h (tt, tt)
given-are conn (Err (Failed fault at)) h = tt
given-are conn (Err NoMemory) h = tt

frames-take : (conn : ConnId) (frames : List Frame) (rest : List (Step Stream)) → AllByRecursion (Takes HasStream) rest → AllByRecursion (Takes HasStream) (map (frame conn) frames ++ rest)
frames-take conn [] rest r = r
frames-take conn (f ∷ frames) rest r = (tt, frames-take conn frames rest r)

given-take : (conn : ConnId) (given : Result (List Frame) FrameError) → AllByRecursion (Takes HasStream) (steps_given conn given)
given-take conn (Ok frames) = subst (AllByRecursion (Takes HasStream)) (append-nil (map (frame conn) frames)) (frames-take conn frames [] tt)
given-take conn (Err (Fault frames fault at)) = frames-take conn frames (broken conn fault at ∷ []) (tt, tt)
given-take conn (Err (Failed fault at)) = tt
given-take conn (Err NoMemory) = tt

given-spare : (sink : SinkId) (conn : ConnId) (given : Result (List Frame) FrameError) → AllByRecursion (Spares sink) (steps_given conn given)
given-spare sink conn (Ok frames) = subst (AllByRecursion (Spares sink)) (append-nil (map (frame conn) frames)) (frames-spare sink conn frames [] tt)
given-spare sink conn (Err (Fault frames fault at)) = frames-spare sink conn frames (broken conn fault at ∷ []) (tt, tt)
given-spare sink conn (Err (Failed fault at)) = tt
given-spare sink conn (Err NoMemory) = tt

-- so what is kept stays kept

module _ (core next last : State Stream) (mixers : List Mixer) (h : AreConsistent core mixers) where
  pub consistent-one : (s : Step Stream) → IsStep s → Takes HasStream s → ((sink : SinkId) → Spares sink s) → next ≡ stepped Stream.spec core s → last ≡ stepped_by Stream.spec next (sweep ∷ []) → AreConsistent last mixers
  consistent-one s is takes spares e l =
      subst (λ t. AreConsistent t mixers) (sym (one-swept Stream.spec core next s last e l))
      (consistent-steps core mixers (s ∷ sweep ∷ []) h (is, (tt, tt)) (takes, (tt, tt)) (λ sink. (spares sink, (tt, tt))))

  pub consistent-one-frame : (conn : ConnId) (f : Frame) → IsBody f.body → next ≡ stepped_by Stream.spec core (frame conn f ∷ [])
      → last ≡ stepped_by Stream.spec next (sweep ∷ []) → AreConsistent last mixers
  consistent-one-frame conn f body e l = consistent-one (frame conn f) body tt (λ sink. tt) e l

  pub consistent-given : (conn : ConnId) (given : Result (List Frame) FrameError) → GivesBodies given → next ≡ stepped_by Stream.spec core (steps_given conn given)
      → last ≡ stepped_by Stream.spec next (sweep ∷ []) → AreConsistent last mixers
  consistent-given conn given bodies e l =
      let first : AreConsistent next mixers =
      subst (λ t. AreConsistent t mixers) (sym e) (consistent-steps core mixers (steps_given conn given) h (given-are conn given bodies) (given-take conn given) (λ sink. given-spare sink conn given)) in
      subst (λ t. AreConsistent t mixers) (sym l) (consistent-steps next mixers (sweep ∷ []) first (tt, tt) (tt, tt) (λ sink. (tt, tt)))
