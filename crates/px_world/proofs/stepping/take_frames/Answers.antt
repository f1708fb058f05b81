use Rattle.std.proofs.Common.{◌≡◌, List, [], ◌∷◌, ◌++◌, ◌∙◌, All, map, length, drop, refl, ap, sym, subst, arith}
use Rattle.std.proofs.lemmas.List.{append-nil}
use Rattle.std.proofs.lemmas.Result.{err_from_is_err_and}
use Rattle.px_frame.specs.Frame.{IsBody}
use Rattle.px_frame.specs.declared.frame.Frame.{Frame}
use Rattle.px_model.specs.Stream.{Stream}
use Rattle.px_core.specs.Step.{frame, stepped_by, effects_by}
use Rattle.px_world.proofs.Going.{all-first, all-rest, map-first, map-effects-first}
use Rattle.px_world.proofs.stepping.take_frames.Goals as goal

-- no frame is left where the rest of them, without a first one, is all of them
none-left : (all rest : List Frame) → all ≡ rest → rest ≡ drop 1 all → all ≡ []
none-left [] rest same less = refl
none-left (x ∷ xs) rest same less = absurd (omega (arith, ap length (same ∙ less)))

pub take_frame-requires : goal.take_frame-requires
take_frame-requires c =
    all-first (λ (f : Frame). IsBody f.body) c.in-Some.frame c.pop_front.new.self.items c.loop-frame.frames.items c.in-Some.ensures.items c.loop-frame.invariant.bodies

pub loop-frame-preserved : goal.loop-frame-preserved
loop-frame-preserved c =
    let all = c.loop-frame.frames.items in
    let rest = c.pop_front.new.self.items in
    let front : all ≡ c.in-Some.frame ∷ rest = c.in-Some.ensures.items in
    record {
      core = map-first Stream.spec (λ (f : Frame). frame c.args.conn f) c.loop-frame.core.state c.take_frame.new.core.state
          (stepped_by Stream.spec c.args.core.now.state (map (λ (f : Frame). frame c.args.conn f) c.args.frames.items)) c.in-Some.frame rest all front
          c.in_ok-take_frame.ensures.core c.loop-frame.invariant.core;
      effects = map-effects-first Stream.spec (λ (f : Frame). frame c.args.conn f) c.loop-frame.core.state c.take_frame.new.core.state c.in-Some.frame rest all
          c.loop-frame.effects c.take_frame.new.effects
          (c.args.effects.now ++ effects_by Stream.spec c.args.core.now.state (map (λ (f : Frame). frame c.args.conn f) c.args.frames.items)) front
          c.in_ok-take_frame.ensures.core c.in_ok-take_frame.ensures.effects c.loop-frame.invariant.effects;
      bodies = all-rest (λ (f : Frame). IsBody f.body) c.in-Some.frame rest all front c.loop-frame.invariant.bodies;
    }

pub loop-frame-init : goal.loop-frame-init
loop-frame-init c =
    let same = c.from_vec-frames.ensures.items in
    record {
      core = ap (λ (fs : List Frame). stepped_by Stream.spec c.args.core.now.state (map (λ (f : Frame). frame c.args.conn f) fs)) same;
      effects = ap (λ (fs : List Frame). c.args.effects.now ++ effects_by Stream.spec c.args.core.now.state (map (λ (f : Frame). frame c.args.conn f) fs)) same;
      bodies = subst (λ (fs : List Frame). All (λ f. IsBody f.body) fs) (sym same) c.requires;
    }

pub loop-frame-smaller : goal.loop-frame-smaller
loop-frame-smaller c = omega (arith, ap (λ (fs : List Frame). length fs) c.in-Some.ensures.items)

pub returns-clause-core : goal.returns-clause-core
returns-clause-core c =
    let none = none-left c.loop-frame.frames.items c.pop_front.new.self.items c.in_default.ensures.items c.in_default.ensures.rest in
    subst (λ (fs : List Frame). stepped_by Stream.spec c.loop-frame.core.state (map (λ (f : Frame). frame c.args.conn f) fs)
    ≡ stepped_by Stream.spec c.args.core.now.state (map (λ (f : Frame). frame c.args.conn f) c.args.frames.items)) none c.loop-frame.invariant.core

pub returns-clause-effects : goal.returns-clause-effects
returns-clause-effects c =
    let none = none-left c.loop-frame.frames.items c.pop_front.new.self.items c.in_default.ensures.items c.in_default.ensures.rest in
    sym (append-nil c.loop-frame.effects)
    ∙ subst (λ (fs : List Frame). c.loop-frame.effects ++ effects_by Stream.spec c.loop-frame.core.state (map (λ (f : Frame). frame c.args.conn f) fs)
    ≡ c.args.effects.now ++ effects_by Stream.spec c.args.core.now.state (map (λ (f : Frame). frame c.args.conn f) c.args.frames.items)) none c.loop-frame.invariant.effects

pub returns-in_err-take_frame-clause-core : goal.returns-in_err-take_frame-clause-core
returns-in_err-take_frame-clause-core c = let p = err_from_is_err_and c.from_residual.result c.from_residual.ensures.1 in rw (p.1) tt

pub returns-in_err-take_frame-clause-effects : goal.returns-in_err-take_frame-clause-effects
returns-in_err-take_frame-clause-effects c = let p = err_from_is_err_and c.from_residual.result c.from_residual.ensures.1 in rw (p.1) tt
