use Rattle.std.proofs.Common.{◌≡◌, ◌∷◌, ◌++◌, map, sym, subst}
use Rattle.std.specs.List.{AllByRecursion}
use Rattle.px_frame.specs.Frame.{IsBody}
use Rattle.px_frame.specs.declared.frame.Frame.{Frame}
use Rattle.px_world.proofs.Going.{all-first, all-rest}
use Rattle.px_sieve.specs.declared.segment.Segment.TheVariants.{Whole}
use Rattle.px_sieve.specs.Standing.{IsPossible}
use Rattle.px_sieve.proofs.Adding.{added-next, possible-more}
use Rattle.px_sieve.proofs.line.add_frames.Goals as goal

pub loop-frame-preserved : goal.loop-frame-preserved
loop-frame-preserved c =
    let all = c.loop-frame.frames.items in
    let rest = c.pop_front.new.self.items in
    let frame = c.in-Some.frame in
    let front : all ≡ frame ∷ rest = c.in-Some.ensures.items in
    record {
      added = added-next c.loop-frame.waiting.items c.push_back.new.self.items (c.args.waiting.now.items ++ map Whole c.args.frames.items) frame rest all
          c.in_ok-push_back.ensures.items front c.loop-frame.invariant.added;
      possible = subst (AllByRecursion IsPossible) (sym c.in_ok-push_back.ensures.items)
          (possible-more c.loop-frame.waiting.items (Whole frame) c.loop-frame.invariant.possible
          (all-first (λ (f : Frame). IsBody f.body) frame rest all front c.loop-frame.invariant.bodies));
      bodies = all-rest (λ (f : Frame). IsBody f.body) frame rest all front c.loop-frame.invariant.bodies;
    }
