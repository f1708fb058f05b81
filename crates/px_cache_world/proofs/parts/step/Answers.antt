use Rattle.px_cache_world.specs.Sampler.{running_on, handled_in, piece_items, with_piece, StandsForSampler}
use Rattle.px_cache_world.proofs.Goes.{whole-shown, piece-stands}
use Rattle.px_cache_world.proofs.parts.step.Goals as goal

pub returns-clause-effects : goal.returns-clause-effects
returns-clause-effects c = λ s stands.
    let conn = c.args.conn in
    let piece = c.args.piece in
    let made = c.in_ok-effects.ensures.effects s stands in
    let seen : StandsForSampler c.see.new.parts (with_piece s conn piece) =
    piece-stands s conn piece c.see.new.parts c.in_ok-effects.effects made
    (c.in_ok-see.ensures.after (running_on (handled_in s conn piece) (piece_items s conn piece)) (c.in_ok-effects.ensures.after s stands)) in
    whole-shown s conn piece c.in_ok-effects.effects c.in_ok-more.more c.append.new.self made (c.in_ok-more.ensures.effects (with_piece s conn piece) seen) c.in_ok-append.ensures.ok

pub returns-clause-after : goal.returns-clause-after
returns-clause-after c = λ s stands.
    let conn = c.args.conn in
    let piece = c.args.piece in
    c.in_ok-more.ensures.after (with_piece s conn piece)
    (piece-stands s conn piece c.see.new.parts c.in_ok-effects.effects (c.in_ok-effects.ensures.effects s stands)
    (c.in_ok-see.ensures.after (running_on (handled_in s conn piece) (piece_items s conn piece)) (c.in_ok-effects.ensures.after s stands)))
