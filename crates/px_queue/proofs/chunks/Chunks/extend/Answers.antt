use Rattle.std.proofs.Common.{◌+◌, ℕ, ap, subst, ◌∙◌, List, length}
use Rattle.px_queue.specs.Pieces.{Piece, Rise, byte_at, byte_in, first_of}
use Rattle.px_queue.proofs.Laying.{extended_rise, extended_bytes}
use Rattle.px_queue.proofs.chunks.Chunks.extend.Goals as goal

pub returns-clause-rising : goal.returns-clause-rising
returns-clause-rising c =
    let v : List Piece = c.args.self.now.before in
    let all : List ℕ = c.in-Some.all.now in
    λ yes. subst (λ (xs : List ℕ). Rise 0 (c.args.at + length xs) c.append.new.self.before) c.in-Some.ensures
    (extended_rise v c.append.new.self.before c.args.at all c.requires.rising (c.append.ensures.some yes) (c.append.ensures.there yes) (c.append.ensures.yes yes))

pub returns-clause-bytes : goal.returns-clause-bytes
returns-clause-bytes c =
    let v : List Piece = c.args.self.now.before in
    let all : List ℕ = c.in-Some.all.now in
    λ yes i. extended_bytes v c.append.new.self.before c.args.at i all (c.append.ensures.some yes) (c.append.ensures.there yes) (c.append.ensures.yes yes)
    ∙ ap (λ (xs : List ℕ). first_of (byte_at v i) (byte_in (record { at = c.args.at; bytes = xs }) i)) c.in-Some.ensures
