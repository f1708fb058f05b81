use Rattle.std.proofs.Common.{◌≡◌, ◌-◌, ◌<◌, ◌≤◌, ℕ, suc, ap, sym, subst, ◌∙◌, List, [], ◌++◌, arith, take, drop, length, length-take}
use Rattle.std.proofs.lemmas.List.{append-nil, take-append-drop}
use Rattle.px_queue.specs.Laid.{TOP}
use Rattle.px_queue.specs.Pieces.{Piece, Rise, last_of}
use Rattle.px_queue.proofs.Finding.{last_taken, rise_dropped}
use Rattle.px_queue.proofs.chunks.Chunks.part.Goals as goal

pub returns-clause-all : goal.returns-clause-all
returns-clause-all c =
    let v : List Piece = c.args.self.now.before in
    let k : ℕ = c.begun-count.result in
    ap (λ (ps : List Piece). ps ++ c.leave.new.self.behind) c.leave.ensures.before
    ∙ ap (λ (ps : List Piece). take k v ++ ps) (c.leave.ensures.behind ∙ ap (λ (ps : List Piece). drop k v ++ ps) c.requires.rest ∙ append-nil (drop k v))
    ∙ take-append-drop k v

pub returns-clause-last : goal.returns-clause-last
returns-clause-last c =
    let v : List Piece = c.args.self.now.before in
    let k : ℕ = c.begun-count.result in
    let d : Piece = record { at = 0; bytes = [] } in
    λ some.
    let more : 0 < k = omega (arith, some, ap length c.leave.ensures.before, length-take k v) in
    let next : suc (k - 1) ≡ k = omega arith in
    let last : last_of c.leave.new.self.before ≡ last_of (take (suc (k - 1)) v) = ap last_of c.leave.ensures.before ∙ ap (λ (n : ℕ). last_of (take n v)) (sym next) in
    let there : last_of (take (suc (k - 1)) v) ≡ _ = last_taken v (k - 1) d (omega (arith, next, c.begun-count.ensures.few)) in
    omega (arith, ap Piece.at (last ∙ there), c.begun-count.ensures.before d more)

pub returns-clause-behind : goal.returns-clause-behind
returns-clause-behind c =
    let v : List Piece = c.args.self.now.before in
    let k : ℕ = c.begun-count.result in
    let d : Piece = record { at = 0; bytes = [] } in
    subst (Rise c.args.at TOP) (sym (c.leave.ensures.behind ∙ ap (λ (ps : List Piece). drop k v ++ ps) c.requires.rest ∙ append-nil (drop k v)))
    (rise_dropped 0 TOP c.args.at v k d c.requires.rising c.requires.top (c.begun-count.ensures.behind d))
