use Rattle.std.proofs.Common.{◌≡◌, ℕ, List, ◌++◌}
use Rattle.px_block.specs.Shelved.{Shelves, under, blocks_on}
use Rattle.px_queue.specs.Laid.{Laid, pieces_of}
use Rattle.px_queue.proofs.Tied.{pieces_left, pieces_right, Extends}
use Rattle.px_queue.proofs.Growing.{under_same, unchanged_extends, tied_same, count_same}
use Rattle.px_queue.proofs.chunks.Chunks.close.Goals as goal

pub invariant_of-self : goal.invariant_of-self
invariant_of-self c =
    let s : Shelves = c.self.inside.shelf in
    let t : Shelves = c.fit.new.self in
    let items : List Laid = c.self.inside.list.before in
    let ys : List Laid = c.self.inside.list.behind in
    let same_all : (k : ℕ) → under t k ≡ under s k = under_same s t c.in-Some.key c.fit.ensures.slots in
    let tied = c.self.invariant.0 in
    let ext : Extends s t (items ++ ys) = λ k some. unchanged_extends s t k (same_all k) in
    (tied_same s t (items ++ ys) same_all tied, c.self.invariant.1)

pub returns-in-Some : goal.returns-in-Some
returns-in-Some c =
    let s : Shelves = c.self.inside.shelf in
    let t : Shelves = c.fit.new.self in
    let items : List Laid = c.self.inside.list.before in
    let ys : List Laid = c.self.inside.list.behind in
    let same_all : (k : ℕ) → under t k ≡ under s k = under_same s t c.in-Some.key c.fit.ensures.slots in
    let tied = c.self.invariant.0 in
    let ext : Extends s t (items ++ ys) = λ k some. unchanged_extends s t k (same_all k) in
    let front : pieces_of t items ≡ pieces_of s items = pieces_left s t items ys ext tied.on in
    let back : pieces_of t ys ≡ pieces_of s ys = pieces_right s t items ys ext tied.on in
    let count : blocks_on t ≡ blocks_on s = count_same s t c.in-Some.key c.fit.ensures.slots in
    let room : t.room ≡ s.room = c.fit.ensures.room in
    let same = c.self.view_is in
    cc
