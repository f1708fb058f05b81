use Rattle.std.proofs.Common.{◌≡◌, ◌<◌, ◌≤◌, ℕ, ap, sym, subst, List, [], ◌++◌, arith, length}
use Rattle.px_block.specs.Shelved.{Shelves, under, references_to, appended, blocks_on, SetsOnly}
use Rattle.px_queue.specs.Laid.{Laid, Chunked, pieces_of}
use Rattle.px_queue.specs.Pieces.{Piece}
use Rattle.px_queue.proofs.Tied.{pieces_left, pieces_right, Extends}
use Rattle.px_queue.proofs.Numbered.{some_pieces, there_get}
use Rattle.px_queue.proofs.Growing.{grown_extends, tied_grown, grown_count, no_longer}
use Rattle.px_queue.proofs.chunks.Chunks.open.Goals as goal

pub len_of-requires : goal.len_of-requires
len_of-requires c =
    let s : Shelves = c.self.inside.shelf in
    let items : List Laid = c.self.inside.list.before in
    let ys : List Laid = c.self.inside.list.behind in
    let v : List Piece = c.args.self.now.before in
    let is : pieces_of s items ≡ v = ap (λ (k : Chunked). k.before) c.self.view_is in
    let w : Laid = c.get-chunk.result in
    let few : c.args.k < length items = omega (arith, some_pieces s items v is, c.requires) in
    let there : 1 ≤ references_to (under s c.key-key.result) = subst (λ (k : ℕ). 1 ≤ references_to (under s k)) (sym c.key-key.ensures) (there_get s items ys c.args.k w c.self.invariant.0 few c.get-chunk.ensures) in
    there

pub open-requires : goal.open-requires
open-requires c =
    let s : Shelves = c.self.inside.shelf in
    let items : List Laid = c.self.inside.list.before in
    let ys : List Laid = c.self.inside.list.behind in
    let v : List Piece = c.args.self.now.before in
    let is : pieces_of s items ≡ v = ap (λ (k : Chunked). k.before) c.self.view_is in
    let w : Laid = c.get-chunk.result in
    let few : c.args.k < length items = omega (arith, some_pieces s items v is, c.requires) in
    let there : 1 ≤ references_to (under s c.key-key.result) = subst (λ (k : ℕ). 1 ≤ references_to (under s k)) (sym c.key-key.ensures) (there_get s items ys c.args.k w c.self.invariant.0 few c.get-chunk.ensures) in
    there

pub invariant_of-self : goal.invariant_of-self
invariant_of-self c =
    let s : Shelves = c.self.inside.shelf in
    let items : List Laid = c.self.inside.list.before in
    let ys : List Laid = c.self.inside.list.behind in
    let v : List Piece = c.args.self.now.before in
    let is : pieces_of s items ≡ v = ap (λ (k : Chunked). k.before) c.self.view_is in
    let w : Laid = c.get-chunk.result in
    let few : c.args.k < length items = omega (arith, some_pieces s items v is, c.requires) in
    let there : 1 ≤ references_to (under s c.key-key.result) = subst (λ (k : ℕ). 1 ≤ references_to (under s k)) (sym c.key-key.ensures) (there_get s items ys c.args.k w c.self.invariant.0 few c.get-chunk.ensures) in
    let t : Shelves = c.open.new.self in
    let set : SetsOnly s t c.key-key.result (appended (under s c.key-key.result) []) = no_longer s t c.key-key.result c.open.ensures.slots in
    let tied = c.self.invariant.0 in
    let ext : Extends s t (items ++ ys) = grown_extends s t (items ++ ys) c.key-key.result [] tied there set in
    (tied_grown s t (items ++ ys) c.key-key.result [] tied there set, c.self.invariant.1)

pub returns : goal.returns
returns c =
    let s : Shelves = c.self.inside.shelf in
    let items : List Laid = c.self.inside.list.before in
    let ys : List Laid = c.self.inside.list.behind in
    let v : List Piece = c.args.self.now.before in
    let is : pieces_of s items ≡ v = ap (λ (k : Chunked). k.before) c.self.view_is in
    let w : Laid = c.get-chunk.result in
    let few : c.args.k < length items = omega (arith, some_pieces s items v is, c.requires) in
    let there : 1 ≤ references_to (under s c.key-key.result) = subst (λ (k : ℕ). 1 ≤ references_to (under s k)) (sym c.key-key.ensures) (there_get s items ys c.args.k w c.self.invariant.0 few c.get-chunk.ensures) in
    let t : Shelves = c.open.new.self in
    let set : SetsOnly s t c.key-key.result (appended (under s c.key-key.result) []) = no_longer s t c.key-key.result c.open.ensures.slots in
    let tied = c.self.invariant.0 in
    let ext : Extends s t (items ++ ys) = grown_extends s t (items ++ ys) c.key-key.result [] tied there set in
    let front : pieces_of t items ≡ pieces_of s items = pieces_left s t items ys ext tied.on in
    let back : pieces_of t ys ≡ pieces_of s ys = pieces_right s t items ys ext tied.on in
    let count : blocks_on t ≡ blocks_on s = grown_count s t (items ++ ys) c.key-key.result [] tied there set in
    let room : t.room ≡ s.room = c.open.ensures.room in
    let same = c.self.view_is in
    cc
