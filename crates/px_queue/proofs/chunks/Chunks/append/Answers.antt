use Rattle.std.proofs.Common.{Bool, cond, ◌≡◌, ◌+◌, ◌≤◌, ℕ, ap, sym, subst, ◌∙◌, List, ◌∷◌, [], ◌++◌, arith, drop, length, length-append}
use Rattle.std.specs.Prelude.{slice_index_or}
use Rattle.px_block.specs.Shelved.{Shelves, under, references_to, bytes_of, appended, SetsOnly}
use Rattle.px_queue.specs.Laid.{Laid, Chunked, IsTied, IsOn, pieces_of, piece_of}
use Rattle.px_queue.specs.Pieces.{Piece, front_of}
use Rattle.px_queue.proofs.Tied.{refs_here, tied_other, pieces_left, pieces_right, Extends}
use Rattle.px_queue.proofs.Numbered.{front_is, last_is, last_end_at, tied_middle, tied_whole, more_map}
use Rattle.px_queue.proofs.Growing.{grown_bytes, grown_extends, tied_grown, grown_count, longer_on, longer_piece}
use Rattle.px_queue.proofs.chunks.Chunks.append.Goals as goal

pub grow-requires : goal.grow-requires
grow-requires c =
    let s : Shelves = c.self.inside.shelf in
    let items : List Laid = c.self.inside.list.before in
    let ys : List Laid = c.self.inside.list.behind in
    let xs : List Laid = c.pop_back.new.self.before in
    let w : Laid = c.in-Some.last in
    let v : List Piece = c.args.self.now.before in
    let u : List Piece = c.args.self.now.behind in
    let is : pieces_of s items ≡ v = ap (λ (k : Chunked). k.before) c.self.view_is in
    let rest : pieces_of s ys ≡ u = ap (λ (k : Chunked). k.behind) c.self.view_is in
    let split : items ≡ xs ++ w ∷ [] = c.in-Some.ensures.items in
    let tied : IsTied s (xs ++ w ∷ ys) = tied_middle s items xs ys w split c.self.invariant.0 in
    let there : 1 ≤ references_to (under s w.key) = refs_here s xs ys w tied in
    refs_here s xs ys w tied

pub invariant_of-self-then-grow : goal.invariant_of-self-then-grow
invariant_of-self-then-grow c =
    let s : Shelves = c.self.inside.shelf in
    let items : List Laid = c.self.inside.list.before in
    let ys : List Laid = c.self.inside.list.behind in
    let xs : List Laid = c.pop_back.new.self.before in
    let w : Laid = c.in-Some.last in
    let v : List Piece = c.args.self.now.before in
    let u : List Piece = c.args.self.now.behind in
    let is : pieces_of s items ≡ v = ap (λ (k : Chunked). k.before) c.self.view_is in
    let rest : pieces_of s ys ≡ u = ap (λ (k : Chunked). k.behind) c.self.view_is in
    let split : items ≡ xs ++ w ∷ [] = c.in-Some.ensures.items in
    let tied : IsTied s (xs ++ w ∷ ys) = tied_middle s items xs ys w split c.self.invariant.0 in
    let t : Shelves = c.grow.new.shelf in
    let there : 1 ≤ references_to (under s w.key) = refs_here s xs ys w tied in
    let more : List ℕ = c.args.bytes.now in
    let set : SetsOnly s t w.key (appended (under s w.key) more) = subst (λ (b : Bool). SetsOnly s t w.key (appended (under s w.key) (cond b more []))) c.if-grow.true c.grow.ensures.slots in
    let bytes : bytes_of (under t w.key) ≡ bytes_of (under s w.key) ++ more = grown_bytes s t (xs ++ w ∷ ys) w.key more tied there set in
    let whole : w.place + w.len ≡ length (bytes_of (under s w.key)) = c.grow.ensures.whole c.if-grow.true in
    let ext : Extends s t (xs ++ w ∷ ys) = grown_extends s t (xs ++ w ∷ ys) w.key more tied there set in
    let d : Laid = c.longer.result in
    let key : d.key ≡ w.key = ap (λ (x : Laid). x.key) c.longer.ensures in
    let on : IsOn t d = longer_on t w d (bytes_of (under s w.key)) more bytes whole c.longer.ensures in (
      subst (λ (zs : List Laid). IsTied t (c.push_back_reserved.new.self.before ++ zs)) (sym (c.push_back_reserved.ensures.behind ∙ c.pop_back.ensures.behind))
          (tied_whole t c.push_back_reserved.new.self.before xs ys d c.push_back_reserved.ensures.items (tied_other t xs ys w d (tied_grown s t (xs ++ w ∷ ys) w.key more tied there set) key on)),
      omega (arith, c.self.invariant.1, ap length (c.push_back_reserved.ensures.behind ∙ c.pop_back.ensures.behind), c.pop_back.ensures.capacity, c.push_back_reserved.ensures.capacity, ap length c.push_back_reserved.ensures.items, ap length split, length-append xs (w ∷ []), length-append xs (d ∷ [])),
    )

pub returns-then-grow-clause-there : goal.returns-then-grow-clause-there
returns-then-grow-clause-there c =
    let s : Shelves = c.self.inside.shelf in
    let items : List Laid = c.self.inside.list.before in
    let ys : List Laid = c.self.inside.list.behind in
    let xs : List Laid = c.pop_back.new.self.before in
    let w : Laid = c.in-Some.last in
    let v : List Piece = c.args.self.now.before in
    let u : List Piece = c.args.self.now.behind in
    let is : pieces_of s items ≡ v = ap (λ (k : Chunked). k.before) c.self.view_is in
    let rest : pieces_of s ys ≡ u = ap (λ (k : Chunked). k.behind) c.self.view_is in
    let split : items ≡ xs ++ w ∷ [] = c.in-Some.ensures.items in
    let tied : IsTied s (xs ++ w ∷ ys) = tied_middle s items xs ys w split c.self.invariant.0 in
    let t : Shelves = c.grow.new.shelf in
    let there : 1 ≤ references_to (under s w.key) = refs_here s xs ys w tied in
    let more : List ℕ = c.args.bytes.now in
    let set : SetsOnly s t w.key (appended (under s w.key) more) = subst (λ (b : Bool). SetsOnly s t w.key (appended (under s w.key) (cond b more []))) c.if-grow.true c.grow.ensures.slots in
    let bytes : bytes_of (under t w.key) ≡ bytes_of (under s w.key) ++ more = grown_bytes s t (xs ++ w ∷ ys) w.key more tied there set in
    let whole : w.place + w.len ≡ length (bytes_of (under s w.key)) = c.grow.ensures.whole c.if-grow.true in
    let ext : Extends s t (xs ++ w ∷ ys) = grown_extends s t (xs ++ w ∷ ys) w.key more tied there set in
    λ _. c.grow.ensures.there c.if-grow.true ∙ last_end_at s items xs ys w v is split c.self.invariant.0

pub returns-then-grow-clause-yes : goal.returns-then-grow-clause-yes
returns-then-grow-clause-yes c =
    let s : Shelves = c.self.inside.shelf in
    let items : List Laid = c.self.inside.list.before in
    let ys : List Laid = c.self.inside.list.behind in
    let xs : List Laid = c.pop_back.new.self.before in
    let w : Laid = c.in-Some.last in
    let v : List Piece = c.args.self.now.before in
    let u : List Piece = c.args.self.now.behind in
    let is : pieces_of s items ≡ v = ap (λ (k : Chunked). k.before) c.self.view_is in
    let rest : pieces_of s ys ≡ u = ap (λ (k : Chunked). k.behind) c.self.view_is in
    let split : items ≡ xs ++ w ∷ [] = c.in-Some.ensures.items in
    let tied : IsTied s (xs ++ w ∷ ys) = tied_middle s items xs ys w split c.self.invariant.0 in
    let t : Shelves = c.grow.new.shelf in
    let there : 1 ≤ references_to (under s w.key) = refs_here s xs ys w tied in
    let more : List ℕ = c.args.bytes.now in
    let set : SetsOnly s t w.key (appended (under s w.key) more) = subst (λ (b : Bool). SetsOnly s t w.key (appended (under s w.key) (cond b more []))) c.if-grow.true c.grow.ensures.slots in
    let bytes : bytes_of (under t w.key) ≡ bytes_of (under s w.key) ++ more = grown_bytes s t (xs ++ w ∷ ys) w.key more tied there set in
    let whole : w.place + w.len ≡ length (bytes_of (under s w.key)) = c.grow.ensures.whole c.if-grow.true in
    let ext : Extends s t (xs ++ w ∷ ys) = grown_extends s t (xs ++ w ∷ ys) w.key more tied there set in
    let d : Laid = c.longer.result in
    λ _. more_map t c.push_back_reserved.new.self.before xs d c.push_back_reserved.ensures.items
    ∙ ap (λ (ps : List Piece). ps ++ piece_of t d ∷ []) (pieces_left s t xs (w ∷ ys) ext tied.on ∙ front_is s items xs w v is split)
    ∙ ap (λ (p : Piece). front_of v ++ p ∷ [])
    (ap (piece_of t) c.longer.ensures ∙ longer_piece s t w more bytes whole ∙ ap (λ (p : Piece). record { at = p.at; bytes = p.bytes ++ more }) (last_is s items xs w v is split))

pub returns-then-grow-clause-behind : goal.returns-then-grow-clause-behind
returns-then-grow-clause-behind c =
    let s : Shelves = c.self.inside.shelf in
    let items : List Laid = c.self.inside.list.before in
    let ys : List Laid = c.self.inside.list.behind in
    let xs : List Laid = c.pop_back.new.self.before in
    let w : Laid = c.in-Some.last in
    let v : List Piece = c.args.self.now.before in
    let u : List Piece = c.args.self.now.behind in
    let is : pieces_of s items ≡ v = ap (λ (k : Chunked). k.before) c.self.view_is in
    let rest : pieces_of s ys ≡ u = ap (λ (k : Chunked). k.behind) c.self.view_is in
    let split : items ≡ xs ++ w ∷ [] = c.in-Some.ensures.items in
    let tied : IsTied s (xs ++ w ∷ ys) = tied_middle s items xs ys w split c.self.invariant.0 in
    let t : Shelves = c.grow.new.shelf in
    let there : 1 ≤ references_to (under s w.key) = refs_here s xs ys w tied in
    let more : List ℕ = c.args.bytes.now in
    let set : SetsOnly s t w.key (appended (under s w.key) more) = subst (λ (b : Bool). SetsOnly s t w.key (appended (under s w.key) (cond b more []))) c.if-grow.true c.grow.ensures.slots in
    let bytes : bytes_of (under t w.key) ≡ bytes_of (under s w.key) ++ more = grown_bytes s t (xs ++ w ∷ ys) w.key more tied there set in
    let whole : w.place + w.len ≡ length (bytes_of (under s w.key)) = c.grow.ensures.whole c.if-grow.true in
    let ext : Extends s t (xs ++ w ∷ ys) = grown_extends s t (xs ++ w ∷ ys) w.key more tied there set in
    ap (pieces_of t) (c.push_back_reserved.ensures.behind ∙ c.pop_back.ensures.behind) ∙ ap (drop 1) (pieces_right s t xs (w ∷ ys) ext tied.on) ∙ rest

pub returns-then-grow-clause-blocks : goal.returns-then-grow-clause-blocks
returns-then-grow-clause-blocks c =
    let s : Shelves = c.self.inside.shelf in
    let items : List Laid = c.self.inside.list.before in
    let ys : List Laid = c.self.inside.list.behind in
    let xs : List Laid = c.pop_back.new.self.before in
    let w : Laid = c.in-Some.last in
    let v : List Piece = c.args.self.now.before in
    let u : List Piece = c.args.self.now.behind in
    let is : pieces_of s items ≡ v = ap (λ (k : Chunked). k.before) c.self.view_is in
    let rest : pieces_of s ys ≡ u = ap (λ (k : Chunked). k.behind) c.self.view_is in
    let split : items ≡ xs ++ w ∷ [] = c.in-Some.ensures.items in
    let tied : IsTied s (xs ++ w ∷ ys) = tied_middle s items xs ys w split c.self.invariant.0 in
    let t : Shelves = c.grow.new.shelf in
    let there : 1 ≤ references_to (under s w.key) = refs_here s xs ys w tied in
    let more : List ℕ = c.args.bytes.now in
    let set : SetsOnly s t w.key (appended (under s w.key) more) = subst (λ (b : Bool). SetsOnly s t w.key (appended (under s w.key) (cond b more []))) c.if-grow.true c.grow.ensures.slots in
    let bytes : bytes_of (under t w.key) ≡ bytes_of (under s w.key) ++ more = grown_bytes s t (xs ++ w ∷ ys) w.key more tied there set in
    let whole : w.place + w.len ≡ length (bytes_of (under s w.key)) = c.grow.ensures.whole c.if-grow.true in
    let ext : Extends s t (xs ++ w ∷ ys) = grown_extends s t (xs ++ w ∷ ys) w.key more tied there set in
    grown_count s t (xs ++ w ∷ ys) w.key more tied there set ∙ ap (λ (k : Chunked). k.blocks) c.self.view_is

pub invariant_of-self-2 : goal.invariant_of-self-2
invariant_of-self-2 c =
    let s : Shelves = c.self.inside.shelf in
    let items : List Laid = c.self.inside.list.before in
    let ys : List Laid = c.self.inside.list.behind in
    let xs : List Laid = c.pop_back.new.self.before in
    let w : Laid = c.in-Some.last in
    let v : List Piece = c.args.self.now.before in
    let u : List Piece = c.args.self.now.behind in
    let is : pieces_of s items ≡ v = ap (λ (k : Chunked). k.before) c.self.view_is in
    let rest : pieces_of s ys ≡ u = ap (λ (k : Chunked). k.behind) c.self.view_is in
    let split : items ≡ xs ++ w ∷ [] = c.in-Some.ensures.items in
    let tied : IsTied s (xs ++ w ∷ ys) = tied_middle s items xs ys w split c.self.invariant.0 in
    let t : Shelves = c.grow.new.shelf in
    let there : 1 ≤ references_to (under s w.key) = refs_here s xs ys w tied in
    let set : SetsOnly s t w.key (appended (under s w.key) []) = subst (λ (b : Bool). SetsOnly s t w.key (appended (under s w.key) (cond b c.args.bytes.now []))) c.if-grow.false c.grow.ensures.slots in
    let ext : Extends s t (xs ++ w ∷ ys) = grown_extends s t (xs ++ w ∷ ys) w.key [] tied there set in (
      subst (λ (zs : List Laid). IsTied t (c.push_back_reserved-2.new.self.before ++ zs)) (sym (c.push_back_reserved-2.ensures.behind ∙ c.pop_back.ensures.behind))
          (tied_whole t c.push_back_reserved-2.new.self.before xs ys w c.push_back_reserved-2.ensures.items (tied_grown s t (xs ++ w ∷ ys) w.key [] tied there set)),
      omega (arith, c.self.invariant.1, ap length (c.push_back_reserved-2.ensures.behind ∙ c.pop_back.ensures.behind), c.pop_back.ensures.capacity, c.push_back_reserved-2.ensures.capacity, ap length c.push_back_reserved-2.ensures.items, ap length split, length-append xs (w ∷ [])),
    )

pub returns-clause-no : goal.returns-clause-no
returns-clause-no c =
    let s : Shelves = c.self.inside.shelf in
    let items : List Laid = c.self.inside.list.before in
    let ys : List Laid = c.self.inside.list.behind in
    let xs : List Laid = c.pop_back.new.self.before in
    let w : Laid = c.in-Some.last in
    let v : List Piece = c.args.self.now.before in
    let u : List Piece = c.args.self.now.behind in
    let is : pieces_of s items ≡ v = ap (λ (k : Chunked). k.before) c.self.view_is in
    let rest : pieces_of s ys ≡ u = ap (λ (k : Chunked). k.behind) c.self.view_is in
    let split : items ≡ xs ++ w ∷ [] = c.in-Some.ensures.items in
    let tied : IsTied s (xs ++ w ∷ ys) = tied_middle s items xs ys w split c.self.invariant.0 in
    let t : Shelves = c.grow.new.shelf in
    let there : 1 ≤ references_to (under s w.key) = refs_here s xs ys w tied in
    let set : SetsOnly s t w.key (appended (under s w.key) []) = subst (λ (b : Bool). SetsOnly s t w.key (appended (under s w.key) (cond b c.args.bytes.now []))) c.if-grow.false c.grow.ensures.slots in
    let ext : Extends s t (xs ++ w ∷ ys) = grown_extends s t (xs ++ w ∷ ys) w.key [] tied there set in
    λ _. more_map t c.push_back_reserved-2.new.self.before xs w c.push_back_reserved-2.ensures.items
    ∙ ap (λ (ps : List Piece). ps ++ piece_of t w ∷ []) (pieces_left s t xs (w ∷ ys) ext tied.on)
    ∙ ap (λ (p : Piece). pieces_of s xs ++ p ∷ []) (ap (λ (ps : List Piece). slice_index_or ps 0 (piece_of s w)) (pieces_right s t xs (w ∷ ys) ext tied.on))
    ∙ sym (more_map s items xs w split) ∙ is

pub returns-clause-behind : goal.returns-clause-behind
returns-clause-behind c =
    let s : Shelves = c.self.inside.shelf in
    let items : List Laid = c.self.inside.list.before in
    let ys : List Laid = c.self.inside.list.behind in
    let xs : List Laid = c.pop_back.new.self.before in
    let w : Laid = c.in-Some.last in
    let v : List Piece = c.args.self.now.before in
    let u : List Piece = c.args.self.now.behind in
    let is : pieces_of s items ≡ v = ap (λ (k : Chunked). k.before) c.self.view_is in
    let rest : pieces_of s ys ≡ u = ap (λ (k : Chunked). k.behind) c.self.view_is in
    let split : items ≡ xs ++ w ∷ [] = c.in-Some.ensures.items in
    let tied : IsTied s (xs ++ w ∷ ys) = tied_middle s items xs ys w split c.self.invariant.0 in
    let t : Shelves = c.grow.new.shelf in
    let there : 1 ≤ references_to (under s w.key) = refs_here s xs ys w tied in
    let set : SetsOnly s t w.key (appended (under s w.key) []) = subst (λ (b : Bool). SetsOnly s t w.key (appended (under s w.key) (cond b c.args.bytes.now []))) c.if-grow.false c.grow.ensures.slots in
    let ext : Extends s t (xs ++ w ∷ ys) = grown_extends s t (xs ++ w ∷ ys) w.key [] tied there set in
    ap (pieces_of t) (c.push_back_reserved-2.ensures.behind ∙ c.pop_back.ensures.behind) ∙ ap (drop 1) (pieces_right s t xs (w ∷ ys) ext tied.on) ∙ rest

pub returns-clause-blocks : goal.returns-clause-blocks
returns-clause-blocks c =
    let s : Shelves = c.self.inside.shelf in
    let items : List Laid = c.self.inside.list.before in
    let ys : List Laid = c.self.inside.list.behind in
    let xs : List Laid = c.pop_back.new.self.before in
    let w : Laid = c.in-Some.last in
    let v : List Piece = c.args.self.now.before in
    let u : List Piece = c.args.self.now.behind in
    let is : pieces_of s items ≡ v = ap (λ (k : Chunked). k.before) c.self.view_is in
    let rest : pieces_of s ys ≡ u = ap (λ (k : Chunked). k.behind) c.self.view_is in
    let split : items ≡ xs ++ w ∷ [] = c.in-Some.ensures.items in
    let tied : IsTied s (xs ++ w ∷ ys) = tied_middle s items xs ys w split c.self.invariant.0 in
    let t : Shelves = c.grow.new.shelf in
    let there : 1 ≤ references_to (under s w.key) = refs_here s xs ys w tied in
    let set : SetsOnly s t w.key (appended (under s w.key) []) = subst (λ (b : Bool). SetsOnly s t w.key (appended (under s w.key) (cond b c.args.bytes.now []))) c.if-grow.false c.grow.ensures.slots in
    let ext : Extends s t (xs ++ w ∷ ys) = grown_extends s t (xs ++ w ∷ ys) w.key [] tied there set in
    grown_count s t (xs ++ w ∷ ys) w.key [] tied there set ∙ ap (λ (k : Chunked). k.blocks) c.self.view_is
