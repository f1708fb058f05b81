use Rattle.std.proofs.Common.{◌≡◌, ◌+◌, ℕ, ap, sym, subst, ◌∙◌, List, ◌∷◌, [], ◌++◌, Some, None, arith, length, length-append}
use Rattle.std.specs.Prelude.{Result, IfOk}
use Rattle.px_block.specs.HeldBlock.{HeldBlock}
use Rattle.px_block.specs.Shelved.{Shelves, under, SetsOnly}
use Rattle.px_queue.specs.Laid.{Laid, Chunked, IsTied, pieces_of, piece_of}
use Rattle.px_queue.specs.Pieces.{Piece}
use Rattle.px_queue.proofs.Numbered.{tied_whole, more_map}
use Rattle.px_queue.proofs.Growing.{tied_laid, laid_left, laid_right, laid_here, laid_count}
use Rattle.px_queue.proofs.chunks.Chunks.lay.Goals as goal

pub invariant_of-self : goal.invariant_of-self
invariant_of-self c =
    let s : Shelves = c.self.inside.shelf in
    let items : List Laid = c.self.inside.list.before in
    let ys : List Laid = c.self.inside.list.behind in
    let v : List Piece = c.args.self.now.before in
    let u : List Piece = c.args.self.now.behind in
    let is : pieces_of s items ≡ v = ap (λ (k : Chunked). k.before) c.self.view_is in
    let rest : pieces_of s ys ≡ u = ap (λ (k : Chunked). k.behind) c.self.view_is in
    let t : Shelves = c.put.new.self in
    let d : Laid = c.new.result in
    let bytes : List ℕ = c.args.block.bytes in
    let key : d.key ≡ c.unwrap-key.result = ap (λ (x : Laid). x.key) c.new.ensures in
    let free : under s d.key ≡ None = subst (λ (k : ℕ). under s k ≡ None) (sym key) (subst (λ (r : Result ℕ HeldBlock). IfOk r (λ k. under s k ≡ None)) c.unwrap-key.ensures c.put.ensures.free) in
    let set : SetsOnly s t d.key (Some (record { bytes = bytes; references = 1 })) = subst (λ (k : ℕ). SetsOnly s t k (Some (record { bytes = bytes; references = 1 }))) (sym key)
    (subst (λ (r : Result ℕ HeldBlock). IfOk r (λ k. SetsOnly s t k (Some (record { bytes = bytes; references = 1 })))) c.unwrap-key.ensures c.put.ensures.ok) in
    let len : d.len ≡ length bytes = ap (λ (x : Laid). x.len) c.new.ensures ∙ ap length c.bytes.ensures.bytes in
    let whole : (d.place ≡ 0) × (d.len ≡ length bytes) = (ap (λ (x : Laid). x.place) c.new.ensures, len) in
    let tied : IsTied t (items ++ d ∷ ys) = tied_laid s t items ys d bytes c.self.invariant.0 free set whole in (
      subst (λ (zs : List Laid). IsTied t (c.push_back_reserved.new.self.before ++ zs)) (sym c.push_back_reserved.ensures.behind)
          (tied_whole t c.push_back_reserved.new.self.before items ys d c.push_back_reserved.ensures.items tied),
      omega (arith, c.self.invariant.1, ap length c.push_back_reserved.ensures.behind, ap (λ (k : Chunked). k.room) c.self.view_is, c.requires.room, c.push_back_reserved.ensures.capacity, ap length c.push_back_reserved.ensures.items, length-append items (d ∷ [])),
    )

pub returns-clause-before : goal.returns-clause-before
returns-clause-before c =
    let s : Shelves = c.self.inside.shelf in
    let items : List Laid = c.self.inside.list.before in
    let ys : List Laid = c.self.inside.list.behind in
    let v : List Piece = c.args.self.now.before in
    let u : List Piece = c.args.self.now.behind in
    let is : pieces_of s items ≡ v = ap (λ (k : Chunked). k.before) c.self.view_is in
    let rest : pieces_of s ys ≡ u = ap (λ (k : Chunked). k.behind) c.self.view_is in
    let t : Shelves = c.put.new.self in
    let d : Laid = c.new.result in
    let bytes : List ℕ = c.args.block.bytes in
    let key : d.key ≡ c.unwrap-key.result = ap (λ (x : Laid). x.key) c.new.ensures in
    let free : under s d.key ≡ None = subst (λ (k : ℕ). under s k ≡ None) (sym key) (subst (λ (r : Result ℕ HeldBlock). IfOk r (λ k. under s k ≡ None)) c.unwrap-key.ensures c.put.ensures.free) in
    let set : SetsOnly s t d.key (Some (record { bytes = bytes; references = 1 })) = subst (λ (k : ℕ). SetsOnly s t k (Some (record { bytes = bytes; references = 1 }))) (sym key)
    (subst (λ (r : Result ℕ HeldBlock). IfOk r (λ k. SetsOnly s t k (Some (record { bytes = bytes; references = 1 })))) c.unwrap-key.ensures c.put.ensures.ok) in
    let len : d.len ≡ length bytes = ap (λ (x : Laid). x.len) c.new.ensures ∙ ap length c.bytes.ensures.bytes in
    let whole : (d.place ≡ 0) × (d.len ≡ length bytes) = (ap (λ (x : Laid). x.place) c.new.ensures, len) in
    more_map t c.push_back_reserved.new.self.before items d c.push_back_reserved.ensures.items
    ∙ ap (λ (ps : List Piece). ps ++ piece_of t d ∷ []) (laid_left s t items ys d bytes c.self.invariant.0 free set whole ∙ is)
    ∙ ap (λ (p : Piece). v ++ p ∷ []) (laid_here s t items ys d bytes c.self.invariant.0 free set whole ∙ ap (λ (n : ℕ). record { at = n; bytes = bytes }) (ap (λ (x : Laid). x.at) c.new.ensures))

pub returns-clause-behind : goal.returns-clause-behind
returns-clause-behind c =
    let s : Shelves = c.self.inside.shelf in
    let items : List Laid = c.self.inside.list.before in
    let ys : List Laid = c.self.inside.list.behind in
    let v : List Piece = c.args.self.now.before in
    let u : List Piece = c.args.self.now.behind in
    let is : pieces_of s items ≡ v = ap (λ (k : Chunked). k.before) c.self.view_is in
    let rest : pieces_of s ys ≡ u = ap (λ (k : Chunked). k.behind) c.self.view_is in
    let t : Shelves = c.put.new.self in
    let d : Laid = c.new.result in
    let bytes : List ℕ = c.args.block.bytes in
    let key : d.key ≡ c.unwrap-key.result = ap (λ (x : Laid). x.key) c.new.ensures in
    let free : under s d.key ≡ None = subst (λ (k : ℕ). under s k ≡ None) (sym key) (subst (λ (r : Result ℕ HeldBlock). IfOk r (λ k. under s k ≡ None)) c.unwrap-key.ensures c.put.ensures.free) in
    let set : SetsOnly s t d.key (Some (record { bytes = bytes; references = 1 })) = subst (λ (k : ℕ). SetsOnly s t k (Some (record { bytes = bytes; references = 1 }))) (sym key)
    (subst (λ (r : Result ℕ HeldBlock). IfOk r (λ k. SetsOnly s t k (Some (record { bytes = bytes; references = 1 })))) c.unwrap-key.ensures c.put.ensures.ok) in
    let len : d.len ≡ length bytes = ap (λ (x : Laid). x.len) c.new.ensures ∙ ap length c.bytes.ensures.bytes in
    let whole : (d.place ≡ 0) × (d.len ≡ length bytes) = (ap (λ (x : Laid). x.place) c.new.ensures, len) in
    ap (pieces_of t) c.push_back_reserved.ensures.behind ∙ laid_right s t items ys d bytes c.self.invariant.0 free set whole ∙ rest

pub returns-clause-blocks : goal.returns-clause-blocks
returns-clause-blocks c =
    let s : Shelves = c.self.inside.shelf in
    let items : List Laid = c.self.inside.list.before in
    let ys : List Laid = c.self.inside.list.behind in
    let v : List Piece = c.args.self.now.before in
    let u : List Piece = c.args.self.now.behind in
    let is : pieces_of s items ≡ v = ap (λ (k : Chunked). k.before) c.self.view_is in
    let rest : pieces_of s ys ≡ u = ap (λ (k : Chunked). k.behind) c.self.view_is in
    let t : Shelves = c.put.new.self in
    let d : Laid = c.new.result in
    let bytes : List ℕ = c.args.block.bytes in
    let key : d.key ≡ c.unwrap-key.result = ap (λ (x : Laid). x.key) c.new.ensures in
    let free : under s d.key ≡ None = subst (λ (k : ℕ). under s k ≡ None) (sym key) (subst (λ (r : Result ℕ HeldBlock). IfOk r (λ k. under s k ≡ None)) c.unwrap-key.ensures c.put.ensures.free) in
    let set : SetsOnly s t d.key (Some (record { bytes = bytes; references = 1 })) = subst (λ (k : ℕ). SetsOnly s t k (Some (record { bytes = bytes; references = 1 }))) (sym key)
    (subst (λ (r : Result ℕ HeldBlock). IfOk r (λ k. SetsOnly s t k (Some (record { bytes = bytes; references = 1 })))) c.unwrap-key.ensures c.put.ensures.ok) in
    let len : d.len ≡ length bytes = ap (λ (x : Laid). x.len) c.new.ensures ∙ ap length c.bytes.ensures.bytes in
    let whole : (d.place ≡ 0) × (d.len ≡ length bytes) = (ap (λ (x : Laid). x.place) c.new.ensures, len) in
    laid_count s t items ys d bytes c.self.invariant.0 free set whole ∙ ap (λ (k : Chunked). k.blocks + 1) c.self.view_is
