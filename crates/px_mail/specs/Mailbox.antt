-- A mailbox: the items posted are those taken followed by those it holds. One pass may post and has the list of all items posted, one may take and
-- has the list of all items taken.
use Rattle.std.specs.Prelude.{◌≡◌, ℕ, Bool, true, false, List, [], ◌∷◌, ◌++◌, Option, None, IfSome}
use mathlib.Core.Option.{some}
use lib.ListN.{get_elem?}
use Rattle.crossbeam_queue.specs.Passes.{Pass, view}
use Rattle.px_mail.specs.declared.step.Account.{Account}

-- of the calls that a pass has recorded after these, the last one failed: a take found the mailbox empty, or a post found it full
abbrev pub LastFails : List Bool → List Bool → Type 0
LastFails before after = (calls : List Bool) × (after ≡ before ++ calls ++ false ∷ [])

module _ {T : Type 0} where
  -- some of what was posted was taken, and `held` is the rest
  abbrev pub IsHeldOf : List T → List T → Type 0
  IsHeldOf posted held = (taken : List T) × (posted ≡ taken ++ held)

module _ {T K : Type 0} where
  -- ---- passes

  abbrev pub key_of : Pass T (Account T K) → Option K
  key_of p = (view p).key

  abbrev pub posted_by : Pass T (Account T K) → List T
  posted_by p = (view p).posted

  abbrev pub taken_by : Pass T (Account T K) → List T
  taken_by p = (view p).taken

  -- whether each post by this pass, in order, stored its item: false where the mailbox was full
  abbrev pub stored_by : Pass T (Account T K) → List Bool
  stored_by p = (view p).stored

  -- whether each take by this pass, in order, found an item: false where the mailbox was empty
  abbrev pub found_by : Pass T (Account T K) → List Bool
  found_by p = (view p).found

  -- ---- accounts

  abbrev pub account : Bool → Bool → Option K → List T → List T → Account T K
  account a b key posted taken = record { posts = a; takes = b; key = key; posted = posted; taken = taken; stored = []; found = [] }

  -- before there is a key: one pass may post and take, and has done neither
  abbrev pub unkeyed : Account T K
  unkeyed = account true true None [] []

  abbrev pub poster : Option K → List T → Account T K
  poster key posted = account true false key posted []

  abbrev pub taker : Option K → List T → Account T K
  taker key taken = account false true key [] taken

  -- both passes in one hand
  abbrev pub closer : Option K → List T → List T → Account T K
  closer key posted taken = account true true key posted taken

  -- it has no rights left
  abbrev pub idle : Account T K
  idle = account false false None [] []

  abbrev pub after_posting : Account T K → T → Account T K
  after_posting v item = record v { posted = v.posted ++ item ∷ []; stored = v.stored ++ true ∷ [] }

  -- a post found the mailbox full
  abbrev pub after_full : Account T K → Account T K
  after_full v = record v { stored = v.stored ++ false ∷ [] }

  abbrev pub after_taking : Account T K → T → Account T K
  after_taking v item = record v { taken = v.taken ++ item ∷ []; found = v.found ++ true ∷ [] }

  -- a take found the mailbox empty
  abbrev pub after_empty : Account T K → Account T K
  after_empty v = record v { found = v.found ++ false ∷ [] }

  -- ---- what a mailbox holds

  -- an account agrees with the mailbox
  abbrev pub Fits : ℕ → ℕ → Option K → List T → List T → ℕ → Account T K → Type 0
  Fits at_post at_take key posted taken port v =
      (v.posts ≡ true → (port ≡ at_post) × (v.key ≡ key) × (v.posted ≡ posted))
      × (v.takes ≡ true → (port ≡ at_take) × (v.key ≡ key) × (v.taken ≡ taken))

module _ {T K : Type 0} (lawful : K → List T → Type 0) where
  -- lawful under the key, once there is one
  abbrev pub IsLawful : Option K → List T → Type 0
  IsLawful key letters = IfSome key (λ k. lawful k letters)

  -- what was taken followed by some held items is lawful
  abbrev pub GoesOn : Option K → List T → Type 0
  GoesOn key taken = (held : List T) × IsLawful key (taken ++ held)

  -- what was taken is a prefix of what was posted, and all that was posted is lawful
  abbrev pub Delivered : Option K → List T → List T → Type 0
  Delivered key posted taken = (held : List T) × (posted ≡ taken ++ held) × IsLawful key posted

  -- the rule: the items posted are those taken followed by those held, all of them are lawful, at most one pass posts and one takes
  abbrev pub Delivers : List T → List (Account T K) → Type 0
  Delivers held accounts =
      (at_post : ℕ) × (at_take : ℕ) × (key : Option K) × (posted : List T) × (taken : List T)
      × (posted ≡ taken ++ held) × IsLawful key posted
      × ((port : ℕ) (v : Account T K) → get_elem? accounts port ≡ some v → Fits at_post at_take key posted taken port v)
