-- What is made for the sinks of a header.
use Rattle.std.specs.Prelude.{◌≡◌, ℕ, ◌+◌, Bool, List, [], ◌∷◌, ◌++◌}
use Rattle.px_types.specs.declared.ids.SinkId.{SinkId}
use Rattle.px_header.specs.declared.header.SinkSpec.{SinkSpec}
use Rattle.px_core_cell.specs.declared.ends.CoreEnd.{CoreEnd}
use Rattle.px_core_cell.specs.Boxes.{boxes_of}
use Rattle.px_core_cell.specs.Cell.{ends_of}
use Rattle.px_core_cell.specs.History.{fresh_ends}
use Rattle.px_workers.specs.Working.{Unworked, start_of, tapes_in}
use Rattle.px_server.specs.Mailboxes.{boxes_in}
use Rattle.px_server.specs.Parts.{start_for}

module _ {D E : Type 0} (taped : Bool) where
  -- for the entry with index `index`: a sink that begins as the entry says and records its turns where there is a tape, and the core's ends of its
  -- mailboxes, which are unused
  pub record IsMade (index : SinkId) (sink : SinkSpec) (one : Unworked D E) (end : CoreEnd) : Type 0 where
    pub start : start_of one ≡ start_for index sink
    pub fresh : ends_of end ≡ fresh_ends sink
    pub boxes : boxes_in one ≡ boxes_of end
    pub tapes : tapes_in one ≡ taped

  -- those for all entries, in order, the first of which has this index
  abbrev pub AreMade : ℕ → List SinkSpec → List (Unworked D E) → List CoreEnd → Type 0
  AreMade index [] idle ends = (idle ≡ []) × (ends ≡ [])
  AreMade index (s ∷ sinks) [] ends = ⊥
  AreMade index (s ∷ sinks) (one ∷ idle) [] = ⊥
  AreMade index (s ∷ sinks) (one ∷ idle) (end ∷ ends) = IsMade (record { 0 = index }) s one end × AreMade (index + 1) sinks idle ends

  -- a sink and its ends were appended
  abbrev pub AddsOne : SinkId → SinkSpec → List (Unworked D E) → List CoreEnd → List (Unworked D E) → List CoreEnd → Type 0
  AddsOne index sink idle ends more more_ends =
      (one : Unworked D E) × (end : CoreEnd) × IsMade index sink one end × (more ≡ idle ++ one ∷ []) × (more_ends ≡ ends ++ end ∷ [])

  -- those for all entries were appended
  abbrev pub AddsAll : ℕ → List SinkSpec → List (Unworked D E) → List CoreEnd → List (Unworked D E) → List CoreEnd → Type 0
  AddsAll index sinks idle ends more more_ends =
      (ones : List (Unworked D E)) × (theirs : List CoreEnd) × AreMade index sinks ones theirs × (more ≡ idle ++ ones) × (more_ends ≡ ends ++ theirs)
