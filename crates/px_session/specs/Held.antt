-- The bytes of its source that a reader holds.
use Rattle.std.specs.Prelude.{◌≡◌, ℕ, ◌≤◌, List, ◌++◌, length, Option, Result, Ok, Err}
use Rattle.px_ends.specs.Visible.{before_taking, IsAtEnd}
use Rattle.px_types.specs.Faults.{Rose}
use Rattle.px_session.specs.declared.held.More.{More}
use Rattle.px_session.specs.declared.held.More.TheVariants.{Came, Ended}
use Rattle.px_session.specs.declared.fault.ReadError.{ReadError}
use Rattle.px_session.specs.declared.fault.ReadError.TheVariants as error

-- some bytes left the source, and are held after the others
pub record Comes (old new : List ℕ) (before after : Option (List ℕ)) : Type 0 where
  pub bytes : List ℕ
  pub some : 1 ≤ length bytes
  pub held : new ≡ old ++ bytes
  pub departed : before ≡ before_taking bytes after

-- nothing changed
pub record Stays (old new : List ℕ) (before after : Option (List ℕ)) : Type 0 where
  pub held : new ≡ old
  pub left : after ≡ before

abbrev pub MoreGives : Result More ReadError → List ℕ → List ℕ → Option (List ℕ) → Option (List ℕ) → Type 0
MoreGives (Ok Came) old new before after = Comes old new before after
MoreGives (Ok Ended) old new before after = Stays old new before after × IsAtEnd after
MoreGives (Err e) old new before after = Stays old new before after

-- the count of faults rises where a read failed, and only there
abbrev pub FailsCount : ReadError → ℕ → ℕ → Type 0
FailsCount error.Failed before now = Rose before now
FailsCount (error.Refused at cause) before now = now ≡ before
FailsCount error.NoMemory before now = now ≡ before

abbrev pub ReadCounts : {A : Type 0} → Result A ReadError → ℕ → ℕ → Type 0
ReadCounts (Ok x) before now = now ≡ before
ReadCounts (Err e) before now = FailsCount e before now

-- asking for more bytes never answers `Refused`
abbrev pub IsNoRefusal : ReadError → Type 0
IsNoRefusal (error.Refused at cause) = ⊥
IsNoRefusal error.Failed = Unit {0}
IsNoRefusal error.NoMemory = Unit {0}
