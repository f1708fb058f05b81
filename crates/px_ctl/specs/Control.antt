-- What a control client does with its input, its output and its host.
use Rattle.std.specs.Prelude.{◌≡◌, ◌⊎◌, ℕ, ◌<◌, List, length, take, Option, Result, Ok, Err}
use Rattle.px_types.specs.Faults.{Rose}
use Rattle.px_ends.specs.Links.{LinkCounts, no_counts}
use Rattle.px_ends.specs.Visible.{before_taking, IsAtEnd}
use Rattle.px_ends.specs.Host.{HostState, DialState, FailsOnce, HangsUp, one_given}
use Rattle.px_client.specs.declared.errand.Errand.{Errand}
use Rattle.px_client.specs.declared.end.ClientEnd.{ClientEnd}
use Rattle.px_client.specs.declared.end.ClientEnd.TheVariants as ends
use Rattle.px_client.specs.Causes.{RoseBy, PATIENCE}
use Rattle.px_client.specs.Outcome.{LinkState, Runs}
use Rattle.px_ctl.specs.declared.end.ControlEnd.{ControlEnd}
use Rattle.px_ctl.specs.declared.end.ControlEnd.TheVariants.{Refused, ReadFault, Ended}

-- ---- the cookie

-- the input was a cookie of 256 bytes, and nothing more
pub record IsCookie (cookie : List ℕ) (left left' : Option (List ℕ)) : Type 0 where
  pub size : length cookie ≡ 256
  pub read : left ≡ before_taking cookie left'
  pub end : IsAtEnd left'

-- of the input one byte more than a cookie has was read; or all of it, which is shorter
pub record IsNoCookie (at : ℕ) (left left' : Option (List ℕ)) : Type 0 where
  pub bytes : List ℕ
  pub read : left ≡ before_taking bytes left'
  pub size : ((length bytes ≡ 257) × (at ≡ 256)) ⊎ ((length bytes ≡ at) × (at < 256) × IsAtEnd left')

-- a read failed, after some bytes or none
pub record IsUnread (left left' : Option (List ℕ)) (faults faults' : ℕ) : Type 0 where
  pub bytes : List ℕ
  pub read : left ≡ before_taking bytes left'
  pub failed : Rose faults faults'

-- the cookie is in the front of a buffer; or there is none
abbrev pub ReadsCookie : {X : Type 0} → Result X ControlEnd → List ℕ → Option (List ℕ) → Option (List ℕ) → ℕ → ℕ → Type 0
ReadsCookie (Ok x) buffer left left' faults faults' = IsCookie (take 256 buffer) left left' × (faults' ≡ faults)
ReadsCookie (Err (Refused at)) buffer left left' faults faults' = IsNoCookie at left left' × (faults' ≡ faults)
ReadsCookie (Err ReadFault) buffer left left' faults faults' = IsUnread left left' faults faults'
ReadsCookie (Err (Ended end)) buffer left left' faults faults' = ⊥

-- ---- the call

-- a link as the client sees it
abbrev pub link_state : {L : Type 0} → (L → Option (List ℕ)) → (L → Option (List ℕ)) → (L → LinkCounts) → L → LinkState
link_state left sent counts link = record { left = left link; sent = sent link; counts = counts link }

-- the output, the host, and the links that it dialled
pub record Sides (D R C L : Type 0) : Type 0 where
  pub held : Option (List ℕ)
  pub faults : ℕ
  pub host : HostState D R C
  pub dialled : DialState L

module _ {D R C L : Type 0} where
  -- nothing was written, and no link given
  pub record IsUncalled (before after : Sides D R C L) : Type 0 where
    pub held : after.held ≡ before.held
    pub faults : after.faults ≡ before.faults
    pub dialled : after.dialled ≡ before.dialled

  -- there was no memory for a link, or the connect failed
  abbrev pub HasNoLink : ClientEnd → Sides D R C L → Sides D R C L → Type 0
  HasNoLink ends.Memory before after = (after.host ≡ before.host) × IsUncalled before after
  HasNoLink ends.Host before after = FailsOnce before.host after.host × IsUncalled before after
  HasNoLink _ before after = ⊥

  -- what the counts show of an end: the link's are added to the host's when it takes the link back
  abbrev pub Counted : ClientEnd → Sides D R C L → Sides D R C L → Type 0
  Counted ends.Host before after = Rose before.host.faults after.host.faults ⊎ Rose before.dialled.link_faults after.dialled.link_faults
  Counted ends.Gone before after = Rose before.dialled.ends after.dialled.ends
  Counted ends.Silent before after = RoseBy PATIENCE before.dialled.not_yets after.dialled.not_yets
  Counted ends.WriteFault before after = Rose before.faults after.faults
  Counted _ before after =
      (after.host.faults ≡ before.host.faults) × (after.dialled.link_faults ≡ before.dialled.link_faults) × (after.dialled.ends ≡ before.dialled.ends)
      × (after.faults ≡ before.faults)

module _ {D R C L : Type 0} (left sent : L → Option (List ℕ)) (counts : L → LinkCounts) where
  -- the host connected, the client ran over the link, and the host took it back
  pub record RunsOver (end : ClientEnd) (cookie : List ℕ) (errand : Errand) (before after : Sides D R C L) : Type 0 where
    pub link : L
    pub link_after : L
    pub unused : counts link ≡ no_counts
    pub runs : Runs end cookie errand (link_state left sent counts link) (link_state left sent counts link_after) before.held after.held before.faults after.faults
    pub hung : HangsUp (counts link_after) link_after (one_given before.dialled) after.dialled
    pub host : after.host ≡ before.host

  -- a client with a cookie, over a link that the host dialled, where it did
  pub record Calls (end : ClientEnd) (cookie : List ℕ) (errand : Errand) (before after : Sides D R C L) : Type 0 where
    pub does : RunsOver end cookie errand before after ⊎ HasNoLink end before after
    pub counted : Counted end before after

  -- the command: the input is the cookie of a client, or there is none
  abbrev pub Controls : ControlEnd → Errand → Option (List ℕ) → Option (List ℕ) → ℕ → ℕ → Sides D R C L → Sides D R C L → Type 0
  Controls (Refused at) errand unread unread' faults faults' before after = IsNoCookie at unread unread' × (faults' ≡ faults) × (after ≡ before)
  Controls ReadFault errand unread unread' faults faults' before after = IsUnread unread unread' faults faults' × (after ≡ before)
  Controls (Ended end) errand unread unread' faults faults' before after =
      (cookie : List ℕ) × IsCookie cookie unread unread' × (faults' ≡ faults) × Calls end cookie errand before after
