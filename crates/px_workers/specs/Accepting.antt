-- What a serving call holds while the workers of its sinks start, and while it admits clients.
use Rattle.std.specs.Prelude.{◌≡◌, ℕ, ◌+◌, ◌≤◌, ◌++◌, List, length}
use Rattle.px_ends.specs.Host.{HostState}
use Rattle.px_workers.specs.Hosted.{IsLater}

-- a call whose sinks' workers start: its shares in the core's steps, its clients, the sinks that have a worker, those that have none and the room for
-- these, and its host
pub record Starting (X Y D R C : Type 0) : Type 0 where
  pub parts : ℕ
  pub clients : Y
  pub sinks : List X
  pub idle : List X
  pub capacity : ℕ
  pub host : HostState D R C

-- a call that admits clients: its shares in the core's steps, the number of its clients, its sinks, and its host
pub record Accepting (X D R C : Type 0) : Type 0 where
  pub parts : ℕ
  pub clients : ℕ
  pub sinks : X
  pub host : HostState D R C

-- workers have started, in the order of the sinks, each with a share; the clients are the same, no count of the host has fallen, and what it has lent
-- is the same
pub record Starts {X Y D R C : Type 0} (before after : Starting X Y D R C) : Type 0 where
  pub parts : after.parts + length before.idle ≡ before.parts + length after.idle
  pub clients : after.clients ≡ before.clients
  pub all : after.sinks ++ after.idle ≡ before.sinks ++ before.idle
  pub capacity : after.capacity ≡ before.capacity
  pub later : IsLater before.host after.host
  pub lent : after.host.lent ≡ before.host.lent

module _ {X D R C : Type 0} where
  -- there is a share for each client that may still come, and there are no more clients than links were handed out
  pub record HasRoom (c : Accepting X D R C) : Type 0 where
    pub seats : 65536 ≤ c.parts + c.clients
    pub few : c.clients ≤ c.host.links

  -- clients have come and gone, each with a share; there are no more than links were handed out, no count of the host has fallen, and what it has
  -- lent is the same
  pub record Takes (before after : Accepting X D R C) : Type 0 where
    pub parts : after.parts + after.clients ≡ before.parts + before.clients
    pub few : after.clients ≤ after.host.links
    pub sinks : after.sinks ≡ before.sinks
    pub later : IsLater before.host after.host
    pub lent : after.host.lent ≡ before.host.lent
