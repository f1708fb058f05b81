-- The changes of a connection.
use Rattle.std.specs.Prelude.{ℕ, true, Some}
use Rattle.px_outcome.specs.declared.input.Connection.{Connection}

-- it has agreed on a version
abbrev pub authed : ℕ → Connection → Connection
authed version c = record c { version = Some version }

-- it has ended
abbrev pub marked : Connection → Connection
marked c = record c { marked = true }

-- its next stream has this number
abbrev pub with_streams : ℕ → Connection → Connection
with_streams streams c = record c { streams = streams }
