-- The inputs of a group.
use Rattle.std.specs.Prelude.{ℕ, List, map, filter}
use Rattle.px_types.specs.declared.ids.InputId.{InputId}
use Rattle.px_flat.specs.declared.member.Member.{Member}
use Rattle.px_flat.specs.Member.{is_input, channels_of}

-- for each member with an input's index, how many channels its stream has
abbrev pub channels_in : List Member → InputId → List ℕ
channels_in members input = map (λ m. channels_of (Member.feed m)) (filter (is_input input) members)
