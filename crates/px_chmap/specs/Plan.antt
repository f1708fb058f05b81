-- The channel plan: which channel of a stream feeds each channel of a sink.
use Rattle.std.specs.Prelude.{ℕ, ◌<◌, ◌≤◌, ◌≡◌, ◌==◌, Bool, true, ◌&&◌, not, List, [], ◌∷◌, length, map, position, unwrap_or, replicate, bytes_eq, All, Contains, if◌then◌else◌}
use Rattle.std.specs.declared.option.Option.{Option}
use Rattle.std.specs.declared.option.Option.TheVariants.{Some, None}
use Rattle.std.specs.List.{list_any, list_all, range_with_len}

-- whether a map has this position
abbrev pub has_position : List ℕ → ℕ → Bool
has_position positions p = list_any (λ q. q == p) positions

-- whether no position is repeated
abbrev pub is_distinct : List ℕ → Bool
is_distinct [] = true
is_distinct (p ∷ rest) = not (has_position rest p) && is_distinct rest

-- whether both maps have distinct positions, and the same set of them
abbrev pub is_rearranged : List ℕ → List ℕ → Bool
is_rearranged from to =
    (is_distinct from && is_distinct to) && (list_all (has_position to) from && list_all (has_position from) to)

-- the channel at this position, the first where there are several
abbrev pub channel_at : List ℕ → ℕ → ℕ
channel_at positions p = unwrap_or (position (λ q. q == p) positions) 0

-- a list of n channels, each fed by the one with its index
abbrev pub by_index : ℕ → List ℕ
by_index count = range_with_len 0 count

-- the channels of `to`, each fed by the one at its position
abbrev pub by_position : List ℕ → List ℕ → List ℕ
by_position from to = map (channel_at from) to

-- the channel plan from a stream's map to a sink's, as a stream channel for each sink channel: the first of these that applies, if any does
abbrev pub plan_of : List ℕ → List ℕ → Bool → Bool → Option (List ℕ)
plan_of from to no_remap no_remix =
    if bytes_eq from to then Some (by_index (length to)) else
    if no_remap && (length from == length to) then Some (by_index (length to)) else
    if is_rearranged from to then Some (by_position from to) else
    if not no_remix && (length from == 1) then Some (replicate (length to) 0) else
    None

-- each sink channel is fed by a stream channel, and each stream channel feeds a sink channel
pub record FeedsAll (channels sinks : ℕ) (feed : List ℕ) : Type 0 where
  pub places : length feed ≡ sinks
  pub known : All (λ c. c < channels) feed
  pub none_left : (c : ℕ) → c < channels → Contains feed c

-- a stream channel for each of 1 to 32 sink channels
pub record IsFeed (feed : List ℕ) : Type 0 where
  pub some : 0 < length feed
  pub few : length feed ≤ 32
  pub known : All (λ c. c < 32) feed
