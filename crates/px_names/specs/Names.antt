-- The look-up of the sink that a packet names, and the names that a server holds.
use Rattle.std.specs.Prelude.{ℕ, Bool, cond, nat_eq, nat_lt, List, length, codes, Option, None, Some, Result, Ok, Err}
use Rattle.std.specs.Cmp.Lexicographic.{pointwise}
use Rattle.std.specs.List.{position}
use Rattle.px_types.specs.declared.ids.SinkId.{SinkId}
use Rattle.px_types.specs.declared.error_code.ErrorCode.{ErrorCode}
use Rattle.px_types.specs.declared.error_code.ErrorCode.TheVariants.{Invalid, NoEntity}
use Rattle.px_names.specs.declared.client.Client.{Client}

-- the server's cookie, the names of its sinks in order, its default sink, the name of the default source, where the server tells one, and its
-- clients in order of connecting
pub record Naming : Type 0 where
  pub cookie : List ℕ
  pub sinks : List (List ℕ)
  pub fallback : SinkId
  pub source : Option (List ℕ)
  pub clients : List Client

-- the index that names no sink
abbrev pub NO_INDEX : ℕ
NO_INDEX = 0xFFFFFFFF

-- the name that always names the default sink
abbrev pub DEFAULT_NAME : List ℕ
DEFAULT_NAME = codes "@DEFAULT_SINK@"

abbrev pub same_text : List ℕ → List ℕ → Bool
same_text a b = pointwise nat_eq a b

-- the sink at a place, where there is one
abbrev pub sink_or_none : Option ℕ → Result SinkId ErrorCode
sink_or_none None = Err NoEntity
sink_or_none (Some place) = Ok (record { 0 = place })

-- the sink with an index
abbrev pub sink_at : Naming → ℕ → Result SinkId ErrorCode
sink_at names index = sink_or_none (cond (nat_lt index (length names.sinks)) (Some index) None)

-- the sink with a name
abbrev pub sink_called : Naming → List ℕ → Result SinkId ErrorCode
sink_called names name = cond (same_text name DEFAULT_NAME)
    (Ok names.fallback)
    (sink_or_none (position (λ sink. same_text sink name) names.sinks))

-- the sink of a packet that gives neither index nor name: the default sink where `fallback` allows it
abbrev pub sink_unnamed : Naming → Bool → Result SinkId ErrorCode
sink_unnamed names fallback = cond fallback (Ok names.fallback) (Err Invalid)

-- the sink that a packet names by an index and a name; both at once are refused, as is neither where `fallback` is false
abbrev pub sink_named : Naming → ℕ → Option (List ℕ) → Bool → Result SinkId ErrorCode
sink_named names index None fallback = cond (nat_eq index NO_INDEX) (sink_unnamed names fallback) (sink_at names index)
sink_named names index (Some name) fallback = cond (nat_eq index NO_INDEX) (sink_called names name) (Err Invalid)
