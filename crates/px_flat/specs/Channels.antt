-- Per-channel numbers of a stream or a sink.
use Rattle.std.specs.Prelude.{ℕ, ◌==◌, List, map, length, get_or, max, nat_eq, ◌||◌, if◌then◌else◌}
use Rattle.std.specs.List.{fold, range_with_len}
use Rattle.px_vol.specs.Volume.{product_of, quotient_of}

-- a list of n channels, each with its number
abbrev pub per_channel : ℕ → (ℕ → ℕ) → List ℕ
per_channel channels number = map number (range_with_len 0 channels)

-- the number of a channel
abbrev pub at : List ℕ → ℕ → ℕ
at numbers channel = get_or numbers channel 0

-- the greatest of some numbers, 0 where there are none
abbrev pub greatest_of : List ℕ → ℕ
greatest_of numbers = fold max 0 numbers

-- ---- a sink's volumes as a stream's

-- the value of a sink's volumes for a stream's channel: the greatest over the sink's channels that it feeds
abbrev pub value_for : List ℕ → List ℕ → ℕ → ℕ
value_for feed volumes channel =
    greatest_of (per_channel (length feed) (λ s. if at feed s == channel then at volumes s else 0))

-- the same for all of its channels
abbrev pub values_for : List ℕ → List ℕ → ℕ → List ℕ
values_for feed volumes channels = per_channel channels (value_for feed volumes)

-- ---- channel by channel

-- one volume is used for all channels
abbrev pub widened : List ℕ → ℕ → List ℕ
widened volumes channels = per_channel channels (λ c. if length volumes == 1 then at volumes 0 else at volumes c)

-- the product, per channel
abbrev pub products_of : List ℕ → List ℕ → List ℕ
products_of ratios volumes = per_channel (length ratios) (λ c. product_of (at ratios c) (at volumes c))

-- the greater, per channel
abbrev pub raised_to : List ℕ → List ℕ → List ℕ
raised_to volumes others = per_channel (length volumes) (λ c. max (at volumes c) (at others c))

-- the ratio of a volume to a base; unchanged where the base is 0, or where it already gives the volume
abbrev pub ratio_after : ℕ → ℕ → ℕ → ℕ
ratio_after ratio volume base =
    if nat_eq base 0 || nat_eq (product_of ratio base) volume then ratio else quotient_of volume base

abbrev pub ratios_after : List ℕ → List ℕ → List ℕ → List ℕ
ratios_after ratios volumes bases =
    per_channel (length ratios) (λ c. ratio_after (at ratios c) (at volumes c) (at bases c))
