-- The kept sums of all channels of a sink.
use Rattle.std.specs.Prelude.{◌≡◌, ℕ, ℤ, pos, ◌-◌, ◌*◌, ◌<◌, List, [], ◌++◌, take, drop, replicate, length, slice_index, slice_index_or}
use Rattle.px_kernel.specs.Kernel.{at}
use Rattle.px_mixcache.specs.Run.{KeptRun, share_from}

-- the sums of all channels
abbrev pub run_at : List KeptRun → ℕ → KeptRun
run_at runs channel = slice_index_or runs channel (record { depth = 0; sums = [] })

-- how many frames may be held, how many are, and the run of each channel
pub record KeptSums : Type 0 where
  pub depth : ℕ
  pub frames : ℕ
  pub runs : List KeptRun

-- the sum of a channel at frame k, counted from the first held frame; past the last it is 0
abbrev pub kept_at : KeptSums → ℕ → ℕ → ℤ
kept_at c channel k = at (run_at c.runs channel).sums k

-- the values of one channel, where `values` has `len` values of each channel, one channel after the other
abbrev pub run_of : ℕ → List ℤ → ℕ → List ℤ
run_of len values channel = take len (drop (channel * len) values)

-- the share to add to sum k of a channel, or subtract, where its values begin at frame `from`
abbrev pub part_at : ℕ → ℕ → List ℤ → List ℕ → ℕ → ℕ → ℤ
part_at from len values factors channel k = share_from from (run_of len values channel) (slice_index factors channel) k

-- a run without its first `frames` frames
abbrev pub run_advanced : ℕ → KeptRun → KeptRun
run_advanced frames run = record run { sums = drop frames run.sums }

-- a run extended to `to` frames with silence
abbrev pub run_extended : ℕ → KeptRun → KeptRun
run_extended to run = record run { sums = run.sums ++ replicate (to - length run.sums) (pos 0) }

-- each run has room for `depth` frames, and holds `frames`
pub record AreLong (depth frames : ℕ) (runs : List KeptRun) : Type 0 where
  pub deep : (c : ℕ) → c < length runs → (run_at runs c).depth ≡ depth
  pub long : (c : ℕ) → c < length runs → length (run_at runs c).sums ≡ frames
