-- Channel maps: the speaker positions of a stream or a sink, one a channel.
use Rattle.std.specs.Prelude.{ℕ, List, ◌≤◌, ◌<◌, length, All}

-- 1 to 32 channels, each at one of the 51 positions of PulseAudio, which are numbered from 0
pub record IsChannelMap (positions : List ℕ) : Type 0 where
  pub some : 0 < length positions
  pub few : length positions ≤ 32
  pub known : All (λ p. p ≤ 50) positions
