-- The words of the command line, and what they ask for.
use Rattle.std.specs.Prelude.{ℕ, ◌≤◌, Bool, false, cond, ◌&&◌, nat_le, bytes_eq, List, [], ◌∷◌, Option, None, Some, unwrap_or, codes}
use Rattle.px_ctl.specs.Number.{number_in, in_64_bits}
use Rattle.px_ctl.specs.Words.{is_ctl}
use Rattle.px_app.specs.declared.words.Words.{Words}
use Rattle.px_app.specs.declared.words.Words.TheVariants as words
use Rattle.px_app.specs.View.{Shown, Records, Raw, Summary, shown_of}

-- ---- commands

-- what the words ask for: a replay that shows this, a replay with monitors, with a sample cache, or with ramps over these frames, a conversion, a
-- session generated from a number and a count, serving, or a control client; none of these for other words
pub data Command : Type 0 where
  Replay : Shown → Command
  Monitor : Command
  Samples : Command
  Ramp : ℕ → Command
  Convert : Command
  Gen : ℕ → ℕ → Command
  Serve : Command
  Control : Command
  Other : Command

abbrev pub MOST_STEPS : ℕ
MOST_STEPS = 1000000

abbrev pub gen_of : Option ℕ → Option ℕ → Option Command
gen_of None count = None
gen_of (Some number) None = None
gen_of (Some number) (Some count) = cond (nat_le count MOST_STEPS) (Some (Gen number count)) None

abbrev pub LONGEST_RAMP : ℕ
LONGEST_RAMP = 65536

abbrev pub ramp_of : Option ℕ → Option Command
ramp_of None = None
ramp_of (Some frames) = cond (nat_le 1 frames && nat_le frames LONGEST_RAMP) (Some (Ramp frames)) None

-- replay, summary or convert
abbrev pub of_one : List ℕ → Option Command
of_one word =
    cond (bytes_eq word (codes "replay")) (Some (Replay Records))
    (cond (bytes_eq word (codes "summary")) (Some (Replay Summary))
    (cond (bytes_eq word (codes "convert")) (Some Convert) None))

-- replay --monitor or replay --samples
abbrev pub of_two : List ℕ → List ℕ → Option Command
of_two first second =
    cond (bytes_eq first (codes "replay") && bytes_eq second (codes "--monitor")) (Some Monitor)
    (cond (bytes_eq first (codes "replay") && bytes_eq second (codes "--samples")) (Some Samples) None)

-- replay --raw SINK, replay --ramp FRAMES, or gen NUMBER COUNT
abbrev pub of_three : List ℕ → List ℕ → List ℕ → Option Command
of_three first second third =
    cond (bytes_eq first (codes "replay") && bytes_eq second (codes "--raw")) (Some (Replay (Raw third)))
    (cond (bytes_eq first (codes "replay") && bytes_eq second (codes "--ramp")) (ramp_of (in_64_bits (number_in third)))
    (cond (bytes_eq first (codes "gen")) (gen_of (in_64_bits (number_in second)) (in_64_bits (number_in third))) None))

-- what words that begin with neither `serve` nor `ctl` ask for, if they ask for anything
abbrev pub meaning_in : List (List ℕ) → Option Command
meaning_in [] = None
meaning_in (a ∷ []) = of_one a
meaning_in (a ∷ b ∷ []) = of_two a b
meaning_in (a ∷ b ∷ c ∷ []) = of_three a b c
meaning_in (a ∷ b ∷ c ∷ d ∷ more) = None

-- the same, as the code has them
abbrev pub meaning_of : Words → Command
meaning_of (words.Replay view) = Replay (shown_of view)
meaning_of words.Monitor = Monitor
meaning_of words.Samples = Samples
meaning_of (words.Ramp frames) = Ramp frames
meaning_of words.Convert = Convert
meaning_of (words.Gen number count) = Gen number count

-- the frames of ramps, if the words ask for these, are as many as ramps can have
abbrev pub HasRamp : Words → Type 0
HasRamp (words.Replay view) = Unit {0}
HasRamp words.Monitor = Unit {0}
HasRamp words.Samples = Unit {0}
HasRamp (words.Ramp frames) = (1 ≤ frames) × (frames ≤ LONGEST_RAMP)
HasRamp words.Convert = Unit {0}
HasRamp (words.Gen number count) = Unit {0}

-- words that begin with `serve`
abbrev pub is_serve : List (List ℕ) → Bool
is_serve [] = false
is_serve (word ∷ words) = bytes_eq word (codes "serve")

-- what the words ask for, where they are those of neither `serve` nor `ctl`
abbrev pub alone_in : List (List ℕ) → Command
alone_in texts = unwrap_or (meaning_in texts) Other

abbrev pub command_in : List (List ℕ) → Command
command_in texts = cond (is_serve texts) Serve (cond (is_ctl texts) Control (alone_in texts))
