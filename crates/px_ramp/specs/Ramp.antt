-- Volume ramps: a factor that goes evenly from one number to another (PulseAudio: `pa_cvolume_ramp` of pulsecore/sink-input.h; own: its start and its
-- rounding).
use Rattle.std.specs.Prelude.{ℕ, ◌-◌, min, not, List, [], ◌∷◌, ◌++◌, map, filter, Option, Some, None, pos, ◌+ℤ◌, ◌-ℤ◌, ◌*ℤ◌, unsigned_abs, ◌==◌, if◌then◌else◌}
use Rattle.std.specs.Int.{int_div_euclid}
use Rattle.px_model.specs.Stream.{Stream}
use Rattle.px_model.specs.Message.{Message, InputFactors}
use Rattle.px_ramp.specs.declared.ramp.Ramp.{Ramp}
use Rattle.px_ramp.specs.declared.ramps.InputRamps.{InputRamps}

-- the factor at frame j of a ramp over n frames: it goes evenly from its first number to its last, rounded down, and stays there. It is never negative,
-- since it lies between the two
abbrev pub value_at : ℕ → Ramp → ℕ → ℕ
value_at n r j = unsigned_abs (pos r.from +ℤ int_div_euclid ((pos r.to -ℤ pos r.from) *ℤ pos (min (j - r.start) n)) (pos n))

-- a factor that stays
abbrev pub flat : ℕ → Ramp
flat f = record { from = f; to = f; start = 0 }

-- a ramp with a new aim f from frame h on: it starts at the value there, unless it aims at f already
abbrev pub aimed : ℕ → ℕ → ℕ → Ramp → Ramp
aimed n h f r = if r.to == f then r else record { from = value_at n r h; to = f; start = h }

-- each ramp with its new aim
abbrev pub all_aimed : ℕ → ℕ → List ℕ → List Ramp → List Ramp
all_aimed n h [] ramps = ramps
all_aimed n h (f ∷ factors) [] = []
all_aimed n h (f ∷ factors) (r ∷ ramps) = aimed n h f r ∷ all_aimed n h factors ramps

-- the ramps of input i, if it is there
abbrev pub ramps_at : ℕ → List InputRamps → Option (List Ramp)
ramps_at i [] = None
ramps_at i (x ∷ ramps) = if x.input == i then Some x.ramps else ramps_at i ramps

abbrev pub without_ramps : ℕ → List InputRamps → List InputRamps
without_ramps i ramps = filter (λ x. not (InputRamps.input x == i)) ramps

-- an input with factors that stay
abbrev pub with_flat : ℕ → List ℕ → List InputRamps → List InputRamps
with_flat i factors ramps = without_ramps i ramps ++ (record { input = i; ramps = map flat factors } ∷ [])

-- new factors for one input, which is skipped where it isn't there; and for several in order
abbrev pub with_aim : ℕ → ℕ → InputFactors → List InputRamps → List InputRamps
with_aim n h f ramps = map (λ x. if InputRamps.input x == f.input then record x { ramps = all_aimed n h f.factors (InputRamps.ramps x) } else x) ramps

abbrev pub with_aims : ℕ → ℕ → List InputFactors → List InputRamps → List InputRamps
with_aims n h [] ramps = ramps
with_aims n h (f ∷ each) ramps = with_aims n h each (with_aim n h f ramps)

-- the ramps after a message that a sink takes at horizon h; a parcel has none
abbrev pub ramps_with : ℕ → ℕ → Message Stream → List InputRamps → List InputRamps
ramps_with n h (Message.new new) ramps = with_flat new.input new.factors ramps
ramps_with n h (Message.attach i parcel feed factors) ramps = with_flat i factors ramps
ramps_with n h (Message.detach i) ramps = without_ramps i ramps
ramps_with n h (Message.write w) ramps = ramps
ramps_with n h (Message.cork i on) ramps = ramps
ramps_with n h (Message.flush i) ramps = ramps
ramps_with n h (Message.trigger i) ramps = ramps
ramps_with n h (Message.prebuf i) ramps = ramps
ramps_with n h (Message.drain i tag) ramps = ramps
ramps_with n h (Message.attr i attr) ramps = ramps
ramps_with n h (Message.factors each) ramps = with_aims n h each ramps
ramps_with n h (Message.query i tag) ramps = ramps

-- after all messages, in order
abbrev pub ramps_with_all : ℕ → ℕ → List (Message Stream) → List InputRamps → List InputRamps
ramps_with_all n h [] ramps = ramps
ramps_with_all n h (m ∷ messages) ramps = ramps_with_all n h messages (ramps_with n h m ramps)
