-- How a server repairs the buffer attributes that a client asks for (PulseAudio: `fix_playback_buffer_attr` of pulsecore/protocol-native.c). What is
-- asked is in bytes, in the order maxlength, tlength, prebuf, minreq; the answer is in frames. Own: the numbers of steps 1 to 4.
use Rattle.std.specs.Prelude.{ℕ, ◌+◌, ◌-◌, ◌*◌, ◌/◌, cond, nat_eq, min, max, ◌≤◌, List, [], ◌∷◌, slice_index}
use Rattle.px_model.specs.declared.data.Attr.{Attr}
use Rattle.px_sample.specs.declared.spec.Spec.{Spec}
use Rattle.px_sample.specs.Format.{frame_size_of}

-- the value of an attribute that the client leaves to the server
abbrev pub UNSET : ℕ
UNSET = 0xFFFFFFFF

-- the most bytes that may wait ahead
abbrev pub MAXLENGTH : ℕ
MAXLENGTH = 4194304

-- the whole frames in `asked` bytes, or `unset` where the client leaves it to the server
abbrev pub frames_asked : ℕ → ℕ → ℕ → ℕ
frames_asked size unset asked = cond (nat_eq asked UNSET) unset (asked / size)

-- `frames`, but at least 1 and at most `most`
abbrev pub between_one_and : ℕ → ℕ → ℕ
between_one_and most frames = min (max frames 1) most

-- 1: at most MAXLENGTH bytes, in whole frames, at least one
abbrev pub maxlength_of : ℕ → ℕ → ℕ
maxlength_of size asked = max (min asked MAXLENGTH / size) 1

-- 2: two seconds where it is left to the server
abbrev pub tlength_of : Spec → ℕ → ℕ → ℕ
tlength_of spec maxlength asked = between_one_and maxlength (frames_asked (frame_size_of spec) (2 * spec.rate) asked)

-- 3: 20 milliseconds where it is left to the server
abbrev pub minreq_of : Spec → ℕ → ℕ → ℕ
minreq_of spec tlength asked = between_one_and tlength (frames_asked (frame_size_of spec) (spec.rate * 20 / 1000) asked)

-- 4: all that can wait before the server asks for more, where it is left to the server; else rounded up to whole frames, and at most that
abbrev pub prebuf_of : ℕ → ℕ → ℕ → ℕ → ℕ
prebuf_of size tlength minreq asked = cond (nat_eq asked UNSET)
    (tlength + 1 - minreq)
    (min ((asked + (size - 1)) / size) (tlength + 1 - minreq))

-- the attributes of these maxlength, tlength and minreq
abbrev pub with_prebuf_of : ℕ → ℕ → ℕ → ℕ → ℕ → Attr
with_prebuf_of size maxlength tlength minreq asked =
    record { maxlength = maxlength; tlength = tlength; prebuf = prebuf_of size tlength minreq asked; minreq = minreq }

abbrev pub with_minreq_of : Spec → ℕ → ℕ → List ℕ → Attr
with_minreq_of spec maxlength tlength asked =
    with_prebuf_of (frame_size_of spec) maxlength tlength (minreq_of spec tlength (slice_index asked 3)) (slice_index asked 2)

abbrev pub with_tlength_of : Spec → ℕ → List ℕ → Attr
with_tlength_of spec maxlength asked = with_minreq_of spec maxlength (tlength_of spec maxlength (slice_index asked 1)) asked

-- the attributes as repaired, each step from those before it
abbrev pub repaired : Spec → List ℕ → Attr
repaired spec asked = with_tlength_of spec (maxlength_of (frame_size_of spec) (slice_index asked 0)) asked

-- maxlength is at most MAXLENGTH bytes, and so is every other attribute
abbrev pub IsWithinBytes : Spec → Attr → Type 0
IsWithinBytes spec attr = attr.maxlength * frame_size_of spec ≤ MAXLENGTH

-- the attributes in bytes, in the order in which they are asked
abbrev pub bytes_of : Spec → Attr → List ℕ
bytes_of spec attr =
    attr.maxlength * frame_size_of spec ∷ attr.tlength * frame_size_of spec ∷ attr.prebuf * frame_size_of spec ∷ attr.minreq * frame_size_of spec ∷ []
