-- The shortest descriptor that breaks each rule.
use Rattle.std.proofs.Common.{◌≡◌, ℕ, ◌+◌, List, [], ◌∷◌, ◌++◌, Some, refl, ap, sym, arith}
use Rattle.px_frame.specs.declared.descriptor.Descriptor.{Descriptor}
use Rattle.px_frame.specs.declared.fault.FrameFault.{FrameFault}
use Rattle.px_frame.specs.declared.fault.FrameFault.TheVariants.{ZeroLength, TooLong, PacketFlags, SharedMemory, SeekMode}
use Rattle.px_frame.specs.Descriptor.{descriptor_bytes, HasWords, broken_rule}
use Rattle.px_frame.specs.Frame.{offset_at}
use Rattle.px_frame.specs.Reading.{IsRead, Broken}

abbrev words : ℕ → ℕ → ℕ → Descriptor
words length channel flags = record { length = length; channel = channel; offset_high = 0; offset_low = 0; flags = flags }

abbrev Breaks : List ℕ → FrameFault → Type 0
Breaks bytes fault = (at : ℕ) × IsRead bytes [] (Broken fault at)

-- bytes of a descriptor that breaks a rule
broken : (bytes : List ℕ) (fault : FrameFault) (d : Descriptor) (at : ℕ) → HasWords d → bytes ≡ descriptor_bytes d ++ [] → broken_rule d ≡ Some (fault, at) → Breaks bytes fault
broken bytes fault d at has is breaks =
    (offset_at (0 + at), (0, bytes, record { whole = []; each = tt; bytes_are = refl; frames_are = refl; after_is = refl }, (at, (d, [], has, is, breaks), refl)))

pub zero_length : (fault : FrameFault) → fault ≡ ZeroLength → Breaks (0 ∷ 0 ∷ 0 ∷ 0 ∷ 0 ∷ 0 ∷ 0 ∷ 0 ∷ 0 ∷ 0 ∷ 0 ∷ 0 ∷ 0 ∷ 0 ∷ 0 ∷ 0 ∷ 0 ∷ 0 ∷ 0 ∷ 0 ∷ []) fault
unfolding descriptor_bytes
zero_length fault is =
    let has : HasWords (words 0 0 0) = record { length = omega arith; channel = omega arith; offset_high = omega arith; offset_low = omega arith; flags = omega arith } in
    broken _ fault (words 0 0 0) 0 has refl (ap (λ (f : FrameFault). Some (f, 0)) (sym is))

pub too_long : (fault : FrameFault) → fault ≡ TooLong → Breaks (2 ∷ 0 ∷ 0 ∷ 0 ∷ 0 ∷ 0 ∷ 0 ∷ 0 ∷ 0 ∷ 0 ∷ 0 ∷ 0 ∷ 0 ∷ 0 ∷ 0 ∷ 0 ∷ 0 ∷ 0 ∷ 0 ∷ 0 ∷ []) fault
unfolding descriptor_bytes
too_long fault is =
    let has : HasWords (words 33554432 0 0) = record { length = omega arith; channel = omega arith; offset_high = omega arith; offset_low = omega arith; flags = omega arith } in
    broken _ fault (words 33554432 0 0) 0 has refl (ap (λ (f : FrameFault). Some (f, 0)) (sym is))

pub packet_flags : (fault : FrameFault) → fault ≡ PacketFlags → Breaks (0 ∷ 0 ∷ 0 ∷ 1 ∷ 255 ∷ 255 ∷ 255 ∷ 255 ∷ 0 ∷ 0 ∷ 0 ∷ 0 ∷ 0 ∷ 0 ∷ 0 ∷ 0 ∷ 0 ∷ 0 ∷ 0 ∷ 1 ∷ []) fault
unfolding descriptor_bytes
packet_flags fault is =
    let has : HasWords (words 1 4294967295 1) = record { length = omega arith; channel = omega arith; offset_high = omega arith; offset_low = omega arith; flags = omega arith } in
    broken _ fault (words 1 4294967295 1) 16 has refl (ap (λ (f : FrameFault). Some (f, 16)) (sym is))

pub shared_memory : (fault : FrameFault) → fault ≡ SharedMemory → Breaks (0 ∷ 0 ∷ 0 ∷ 1 ∷ 0 ∷ 0 ∷ 0 ∷ 0 ∷ 0 ∷ 0 ∷ 0 ∷ 0 ∷ 0 ∷ 0 ∷ 0 ∷ 0 ∷ 1 ∷ 0 ∷ 0 ∷ 0 ∷ []) fault
unfolding descriptor_bytes
shared_memory fault is =
    let has : HasWords (words 1 0 16777216) = record { length = omega arith; channel = omega arith; offset_high = omega arith; offset_low = omega arith; flags = omega arith } in
    broken _ fault (words 1 0 16777216) 16 has refl (ap (λ (f : FrameFault). Some (f, 16)) (sym is))

pub seek_mode : (fault : FrameFault) → fault ≡ SeekMode → Breaks (0 ∷ 0 ∷ 0 ∷ 1 ∷ 0 ∷ 0 ∷ 0 ∷ 0 ∷ 0 ∷ 0 ∷ 0 ∷ 0 ∷ 0 ∷ 0 ∷ 0 ∷ 0 ∷ 0 ∷ 0 ∷ 0 ∷ 4 ∷ []) fault
unfolding descriptor_bytes
seek_mode fault is =
    let has : HasWords (words 1 0 4) = record { length = omega arith; channel = omega arith; offset_high = omega arith; offset_low = omega arith; flags = omega arith } in
    broken _ fault (words 1 0 4) 16 has refl (ap (λ (f : FrameFault). Some (f, 16)) (sym is))
