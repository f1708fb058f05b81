-- Bytes and frames of a buffer that begins at frame c and ends at frame f, each frame of w bytes.
use Rattle.std.proofs.Common.{◌≡◌, ℕ, ◌+◌, ◌-◌, ◌*◌, ◌/◌, ◌≤◌, min, List, ◌++◌, length, take, drop, ap, ◌∙◌, arith, length-append, length-drop, length-take, Option, None, Some}
use Rattle.std.proofs.Math.Nat.{add-mul, mul-le-mul_right, mul-div_cancel}
use Rattle.std.proofs.lemmas.List.{length-take-le, drop-append-le, drop-take}
use Rattle.std.specs.Option.{unwrap_or}
use Rattle.px_ends.specs.MemoryDevice.{due_of, left_after}

-- the first n frames are inside
pub frames_inside : (len n c f w : ℕ) → len + c * w ≡ f * w → n + c ≤ f → n * w ≤ len
frames_inside len n c f w full fit = omega (arith, full, add-mul n c w, mul-le-mul_right w fit)

-- the buffer's bytes are those of the frames between
pub frames_between : (len c f w : ℕ) → len + c * w ≡ f * w → c ≤ f → len ≡ (f - c) * w
frames_between len c f w full order =
    let whole : (f - c) + c ≡ f = omega (arith, order) in
    omega (arith, full, add-mul (f - c) c w, ap (λ (x : ℕ). x * w) whole)

-- what is left without them
pub frames_left : (bytes : List ℕ) (n c f w : ℕ) → length bytes + c * w ≡ f * w → n + c ≤ f → length (drop (n * w) bytes) + (c + n) * w ≡ f * w
frames_left bytes n c f w full fit =
    omega (arith, full, length-drop (n * w) bytes, frames_inside (length bytes) n c f w full fit, add-mul c n w)

-- what a sync consumes is there, and was set
pub due_waits : (armed : Option ℕ) (each left waiting : ℕ) → due_of armed each left waiting ≤ waiting
due_waits None each left waiting = omega arith
due_waits (Some a) each left waiting = omega arith

-- the room that is left once those frames are played
pub room_left : (armed : Option ℕ) (each left waiting played w room : ℕ) → played + (unwrap_or armed 0 + left) * w ≤ room
    → (played + due_of armed each left waiting * w) + (0 + left_after armed left (due_of armed each left waiting)) * w ≤ room
room_left None each left waiting played w room fit =
    let due = min (min each left) waiting in
    let same : due + (left - due) ≡ left = omega arith in
    omega (arith, fit, add-mul due (left - due) w, ap (λ (x : ℕ). x * w) same, add-mul 0 (left - due) w, add-mul 0 left w)
room_left (Some a) each left waiting played w room fit =
    let due = min a waiting in
    let within : due ≤ a = omega arith in
    omega (arith, fit, add-mul a left w, add-mul 0 left w, mul-le-mul_right w within)

-- so many whole frames
pub frames_of_bytes : (bytes n w : ℕ) → 1 ≤ w → bytes ≡ n * w → bytes / w ≡ n
frames_of_bytes bytes n w some whole = ap (λ (x : ℕ). x / w) whole ∙ mul-div_cancel n some

-- frames from place at on, put anew
pub frames_put : (bytes more : List ℕ) (at n c f w : ℕ) → length bytes + c * w ≡ f * w → c ≤ at → at ≤ f → length more ≡ n * w
    → length (take ((at - c) * w) bytes ++ more) + c * w ≡ (at + n) * w
frames_put bytes more at n c f w full late near whole =
    let kept : (at - c) + c ≡ at = omega arith in
    let inside = frames_inside (length bytes) (at - c) c f w full (omega arith) in
    omega (
      arith,
      whole,
      length-append (take ((at - c) * w) bytes) more,
      length-take-le ((at - c) * w) bytes inside,
      ap (λ (x : ℕ). x * w) kept,
      add-mul (at - c) c w,
      add-mul at n w,
    )

-- they fit the room of the whole depth
pub frames_fit : (more at n c d w room : ℕ) → c ≤ at → at + n ≤ c + d → more ≡ n * w → d * w ≤ room → (at - c) * w + more ≤ room
frames_fit more at n c d w room late fit whole enough =
    let within : (at - c) + n ≤ d = omega arith in
    omega (arith, whole, enough, add-mul (at - c) n w, mul-le-mul_right w within)

-- bytes put anew after those that left
pub put_further : (gone from : ℕ) (bytes more : List ℕ) → gone ≤ length bytes → drop gone (take (gone + from) bytes ++ more) ≡ take from (drop gone bytes) ++ more
put_further gone from bytes more inside =
    drop-append-le gone (take (gone + from) bytes) more (omega (arith, inside, length-take (gone + from) bytes))
    ∙ ap (λ (kept : List ℕ). kept ++ more) (drop-take gone from bytes)
