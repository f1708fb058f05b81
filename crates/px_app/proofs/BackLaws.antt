-- Handing back, part by part.
use Rattle.std.proofs.Common.{◌≡◌, ℕ, ◌+◌, ◌≤◌, List, [], ◌∷◌, length, Option, None, Some, IfSome, refl, ap, subst, ◌∙◌, sym, arith}
use Rattle.std.specs.Option.{option_map}
use Rattle.px_ends.specs.Device.{DeviceState}
use Rattle.px_ends.specs.Host.{HostState, Lent, TakesPart, fewer_parts}
use Rattle.px_server.specs.declared.served.LanePart.{LanePart}
use Rattle.px_server.specs.Hosted.{HasLent}
use Rattle.px_app.specs.Back.{TakesParts}

fewer_lent : (parts cores : ℕ) (o : Option Lent) → IfSome o (λ l. (parts + 1 ≤ Lent.devices l) × (parts + 1 ≤ Lent.recorders l) × (cores ≤ Lent.cores l))
    → IfSome (option_map fewer_parts o) (λ l. (parts ≤ Lent.devices l) × (parts ≤ Lent.recorders l) × (cores ≤ Lent.cores l))
fewer_lent parts cores None all = tt
fewer_lent parts cores (Some l) all = let one = all.0 in let two = all.1 in (omega arith, omega arith, all.2)

-- one more than the rest is lent
pub lent_rest : {X : Type 0} {D R C : Type 0} (all rest : List X) (one : X) (cores : ℕ) (h : HostState D R C) → all ≡ one ∷ rest → HasLent (length all) cores h → HasLent (length rest + 1) cores h
lent_rest all rest one cores h front lent =
    let more : length all ≡ length rest + 1 = ap length front ∙ omega arith in subst (λ (n : ℕ). HasLent n cores h) more lent

pub lent_end : {X : Type 0} {D R C : Type 0} (all : List X) (cores : ℕ) (h : HostState D R C) → all ≡ [] → HasLent (length all) cores h → HasLent 0 cores h
lent_end all cores h none lent = subst (λ (n : ℕ). HasLent n cores h) (ap length none) lent

module _ {D R C : Type 0} (now : D → DeviceState) (faults fulls : R → ℕ) where
  -- one part was taken back
  pub lent_fewer : (parts cores : ℕ) (failed faulty full : ℕ) (p : LanePart D R) (before after : HostState D R C)
      → TakesPart failed faulty full (record { sink = p.sink; device = p.device; recorder = p.recorder }) before after → HasLent (parts + 1) cores before → HasLent parts cores after
  lent_fewer parts cores failed faulty full p before after takes lent =
      subst (λ (h : HostState D R C). HasLent parts cores h) (sym takes.3) (fewer_lent parts cores before.lent lent)

  -- and then those behind it
  pub back_one : (all rest : List (LanePart D R)) (p : LanePart D R) (before mid final : HostState D R C)
      → all ≡ p ∷ rest → TakesPart (now p.device).faults (faults p.recorder) (fulls p.recorder) (record { sink = p.sink; device = p.device; recorder = p.recorder }) before mid
      → TakesParts now faults fulls rest mid final → TakesParts now faults fulls all before final
  back_one all rest p before mid final front takes later =
      subst (λ (l : List (LanePart D R)). TakesParts now faults fulls l before final) (sym front) (mid, takes, later)

  pub back_none : (all : List (LanePart D R)) (before : HostState D R C) → all ≡ [] → TakesParts now faults fulls all before before
  back_none all before none = subst (λ (l : List (LanePart D R)). TakesParts now faults fulls l before before) (sym none) refl
