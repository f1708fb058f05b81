-- A sync of the device in memory that fails.
use Rattle.std.proofs.Common.{◌≡◌, ℕ, ◌<◌, ◌^◌, Bool, true, ◌||◌, List, Some, ap, sym, subst, arith}
use Rattle.std.proofs.lemmas.List.{append-nil}
use Rattle.px_types.specs.Faults.{next_count}
use Rattle.px_ends.specs.Device.{Fails, MayFail}
use Rattle.px_ends.specs.MemoryDevice.{MemoryDevice, state_of, set_of, next_of, sync_failed}

pub sync_fails : (d : MemoryDevice) → d.faults < 2 ^ 64 → (d.stopping || d.failed) ≡ true → Fails (state_of d) (state_of (sync_failed d))
sync_fails d small failing = record {
  bytes = 0;
  faults = next_count d.faults;
  counted = record { later = omega arith; more = omega arith };
  visible = subst (λ (b : Bool). MayFail (Some (next_of b (set_of d.armed d.each d.left)))) (sym failing) tt;
  state = ap (λ (p : List ℕ). record (state_of (sync_failed d)) { played = Some p }) (sym (append-nil d.played));
}
