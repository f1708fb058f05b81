-- What is served by words.
use Rattle.std.proofs.Common.{◌≡◌, List, ℕ, Option, inr}
use Rattle.px_annals.specs.declared.entry.CoreEntry.{CoreEntry}
use Rattle.px_annals.specs.declared.entry.LaneEntry.{LaneEntry}
use Rattle.px_ends.specs.Device.{DeviceState}
use Rattle.px_ends.specs.Host.{HostState}
use Rattle.px_app.specs.declared.serve_words.words.ServeWords.{ServeWords}
use Rattle.px_app.specs.declared.serve_words.words.WordsFault.{WordsFault}
use Rattle.px_app.specs.declared.serve_words.words.WordsFault.TheVariants as fault
use Rattle.px_app.specs.declared.serve.call.ServeEnd.{ServeEnd}
use Rattle.px_app.specs.declared.serve.call.ServeEnd.TheVariants.{Usage, Refused, Ended}
use Rattle.px_app.specs.Serves.{IsSaid, ServesWith, ServesBy}
use Rattle.px_app.specs.Tape.{Output}

pub not_both : (e : WordsFault) → e ≡ fault.Usage → e ≡ fault.NoMemory → ⊥
not_both e usage memory = cc

module _ {D R C : Type 0} (core_visible : C → Option (List CoreEntry)) (core_faults core_fulls : C → ℕ) (now : D → DeviceState) (visible : R → Option (List LaneEntry)) (faults fulls : R → ℕ) where
  -- what is served with the options of the words is served by the words
  pub served_by : (texts : List (List ℕ)) (said : ServeWords) (end : ServeEnd) (before after : HostState D R C) (out_before out_after : Output) → IsSaid texts said
      → ServesWith core_visible core_faults core_fulls now visible faults fulls said end before after out_before out_after
      → ServesBy core_visible core_faults core_fulls now visible faults fulls texts end before after out_before out_after
  served_by texts said Usage before after out_before out_after is serves = absurd serves
  served_by texts said (Refused at cause) before after out_before out_after is serves = (said, is, serves)
  served_by texts said (Ended answered) before after out_before out_after is serves = inr (said, is, serves)
