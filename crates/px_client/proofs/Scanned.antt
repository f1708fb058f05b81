-- Frames, judged one after the other.
use Rattle.std.proofs.Common.{◌≡◌, ℕ, ◌+◌, ◌<◌, List, [], ◌∷◌, ◌++◌, length, take, drop, get_or, refl, ap, sym, ◌∙◌}
use Rattle.std.proofs.lemmas.List.{take-append-drop, take_more}
use Rattle.px_frame.specs.declared.frame.Frame.{Frame}
use Rattle.px_client.specs.declared.errand.Errand.{Errand}
use Rattle.px_client.specs.declared.awaited.Awaited.{Awaited}
use Rattle.px_client.specs.declared.answer.Verdict.{Verdict}
use Rattle.px_client.specs.declared.answer.Verdict.TheVariants.{Refusal, Other}
use Rattle.px_client.specs.Dialogue.{Stage, Waiting, Refused, Astray, judged_body, stage_by, next_stage, stage_from}
use Rattle.px_client.proofs.Heard.{stage_both}

pub refused_stays : (errand : Errand) (code : ℕ) (frames : List Frame) → stage_from errand (Refused code) frames ≡ Refused code
refused_stays errand code [] = refl
refused_stays errand code (frame ∷ frames) = refused_stays errand code frames

pub astray_stays : (errand : Errand) (at : ℕ) (frames : List Frame) → stage_from errand (Astray at) frames ≡ Astray at
astray_stays errand at [] = refl
astray_stays errand at (frame ∷ frames) = astray_stays errand at frames

-- the frames up to place i are messages; the frame there is this one, and has this verdict
module _ (errand : Errand) (awaited : Awaited) (frames : List Frame) (i : ℕ) (frame : Frame) (within : i < length frames) (there : get_or frames i frame ≡ frame)
    (before : stage_from errand (Waiting awaited) (take i frames) ≡ Waiting awaited) (verdict : Verdict) (is : judged_body awaited frame.body ≡ verdict) where
  pub one_more : stage_from errand (Waiting awaited) (take (i + 1) frames) ≡ stage_by errand awaited frame.at verdict
  one_more =
      ap (stage_from errand (Waiting awaited)) (take_more frames i frame within ∙ ap (λ (f : Frame). take i frames ++ f ∷ []) there)
      ∙ stage_both errand (Waiting awaited) (take i frames) (frame ∷ [])
      ∙ ap (λ (s : Stage). next_stage errand s frame) before
      ∙ ap (stage_by errand awaited frame.at) is

  all_more : (to : Stage) → stage_by errand awaited frame.at verdict ≡ to → stage_from errand (Waiting awaited) frames ≡ stage_from errand to (drop (i + 1) frames)
  all_more to e =
      ap (stage_from errand (Waiting awaited)) (sym (take-append-drop (i + 1) frames))
      ∙ stage_both errand (Waiting awaited) (take (i + 1) frames) (drop (i + 1) frames)
      ∙ ap (λ (s : Stage). stage_from errand s (drop (i + 1) frames)) (one_more ∙ e)

  pub then_refused : (code : ℕ) → verdict ≡ Refusal code → stage_from errand (Waiting awaited) frames ≡ Refused code
  then_refused code e = all_more (Refused code) (ap (stage_by errand awaited frame.at) e) ∙ refused_stays errand code (drop (i + 1) frames)

  pub then_astray : verdict ≡ Other → stage_from errand (Waiting awaited) frames ≡ Astray frame.at
  then_astray e = all_more (Astray frame.at) (ap (stage_by errand awaited frame.at) e) ∙ astray_stays errand frame.at (drop (i + 1) frames)
