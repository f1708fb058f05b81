-- The streams that are due are deleted one after the other, until none is due.
use Rattle.std.proofs.Common.{◌≡◌, ℕ, zero, suc, ◌+◌, ◌≤◌, Bool, true, false, not, cond, List, [], ◌∷◌, ◌++◌, length, refl, ap, sym, subst, ◌∙◌, append-nil, length-append, arith, ⊎_elim}
use Rattle.std.specs.Prelude.{nat_eq, ◌||◌}
use Rattle.std.proofs.lemmas.Bool.{cases_Bool, cond-true, cond-false}
use Rattle.std.proofs.lemmas.List.{append_assoc}
use Rattle.px_state.specs.declared.effect.Effect.{Effect}
use Rattle.px_state.specs.declared.effect.Effect.TheVariants.{Sent, Closed}
use Rattle.px_sieve.specs.Scene.{Item, shown_by}
use Rattle.px_sieve.proofs.Scenes.{shown-join}
use Rattle.px_cache_world.specs.declared.answered.Verdict.{Verdict}
use Rattle.px_cache_world.specs.declared.answered.Verdict.TheVariants.{Replied, Failed, Other}
use Rattle.px_cache_world.specs.declared.parts.Parts.{Parts}
use Rattle.px_cache_world.specs.Own.{is_hidden}
use Rattle.px_cache_world.specs.Answered.{verdict_of}
use Rattle.px_cache_world.specs.Course.{Course, without, is_play, drained, answered, all_ended, course_seen_one, course_seen, with_due, most_due}
use Rattle.px_cache_world.specs.Sampler.{Sampler, own, running_on, seeing, delete_items_of, after_delete_of, after_delete, deletes_by, deleted_by, settle_items, settled, StandsForSampler}
use Rattle.px_scache.specs.Play.{delete_frame}
use Rattle.px_cache_world.specs.Answered.{NO_STREAM}

-- ---- effects leave as many plays and streams that are due, or fewer

fewer-by : (b : Bool) (one : ℕ) (kept plays : List ℕ) → length kept ≤ length plays → length (cond b (one ∷ kept) kept) ≤ length (one ∷ plays)
fewer-by true one kept plays le = omega (arith, le)
fewer-by false one kept plays le = omega (arith, le)

fewer : (stream : ℕ) (plays : List ℕ) → length (without stream plays) ≤ length plays
fewer stream [] = omega arith
fewer stream (one ∷ plays) = fewer-by (not (nat_eq one stream)) one (without stream plays) plays (fewer stream plays)

one-fewer : (stream : ℕ) (plays : List ℕ) → is_play stream plays ≡ true → length (without stream plays) + 1 ≤ length plays
one-fewer stream [] there = absurd cc
one-fewer stream (one ∷ plays) there =
    ⊎_elim
    (λ (e : nat_eq one stream ≡ true).
    let kept : without stream (one ∷ plays) ≡ without stream plays = cond-false (not (nat_eq one stream)) (one ∷ without stream plays) (without stream plays) (ap not e) in
    let size = ap (λ (l : List ℕ). length l) kept in
    omega (arith, size, fewer stream plays))
    (λ (e : nat_eq one stream ≡ false).
    let kept : without stream (one ∷ plays) ≡ one ∷ without stream plays = cond-true (not (nat_eq one stream)) (one ∷ without stream plays) (without stream plays) (ap not e) in
    let size = ap (λ (l : List ℕ). length l) kept in
    let later = one-fewer stream plays (sym (ap (λ (b : Bool). b || is_play stream plays) e) ∙ there) in
    omega (arith, size, later))
    (cases_Bool (nat_eq one stream))

drained-fewer : (stream : ℕ) (c : Course) → most_due (drained stream c) ≤ most_due c
drained-fewer stream c =
    let more = record c { plays = without stream c.plays; due = c.due ++ stream ∷ [] } in
    ⊎_elim
    (λ (e : is_play stream c.plays ≡ true).
    let is : drained stream c ≡ more = cond-true (is_play stream c.plays) more c e in
    let size = ap most_due is in
    let left = one-fewer stream c.plays e in
    let longer = length-append c.due (stream ∷ []) in
    omega (arith, size, left, longer))
    (λ (e : is_play stream c.plays ≡ false).
    let size = ap most_due (cond-false (is_play stream c.plays) more c e) in
    omega (arith, size))
    (cases_Bool (is_play stream c.plays))

answered-fewer : (verdict : Verdict) (c : Course) → most_due (answered verdict c) ≤ most_due c
answered-fewer (Replied tag) c = drained-fewer tag c
answered-fewer (Failed tag) c = omega (arith, fewer tag c.plays)
answered-fewer Other c = omega arith

seen-one-fewer : (effect : Effect) (c : Course) → most_due (course_seen_one effect c) ≤ most_due c
seen-one-fewer (Sent to frame) c =
    ⊎_elim
    (λ (e : is_hidden to ≡ true). let size = ap most_due (cond-true (is_hidden to) (answered (verdict_of frame) c) c e) in omega (arith, size, answered-fewer (verdict_of frame) c))
    (λ (e : is_hidden to ≡ false). let size = ap most_due (cond-false (is_hidden to) (answered (verdict_of frame) c) c e) in omega (arith, size))
    (cases_Bool (is_hidden to))
seen-one-fewer (Closed to reason fault at) c =
    ⊎_elim
    (λ (e : is_hidden to ≡ true). let size = ap most_due (cond-true (is_hidden to) all_ended c e) in omega (arith, size))
    (λ (e : is_hidden to ≡ false). let size = ap most_due (cond-false (is_hidden to) all_ended c e) in omega (arith, size))
    (cases_Bool (is_hidden to))

pub seen-fewer : (effects : List Effect) (c : Course) → most_due (course_seen effects c) ≤ most_due c
seen-fewer [] c = omega arith
seen-fewer (effect ∷ effects) c = omega (arith, seen-fewer effects (course_seen_one effect c), seen-one-fewer effect c)

-- ---- where none is due nothing is deleted

deletes-none : (most : ℕ) (s : Sampler) → s.course.due ≡ [] → deletes_by most s ≡ []
deletes-none zero s none = refl
deletes-none (suc most) s none =
    let same : after_delete s ≡ s = ap (λ due. after_delete_of due s) none in
    ap (λ due. delete_items_of due ++ deletes_by most (after_delete s)) none
    ∙ ap (λ t. deletes_by most t) same
    ∙ deletes-none most s none

deleted-none : (most : ℕ) (s : Sampler) → s.course.due ≡ [] → deleted_by most s ≡ s
deleted-none zero s none = refl
deleted-none (suc most) s none =
    let same : after_delete s ≡ s = ap (λ due. after_delete_of due s) none in
    ap (λ t. deleted_by most t) same ∙ deleted-none most s none

-- ---- some were deleted, and those that are due are left

pub record Settles (effects : List Effect) (parts : Parts) (start : Sampler) : Type 0 where
  pub now : Sampler
  pub stands : StandsForSampler parts now
  pub most : ℕ
  pub enough : most_due now.course ≤ most
  pub shown : effects ++ shown_by now.world (deletes_by most now) ≡ shown_by start.world (settle_items start)
  pub after : deleted_by most now ≡ settled start

pub settles-first : (parts : Parts) (start : Sampler) → StandsForSampler parts start → Settles [] parts start
settles-first parts start stands = record { now = start; stands = stands; most = most_due start.course; enough = omega arith; shown = refl; after = refl }

-- one more is deleted
abbrev pub deleting : Sampler → ℕ → List ℕ → Sampler
deleting s stream due = running_on (record s { course = with_due due s.course }) (own (delete_frame NO_STREAM stream) ∷ [])

module _ (effects longer more : List Effect) (parts later : Parts) (start : Sampler) (stream : ℕ) (due : List ℕ) (g : Settles effects parts start) (there : parts.course.due ≡ stream ∷ due) where
  now-due : g.now.course.due ≡ stream ∷ due
  now-due = sym (ap Course.due g.stands.course) ∙ there

  pub settles-next : more ≡ shown_by g.now.world (own (delete_frame NO_STREAM stream) ∷ []) → StandsForSampler later (seeing more (deleting g.now stream due)) → longer ≡ effects ++ more
      → Settles longer later start
  settles-next made stands joined = by g.most refl
    where
      items : List Item
      items = own (delete_frame NO_STREAM stream) ∷ []

      next : Sampler
      next = after_delete_of (stream ∷ due) g.now

      is : after_delete g.now ≡ next
      is = ap (λ d. after_delete_of d g.now) now-due

      stood : StandsForSampler later next
      stood = subst (λ es. StandsForSampler later (seeing es (deleting g.now stream due))) made stands

      size : length g.now.course.due ≡ suc (length due)
      size = ap (λ (l : List ℕ). length l) now-due

      less : most_due next.course ≤ length g.now.course.plays + length due
      less = seen-fewer (shown_by g.now.world items) (with_due due g.now.course)

      by : (most : ℕ) → g.most ≡ most → Settles longer later start
      by zero e = absurd (omega (arith, g.enough, e, size))
      by (suc left) e =
          let all : deletes_by g.most g.now ≡ items ++ deletes_by left next =
          ap (λ n. deletes_by n g.now) e ∙ ap (λ d. delete_items_of d ++ deletes_by left (after_delete g.now)) now-due ∙ ap (λ t. items ++ deletes_by left t) is in
          record {
            now = next;
            stands = stood;
            most = left;
            enough = omega (arith, less, size, g.enough, e);
            shown =
                ap (λ l. l ++ shown_by next.world (deletes_by left next)) joined
                ∙ append_assoc effects more (shown_by next.world (deletes_by left next))
                ∙ ap (λ l. effects ++ (l ++ shown_by next.world (deletes_by left next))) made
                ∙ ap (λ l. effects ++ l) (sym (shown-join g.now.world items (deletes_by left next)))
                ∙ ap (λ l. effects ++ shown_by g.now.world l) (sym all)
                ∙ g.shown;
            after = ap (λ t. deleted_by left t) (sym is) ∙ ap (λ n. deleted_by n g.now) (sym e) ∙ g.after;
          }

-- none is due
module _ (effects : List Effect) (parts : Parts) (start : Sampler) (g : Settles effects parts start) (none : parts.course.due ≡ []) where
  now-none : g.now.course.due ≡ []
  now-none = sym (ap Course.due g.stands.course) ∙ none

  pub settles-shown : effects ≡ shown_by start.world (settle_items start)
  settles-shown = sym (append-nil effects) ∙ ap (λ l. effects ++ shown_by g.now.world l) (sym (deletes-none g.most g.now now-none)) ∙ g.shown

  pub settles-after : g.now ≡ settled start
  settles-after = sym (deleted-none g.most g.now now-none) ∙ g.after
