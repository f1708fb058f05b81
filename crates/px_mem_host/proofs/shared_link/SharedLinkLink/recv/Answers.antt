use Rattle.std.proofs.Common.{length, take, drop, refl, ap, sym, ◌∙◌}
use Rattle.std.proofs.lemmas.List.{drop-drop}
use Rattle.px_ends.proofs.Filling.{rest_of}
use Rattle.px_ends.specs.Memory.{is_listed}
use Rattle.px_types.specs.Faults.{next_count}
use Rattle.px_mem_host.specs.SharedLink.{SharedState}
use Rattle.px_mem_host.proofs.Answered.{failed, late}
use Rattle.px_mem_host.proofs.shared_link.SharedLinkLink.recv.Goals as goal

pub returns-then-has-clause-bytes : goal.returns-then-has-clause-bytes
returns-then-has-clause-bytes g c =
    refl

pub returns-then-has-clause-front : goal.returns-then-has-clause-front
returns-then-has-clause-front g c =
    tt

pub returns-then-has-clause-after : goal.returns-then-has-clause-after
returns-then-has-clause-after g c =
    let v = c.self.view_is in
    let calls = c.saturating_add-self-inside.ensures ∙ ap (λ (s : SharedState). next_count s.calls) v in
    let faults = c.saturating_add-self-inside-then-has.ensures ∙ ap (λ (s : SharedState). next_count s.faults) v in
    λ k. record (v k) { calls = calls k; faults = faults k }

pub invariant_of-self : goal.invariant_of-self
invariant_of-self g c =
    c.self.invariant

pub returns-then-has-2-clause-bytes : goal.returns-then-has-2-clause-bytes
returns-then-has-2-clause-bytes g c =
    refl

pub returns-then-has-2-clause-front : goal.returns-then-has-2-clause-front
returns-then-has-2-clause-front g c =
    tt

pub returns-then-has-2-clause-after : goal.returns-then-has-2-clause-after
returns-then-has-2-clause-after g c =
    let v = c.self.view_is in
    let calls = c.saturating_add-self-inside.ensures ∙ ap (λ (s : SharedState). next_count s.calls) v in
    let not_yets = c.saturating_add-self-inside-then-has-2.ensures ∙ ap (λ (s : SharedState). next_count s.not_yets) v in
    λ k. record (v k) { calls = calls k; not_yets = not_yets k }

pub invariant_of-self-then-has-2 : goal.invariant_of-self-then-has-2
invariant_of-self-then-has-2 g c =
    c.self.invariant

pub returns-then-self-clause-bytes : goal.returns-then-self-clause-bytes
returns-then-self-clause-bytes g c =
    refl

pub returns-then-self-clause-front : goal.returns-then-self-clause-front
returns-then-self-clause-front g c =
    tt

pub returns-then-self-clause-after : goal.returns-then-self-clause-after
returns-then-self-clause-after g c =
    let v = c.self.view_is in
    let calls = c.saturating_add-self-inside.ensures ∙ ap (λ (s : SharedState). next_count s.calls) v in
    let not_yets = c.saturating_add-self-inside-then-self.ensures ∙ ap (λ (s : SharedState). next_count s.not_yets) v in
    λ k. record (v k) { calls = calls k; not_yets = not_yets k }

pub invariant_of-self-then-self : goal.invariant_of-self-then-self
invariant_of-self-then-self g c =
    c.self.invariant

pub returns-clause-bytes : goal.returns-clause-bytes
returns-clause-bytes g c =
    (tt, refl)

pub returns-clause-after : goal.returns-clause-after
returns-clause-after g c =
    let v = c.self.view_is in
    let calls = c.saturating_add-self-inside.ensures ∙ ap (λ (s : SharedState). next_count s.calls) v in
    let ends = c.saturating_add-self-inside-2.ensures ∙ ap (λ (s : SharedState). next_count s.ends) v in
    λ k. record (v k) { calls = calls k; ends = ends k }

pub invariant_of-self-2 : goal.invariant_of-self-2
invariant_of-self-2 g c =
    c.self.invariant

pub returns-then-has-clause-answer : goal.returns-then-has-clause-answer
returns-then-has-clause-answer g c =
    let v = c.self.view_is in
    let calls = c.saturating_add-self-inside.ensures ∙ ap (λ (s : SharedState). next_count s.calls) v in
    failed c.args.self.now (length c.args.buffer.now) (sym (λ k. is_listed (v k).failing (calls k)) ∙ sym c.has.ensures ∙ c.if-has.true)

pub returns-then-has-2-clause-answer : goal.returns-then-has-2-clause-answer
returns-then-has-2-clause-answer g c =
    let v = c.self.view_is in
    let calls = c.saturating_add-self-inside.ensures ∙ ap (λ (s : SharedState). next_count s.calls) v in
    late c.args.self.now (length c.args.buffer.now) (sym (λ k. is_listed (v k).failing (calls k)) ∙ sym c.has.ensures ∙ c.if-has.false)
    (sym (λ k. is_listed (v k).late (calls k)) ∙ sym c.has-2.ensures ∙ c.if-has-2.true)

pub returns-then-not-is_empty-clause-front : goal.returns-then-not-is_empty-clause-front
returns-then-not-is_empty-clause-front g c =
    let n = c.copy_front-count.result in
    rw c.as_slice.ensures at c.copy_front-count.ensures.front ∙ ap (take n) (rest_of c.self.inside.bytes c.self.inside.at) ∙ ap (λ (s : SharedState). take n s.left) c.self.view_is

pub returns-then-not-is_empty-clause-after : goal.returns-then-not-is_empty-clause-after
returns-then-not-is_empty-clause-after g c =
    let n = c.copy_front-count.result in
    let v = c.self.view_is in
    let calls = c.saturating_add-self-inside.ensures ∙ ap (λ (s : SharedState). next_count s.calls) v in
    let left = sym (drop-drop n c.self.inside.at c.self.inside.bytes) ∙ ap (λ (s : SharedState). drop n s.left) v in
    λ k. record (v k) { left = left k; calls = calls k }

pub returns-then-not-is_empty-clause-count : goal.returns-then-not-is_empty-clause-count
returns-then-not-is_empty-clause-count g c =
    λ k. record { faults = (c.self.view_is k).faults; ends = (c.self.view_is k).ends; not_yets = (c.self.view_is k).not_yets }
