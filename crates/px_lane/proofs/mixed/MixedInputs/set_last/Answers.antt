use Rattle.std.proofs.Common.{◌≡◌, ℕ, ◌+◌, List, map, Bool, true, false, cond, ap, sym, ◌∙◌, subst}
use Rattle.px_model.specs.Sink.{Input as Stands, stream_at}
use Rattle.px_msg.specs.View.{gains}
use Rattle.px_lane.specs.Taking.{AreFed}
use Rattle.px_lane.specs.Costs.{others_at, is_named, count_others}
use Rattle.px_lane.proofs.Entries.{named_is, named_over, count_past}
use Rattle.px_lane.proofs.Sharing.{fed_factors}
use Rattle.px_lane.proofs.mixed.MixedInputs.set_last.Goals as goal

pub returns-then-is_named-clause-inputs : goal.returns-then-is_named-clause-inputs
returns-then-is_named-clause-inputs g c =
    let i = c.args.entry.now.input.0 in
    let rest = c.args.behind.now in
    let named : is_named c.args.entry.now.input.0 (map gains c.args.behind.now) ≡ true = sym (named_is c.args.entry.now.input.0 c.args.behind.now) ∙ sym c.is_named.ensures ∙ c.if-is_named.true in
    sym (named_over c.args.entry.now.input.0 c.args.entry.now.factors (map gains c.args.behind.now) c.args.self.now.inputs named)

pub returns-then-is_named-clause-count : goal.returns-then-is_named-clause-count
returns-then-is_named-clause-count g c =
    let named : is_named c.args.entry.now.input.0 (map gains c.args.behind.now) ≡ true = sym (named_is c.args.entry.now.input.0 c.args.behind.now) ∙ sym c.is_named.ensures ∙ c.if-is_named.true in
    ap (λ (b : Bool). cond b 0 (others_at c.args.entry.now.factors (stream_at c.args.entry.now.input.0 c.args.self.now.inputs)) + count_others (map gains c.args.behind.now) c.args.self.now.inputs) (sym named)

pub returns-clause-fed : goal.returns-clause-fed
returns-clause-fed g c = λ channels h.
    subst (AreFed channels) (sym c.set_one.ensures.inputs) (fed_factors channels c.args.entry.now.factors c.args.entry.now.input.0 c.args.self.now.inputs h)

pub returns-clause-count : goal.returns-clause-count
returns-clause-count g c =
    let i : ℕ = c.args.entry.now.input.0 in
    let rest = map gains c.args.behind.now in
    let xs : List Stands = c.args.self.now.inputs in
    let unnamed : is_named c.args.entry.now.input.0 (map gains c.args.behind.now) ≡ false = sym (named_is c.args.entry.now.input.0 c.args.behind.now) ∙ sym c.is_named.ensures ∙ c.if-is_named.false in
    ap (λ (n : ℕ). n + count_others (map gains c.args.behind.now) c.set_one.new.self.inputs) c.set_one.ensures.count
    ∙ ap (λ (n : ℕ). others_at c.args.entry.now.factors (stream_at c.args.entry.now.input.0 c.args.self.now.inputs) + n)
    (ap (count_others (map gains c.args.behind.now)) c.set_one.ensures.inputs ∙ count_past c.args.entry.now.input.0 c.args.entry.now.factors (map gains c.args.behind.now) c.args.self.now.inputs unnamed)
    ∙ ap (λ (b : Bool). cond b 0 (others_at c.args.entry.now.factors (stream_at c.args.entry.now.input.0 c.args.self.now.inputs)) + count_others (map gains c.args.behind.now) c.args.self.now.inputs) (sym unnamed)
