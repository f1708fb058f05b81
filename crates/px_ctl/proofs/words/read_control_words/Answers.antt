use Rattle.std.proofs.Common.{rules, ◌≡◌, map, string_bytes, sym, ◌∙◌}
use Rattle.px_client.specs.Errand.{IsErrand}
use Rattle.px_ctl.proofs.Reading.{unsaid_before, unsaid_rest, unsaid_errand, said_by}
use Rattle.px_ctl.proofs.words.read_control_words.Goals as goal

pub returns-in_default-clause-none : goal.returns-in_default-clause-none
returns-in_default-clause-none c = λ usage. unsaid_before (map string_bytes c.args.words.now) c.in_default.ensures

pub returns-in_default-2-clause-none : goal.returns-in_default-2-clause-none
returns-in_default-2-clause-none c = λ usage.
    unsaid_rest (map string_bytes c.args.words.now) c.in-Some.path.now (map string_bytes c.in-Some.rest.now) c.in-Some.ensures (sym c.in_ok-errand.ensures ∙ c.in_default-2.is)

pub returns-then-not-is_allowed-clause-none : goal.returns-then-not-is_allowed-clause-none
returns-then-not-is_allowed-clause-none c = λ usage.
    let other : IsErrand c.in-Some-2.errand → ⊥ = search rules in
    unsaid_errand (map string_bytes c.args.words.now) c.in-Some.path.now (map string_bytes c.in-Some.rest.now) c.in-Some.ensures c.in-Some-2.errand
    (sym c.in_ok-errand.ensures ∙ c.in-Some-2.is) other

pub returns-clause-said : goal.returns-clause-said
returns-clause-said c =
    let allowed : IsErrand c.in-Some-2.errand = search rules in
    let copied : c.in_ok-socket.socket ≡ c.in-Some.path.now = search rules in
    said_by (map string_bytes c.args.words.now) c.in-Some.path.now (map string_bytes c.in-Some.rest.now) c.in-Some.ensures
    (record { socket = c.in_ok-socket.socket; errand = c.in-Some-2.errand }) copied (sym c.in_ok-errand.ensures ∙ c.in-Some-2.is) allowed
