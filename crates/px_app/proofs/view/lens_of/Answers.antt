use Rattle.std.proofs.Common.{ℕ, List, option_map, bytes_eq, sym, ap, ◌∙◌}
use Rattle.std.specs.List.{position}
use Rattle.px_app.specs.declared.view.Lens.TheVariants as lens
use Rattle.px_app.proofs.view.lens_of.Goals as goal

pub returns-in-None : goal.returns-in-None
returns-in-None c =
    let none = ap (λ (name : List ℕ). position (λ s. bytes_eq s.name name) c.args.sinks.now) (sym c.as_bytes.ensures.value) ∙ sym c.place_of.ensures ∙ c.in-None.is in
    rw (c.in-Raw.is) (sym (ap (option_map lens.Raw) none))
