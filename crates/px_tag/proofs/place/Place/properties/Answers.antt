use Rattle.std.proofs.Common.{sym, ◌∙◌}
use Rattle.std.proofs.lemmas.Result.{err_from_is_err_and}
use Rattle.px_tag.specs.PropList.{Property}
use Rattle.px_tag.specs.Seen.{place_of}
use Rattle.px_tag.proofs.Written.{list_ends, list_fails, list_goes_on}
use Rattle.px_tag.proofs.place.Place.properties.Goals as goal

pub returns-in_err-property : goal.returns-in_err-property
returns-in_err-property c =
    let p = err_from_is_err_and c.from_residual.result c.from_residual.ensures.1 in
    let i = c.loop-property.invariant in
    rw (p.1, p.2) (sym i.2 ∙ list_fails i.0 (place_of c.loop-property.place) c.loop-property.list c.in_err-property.field-0.0 i.1 c.in_err-property.ensures.value)

pub returns-in-None : goal.returns-in-None
returns-in-None c =
    let i = c.loop-property.invariant in
    let read = rw c.in-None.is at c.in_ok-property.ensures.value in
    sym i.2 ∙ list_ends i.0 (place_of c.loop-property.place) c.loop-property.list (place_of c.in_ok-property.behind) c.in_ok-property.ensures.shorter i.1 read

pub loop-property-smaller : goal.loop-property-smaller
loop-property-smaller c = c.in_ok-property.ensures.shorter

pub loop-property-preserved : goal.loop-property-preserved
loop-property-preserved c =
    let i = c.loop-property.invariant in
    let read = rw c.in-Some.is at c.in_ok-property.ensures.value in
    let p : Property = (c.in-Some.key.now, c.in-Some.value.now) in
    let next = list_goes_on i.0 (place_of c.loop-property.place) c.loop-property.list p (place_of c.in_ok-property.behind) c.in_ok-property.ensures.shorter i.1 read in
    (next.0, next.1, rw c.in_ok-set-in-Some.ensures.set (sym next.2 ∙ i.2))
