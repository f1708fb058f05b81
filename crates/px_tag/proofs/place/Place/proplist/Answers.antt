use Rattle.std.proofs.Common.{◌∙◌}
use Rattle.std.proofs.lemmas.Result.{err_from_is_err_and}
use Rattle.px_tag.specs.declared.place.Place.{Place}
use Rattle.px_tag.specs.declared.proplist.PropList.{PropList}
use Rattle.px_tag.specs.Seen.{place_of}
use Rattle.px_tag.specs.Reading.{listed_at}
use Rattle.px_tag.proofs.Written.{list_is, list_untagged, fault_of_list}
use Rattle.px_tag.proofs.place.Place.proplist.Goals as goal

pub returns-in_err-place : goal.returns-in_err-place
returns-in_err-place c =
    let p = err_from_is_err_and c.from_residual.result c.from_residual.ensures.1 in
    rw (p.1, p.2) (list_untagged (place_of c.args.self) c.in_err-place.field-0.0 c.in_err-place.ensures.value)

pub returns-in_err-behind : goal.returns-in_err-behind
returns-in_err-behind c =
    let p = err_from_is_err_and c.from_residual-in_err-behind.result c.from_residual-in_err-behind.ensures.1 in
    let same = list_is (place_of c.args.self) (place_of c.in_ok-place.place) c.in_ok-place.ensures.value in
    rw (p.1, p.2, same) (fault_of_list (λ (behind : Place). (c.properties.new.list, place_of behind)) (λ (read : PropList × Place). (read.0, place_of read.1)) c.in_err-behind.field-0.0 (listed_at (place_of c.in_ok-place.place)) c.in_err-behind.ensures)

pub returns : goal.returns
returns c = list_is (place_of c.args.self) (place_of c.in_ok-place.place) c.in_ok-place.ensures.value ∙ c.in_ok-behind.ensures
