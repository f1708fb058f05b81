use Rattle.std.proofs.Common.{◌≡◌, ◌<◌, length, take, ◌++◌, ◌∷◌, [], ◌+◌, slice_set, arith, ◌∙◌, length-set}
use Rattle.std.proofs.lemmas.Result.{err_from_is_err_and}
use Rattle.std.proofs.lemmas.List.{take_more_set}
use Rattle.px_tag.specs.Reading.{fields_at}
use Rattle.px_tag.specs.Seen.{place_of}
use Rattle.px_tag.proofs.Loop.{goes_on, ends, is_done}
use Rattle.px_tag.proofs.place.Place.fields.Goals as goal

pub returns-in_err-item : goal.returns-in_err-item
returns-in_err-item c =
    let p = err_from_is_err_and c.from_residual.result c.from_residual.ensures.1 in
    rw (p.1, p.2) (ends c.in_err-item.field-0.0 (take c.loop-i.i c.loop-i.items) c.args.count c.loop-i.i (place_of c.loop-i.place) (fields_at c.args.count (place_of c.args.self)) c.loop-i-test.true c.in_err-item.ensures.value c.loop-i.invariant.so_far)

pub loop-i-preserved : goal.loop-i-preserved
loop-i-preserved c =
    let within : c.loop-i.i < length c.loop-i.items = omega (arith, c.loop-i.invariant.room, c.requires, c.loop-i-test.true) in
    let stays : length (slice_set c.loop-i.items c.loop-i.i c.in_ok-item.item) ≡ 32 = length-set c.loop-i.items c.loop-i.i c.in_ok-item.item ∙ c.loop-i.invariant.room in
    let grown : take (c.loop-i.i + 1) (slice_set c.loop-i.items c.loop-i.i c.in_ok-item.item) ≡ take c.loop-i.i c.loop-i.items ++ c.in_ok-item.item ∷ [] = take_more_set c.loop-i.items c.loop-i.i c.in_ok-item.item within in
    record { room = stays; so_far = rw grown (goes_on (take c.loop-i.i c.loop-i.items) c.args.count c.loop-i.i (place_of c.loop-i.place) c.in_ok-item.item (place_of c.in_ok-item.behind) (fields_at c.args.count (place_of c.args.self)) c.loop-i-test.true c.in_ok-item.ensures.value c.loop-i.invariant.so_far) }

pub returns : goal.returns
returns c = is_done (take c.args.count c.loop-i.items) c.args.count c.args.count (place_of c.loop-i.place) (fields_at c.args.count (place_of c.args.self)) (omega arith) (let same : c.loop-i.i ≡ c.args.count = omega arith in rw same at c.loop-i.invariant.so_far)
