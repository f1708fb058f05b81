use Rattle.std.proofs.Common.{ℕ, ◌+◌, ◌≤◌, List, length, refl, subst}
use Rattle.std.proofs.lemmas.Result.{err_from_is_err_and}
use Rattle.px_model.specs.Stream.{Stream}
use Rattle.px_model.specs.Notice.{Notice}
use Rattle.px_model.specs.Sink.{Input}
use Rattle.px_lane.specs.Needed.{needed}
use Rattle.px_lane.specs.Lists.{messages_of}
use Rattle.px_lane.proofs.lists.taken.Goals as goal

pub returns-clause-streams : goal.returns-clause-streams
returns-clause-streams c = c.in_ok-streams.ensures.streams

pub returns-clause-blocks : goal.returns-clause-blocks
returns-clause-blocks c = c.in-Some.ensures

pub returns-clause-capacity : goal.returns-clause-capacity
returns-clause-capacity c =
    subst (λ (here : List Input). length c.args.out.now.notices + needed here (messages_of c.args.messages.now) ≤ c.reserve.new.self.capacity) c.as_slice.ensures
    (subst (λ (n : ℕ). length c.args.out.now.notices + n ≤ c.reserve.new.self.capacity) c.in_ok-notices.ensures
    (subst (λ (noticed : List (Notice Stream)). length noticed + c.in_ok-notices.notices ≤ c.reserve.new.self.capacity) c.in_ok-reserve.ensures.value c.in_ok-reserve.ensures.ok))

pub returns-clause-same : goal.returns-clause-same
returns-clause-same c = c.in_ok-reserve_parcels.ensures.same

pub returns-clause-streams_room : goal.returns-clause-streams_room
returns-clause-streams_room c = c.in_ok-streams.ensures.room

pub returns-clause-parcels_room : goal.returns-clause-parcels_room
returns-clause-parcels_room c = c.in_ok-reserve_parcels.ensures.room

pub returns-in_err-reserve-clause-capacity : goal.returns-in_err-reserve-clause-capacity
returns-in_err-reserve-clause-capacity c =
    let p = err_from_is_err_and c.from_residual-in_err-reserve.result c.from_residual-in_err-reserve.ensures.1 in rw p.1 tt

pub returns-in_err-reserve-2-clause-capacity : goal.returns-in_err-reserve-2-clause-capacity
returns-in_err-reserve-2-clause-capacity c =
    let p = err_from_is_err_and c.from_residual-in_err-reserve-2.result c.from_residual-in_err-reserve-2.ensures.1 in rw p.1 tt

pub returns-in_err-streams-clause-capacity : goal.returns-in_err-streams-clause-capacity
returns-in_err-streams-clause-capacity c =
    let p = err_from_is_err_and c.from_residual-in_err-streams.result c.from_residual-in_err-streams.ensures.1 in rw p.1 tt

pub returns-in_err-reserve_parcels-clause-capacity : goal.returns-in_err-reserve_parcels-clause-capacity
returns-in_err-reserve_parcels-clause-capacity c =
    let p = err_from_is_err_and c.from_residual-in_err-reserve_parcels.result c.from_residual-in_err-reserve_parcels.ensures.1 in rw p.1 tt

pub returns-in_err-reserve-clause-streams : goal.returns-in_err-reserve-clause-streams
returns-in_err-reserve-clause-streams c =
    let p = err_from_is_err_and c.from_residual-in_err-reserve.result c.from_residual-in_err-reserve.ensures.1 in rw p.1 tt

pub returns-in_err-reserve-clause-blocks : goal.returns-in_err-reserve-clause-blocks
returns-in_err-reserve-clause-blocks c =
    let p = err_from_is_err_and c.from_residual-in_err-reserve.result c.from_residual-in_err-reserve.ensures.1 in rw p.1 tt

pub returns-in_err-reserve-clause-streams_room : goal.returns-in_err-reserve-clause-streams_room
returns-in_err-reserve-clause-streams_room c =
    let p = err_from_is_err_and c.from_residual-in_err-reserve.result c.from_residual-in_err-reserve.ensures.1 in rw p.1 tt

pub returns-in_err-reserve-clause-parcels_room : goal.returns-in_err-reserve-clause-parcels_room
returns-in_err-reserve-clause-parcels_room c =
    let p = err_from_is_err_and c.from_residual-in_err-reserve.result c.from_residual-in_err-reserve.ensures.1 in rw p.1 tt

pub returns-in_err-reserve-clause-room : goal.returns-in_err-reserve-clause-room
returns-in_err-reserve-clause-room c =
    let p = err_from_is_err_and c.from_residual-in_err-reserve.result c.from_residual-in_err-reserve.ensures.1 in rw p.1 tt

pub returns-in_err-reserve-clause-block_room : goal.returns-in_err-reserve-clause-block_room
returns-in_err-reserve-clause-block_room c =
    let p = err_from_is_err_and c.from_residual-in_err-reserve.result c.from_residual-in_err-reserve.ensures.1 in rw p.1 tt

pub returns-in_err-reserve-2-clause-streams : goal.returns-in_err-reserve-2-clause-streams
returns-in_err-reserve-2-clause-streams c =
    let p = err_from_is_err_and c.from_residual-in_err-reserve-2.result c.from_residual-in_err-reserve-2.ensures.1 in rw p.1 tt

pub returns-in_err-reserve-2-clause-blocks : goal.returns-in_err-reserve-2-clause-blocks
returns-in_err-reserve-2-clause-blocks c =
    let p = err_from_is_err_and c.from_residual-in_err-reserve-2.result c.from_residual-in_err-reserve-2.ensures.1 in rw p.1 tt

pub returns-in_err-reserve-2-clause-streams_room : goal.returns-in_err-reserve-2-clause-streams_room
returns-in_err-reserve-2-clause-streams_room c =
    let p = err_from_is_err_and c.from_residual-in_err-reserve-2.result c.from_residual-in_err-reserve-2.ensures.1 in rw p.1 tt

pub returns-in_err-reserve-2-clause-parcels_room : goal.returns-in_err-reserve-2-clause-parcels_room
returns-in_err-reserve-2-clause-parcels_room c =
    let p = err_from_is_err_and c.from_residual-in_err-reserve-2.result c.from_residual-in_err-reserve-2.ensures.1 in rw p.1 tt

pub returns-in_err-reserve-2-clause-room : goal.returns-in_err-reserve-2-clause-room
returns-in_err-reserve-2-clause-room c =
    let p = err_from_is_err_and c.from_residual-in_err-reserve-2.result c.from_residual-in_err-reserve-2.ensures.1 in rw p.1 tt

pub returns-in_err-reserve-2-clause-block_room : goal.returns-in_err-reserve-2-clause-block_room
returns-in_err-reserve-2-clause-block_room c =
    let p = err_from_is_err_and c.from_residual-in_err-reserve-2.result c.from_residual-in_err-reserve-2.ensures.1 in rw p.1 tt

pub returns-in_err-streams-clause-streams : goal.returns-in_err-streams-clause-streams
returns-in_err-streams-clause-streams c =
    let p = err_from_is_err_and c.from_residual-in_err-streams.result c.from_residual-in_err-streams.ensures.1 in rw p.1 tt

pub returns-in_err-streams-clause-blocks : goal.returns-in_err-streams-clause-blocks
returns-in_err-streams-clause-blocks c =
    let p = err_from_is_err_and c.from_residual-in_err-streams.result c.from_residual-in_err-streams.ensures.1 in rw p.1 tt

pub returns-in_err-streams-clause-streams_room : goal.returns-in_err-streams-clause-streams_room
returns-in_err-streams-clause-streams_room c =
    let p = err_from_is_err_and c.from_residual-in_err-streams.result c.from_residual-in_err-streams.ensures.1 in rw p.1 tt

pub returns-in_err-streams-clause-parcels_room : goal.returns-in_err-streams-clause-parcels_room
returns-in_err-streams-clause-parcels_room c =
    let p = err_from_is_err_and c.from_residual-in_err-streams.result c.from_residual-in_err-streams.ensures.1 in rw p.1 tt

pub returns-in_err-streams-clause-room : goal.returns-in_err-streams-clause-room
returns-in_err-streams-clause-room c =
    let p = err_from_is_err_and c.from_residual-in_err-streams.result c.from_residual-in_err-streams.ensures.1 in rw p.1 tt

pub returns-in_err-streams-clause-block_room : goal.returns-in_err-streams-clause-block_room
returns-in_err-streams-clause-block_room c =
    let p = err_from_is_err_and c.from_residual-in_err-streams.result c.from_residual-in_err-streams.ensures.1 in rw p.1 tt

pub returns-in_err-reserve_parcels-clause-streams : goal.returns-in_err-reserve_parcels-clause-streams
returns-in_err-reserve_parcels-clause-streams c =
    let p = err_from_is_err_and c.from_residual-in_err-reserve_parcels.result c.from_residual-in_err-reserve_parcels.ensures.1 in rw p.1 tt

pub returns-in_err-reserve_parcels-clause-blocks : goal.returns-in_err-reserve_parcels-clause-blocks
returns-in_err-reserve_parcels-clause-blocks c =
    let p = err_from_is_err_and c.from_residual-in_err-reserve_parcels.result c.from_residual-in_err-reserve_parcels.ensures.1 in rw p.1 tt

pub returns-in_err-reserve_parcels-clause-streams_room : goal.returns-in_err-reserve_parcels-clause-streams_room
returns-in_err-reserve_parcels-clause-streams_room c =
    let p = err_from_is_err_and c.from_residual-in_err-reserve_parcels.result c.from_residual-in_err-reserve_parcels.ensures.1 in rw p.1 tt

pub returns-in_err-reserve_parcels-clause-parcels_room : goal.returns-in_err-reserve_parcels-clause-parcels_room
returns-in_err-reserve_parcels-clause-parcels_room c =
    let p = err_from_is_err_and c.from_residual-in_err-reserve_parcels.result c.from_residual-in_err-reserve_parcels.ensures.1 in rw p.1 tt

pub returns-in_err-reserve_parcels-clause-room : goal.returns-in_err-reserve_parcels-clause-room
returns-in_err-reserve_parcels-clause-room c =
    let p = err_from_is_err_and c.from_residual-in_err-reserve_parcels.result c.from_residual-in_err-reserve_parcels.ensures.1 in rw p.1 tt

pub returns-in_err-reserve_parcels-clause-block_room : goal.returns-in_err-reserve_parcels-clause-block_room
returns-in_err-reserve_parcels-clause-block_room c =
    let p = err_from_is_err_and c.from_residual-in_err-reserve_parcels.result c.from_residual-in_err-reserve_parcels.ensures.1 in rw p.1 tt

pub returns-in_default-clause-streams : goal.returns-in_default-clause-streams
returns-in_default-clause-streams c = tt

pub returns-in_default-clause-blocks : goal.returns-in_default-clause-blocks
returns-in_default-clause-blocks c = tt

pub returns-in_default-clause-streams_room : goal.returns-in_default-clause-streams_room
returns-in_default-clause-streams_room c = tt

pub returns-in_default-clause-parcels_room : goal.returns-in_default-clause-parcels_room
returns-in_default-clause-parcels_room c = tt

pub returns-in_default-clause-room : goal.returns-in_default-clause-room
returns-in_default-clause-room c = tt

pub returns-in_default-clause-block_room : goal.returns-in_default-clause-block_room
returns-in_default-clause-block_room c = tt

pub returns-in_default-clause-capacity : goal.returns-in_default-clause-capacity
returns-in_default-clause-capacity c = tt

pub returns-in_default-clause-same : goal.returns-in_default-clause-same
returns-in_default-clause-same c = refl

pub returns-in_default-clause-inputs : goal.returns-in_default-clause-inputs
returns-in_default-clause-inputs c = refl

pub returns-in_default-clause-notices : goal.returns-in_default-clause-notices
returns-in_default-clause-notices c = refl

pub returns-clause-inputs : goal.returns-clause-inputs
returns-clause-inputs c = c.reserve-2.ensures.inputs

pub returns-clause-notices : goal.returns-clause-notices
returns-clause-notices c = c.reserve.ensures.value

pub returns-clause-more : goal.returns-clause-more
returns-clause-more c = c.reserve.ensures.capacity

pub returns-in_err-reserve-clause-same : goal.returns-in_err-reserve-clause-same
returns-in_err-reserve-clause-same c = refl

pub returns-in_err-reserve-clause-inputs : goal.returns-in_err-reserve-clause-inputs
returns-in_err-reserve-clause-inputs c = refl

pub returns-in_err-reserve-clause-notices : goal.returns-in_err-reserve-clause-notices
returns-in_err-reserve-clause-notices c = c.reserve.ensures.value

pub returns-in_err-reserve-clause-more : goal.returns-in_err-reserve-clause-more
returns-in_err-reserve-clause-more c = c.reserve.ensures.capacity

pub returns-in_err-reserve-2-clause-same : goal.returns-in_err-reserve-2-clause-same
returns-in_err-reserve-2-clause-same c = refl

pub returns-in_err-reserve-2-clause-inputs : goal.returns-in_err-reserve-2-clause-inputs
returns-in_err-reserve-2-clause-inputs c = c.reserve-2.ensures.inputs

pub returns-in_err-reserve-2-clause-notices : goal.returns-in_err-reserve-2-clause-notices
returns-in_err-reserve-2-clause-notices c = c.reserve.ensures.value

pub returns-in_err-reserve-2-clause-more : goal.returns-in_err-reserve-2-clause-more
returns-in_err-reserve-2-clause-more c = c.reserve.ensures.capacity

pub returns-in_err-streams-clause-same : goal.returns-in_err-streams-clause-same
returns-in_err-streams-clause-same c = refl

pub returns-in_err-streams-clause-inputs : goal.returns-in_err-streams-clause-inputs
returns-in_err-streams-clause-inputs c = c.reserve-2.ensures.inputs

pub returns-in_err-streams-clause-notices : goal.returns-in_err-streams-clause-notices
returns-in_err-streams-clause-notices c = c.reserve.ensures.value

pub returns-in_err-streams-clause-more : goal.returns-in_err-streams-clause-more
returns-in_err-streams-clause-more c = c.reserve.ensures.capacity

pub returns-in_err-reserve_parcels-clause-same : goal.returns-in_err-reserve_parcels-clause-same
returns-in_err-reserve_parcels-clause-same c = c.reserve_parcels.ensures.same

pub returns-in_err-reserve_parcels-clause-inputs : goal.returns-in_err-reserve_parcels-clause-inputs
returns-in_err-reserve_parcels-clause-inputs c = c.reserve-2.ensures.inputs

pub returns-in_err-reserve_parcels-clause-notices : goal.returns-in_err-reserve_parcels-clause-notices
returns-in_err-reserve_parcels-clause-notices c = c.reserve.ensures.value

pub returns-in_err-reserve_parcels-clause-more : goal.returns-in_err-reserve_parcels-clause-more
returns-in_err-reserve_parcels-clause-more c = c.reserve.ensures.capacity
