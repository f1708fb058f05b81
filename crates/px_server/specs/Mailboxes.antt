-- Which mailboxes a sink's worker has.
use Rattle.std.specs.Arc.{arc_value}
use Rattle.px_lane_cell.specs.declared.ends.Boxes.{Boxes as Held}
use Rattle.px_lane_cell.specs.declared.ends.LaneEnds.{LaneEnds}
use Rattle.px_core_cell.specs.Boxes.{Boxes, name_of}
use Rattle.px_workers.specs.Working.{Unworked, mailboxes_of}

-- the names of these mailboxes
abbrev pub names_of : Held → Boxes
names_of b = record { inbox = name_of (arc_value b.inbox).queue; outbox = name_of (arc_value b.outbox).queue }

abbrev pub boxes_at : LaneEnds → Boxes
boxes_at ends = names_of ends.boxes

abbrev pub boxes_in : {D E : Type 0} → Unworked D E → Boxes
boxes_in u = names_of (mailboxes_of u)
