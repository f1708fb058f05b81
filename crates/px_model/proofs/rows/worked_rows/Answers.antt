-- Each row is a computation.
use Rattle.px_model.proofs.Computed as computed
use Rattle.px_model.proofs.rows.worked_rows.Goals as goal

pub returns-clause-underrun_plays : goal.returns-clause-underrun_plays
returns-clause-underrun_plays c = computed.underrun_plays

pub returns-clause-underrun_gives : goal.returns-clause-underrun_gives
returns-clause-underrun_gives c = computed.underrun_gives

pub returns-clause-seek_plays : goal.returns-clause-seek_plays
returns-clause-seek_plays c = computed.seek_plays

pub returns-clause-seek_gives : goal.returns-clause-seek_gives
returns-clause-seek_gives c = computed.seek_gives

pub returns-clause-limit_plays : goal.returns-clause-limit_plays
returns-clause-limit_plays c = computed.limit_plays

pub returns-clause-limit_gives : goal.returns-clause-limit_gives
returns-clause-limit_gives c = computed.limit_gives

pub returns-clause-overflow_plays : goal.returns-clause-overflow_plays
returns-clause-overflow_plays c = computed.overflow_plays

pub returns-clause-overflow_gives : goal.returns-clause-overflow_gives
returns-clause-overflow_gives c = computed.overflow_gives

pub returns-clause-rewind_plays : goal.returns-clause-rewind_plays
returns-clause-rewind_plays c = computed.rewind_plays

pub returns-clause-rewind_gives : goal.returns-clause-rewind_gives
returns-clause-rewind_gives c = computed.rewind_gives

pub returns-clause-late_plays : goal.returns-clause-late_plays
returns-clause-late_plays c = computed.late_plays

pub returns-clause-late_gives : goal.returns-clause-late_gives
returns-clause-late_gives c = computed.late_gives

pub returns-clause-loud_plays : goal.returns-clause-loud_plays
returns-clause-loud_plays c = computed.loud_plays

pub returns-clause-deep_plays : goal.returns-clause-deep_plays
returns-clause-deep_plays c = computed.deep_plays

pub returns-clause-balanced_plays : goal.returns-clause-balanced_plays
returns-clause-balanced_plays c = computed.balanced_plays

pub returns-clause-eighth_plays : goal.returns-clause-eighth_plays
returns-clause-eighth_plays c = computed.eighth_plays

pub returns-clause-drain_gives : goal.returns-clause-drain_gives
returns-clause-drain_gives c = computed.drain_gives

pub returns-clause-stop_gives : goal.returns-clause-stop_gives
returns-clause-stop_gives c = computed.stop_gives

pub returns-clause-hold_plays : goal.returns-clause-hold_plays
returns-clause-hold_plays c = computed.hold_plays

pub returns-clause-hold_gives : goal.returns-clause-hold_gives
returns-clause-hold_gives c = computed.hold_gives

pub returns-clause-cork_plays : goal.returns-clause-cork_plays
returns-clause-cork_plays c = computed.cork_plays

pub returns-clause-cork_gives : goal.returns-clause-cork_gives
returns-clause-cork_gives c = computed.cork_gives

pub returns-clause-flush_plays : goal.returns-clause-flush_plays
returns-clause-flush_plays c = computed.flush_plays

pub returns-clause-flush_gives : goal.returns-clause-flush_gives
returns-clause-flush_gives c = computed.flush_gives

pub returns-clause-minreq_gives : goal.returns-clause-minreq_gives
returns-clause-minreq_gives c = computed.minreq_gives

pub returns-clause-last_gives : goal.returns-clause-last_gives
returns-clause-last_gives c = computed.last_gives
