use Rattle.px_frame.proofs.SpellingLemmas.{no_bytes, one_more, whole-read, then-broken}
use Rattle.px_frame.proofs.law.frames_add_up.Goals as goal

pub returns-clause-none : goal.returns-clause-none
returns-clause-none c = no_bytes

pub returns-clause-one_more : goal.returns-clause-one_more
returns-clause-one_more c = one_more

pub returns-clause-read : goal.returns-clause-read
returns-clause-read c = whole-read

pub returns-clause-broken : goal.returns-clause-broken
returns-clause-broken c = then-broken
