use Rattle.px_subscribe.proofs.WhatBecame.{say_what_became, none_between}
use Rattle.px_subscribe.proofs.laws.events_say_what_became.Goals as goal

pub returns-clause-each : goal.returns-clause-each
returns-clause-each c = say_what_became

pub returns-clause-none : goal.returns-clause-none
returns-clause-none c = none_between
