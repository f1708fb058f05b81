use Rattle.std.proofs.Common.{◌≡◌, Some, None, sym}
use Rattle.std.specs.List.{position}
use Rattle.px_sieve.specs.Sieve.{first_taken}
use Rattle.px_sieve.specs.Standing.{is_line}
use Rattle.px_sieve.proofs.Lines.{taken-there, first-there, taken-none, first-none, fewer-there}
use Rattle.px_sieve.proofs.sieve.take_on.Goals as goal

pub returns-in-Some-clause-heard : goal.returns-in-Some-clause-heard
returns-in-Some-clause-heard c = λ heard all.
    let found : position (is_line c.args.conn) c.args.lines.now.items ≡ Some c.in-Some.place = rw (← c.as_slice.ensures.value) (sym c.in-Some.ensures) in
    taken-there c.args.conn c.args.lines.now.items heard all c.in-Some.place c.index_mut.result.now c.index_mut.ensures.value found first_taken c.take_first.new.line c.take_first.ensures.hears

pub returns-in-Some-clause-first : goal.returns-in-Some-clause-first
returns-in-Some-clause-first c = λ heard all.
    let found : position (is_line c.args.conn) c.args.lines.now.items ≡ Some c.in-Some.place = rw (← c.as_slice.ensures.value) (sym c.in-Some.ensures) in
    first-there c.args.conn c.args.lines.now.items heard all c.in-Some.place c.index_mut.result.now c.index_mut.ensures.value found c.take_first.result c.take_first.ensures.first

pub returns-in-Some-clause-fewer : goal.returns-in-Some-clause-fewer
returns-in-Some-clause-fewer c =
    let found : position (is_line c.args.conn) c.args.lines.now.items ≡ Some c.in-Some.place = rw (← c.as_slice.ensures.value) (sym c.in-Some.ensures) in
    fewer-there c.args.conn c.args.lines.now.items c.in-Some.place c.index_mut.result.now c.take_first.new.line c.take_first.result c.index_mut.ensures.value found c.take_first.ensures.fewer

pub returns-in-None-clause-heard : goal.returns-in-None-clause-heard
returns-in-None-clause-heard c = λ heard all.
    let none : position (is_line c.args.conn) c.args.lines.now.items ≡ None = rw (← c.as_slice.ensures.value) (sym c.in-None.ensures) in
    taken-none c.args.conn c.args.lines.now.items heard all none

pub returns-in-None-clause-first : goal.returns-in-None-clause-first
returns-in-None-clause-first c = λ heard all.
    let none : position (is_line c.args.conn) c.args.lines.now.items ≡ None = rw (← c.as_slice.ensures.value) (sym c.in-None.ensures) in
    first-none c.args.conn c.args.lines.now.items heard all none
