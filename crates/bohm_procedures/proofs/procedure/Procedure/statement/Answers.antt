use Rattle.std.proofs.Common.{◌<◌, arith}
use Rattle.bohm_procedures.proofs.StatementLaws.{absent_in, found_in}
use Rattle.bohm_procedures.proofs.procedure.Procedure.statement.Goals as goal

pub returns-in-Some-clause-some : goal.returns-in-Some-clause-some
returns-in-Some-clause-some c =
    let some : 0 < c.args.number = omega (arith, c.if-number-eq0.false) in
    found_in c.args.self.now c.text.result.now c.args.number c.lines_before-before.result c.in-Some.text.now c.text.ensures.sound c.text.ensures.is some
    c.lines_before-before.ensures.line c.in-Some.ensures.some c.in-Some.ensures.inner

pub returns-in-None-clause-none : goal.returns-in-None-clause-none
returns-in-None-clause-none c =
    let some : 0 < c.args.number = omega (arith, c.if-number-eq0.false) in
    absent_in c.args.self.now c.text.result.now c.args.number c.lines_before-before.result c.text.ensures.sound c.text.ensures.is some
    c.lines_before-before.ensures.line c.in-None.ensures.none
