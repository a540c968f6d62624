use Rattle.std.proofs.Common.{arith, subst, Err}
use Rattle.std.proofs.Sketches.{bounds}
use Rattle.bohm_text.specs.declared.fault.WindowFault.{WindowFault}
use Rattle.bohm_text.specs.Windowing.{ReadsFirst}
use Rattle.bohm_text.proofs.ForCallers.{lines_short, bad_begins, open_line}
use Rattle.bohm_reading.proofs.reading.first_refusal.Goals as goal

pub overflow_add-result : goal.overflow_add-result
overflow_add-result c =
    let h = subst (λ (f : WindowFault). ReadsFirst c.args.text.now (Err f)) c.in-Open-2.is c.requires in
    omega (arith, bounds, h.lines, lines_short c.args.text.now)

pub returns-in-Line : goal.returns-in-Line
returns-in-Line c = λ rest inner last. bad_begins c.args.text.now rest c.in-Line.n
    (subst (λ (f : WindowFault). ReadsFirst c.args.text.now (Err f)) c.in-Line.is c.requires)

pub returns-in-Open-2 : goal.returns-in-Open-2
returns-in-Open-2 c = λ rest inner last.
    let h = subst (λ (f : WindowFault). ReadsFirst c.args.text.now (Err f)) c.in-Open-2.is c.requires in
    let both = inner c.if-last.false in
    rw h.lines (open_line c.args.text.now rest both.0 h.short both.1)
