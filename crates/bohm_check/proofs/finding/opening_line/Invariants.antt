use Rattle.std.proofs.Common.{◌≡◌}
use Rattle.bohm_check.specs.Lines.{opening_line}
use Rattle.bohm_check.proofs.finding.opening_line.Given as goal

abbrev pub invariant-loop-i : goal.invariant-loop-i
invariant-loop-i l = l.line ≡ opening_line l.doc l.i
