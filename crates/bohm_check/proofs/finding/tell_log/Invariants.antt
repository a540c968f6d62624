use Rattle.std.proofs.Common.{◌≡◌, ◌++◌, take, drop}
use Rattle.bohm_check.specs.All.{log_told}
use Rattle.bohm_check.specs.Lines.{opening_line}
use Rattle.bohm_check.proofs.finding.tell_log.Given as goal

abbrev pub invariant-loop-index : goal.invariant-loop-index
invariant-loop-index l = (l.line ≡ opening_line l.doc l.index)
    × (take 20 (l.told ++ log_told l.doc l.index (drop l.index l.doc.log)) ≡ take 20 (l.initial.told ++ log_told l.doc 0 l.doc.log))
