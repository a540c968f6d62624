use Rattle.std.proofs.Common.{◌≡◌, ◌++◌, ◌-◌, ◌≤◌, max, replicate}
use Rattle.bohm_explain.proofs.pieces.put_blanks.Given as goal

abbrev pub invariant-pads : goal.invariant-pads
invariant-pads l = record {
  least : l.written ≤ l.column;
  most : l.column ≤ max l.width l.written;
  pads : l.out.items ≡ l.initial.out.items ++ replicate (l.column - l.written) 32;
}

abbrev pub decreases-pads : goal.decreases-pads
decreases-pads l = l.width - l.column
