use Rattle.std.proofs.Common.{◌≡◌, take}
use Rattle.bohm_log.proofs.earlier.are_rows.Given as goal

abbrev pub invariant-loop-i : goal.invariant-loop-i
invariant-loop-i l = take l.i l.part ≡ take l.i l.rows
