use Rattle.std.proofs.Common.{◌≡◌, ◌+◌, ◌-◌, ◌*◌, ◌≤◌, drop, length}
use Rattle.bohm_read_ahead.specs.Sharing.{every, sampled, statements}
use Rattle.bohm_read_ahead.proofs.checked_chunk.are_long.Given as goal

abbrev pub invariant-sample : goal.invariant-sample
invariant-sample l = record {
  bodies : l.bodies + length (every l.step 0 (drop l.index l.part)) ≡ length (sampled l.part);
  statements : l.statements + statements (every l.step 0 (drop l.index l.part)) ≡ statements (sampled l.part);
  low : l.bodies ≤ l.index;
  high : l.index ≤ length l.part + l.step;
  few : l.statements ≤ l.bodies * 64;
}

abbrev pub decreases-sample : goal.decreases-sample
decreases-sample l = length l.part - l.index
