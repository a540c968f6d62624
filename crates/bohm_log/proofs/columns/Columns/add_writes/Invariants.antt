use Rattle.std.proofs.Common.{◌+◌, ◌≤◌, length, take}
use Rattle.bohm_log.specs.Columns.{shared_of, NumbersCome}
use Rattle.bohm_log.proofs.columns.Columns.add_writes.Given as goal

abbrev pub invariant-loop-name : goal.invariant-loop-name
invariant-loop-name g l =
    NumbersCome (shared_of l.fn.self) (shared_of l.self) (take l.name-index l.writes) × (length l.self.names ≤ length l.fn.self.names + l.name-index)
