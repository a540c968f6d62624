use Rattle.std.proofs.Common.{◌+◌, ◌≤◌, length, map, take}
use Rattle.bohm_log.specs.Calling.{argument_of}
use Rattle.bohm_log.specs.Columns.{shared_of, NumbersCome}
use Rattle.bohm_log.specs.Handles.{keys_named}
use Rattle.bohm_log.proofs.columns.Columns.add_arguments.Given as goal

abbrev pub invariant-loop-name : goal.invariant-loop-name
invariant-loop-name g l = NumbersCome (shared_of l.fn.self) (shared_of l.self) (map (argument_of (keys_named l.args)) (take l.name-index l.names))
    × (length l.self.names ≤ length l.fn.self.names + l.name-index)
