use Rattle.std.proofs.Common.{◌≡◌, ◌++◌, drop}
use Rattle.std.specs.List.{flat_map}
use Rattle.bohm_text.specs.Print.{lines_text, txn_lines}
use Rattle.bohm_tidy.specs.Settled.{settled_log}
use Rattle.bohm_tidy.proofs.settled.put_log.Given as goal

abbrev pub invariant-loop-index : goal.invariant-loop-index
invariant-loop-index l = l.out.items ++ lines_text (flat_map txn_lines (settled_log l.reads l.writes (drop l.index l.log)))
    ≡ l.initial.out.items ++ lines_text (flat_map txn_lines (settled_log l.no_reads l.no_writes l.log))
