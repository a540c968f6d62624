use Rattle.std.proofs.Common.{◌≡◌, ◌++◌, drop, length}
use Rattle.std.specs.List.{flat_map}
use Rattle.bohm_c.specs.Rows.{rows_from, shows_of}
use Rattle.bohm_c.proofs.rows.rows_of.Given as goal

abbrev pub invariant-loop-index : goal.invariant-loop-index
invariant-loop-index l = (l.rows.replies.items ++ rows_from (length l.rows.values.items) (drop l.index l.replies) ≡ rows_from 0 l.replies)
    × (l.rows.values.items ++ flat_map shows_of (drop l.index l.replies) ≡ flat_map shows_of l.replies)
