use Rattle.std.proofs.Common.{◌≡◌, ℕ, List, drop}
use Rattle.std.specs.Prelude.{◌||◌}
use Rattle.bohm_types.specs.Keys.{is_among}
use Rattle.bohm_check.specs.Distinct.{is_declared}
use Rattle.bohm_check.proofs.summary.declared_names.Given as goal

abbrev pub invariant-loop-index : goal.invariant-loop-index
invariant-loop-index l = (k : List ℕ) → (is_among l.names.items k || is_declared (drop l.index l.log) k) ≡ is_declared l.log k
