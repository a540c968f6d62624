-- None of the lists so far has a pair.
use Rattle.std.proofs.Common.{◌≡◌, ◌<◌, ℕ, [], get_or}
use Rattle.bohm_exec.specs.Asides.{Pairs}
use Rattle.bohm_exec.proofs.completion.are_empty.Given as goal

abbrev pub invariant-loop-aside : goal.invariant-loop-aside
invariant-loop-aside l = (i : ℕ) (d : Pairs) → i < l.aside-index → get_or l.asides i d ≡ []
