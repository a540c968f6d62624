use Rattle.std.proofs.Common.{ℕ, ◌<◌, get_or}
use Rattle.bohm_shapes.specs.declared.shape.Term.{Term}
use Rattle.bohm_shapes.specs.Running.{TermIn}
use Rattle.bohm_shapes.proofs.usable.is_sum_in.Given as goal

abbrev pub invariant-loop-term : goal.invariant-loop-term
invariant-loop-term l = (k : ℕ) (d : Term) → k < l.term-index → TermIn l.keys l.bound (get_or l.terms k d)
