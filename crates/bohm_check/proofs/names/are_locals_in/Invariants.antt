use Rattle.std.proofs.Common.{◌≡◌, drop}
use Rattle.std.specs.List.{list_all}
use Rattle.bohm_check.specs.Names.{locals_in}
use Rattle.bohm_check.proofs.names.are_locals_in.Given as goal

abbrev pub invariant-loop-index : goal.invariant-loop-index
invariant-loop-index l = list_all (λ term. locals_in l.names term.1) (drop l.index l.sum) ≡ list_all (λ term. locals_in l.names term.1) l.sum
