use Rattle.std.proofs.Common.{◌≡◌, drop}
use Rattle.std.specs.List.{list_all}
use Rattle.bohm_check.specs.Names.{reads_in}
use Rattle.bohm_check.proofs.names.are_read_in.Given as goal

abbrev pub invariant-loop-index : goal.invariant-loop-index
invariant-loop-index l = list_all (λ term. reads_in l.names term.1) (drop l.index l.sum) ≡ list_all (λ term. reads_in l.names term.1) l.sum
