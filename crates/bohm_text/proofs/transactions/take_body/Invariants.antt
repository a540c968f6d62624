use Rattle.std.proofs.Common.{length}
use Rattle.bohm_log.specs.Drafting.{IsBetween}
use Rattle.bohm_text.specs.Transactions.{StmtsRead}
use Rattle.bohm_text.proofs.transactions.take_body.Given as goal

abbrev pub invariant-stmts : goal.invariant-stmts
invariant-stmts l = record {
  so_far : StmtsRead l.fn.text l.rest l.fn.draft l.draft;
  between : IsBetween l.draft;
}

abbrev pub decreases-stmts : goal.decreases-stmts
decreases-stmts l = length l.rest
