use Rattle.std.proofs.Common.{refl, sym, ◌∙◌, arith}
use Rattle.bohm_txn.proofs.Chunked.{more_none, more_some, formed_chunk, fault_within}
use Rattle.bohm_txn.specs.FirstFault.{first_in_log}
use Rattle.bohm_txn.proofs.incremental.check_more.Goals as goal

pub returns-in_err-fault-clause-checked : goal.returns-in_err-fault-clause-checked
returns-in_err-fault-clause-checked c = λ d counted so_far. rw c.from_residual.ensures (more_none d c.args.chunk.now c.args.in_chunk so_far c.requires
    c.in_err-fault.was)

pub returns-in_err-fault-clause-formed : goal.returns-in_err-fault-clause-formed
returns-in_err-fault-clause-formed c = λ none few. formed_chunk c.args.chunk.now (omega (arith, few))
    (sym c.in_err-fault.was ∙ c.requires (omega (arith, few)))

pub overflow_add-result : goal.overflow_add-result
overflow_add-result c = omega (
  arith,
  c.if-count-gt-MOST_TXNS.false,
  c.if-len-count.false,
  c.len.ensures,
  fault_within c.args.chunk.now c.in_ok-fault.fault (first_in_log c.args.chunk.now) refl
      (sym c.in_ok-fault.was ∙ c.requires (omega (arith, c.if-count-gt-MOST_TXNS.false, c.if-len-count.false, c.len.ensures))),
)

pub returns-clause-checked : goal.returns-clause-checked
returns-clause-checked c = λ d counted so_far. more_some c.args.count d c.args.chunk.now c.args.in_chunk c.in_ok-fault.fault counted
    c.if-count-gt-MOST_TXNS.false so_far c.requires c.in_ok-fault.was
