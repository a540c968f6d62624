use Rattle.std.proofs.lemmas.Option.{IfSome_then}
use Rattle.bohm_text.proofs.WholeTxns.{body_ended, none_read, smaller_stmt, stmt_between, stmts_more}
use Rattle.bohm_text.proofs.transactions.take_body.Goals as goal

pub stmts-init : goal.stmts-init
stmts-init c = record { so_far = none_read c.args.text.now c.args.draft.now c.requires; between = c.requires }

pub stmts-smaller : goal.stmts-smaller
stmts-smaller c = smaller_stmt c.stmts.rest.now c.in-Some.others.now c.stmts.draft c.take_stmt.new.draft c.in-Some.ensures

pub stmts-preserved : goal.stmts-preserved
stmts-preserved c = record {
  so_far = stmts_more c.args.text.now c.stmts.rest.now c.in-Some.others.now c.args.draft.now c.stmts.draft c.take_stmt.new.draft
      c.stmts.invariant.so_far c.in-Some.ensures;
  between = stmt_between c.stmts.rest.now c.in-Some.others.now c.stmts.draft c.take_stmt.new.draft c.in-Some.ensures;
}

pub returns : goal.returns
returns c = IfSome_then c.behind.result c.behind.ensures.some
    (λ left. body_ended c.args.text.now c.stmts.rest.now left.now c.args.draft.now c.stmts.draft c.stmts.invariant.so_far)
