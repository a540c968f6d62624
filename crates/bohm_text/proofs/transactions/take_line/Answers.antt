use Rattle.bohm_text.proofs.WholeTxns.{line_read}
use Rattle.bohm_text.proofs.transactions.take_line.Goals as goal

pub returns : goal.returns
returns c =
    line_read c.args.text.now c.in-Some.line.now c.in-Some.rest.now c.args.draft.now c.read_stmt.new.draft c.in-Some.ensures.bytes c.in-Ok.ensures
