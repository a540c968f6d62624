use Rattle.std.specs.List.{flat_map}
use Rattle.bohm_text.specs.Print.{lines_text, txn_lines}
use Rattle.bohm_text.proofs.Printed.{print_more, lines_append}
use Rattle.bohm_text.proofs.printing.put_log.Goals as goal

pub loop-index-preserved : goal.loop-index-preserved
loop-index-preserved c = print_more (λ log. lines_text (flat_map txn_lines log)) c.args.log.now c.loop-index.index c.txn.result _
    (lines_text (txn_lines c.txn.result)) _ _ c.txn.ensures (lines_append (txn_lines c.txn.result) _) c.in_ok-put_txn.ensures c.loop-index.invariant
