use Rattle.std.proofs.Common.{◌≡◌, ◌+◌, ℕ, List, length, Some, sym, ◌∙◌, ap}
use Rattle.std.specs.List.{slice_get}
use Rattle.bohm_types.specs.Txn.{Txn}
use Rattle.bohm_check.proofs.Counting.{next_opening}
use Rattle.bohm_check.proofs.finding.opening_line.Goals as goal

pub loop-i-preserved : goal.loop-i-preserved
loop-i-preserved c =
    let at : slice_get c.args.doc.now.log c.loop-i.i ≡ Some c.txn.result =
    ap (λ (ts : List Txn). slice_get ts c.loop-i.i) (sym c.log-log.ensures) ∙ c.txn.ensures in
    c.in_ok-line-2.ensures ∙ ap (λ (n : ℕ). n + length c.txn.result.body + 4) c.loop-i.invariant ∙ sym (next_opening c.args.doc.now c.loop-i.i c.txn.result at)
