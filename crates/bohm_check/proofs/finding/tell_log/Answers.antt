use Rattle.std.proofs.Common.{◌≡◌, ◌+◌, ◌++◌, ℕ, List, length, Some, sym, subst, ◌∙◌, ap}
use Rattle.std.specs.List.{slice_get}
use Rattle.bohm_types.specs.Txn.{Txn}
use Rattle.bohm_check.specs.Lines.{opening_line}
use Rattle.bohm_check.specs.All.{txn_told, log_told, AreTold}
use Rattle.bohm_check.proofs.Adding.{added}
use Rattle.bohm_check.proofs.Counting.{next_opening}
use Rattle.bohm_check.proofs.finding.tell_log.Goals as goal

pub loop-index-preserved : goal.loop-index-preserved
loop-index-preserved c =
    let d = c.args.doc.now in
    let i = c.loop-index.index in
    let at : slice_get d.log i ≡ Some c.txn-txn.result = ap (λ (ts : List Txn). slice_get ts i) (sym c.log-log.ensures) ∙ c.txn-txn.ensures in
    let told : AreTold c.loop-index.told (txn_told (i + 1) (opening_line d i) c.txn-txn.result) c.tell_txn.new.told = subst
    (λ (n : ℕ). AreTold c.loop-index.told (txn_told (i + 1) n c.txn-txn.result) c.tell_txn.new.told) c.loop-index.invariant.0 c.in_ok-tell_txn.ensures in (
      c.in_ok-line-2.ensures ∙ ap (λ (n : ℕ). n + length c.txn-txn.result.body + 4) c.loop-index.invariant.0 ∙ sym (next_opening d i c.txn-txn.result at),
      added (λ i. txn_told (i + 1) (opening_line d i)) d.log i
          (c.args.told.now ++ log_told d 0 d.log) c.txn-txn.result c.loop-index.told c.tell_txn.new.told at told c.loop-index.invariant.1,
    )
