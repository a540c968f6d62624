use Rattle.std.proofs.Common.{◌≡◌, ◌+◌, ◌++◌, List, None, take, sym, ◌∙◌, ap}
use Rattle.std.specs.Prelude.{not}
use Rattle.std.proofs.lemmas.List.{append-nil}
use Rattle.bohm_txn.specs.FirstFault.{first_in_txn}
use Rattle.bohm_txn.proofs.ForCallers.{is_none}
use Rattle.bohm_check.specs.declared.told.Told.{Told}
use Rattle.bohm_check.proofs.Leading.{nothing_told}
use Rattle.bohm_check.proofs.finding.tell_txn.Goals as goal

pub returns-then-is_none : goal.returns-then-is_none
returns-then-is_none c =
    let none : first_in_txn c.args.txn.now ≡ None =
    sym c.first_in_txn.ensures ∙ is_none c.first_in_txn.result (c.is_none.ensures ∙ ap not c.if-is_none.true) in
    ap (take 20) (sym (append-nil c.args.told.now)
    ∙ ap (λ (ys : List Told). c.args.told.now ++ ys) (sym (nothing_told (c.args.index + 1) c.args.opening c.args.txn.now none)))
