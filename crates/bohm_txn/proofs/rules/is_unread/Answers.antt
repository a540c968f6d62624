use Rattle.std.proofs.Common.{refl, sym, ◌∙◌}
use Rattle.bohm_txn.proofs.Placing.{unread_row}
use Rattle.bohm_txn.proofs.rules.is_unread.Goals as goal

pub returns-then-not-are_declared : goal.returns-then-not-are_declared
returns-then-not-are_declared c =
    let row = unread_row c.args.txn.now c.args.row.now c.terms_of.result.now c.requires.few c.requires.row c.terms_of.ensures.within c.terms_of.ensures.terms in
    sym (row ∙ rw (← c.are_declared.ensures, c.if-not-are_declared.true) refl)

pub returns-then-tests_key : goal.returns-then-tests_key
returns-then-tests_key c =
    let row = unread_row c.args.txn.now c.args.row.now c.terms_of.result.now c.requires.few c.requires.row c.terms_of.ensures.within c.terms_of.ensures.terms in
    sym (row ∙ rw (← c.are_declared.ensures, c.if-not-are_declared.false, ← c.tests_key.ensures, c.if-tests_key.true) refl)

pub returns-else-tests_key : goal.returns-else-tests_key
returns-else-tests_key c =
    let row = unread_row c.args.txn.now c.args.row.now c.terms_of.result.now c.requires.few c.requires.row c.terms_of.ensures.within c.terms_of.ensures.terms in
    c.if-tests_key.false ∙ sym (row ∙ rw (← c.are_declared.ensures, c.if-not-are_declared.false, ← c.tests_key.ensures, c.if-tests_key.false) refl)
