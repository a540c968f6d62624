use Rattle.std.proofs.Common.{sym, ◌∙◌}
use Rattle.bohm_txn.proofs.Plain.{is_faultless}
use Rattle.bohm_txn.proofs.plain_rows.is_plain.Goals as goal

pub returns-then-is_plain_row : goal.returns-then-is_plain_row
returns-then-is_plain_row c = λ at_hand e before rows are. is_faultless c.args.txn.now c.args.row.now c.requires.reads c.requires.writes c.requires.row e
    c.args.noted.now.noted before c.others.ensures.apart rows are
    (sym c.is_plain_row.ensures ∙ c.if-is_plain_row.true)
    (rw (← c.terms.ensures.terms) (sym c.are_at_hand.ensures ∙ at_hand))
    (rw (← c.terms.ensures.terms) c.terms.ensures.within)
