use Rattle.std.proofs.lemmas.Option.{IfSome_then}
use Rattle.bohm_text.proofs.WholeTxns.{signed_read}
use Rattle.bohm_text.proofs.whole_sums.take_first_at.Goals as goal

pub returns : goal.returns
returns c = IfSome_then c.take_term_at.result c.take_term_at.ensures
    (λ rest. signed_read c.first_sign-minus.result.0 c.args.text.now c.first_sign-minus.result.1.now rest.now c.args.draft.now c.take_term_at.new.draft
    c.first_sign-minus.ensures)
