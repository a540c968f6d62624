use Rattle.bohm_text.proofs.WholeTxns.{behind, parted, term_read}
use Rattle.bohm_text.proofs.whole_sums.take_term_at.Goals as goal

pub returns-in-Ok : goal.returns-in-Ok
returns-in-Ok c =
    term_read c.args.minus c.args.text.now c.word_of-word.result (behind c.word_end-end.result c.args.text.now) c.args.draft.now c.take_term.new.draft
    (parted c.word_end-end.result c.args.text.now c.word_of-word.result c.word_of-word.ensures) c.in-Ok.ensures
