use Rattle.bohm_log.specs.Drafting.{parts_of}
use Rattle.bohm_log.proofs.Standing.{term_unseen}
use Rattle.bohm_log.proofs.draft_columns.DraftColumns.add_term.Goals as goal

pub returns-in-Err-clause-err : goal.returns-in-Err-clause-err
returns-in-Err-clause-err g c =
    c.cut_back.ensures.grows (parts_of c.args.self.now)
    (term_unseen (parts_of c.args.self.now) (parts_of c.term.new.self) _ c.in_ok-term.ensures.grows c.in-Err.ensures.items)
    c.requires.compact
