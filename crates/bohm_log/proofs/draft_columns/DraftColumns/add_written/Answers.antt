use Rattle.bohm_log.specs.Drafting.{parts_of}
use Rattle.bohm_log.proofs.Standing.{written_came}
use Rattle.bohm_log.proofs.draft_columns.DraftColumns.add_written.Goals as goal

pub returns-clause-ok : goal.returns-clause-ok
returns-clause-ok g c =
    written_came (parts_of c.args.self.now) c.push.new.self.items c.args.action c.args.name.now c.args.place _ _ _ _ c.requires.writes c.requires.place
    c.in_ok-push.ensures.items
