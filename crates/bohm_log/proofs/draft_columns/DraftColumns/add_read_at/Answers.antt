use Rattle.bohm_log.specs.Drafting.{parts_of}
use Rattle.bohm_log.proofs.Standing.{read_came}
use Rattle.bohm_log.proofs.draft_columns.DraftColumns.add_read_at.Goals as goal

pub returns-clause-ok : goal.returns-clause-ok
returns-clause-ok g c =
    read_came (parts_of c.args.self.now) c.push.new.self.items c.args.place c.args.name.now c.args.minus c.requires.place c.in_ok-push.ensures.items
