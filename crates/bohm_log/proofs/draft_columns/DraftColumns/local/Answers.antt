use Rattle.bohm_log.specs.Drafting.{parts_of}
use Rattle.bohm_log.proofs.Standing.{others_grow, with_others, local_stands}
use Rattle.bohm_log.proofs.draft_columns.DraftColumns.local.Goals as goal

pub returns-in_err-place_other-clause-grows : goal.returns-in_err-place_other-clause-grows
returns-in_err-place_other-clause-grows g c = others_grow (parts_of c.args.self.now) c.place_other.new.others c.in_err-place_other.ensures.grows

pub returns-clause-grows : goal.returns-clause-grows
returns-clause-grows g c = others_grow (parts_of c.args.self.now) c.place_other.new.others c.in_ok-place_other.ensures.grows

pub returns-clause-ok : goal.returns-clause-ok
returns-clause-ok g c = local_stands (with_others (parts_of c.args.self.now) c.place_other.new.others) c.in_ok-place_other.field-0 c.args.name c.args.minus
    c.in_ok-place_other.ensures.ok
