use Rattle.bohm_log.proofs.Standing.{large_grows, large_stands}
use Rattle.bohm_log.specs.Drafting.{parts_of}
use Rattle.bohm_log.proofs.draft_columns.DraftColumns.literal.Goals as goal

pub returns-in_err-add_large-in-Err-clause-grows : goal.returns-in_err-add_large-in-Err-clause-grows
returns-in_err-add_large-in-Err-clause-grows g c = large_grows (parts_of c.args.self.now) _ c.in_err-add_large-in-Err.ensures.grows

pub returns-in_ok-add_large-in-Err-clause-grows : goal.returns-in_ok-add_large-in-Err-clause-grows
returns-in_ok-add_large-in-Err-clause-grows g c = large_grows (parts_of c.args.self.now) _ c.in_ok-add_large-in-Err.ensures.grows

pub returns-in_ok-add_large-in-Err-clause-ok : goal.returns-in_ok-add_large-in-Err-clause-ok
returns-in_ok-add_large-in-Err-clause-ok g c = large_stands _ _ _ _ c.in_ok-add_large-in-Err.ensures.ok
