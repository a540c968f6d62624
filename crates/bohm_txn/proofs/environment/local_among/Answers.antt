use Rattle.std.proofs.Common.{pos, ◌∙◌}
use Rattle.bohm_txn.proofs.Totals.{newest_found, newest_none}
use Rattle.bohm_txn.proofs.environment.local_among.Goals as goal

pub returns-in-Some : goal.returns-in-Some
returns-in-Some c = newest_found c.args.locals.now c.args.name.now (pos 0) c.in-Some.local.now c.in-Some.ensures

pub returns-in-None : goal.returns-in-None
returns-in-None c = c.from.ensures ∙ newest_none c.args.locals.now c.args.name.now (pos 0) c.in-None.ensures
