use Rattle.bohm_c.proofs.Opening.{opened, unopened}
use Rattle.bohm_c.proofs.session.open.Goals as goal

pub returns-in-Ok-clause-ok : goal.returns-in-Ok-clause-ok
returns-in-Ok-clause-ok c = opened c.args.text.now c.in-Ok.snapshot c.in-Ok.ensures.ok c.args.top c.restore.result c.restore.ensures.ok

pub returns-in-Ok-clause-err : goal.returns-in-Ok-clause-err
returns-in-Ok-clause-err c = unopened c.args.text.now c.in-Ok.snapshot c.in-Ok.ensures.ok c.restore.result c.restore.ensures.err
