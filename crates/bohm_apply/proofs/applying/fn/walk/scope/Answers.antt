use Rattle.std.proofs.Common.{rules}
use Rattle.bohm_place.specs.CutLogs.{cutting_of}
use Rattle.bohm_apply.proofs.Walks.{walk_rests}
use Rattle.bohm_apply.proofs.applying.fn.walk.scope.Goals as goal

pub returns-then-is_err : goal.returns-then-is_err
returns-then-is_err g c = walk_rests c.captures.progress.history (cutting_of c.captures.log) c.captures.executor.keep c.captures.progress.replies
    (search rules) c.captures.log.whole
