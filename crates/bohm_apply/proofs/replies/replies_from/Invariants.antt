-- The replies of the first transactions of the range were appended.
use Rattle.bohm_apply.specs.Settling.{IsShareFrom}
use Rattle.bohm_apply.proofs.replies.replies_from.Given as goal

abbrev pub invariant-loop-index : goal.invariant-loop-index
invariant-loop-index g l = IsShareFrom g.S.ReplySink.is_bare g.S.ReplySink.appended l.finished l.from l.index l.replies
