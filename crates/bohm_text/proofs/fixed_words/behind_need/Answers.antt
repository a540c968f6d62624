use Rattle.bohm_text.proofs.Ahead.{behind_need, no_need}
use Rattle.bohm_text.proofs.fixed_words.behind_need.Goals as goal

pub returns-in_err-behind : goal.returns-in_err-behind
returns-in_err-behind c = rw c.from_residual.ensures (no_need c.args.line.now c.in_err-behind.ensures.none)

pub returns : goal.returns
returns c =
    behind_need c.args.line.now c.in_ok-behind.field-0.now c.behind-2.result c.in_ok-behind.ensures.some c.behind-2.ensures.some c.behind-2.ensures.none
