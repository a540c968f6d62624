use Rattle.std.proofs.Common.{sym, ◌∙◌}
use Rattle.bohm_board.proofs.BoardLaw.{one_holder}
use Rattle.bohm_board.proofs.EventRuns.{reached_lawful}
use Rattle.bohm_board.proofs.laws.ruled_is_lawful.Goals as goal

pub returns-clause-lawful : goal.returns-clause-lawful
returns-clause-lawful c = λ b t rule. (rule.shows, reached_lawful b rule.state rule.reached)

pub returns-clause-alone : goal.returns-clause-alone
returns-clause-alone c = λ b s p q u law first second. one_holder p q (sym ((law.each p).held u first) ∙ (law.each q).held u second)
