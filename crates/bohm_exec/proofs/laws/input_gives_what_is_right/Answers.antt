use Rattle.std.proofs.Common.{◌∙◌, sym}
use Rattle.bohm_board.proofs.ForCallers.{outcome_is_right, cell_is_right}
use Rattle.bohm_exec.proofs.laws.input_gives_what_is_right.Goals as goal

pub returns-clause-outcome : goal.returns-clause-outcome
returns-clause-outcome c = λ b s t o law inside wanted. let e = outcome_is_right b s t law.sound inside wanted in (λ h. sym e ∙ h, λ h. e ∙ h)

pub returns-clause-cell : goal.returns-clause-cell
returns-clause-cell c = λ b s x d law is wanted. let e = cell_is_right b s x law.sound is wanted in (λ h. sym e ∙ h, λ h. e ∙ h)
