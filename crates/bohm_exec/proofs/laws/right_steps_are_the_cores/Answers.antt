use Rattle.std.proofs.Common.{◌∙◌}
use Rattle.bohm_board.proofs.ForCallers.{outcome_is_right, cell_is_right, wanted_filled}
use Rattle.bohm_exec.proofs.laws.right_steps_are_the_cores.Goals as goal

pub returns-clause-fill : goal.returns-clause-fill
returns-clause-fill c = λ b s p x d law is holds unfilled wanted right. record {
  slot = is;
  holds = holds;
  unfilled = unfilled;
  wanted = wanted;
  cell = cell_is_right b s x law.sound is (wanted_filled b s x.txn (s.views p) (law.each p).absent (law.each p).present wanted) ∙ right;
}

pub returns-clause-finish : goal.returns-clause-finish
returns-clause-finish c = λ b s p t o law inside holds filled wanted right. record {
  position = inside;
  holds = holds;
  filled = filled;
  wanted = wanted;
  outcome = outcome_is_right b s t law.sound inside (wanted_filled b s t (s.views p) (law.each p).absent (law.each p).present wanted) ∙ right;
}
