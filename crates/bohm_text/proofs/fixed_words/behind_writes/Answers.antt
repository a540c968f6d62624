use Rattle.bohm_text.proofs.Fronts.{of_writes}
use Rattle.bohm_text.proofs.fixed_words.behind_writes.Goals as goal

pub returns : goal.returns
returns c = of_writes c.args.line.now c.in_ok-behind.field-0.now c.in_ok-behind.ensures.some c.behind-2.result c.behind-2.ensures.some
