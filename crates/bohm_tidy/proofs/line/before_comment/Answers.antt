use Rattle.std.proofs.Common.{ap, sym, ◌∙◌, ℕ}
use Rattle.std.specs.Prelude.{Option}
use Rattle.bohm_tidy.specs.Line.{up_to}
use Rattle.bohm_tidy.proofs.line.before_comment.Goals as goal

pub returns-in-None : goal.returns-in-None
returns-in-None c = ap (λ (o : Option ℕ). up_to o c.args.line.now) (sym c.in-None.is ∙ c.place_of.ensures.first)

pub returns-in-Some : goal.returns-in-Some
returns-in-Some c = ap (λ (o : Option ℕ). up_to o c.args.line.now) (sym c.in-Some.is ∙ c.place_of.ensures.first)
