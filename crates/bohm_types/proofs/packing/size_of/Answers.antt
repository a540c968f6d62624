use Rattle.std.proofs.Common.{◌-◌, ap, ◌∙◌}
use Rattle.bohm_types.proofs.Sizes.{of_four, of_three, of_two, of_one}
use Rattle.bohm_types.proofs.packing.size_of.Goals as goal

pub returns-then-words-ne0-clause-size : goal.returns-then-words-ne0-clause-size
returns-then-words-ne0-clause-size c = λ name h e.
    ap (λ z. 32 - z) c.zeros_behind.ensures ∙ of_four name c.args.words.now h e c.if-words-ne0.true

pub returns-then-words-ne0-2-clause-size : goal.returns-then-words-ne0-2-clause-size
returns-then-words-ne0-2-clause-size c = λ name h e.
    ap (λ z. 24 - z) c.zeros_behind-then-words-ne0-2.ensures ∙ of_three name c.args.words.now h e c.if-words-ne0.false c.if-words-ne0-2.true

pub returns-then-words-ne0-3-clause-size : goal.returns-then-words-ne0-3-clause-size
returns-then-words-ne0-3-clause-size c = λ name h e.
    ap (λ z. 16 - z) c.zeros_behind-then-words-ne0-3.ensures ∙ of_two name c.args.words.now h e c.if-words-ne0-2.false c.if-words-ne0-3.true

pub returns-clause-size : goal.returns-clause-size
returns-clause-size c = λ name h e.
    ap (λ z. 8 - z) c.zeros_behind-2.ensures ∙ of_one name c.args.words.now h e c.if-words-ne0-3.false
