use Rattle.std.proofs.Common.{◌≤◌, length, take, ap, ◌∙◌, arith}
use Rattle.std.proofs.lemmas.List.{length-take}
use Rattle.bohm_types.specs.Words.{words_of}
use Rattle.bohm_types.proofs.Words.{one_word}
use Rattle.bohm_types.proofs.packed_word.PackedWord.words.Goals as goal

pub returns : goal.returns
returns c =
    one_word (take c.self.inside.size c.self.inside.text.now) c.self.inside.first
    (omega (arith, c.if-self-gt8.false, length-take c.self.inside.size c.self.inside.text.now)) c.self.invariant.1
    ∙ ap words_of c.self.view_is
