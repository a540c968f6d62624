use Rattle.std.proofs.Common.{◌≡◌, ◌-◌, List, ℕ, take, drop, length, Some, get_or, sym, ap, ◌∙◌, arith}
use Rattle.std.specs.Prelude.{nat_eq}
use Rattle.std.proofs.lemmas.List.{length-drop, take_all}
use Rattle.bohm_text.specs.Cut.{split}
use Rattle.bohm_text.specs.WordsInside.{split_rest}
use Rattle.bohm_text.specs.Signs.{behind_sign, sign_ahead}
use Rattle.bohm_text.proofs.Signs.{signed_words, sign_there, no_sign}
use Rattle.bohm_text.proofs.words.Words.next_sign.Goals as goal

pub returns-then-not-begins_signed-clause-sign : goal.returns-then-not-begins_signed-clause-sign
returns-then-not-begins_signed-clause-sign c =
    no_sign c.in_ok-rest.rest.now (sym c.begins_signed.ensures.signed ∙ cc) ∙ ap sign_ahead (ap split_rest (sym c.in_ok-rest.was) ∙ c.self.view_is)

pub returns-clause-sign : goal.returns-clause-sign
returns-clause-sign c =
    sign_there c.in_ok-rest.rest.now (sym c.begins_signed.ensures.signed ∙ cc) ∙ ap sign_ahead (ap split_rest (sym c.in_ok-rest.was) ∙ c.self.view_is)

pub returns-clause-rest : goal.returns-clause-rest
returns-clause-rest c =
    let rest : List ℕ = c.in_ok-rest.rest.now in
    let all : take (length rest - 2) (drop 2 rest) ≡ drop 2 rest = take_all (length rest - 2) (drop 2 rest) (omega (arith, length-drop 2 rest)) in
    let sign = nat_eq (get_or rest 0 0) 45 in
    ap (split 32) all
    ∙ (ap (behind_sign (Some sign)) (sym (signed_words rest (sym c.begins_signed.ensures.signed ∙ cc)))
    ∙ ap (behind_sign (Some sign)) (ap split_rest (sym c.in_ok-rest.was) ∙ c.self.view_is))
