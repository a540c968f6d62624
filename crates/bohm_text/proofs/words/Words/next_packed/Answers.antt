use Rattle.std.proofs.Common.{◌∷◌, [], None, refl, take, drop, length, ◌≡◌, ◌+◌, ◌-◌, sym, ap, ◌∙◌, arith, List, ℕ}
use Rattle.std.specs.Prelude.{◌==◌}
use Rattle.std.specs.List.{position_from}
use Rattle.std.proofs.lemmas.List.{length-drop, take_all}
use Rattle.bohm_text.specs.Cut.{split}
use Rattle.bohm_text.specs.WordsInside.{split_rest}
use Rattle.bohm_text.proofs.Cuts.{cut_none, cut_some}
use Rattle.bohm_text.proofs.words.Words.next_packed.Goals as goal

pub returns-in-Some : goal.returns-in-Some
returns-in-Some c =
    let rest : List ℕ = c.in_ok-rest.rest.now in
    let at : ℕ = c.in-Some.at in
    let behind : List ℕ = take (length rest - (at + 1)) (drop (at + 1) rest) in
    let all : behind ≡ drop (at + 1) rest = take_all (length rest - (at + 1)) (drop (at + 1) rest) (omega (arith, length-drop (at + 1) rest)) in
    sym c.self.view_is ∙ (ap split_rest c.in_ok-rest.was
    ∙ (cut_some rest at c.in-Some.ensures.first ∙ ap (λ r. take at rest ∷ split 32 r) (sym all)) ∙ ap (λ w. w ∷ split 32 behind) (sym c.front.ensures))

pub returns-then-lacks : goal.returns-then-lacks
returns-then-lacks c =
    let rest : List ℕ = c.in_ok-rest.rest.now in
    let none : position_from (λ other. other == 32) 0 rest ≡ None =
    ap (position_from (λ other. other == 32) 0) (sym c.new-word.ensures) ∙ c.if-lacks.ensures.lacking refl in
    sym c.self.view_is ∙ (ap split_rest c.in_ok-rest.was ∙ cut_none rest none) ∙ ap (λ w. w ∷ []) (sym c.new-word.ensures)
