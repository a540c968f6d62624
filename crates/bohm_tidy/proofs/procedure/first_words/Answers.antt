use Rattle.std.proofs.Common.{◌≡◌, ◌+◌, ◌-◌, ◌∙◌, [], ◌∷◌, List, ℕ, length, take, drop, ap, sym, arith}
use Rattle.std.specs.Prelude.{◌==◌}
use Rattle.std.proofs.lemmas.List.{length-drop, take_all}
use Rattle.bohm_text.specs.Cut.{split}
use Rattle.bohm_text.proofs.ForCallers.{some_left}
use Rattle.bohm_tidy.specs.Plain.{first_words}
use Rattle.bohm_tidy.proofs.ByWords.{line_none, line_some, none_left}
use Rattle.bohm_tidy.proofs.Heads.{words_behind, words_here, words_last}
use Rattle.bohm_tidy.proofs.procedure.first_words.Goals as goal

pub lines-init : goal.lines-init
lines-init c = record {
  words = ap (λ (bs : List ℕ). first_words (split 10 bs)) c.without_mark-rest.ensures.value;
  none = ap length c.new-exact.ensures.items;
  shorter = c.without_mark-rest.ensures.short;
}

pub returns-then-not-is_empty : goal.returns-then-not-is_empty
returns-then-not-is_empty c =
    let rest : List ℕ = c.lines.rest.now in
    let line : List ℕ = c.put_line.new.out.items in
    words_here rest (take c.in-Some.at rest) c.lines.exact.items line _ (split 10 (drop (c.in-Some.at + 1) rest))
    (line_some rest c.in-Some.at (sym c.place_of.ensures.first ∙ c.in-Some.is)) c.lines.invariant.none c.in_ok-put_line.ensures
    (some_left (length line) (c.if-not-is_empty.ensures ∙ ap (λ (bs : List ℕ). length bs == 0) c.as_slice.ensures.value)) c.lines.invariant.words

pub lines-preserved : goal.lines-preserved
lines-preserved c =
    let rest : List ℕ = c.lines.rest.now in
    let at : ℕ = c.in-Some.at in
    let line : List ℕ = c.put_line.new.out.items in
    let shorter = length-drop (at + 1) rest in
    let all : take (length rest - (at + 1)) (drop (at + 1) rest) ≡ drop (at + 1) rest =
    take_all (length rest - (at + 1)) (drop (at + 1) rest) (omega (arith, length-drop (at + 1) rest)) in
    let none : length line ≡ 0 =
    none_left (length line) (c.if-not-is_empty.ensures ∙ ap (λ (bs : List ℕ). length bs == 0) c.as_slice.ensures.value) in
    record {
      words = rw all (words_behind rest (take at rest) c.lines.exact.items line _ (split 10 (drop (at + 1) rest))
          (line_some rest at (sym c.place_of.ensures.first ∙ c.in-Some.is)) c.lines.invariant.none c.in_ok-put_line.ensures none c.lines.invariant.words);
      none = none;
      shorter = rw all (omega (arith, c.lines.invariant.shorter, shorter));
    }

pub returns : goal.returns
returns c =
    let rest : List ℕ = c.lines.rest.now in
    words_last rest c.lines.exact.items c.put_line-2.new.out.items _ (line_none rest (sym c.place_of.ensures.first ∙ c.in_default.is)) c.lines.invariant.none
    c.in_ok-put_line-2.ensures c.lines.invariant.words
