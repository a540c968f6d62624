use Rattle.std.proofs.Common.{◌≡◌, ◌+◌, ◌-◌, List, ℕ, length, take, drop, ap, sym, ◌∙◌, arith}
use Rattle.std.proofs.lemmas.List.{length-drop, take_all}
use Rattle.bohm_text.specs.Cut.{split}
use Rattle.bohm_tidy.proofs.ByWords.{line_some}
use Rattle.bohm_tidy.proofs.Marks.{same_lines, some_line}
use Rattle.bohm_tidy.proofs.plain.line_at.Goals as goal

pub lines-init : goal.lines-init
lines-init c =
    let lines : length (split 10 c.without_mark-rest.result.now) ≡ length (split 10 c.args.text.now) =
    ap (λ (bs : List ℕ). length (split 10 bs)) c.without_mark-rest.ensures.value ∙ same_lines c.args.text.now in
    (omega (arith, c.without_mark-rest.ensures.short), omega arith, omega (arith, lines))

pub returns-then-len-place : goal.returns-then-len-place
returns-then-len-place c = record {
  counted = c.lines.invariant.1;
  within = omega (arith, c.lines.invariant.2, some_line c.lines.rest.now);
}

pub lines-preserved : goal.lines-preserved
lines-preserved c =
    let rest : List ℕ = c.lines.rest.now in
    let at : ℕ = c.in-Some.at in
    let shorter = length-drop (at + 1) rest in
    let all : take (length rest - (at + 1)) (drop (at + 1) rest) ≡ drop (at + 1) rest =
    take_all (length rest - (at + 1)) (drop (at + 1) rest) (omega (arith, length-drop (at + 1) rest)) in
    let cut = ap (λ (ls : List (List ℕ)). length ls) (line_some rest at (sym c.place_of.ensures.first ∙ c.in-Some.is)) in (
      rw all (omega (arith, c.lines.invariant.0, shorter, c.in-Some.ensures.inside)),
      omega arith,
      rw all (omega (arith, c.lines.invariant.2, cut)),
    )

pub returns : goal.returns
returns c = record {
  counted = c.lines.invariant.1;
  within = omega (arith, c.lines.invariant.2, some_line c.lines.rest.now);
}
