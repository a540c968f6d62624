use Rattle.std.proofs.Common.{◌≡◌, ◌+◌, ◌-◌, length, take, drop, List, ℕ, ap, sym, ◌∙◌, arith}
use Rattle.std.proofs.lemmas.List.{length-drop, take_all}
use Rattle.bohm_text.specs.Cut.{split}
use Rattle.bohm_tidy.specs.Plain.{Written, fed_all, nothing, written_of}
use Rattle.bohm_tidy.proofs.ByWords.{fed_last, fed_more, line_none, line_some}
use Rattle.bohm_tidy.proofs.plain.plain_text.Goals as goal

pub lines-init : goal.lines-init
lines-init c = (
  ap (λ (w : Written). fed_all w (split 10 c.without_mark-rest.result.now)) c.new-plain.ensures
      ∙ ap (λ (bs : List ℕ). fed_all nothing (split 10 bs)) c.without_mark-rest.ensures.value,
  c.without_mark-rest.ensures.short,
)

pub lines-preserved : goal.lines-preserved
lines-preserved c =
    let rest : List ℕ = c.lines.rest.now in
    let at : ℕ = c.in-Some.at in
    let shorter = length-drop (at + 1) rest in
    let all : take (length rest - (at + 1)) (drop (at + 1) rest) ≡ drop (at + 1) rest =
    take_all (length rest - (at + 1)) (drop (at + 1) rest) (omega (arith, length-drop (at + 1) rest)) in (
      rw all (fed_more (written_of c.feed.new.self) (written_of c.lines.plain) rest (take at rest) (drop (at + 1) rest) _
          (line_some rest at (sym c.place_of.ensures.first ∙ c.in-Some.is)) c.in_ok-feed.ensures c.lines.invariant.0),
      rw all (omega (arith, c.lines.invariant.1, shorter)),
    )

pub returns : goal.returns
returns c =
    fed_last (written_of c.feed-2.new.self) (written_of c.lines.plain) c.lines.rest.now _
    (line_none c.lines.rest.now (sym c.place_of.ensures.first ∙ c.in_default.is)) c.in_ok-feed-2.ensures c.lines.invariant.0
