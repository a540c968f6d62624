use Rattle.std.proofs.Common.{arith, ap, sym, subst, ◌∙◌, ℕ, ◌≡◌, ◌+◌, ◌<◌, ◌≤◌, List, [], ◌∷◌, ◌++◌, length, take, drop, length-drop, slice_index}
use Rattle.std.proofs.lemmas.List.{length-take}
use Rattle.std.proofs.lemmas.List.Elements.{All-weaker}
use Rattle.bohm_types.specs.Txn.{Txn}
use Rattle.bohm_place.specs.CutLogs.{cutting_of}
use Rattle.bohm_place.specs.Cuttings.{ahead, first_at}
use Rattle.bohm_place.specs.declared.placeholder.Placeholder.{Placeholder}
use Rattle.bohm_explain.specs.Longest.{IsLonger}
use Rattle.bohm_explain.specs.Figures.{figures_of}
use Rattle.bohm_explain.specs.Parts.{parts_below}
use Rattle.bohm_explain.specs.Printed.{chained, chained_below}
use Rattle.bohm_explain.specs.Tallies.{IsGathered}
use Rattle.bohm_explain.proofs.Cutting.{can_take, whole}
use Rattle.bohm_explain.proofs.LongestLaws.{of_all, one_more}
use Rattle.bohm_explain.proofs.Surveys.{keys_more, part_made, parts_more}
use Rattle.bohm_explain.proofs.explanation.survey_log.Goals as goal

pub explain_part-requires-clause-room : goal.explain_part-requires-clause-room
explain_part-requires-clause-room c =
    let k = cutting_of c.args.log in
    let start = c.loop-index.start in
    can_take (take start k.log) (chained_below k c.loop-index.index) c.loop-index.keys (length c.batch-txns.result) c.loop-index.invariant.keys
    (omega (arith, length-take start k.log, c.requires.few, c.batch-txns.ensures.few))

pub loop-index-preserved : goal.loop-index-preserved
loop-index-preserved c =
    let k = cutting_of c.args.log in
    let i = c.loop-index.index in
    let start = c.loop-index.start in
    let was = c.loop-index.invariant in
    let txns = c.batch-txns.result in
    let is = c.batch-txns.ensures.txns in
    let low : i < length k.sizes = omega (arith, c.loop-index-test.true, c.batches-index-end.ensures) in
    let first : start + 1 ≡ first_at k i = omega (arith, was.start, c.requires.begins) in
    let long : start + length txns ≤ length k.log =
    omega (arith, was.start, ap length is, length-take (slice_index k.sizes i) (drop (ahead k.sizes i) k.log), length-drop (ahead k.sizes i) k.log, was.inside) in
    let many : c.len-start.result ≡ length txns = c.len-start.ensures in
    let ways = c.args.ways.now in
    let figures = c.in_ok-figures.ensures.figures ∙ ap figures_of is in
    let inside : i < length ways = omega (arith, low, c.requires.paired) in
    let pushed = c.in_ok-push.ensures.len in
    let old = c.loop-index.longest.items in
    let new = c.explain_part.new.longest.items in
    let planned : c.in_ok-next.plan.first ≡ first_at k i = c.in_ok-next.ensures.planned.first ∙ first in
    let noted : IsGathered (take (ahead k.sizes i) k.log ++ txns) (chained_below k i ++ chained txns ∷ []) c.explain_part.new.keys =
    subst (λ (n : ℕ). IsGathered (take n k.log ++ txns) (chained_below k i ++ chained txns ∷ []) c.explain_part.new.keys) was.start
    (c.in_ok-figures.ensures.noted _ _ was.keys) in
    let next : ahead k.sizes (i + 1) ≡ start + c.len-start.result =
    omega (arith, many, c.batch-txns.ensures.ahead) in
    record {
      start = sym next;
      inside = omega (arith, many, long);
      parts = parts_more k i low txns is ways _ _ _ was.parts (part_made k ways i (start + 1) _ _ inside first figures) c.in_ok-push.ensures.items;
      few = omega (arith, many, pushed, was.few, c.batch-txns.ensures.some);
      newest = All-weaker (λ (v : Placeholder). v.begin < (start + 1) + length txns) (λ (v : Placeholder). v.begin < (start + c.len-start.result) + 1)
          (λ v lt. omega (arith, many, lt)) c.in_ok-next.next c.in_ok-next.ensures.below;
      keys = subst (λ (n : ℕ). IsGathered (take n k.log) (chained_below k (i + 1)) c.explain_part.new.keys) next (keys_more k i low txns is _ noted);
      longest = one_more k i low old new was.longest txns is
          (subst (λ (n : ℕ). IsLonger n txns old new) planned c.in_ok-figures.ensures.longest);
    }

pub returns-clause-parts : goal.returns-clause-parts
returns-clause-parts c =
    let k = cutting_of c.args.log in
    let last : c.loop-index.index ≡ length k.sizes = omega (arith, c.loop-index-test.false, c.loop-index.auto.index-end, c.batches-index-end.ensures) in
    subst (λ (n : ℕ). c.loop-index.parts.items ≡ parts_below k c.args.ways.now n) last c.loop-index.invariant.parts

pub returns-clause-keys : goal.returns-clause-keys
returns-clause-keys c =
    let k = cutting_of c.args.log in
    let i = c.loop-index.index in
    let last : i ≡ length k.sizes = omega (arith, c.loop-index-test.false, c.loop-index.auto.index-end, c.batches-index-end.ensures) in
    let all : take c.loop-index.start k.log ≡ k.log =
    ap (λ (n : ℕ). take n k.log) c.loop-index.invariant.start ∙ whole k i c.args.log.whole last in
    subst (λ (n : ℕ). IsGathered k.log (chained_below k n) c.loop-index.keys) last
    (subst (λ (l : List Txn). IsGathered l (chained_below k i) c.loop-index.keys) all c.loop-index.invariant.keys)

pub returns-clause-longest : goal.returns-clause-longest
returns-clause-longest c =
    let k = cutting_of c.args.log in
    let last : c.loop-index.index ≡ length k.sizes = omega (arith, c.loop-index-test.false, c.loop-index.auto.index-end, c.batches-index-end.ensures) in
    of_all k c.loop-index.index c.loop-index.longest.items last c.loop-index.invariant.longest
