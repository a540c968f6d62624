use Rattle.std.proofs.Common.{◌≡◌, ◌*◌, ◌+◌, ◌^◌, ℕ, ◌∙◌, ap, sym, subst, arith, drop}
use Rattle.std.specs.List.{fold}
use Rattle.std.proofs.lemmas.List.{at_drop_more}
use Rattle.bohm_explain.specs.declared.figures.Totals.{Totals}
use Rattle.bohm_explain.specs.declared.parts.Part.{Part}
use Rattle.bohm_explain.specs.Figures.{plus, AreAtMost}
use Rattle.bohm_explain.proofs.figures.Totals.of.Goals as goal

pub loop-part-preserved : goal.loop-part-preserved
loop-part-preserved c =
    let ps = c.args.parts.now in
    let step : Totals → Part → Totals = λ t p. plus t p.figures in
    let i = c.loop-part.part-index in
    let more : 4294967296 * i + 2 ^ 32 ≡ 4294967296 * (i + 1) = omega arith in
    record {
      rest = ap (λ (t : Totals). fold step t (drop (i + 1) ps)) c.plus-totals.ensures.sum
          ∙ (sym (at_drop_more (fold step c.loop-part.totals) ps i _ c.loop-part-test.true) ∙ c.loop-part.invariant.rest);
      few = subst (λ (n : ℕ). AreAtMost n c.plus-totals.result) more (c.plus-totals.ensures.few (4294967296 * i) c.loop-part.invariant.few);
    }
