use Rattle.std.proofs.Common.{◌≡◌, ◌*◌, ◌^◌, drop}
use Rattle.std.specs.List.{fold}
use Rattle.bohm_explain.specs.Figures.{plus, totals_of, AreAtMost}
use Rattle.bohm_explain.proofs.figures.Totals.of.Given as goal

abbrev pub invariant-loop-part : goal.invariant-loop-part
invariant-loop-part l = record {
  rest : fold (λ t p. plus t p.figures) l.totals (drop l.part-index l.parts) ≡ totals_of l.parts;
  few : AreAtMost (2 ^ 32 * l.part-index) l.totals;
}
