use Rattle.std.proofs.Common.{◌≡◌, suc, sym, ap, ◌∙◌, inl, inr, arith}
use Rattle.std.specs.List.{zip}
use Rattle.std.specs.Slice.Iter.{iter_rest}
use Rattle.bohm_explain.specs.Heats.{chain_in}
use Rattle.bohm_explain.specs.Tallies.{raised, tally}
use Rattle.bohm_explain.proofs.Raising.{no_chain, raised_arrow, raised_none}
use Rattle.bohm_explain.proofs.tallies.raise_all.Goals as goal

pub loop-arrow-preserved : goal.loop-arrow-preserved
loop-arrow-preserved c =
    let step = rw c.in-Some.is at c.next.ensures.steps in
    let a = c.in-Some.arrow.now in
    let n = c.in-Some.chain.now in
    let arrows = iter_rest c.next.new.self.a in
    let ns = iter_rest c.next.new.self.b in
    let ahead = rw (step.0, step.1) at c.loop-arrow.invariant.chains in
    let there = rw step.0 at c.loop-arrow.invariant.there in
    record {
      chains = λ k. raised_arrow k a n (zip arrows ns) (tally c.loop-arrow.tallies k) (tally c.raise.new.tallies k) (c.raise.ensures.chains k) ∙ ahead k;
      listed = λ k. c.raise.ensures.listed k ∙ c.loop-arrow.invariant.listed k;
      there = λ i d lt. there (suc i) d (omega arith);
    }

pub returns-clause-chains : goal.returns-clause-chains
returns-clause-chains c k =
    let arrows = iter_rest c.loop-arrow.arrow-iterator.a in
    let ns = iter_rest c.loop-arrow.arrow-iterator.b in
    let end = rw c.in-None.is at c.next.ensures.steps in
    let none : chain_in k (zip arrows ns) ≡ 0 = no_chain k arrows ns (elim end [ inl (u, h) ↦ inl h.0 | inr (u, h) ↦ inr h.0 ]) in
    sym (ap (raised (tally c.loop-arrow.tallies k)) none ∙ raised_none (tally c.loop-arrow.tallies k)) ∙ c.loop-arrow.invariant.chains k
