use Rattle.std.proofs.Common.{◌≡◌, ℕ, List, All, true}
use Rattle.std.specs.List.{zip}
use Rattle.std.specs.Slice.Iter.{iter_rest}
use Rattle.bohm_explain.specs.Heats.{chain_in}
use Rattle.bohm_explain.specs.Tallies.{lists, raised, tally}
use Rattle.bohm_explain.proofs.tallies.raise_all.Given as goal

-- the remaining arrows raise each key's longest chain to the length that all arrows raise it to
abbrev pub invariant-loop-arrow : goal.invariant-loop-arrow
invariant-loop-arrow l = record {
  chains : (k : List ℕ) → raised (tally l.tallies k) (chain_in k (zip (iter_rest l.arrow-iterator.a) (iter_rest l.arrow-iterator.b))) ≡ raised
      (tally l.initial.tallies k) (chain_in k (zip l.arrows l.through));
  listed : (k : List ℕ) → lists l.tallies k ≡ lists l.initial.tallies k;
  there : All (λ a. lists l.initial.tallies a.key ≡ true) (iter_rest l.arrow-iterator.a);
}
