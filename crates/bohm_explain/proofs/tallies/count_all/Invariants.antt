use Rattle.std.proofs.Common.{◌≡◌, ℕ, List, ◌||◌, take}
use Rattle.std.specs.List.{list_any}
use Rattle.bohm_explain.specs.Heats.{declares}
use Rattle.bohm_explain.specs.Tallies.{counted_in, lists, tally}
use Rattle.bohm_explain.proofs.tallies.count_all.Given as goal

abbrev pub invariant-loop-index : goal.invariant-loop-index
invariant-loop-index l = record {
  counts : (k : List ℕ) → tally l.tallies k ≡ counted_in (tally l.initial.tallies k) (take l.index l.txns) k;
  listed : (k : List ℕ) → lists l.tallies k ≡ (lists l.initial.tallies k || list_any (declares k) (take l.index l.txns));
}
