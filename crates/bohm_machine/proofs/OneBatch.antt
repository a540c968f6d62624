-- Calls that are shared as one batch.
use Rattle.std.proofs.Common.{◌≡◌, ℕ, ◌+◌, ◌<◌, ◌≤◌, ◌^◌, List, [], ◌∷◌, length, take, ap, sym, subst, ◌∙◌, arith}
use Rattle.std.proofs.lemmas.List.{take_all}
use Rattle.bohm_types.specs.Limits.{largest_batch}
use Rattle.bohm_types.specs.Txn.{Txn}
use Rattle.bohm_txn.specs.declared.outcome.Reply.{Reply}
use Rattle.bohm_txn.proofs.ForCallers.{length-replies}
use Rattle.bohm_store.specs.Versions.{Timeline, past}
use Rattle.bohm_apply.specs.Runs.{IsApplied}
use Rattle.bohm_machine.specs.Machines.{GoesOn, floor_of, top_of}
use Rattle.bohm_machine.specs.Segments.{AreWholeBatches}
use Rattle.bohm_machine.proofs.GoingOn.{goes_on}

-- all of them are one whole batch
pub one_batch : (log : List Txn) (n : ℕ) → 0 < length log → length log ≤ largest_batch → n ≡ length log → AreWholeBatches log largest_batch n
one_batch log n some few all = record {
  sizes = length log ∷ [];
  even = record { each = λ k d low. let here : k ≡ 0 = omega (arith, low) in rw here (omega (arith, some), omega (arith, few)); full = λ i low. absurd (omega (arith, low)) };
  total = omega arith;
  end = (1, omega (arith, all));
}

-- the machine runs the transactions that its history ran, all of them
pub applied_on : (m was now : Timeline) (log : List Txn) (a : List Reply) → m ≡ was → floor_of m ≤ top_of m → top_of m + length log < 2 ^ 32
    → IsApplied was now log 4294967295 a → GoesOn m now log a
applied_on m was now log a is ordered low h =
    let all : take (length log) log ≡ log = take_all (length log) log (omega arith) in
    subst (λ (xs : List Txn). GoesOn m now xs a) all
    (goes_on m (length log) was now log a is ordered low (subst (λ (xs : List Txn). IsApplied was now xs 4294967295 a) (sym all) h))

-- there is a reply to each of them
pub as_many : (was now : Timeline) (log : List Txn) (keep : ℕ) (a : List Reply) → IsApplied was now log keep a → length a ≡ length log
as_many was now log keep a h = ap length h.replies ∙ length-replies (past was was.top) log

pub finished_on : (m was now : Timeline) (log : List Txn) (a : List Reply) → m ≡ was → floor_of m ≤ top_of m → top_of m + length log < 2 ^ 32
    → IsApplied was now log 4294967295 a → GoesOn m now (take (length a) log) a
finished_on m was now log a is ordered low h =
    let all : take (length a) log ≡ log = take_all (length a) log (omega (arith, as_many was now log 4294967295 a h)) in
    rw all (applied_on m was now log a is ordered low h)
