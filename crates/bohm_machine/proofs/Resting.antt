-- A segment that is run in two parts.
use Rattle.std.proofs.Common.{◌≡◌, ℕ, ◌+◌, ◌-◌, ◌<◌, ◌≤◌, ◌++◌, List, [], ◌∷◌, length, length-append, take, drop, refl, ap, sym, subst, ◌∙◌, arith, ⊎_elim}
use Rattle.std.proofs.lemmas.Bool.{cases_lt}
use Rattle.std.proofs.lemmas.List.{take-append-drop}
use Rattle.bohm_types.specs.Document.{Document}
use Rattle.bohm_types.specs.Txn.{Txn}
use Rattle.bohm_txn.specs.declared.outcome.Reply.{Reply}
use Rattle.bohm_txn.specs.Meaning.{Look}
use Rattle.bohm_txn.specs.Serial.{state, replies}
use Rattle.bohm_txn.proofs.ForCallers.{state-append, state-front, replies-append}
use Rattle.bohm_store.specs.Versions.{Timeline, declared_writes, total}
use Rattle.bohm_machine.specs.Machines.{GoesOn, floor_of, now_of, past_of, top_of}
use Rattle.bohm_machine.specs.Segments.{IsRefused, IsTaken}
use Rattle.bohm_machine.specs.declared.fault.SegmentFault.{SegmentFault}
use Rattle.bohm_machine.specs.declared.fault.SegmentFault.TheVariants.{Store, Timestamps}

declared_writes-append : (xs ys : List Txn) → declared_writes (xs ++ ys) ≡ declared_writes xs + declared_writes ys
declared_writes-append [] ys = omega arith
declared_writes-append (x ∷ xs) ys = omega (arith, declared_writes-append xs ys)

-- after some transactions the machine has the state that they leave
after : (was mid : Timeline) (txns : List Txn) (a : List Reply) → GoesOn was mid txns a → now_of mid ≡ state (now_of was) txns (length txns)
after was mid txns a h =
    let end : top_of mid - top_of was ≡ length txns = omega (arith, h.top) in
    h.later (top_of mid) (omega (arith, h.top)) (omega arith) ∙ ap (state (now_of was) txns) end

joined : (was mid now : Timeline) (xs ys : List Txn) (a b : List Reply) → floor_of was ≤ top_of was → GoesOn was mid xs a → GoesOn mid now ys b
    → GoesOn was now (xs ++ ys) (a ++ b)
joined was mid now xs ys a b ordered g h =
    let there = after was mid xs a g in
    let len : length (xs ++ ys) ≡ length xs + length ys = length-append xs ys in
    record {
      replies = ap (λ (r : List Reply). r ++ b) g.replies ∙ ap (λ (r : List Reply). replies (now_of was) xs ++ r)
          (h.replies ∙ ap (λ (l : Look). replies l ys) there) ∙ sym (replies-append (now_of was) xs ys);
      top = omega (arith, h.top, g.top, len);
      floor = h.floor ∙ g.floor;
      earlier = λ ts above below. h.earlier ts (omega (arith, above, g.floor)) (omega (arith, below, g.top)) ∙ g.earlier ts above below;
      later = λ ts above below. ⊎_elim
          (λ (c : ts < top_of mid). h.earlier ts (omega (arith, above, ordered, g.floor)) (omega (arith, c)) ∙ g.later ts above (omega (arith, c))
          ∙ sym (state-front (now_of was) xs ys (ts - top_of was) (omega (arith, c, g.top))))
          (λ (c : top_of mid ≤ ts). h.later ts c below ∙ ap (λ (l : Look). state l ys (ts - top_of mid)) there
          ∙ sym (state-append (now_of was) xs ys (ts - top_of was) (ts - top_of mid) (omega (arith, c, g.top))))
          (cases_lt ts (top_of mid));
      count = omega (arith, h.count, g.count, declared_writes-append xs ys);
    }

pub rest_completes : (was mid now : Timeline) (n : ℕ) (log : List Txn) (a b : List Reply) → floor_of was ≤ top_of was → GoesOn was mid (take n log) a
    → GoesOn mid now (drop n log) b → GoesOn was now log (a ++ b)
rest_completes was mid now n log a b ordered g h =
    subst (λ (l : List Txn). GoesOn was now l (a ++ b)) (take-append-drop n log) (joined was mid now (take n log) (drop n log) a b ordered g h)

-- ---- refusals

pub one_refusal : (one other : Timeline) (segment : Document) (e f : SegmentFault) → top_of one ≡ top_of other → IsRefused one segment e
    → IsRefused other segment f → e ≡ f
one_refusal one other segment Store Store top h k = refl
one_refusal one other segment Store Timestamps top h k = absurd (omega (arith, h, ap length k.0))
one_refusal one other segment Timestamps Store top h k = absurd (omega (arith, k, ap length h.0))
one_refusal one other segment Timestamps Timestamps top h k = refl

pub taken_or_refused : (one other : Timeline) (segment : Document) (f : SegmentFault) → top_of one ≡ top_of other → IsTaken one segment
    → IsRefused other segment f → ⊥
taken_or_refused one other segment Store top h k = absurd (omega (arith, k, ap length h.store))
taken_or_refused one other segment Timestamps top h k = absurd (omega (arith, k.1, h.timestamps, top))
