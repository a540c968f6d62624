-- The transactions that a machine has run, and those that it runs next.
use Rattle.std.proofs.Common.{◌≡◌, ℕ, ◌+◌, ◌-◌, ◌<◌, ◌≤◌, ◌^◌, ◌++◌, List, [], ◌∷◌, append-nil, length, length-append, take, refl, ap, sym, ◌∙◌, arith, ⊎_elim}
use Rattle.std.specs.Prelude.{ℤ, Result, Ok, Err, IfOk, OnOk, OnErr}
use Rattle.std.specs.FinMap.{entries}
use Rattle.std.specs.Map.{keys_of}
use Rattle.bohm_types.specs.Keys.{names_of}
use Rattle.std.proofs.lemmas.List.{length-take}
use Rattle.std.proofs.lemmas.Bool.{cases_lt}
use Rattle.bohm_types.specs.Txn.{Txn}
use Rattle.bohm_txn.specs.declared.outcome.Reply.{Reply}
use Rattle.bohm_txn.specs.Meaning.{Look}
use Rattle.bohm_txn.specs.Serial.{state, replies}
use Rattle.bohm_txn.proofs.ForCallers.{state-append, state-front, replies-append}
use Rattle.bohm_store.specs.Versions.{Timeline, past, total}
use Rattle.bohm_apply.specs.Runs.{IsApplied, IsStillPast}
use Rattle.bohm_apply.proofs.ForCallers.{floor_stays}
use Rattle.bohm_txn.specs.Stores.{cell_in, store_of}
use Rattle.bohm_machine.specs.Machines.{GoesOn, HasRun, IsCompacted, floor_of, now_of, past_of, top_of}
use Rattle.bohm_machine.specs.Segments.{RunsOn}

-- at the top a machine has the state after its log
pub at_top : (look : Look) (start : ℕ) (log : List Txn) (m : Timeline) → HasRun look start log m → now_of m ≡ state look log (length log)
at_top look start log m h =
    let all : top_of m - start ≡ length log = omega (arith, h.top) in
    h.past (top_of m) h.ordered (omega arith) ∙ ap (state look log) all

pub has_run_on : (look : Look) (start : ℕ) (log txns : List Txn) (was now : Timeline) (a : List Reply) → GoesOn was now txns a → HasRun look start log was
    → HasRun look start (log ++ txns) now
has_run_on look start log txns was now a g h =
    let len : length (log ++ txns) ≡ length log + length txns = length-append log txns in
    let there = at_top look start log was h in
    record {
      top = omega (arith, h.top, g.top, len);
      floor = omega (arith, h.floor, g.floor);
      ordered = omega (arith, h.ordered, g.floor, g.top);
      past = λ ts above below. ⊎_elim
          (λ (c : ts < top_of was). g.earlier ts (omega (arith, above, g.floor)) (omega (arith, c))
          ∙ h.past ts (omega (arith, above, g.floor)) (omega (arith, c)) ∙ sym (state-front look log txns (ts - start) (omega (arith, c, h.top))))
          (λ (c : top_of was ≤ ts). g.later ts c below ∙ ap (λ (l : Look). state l txns (ts - top_of was)) there
          ∙ sym (state-append look log txns (ts - start) (ts - top_of was) (omega (arith, c, h.top, h.floor))))
          (cases_lt ts (top_of was));
    }

pub answers_on : (look : Look) (start : ℕ) (log txns : List Txn) (was now : Timeline) (a : List Reply) → GoesOn was now txns a → HasRun look start log was
    → replies look log ++ a ≡ replies look (log ++ txns)
answers_on look start log txns was now a g h =
    ap (λ (b : List Reply). replies look log ++ b) (g.replies ∙ ap (λ (l : Look). replies l txns) (at_top look start log was h))
    ∙ sym (replies-append look log txns)

pub ran_on : (was now : Timeline) (txns : List Txn) (a : List Reply) → GoesOn was now txns a → RunsOn was now txns a
ran_on was now txns a g = record {
  run = λ look start log h. has_run_on look start log txns was now a g h;
  replies = λ look start log h. answers_on look start log txns was now a g h;
}

-- ---- from the history to the machine

-- running on a history that keeps all of its past is running on the machine
went : (keep : ℕ) (was now : Timeline) (txns : List Txn) (a : List Reply) → was.floor ≤ was.top → now.top ≤ keep → IsApplied was now txns keep a
    → GoesOn was now txns a
went keep was now txns a ordered low h =
    let floor : now.floor ≡ was.floor = h.floor ∙ floor_stays was keep (length txns) (omega (arith, h.top, low)) in
    record {
      replies = h.replies;
      top = h.top;
      floor = floor;
      earlier = λ ts above below. h.earlier ts (omega (arith, above, floor)) below;
      later = λ ts above below. h.later ts (omega (arith, above, floor, ordered)) above below;
      count = h.count;
    }

-- running no transactions changes nothing
pub at_rest : (m : Timeline) → GoesOn m m [] []
at_rest m = record {
  replies = refl;
  top = omega arith;
  floor = refl;
  earlier = λ ts above below. refl;
  later = λ ts above below. let e : ts ≡ top_of m = omega (arith, above, below) in let z : ts - top_of m ≡ 0 = omega (arith, e) in rw z (ap (past_of m) e);
  count = omega arith;
}

-- a restored machine has run no transaction
pub restored : (m : Timeline) (look : Look) (start : ℕ) → top_of m ≡ start → floor_of m ≡ start → past_of m start ≡ look → HasRun look start [] m
restored m look start top floor past = record {
  top = omega (arith, top);
  floor = omega (arith, floor);
  ordered = omega (arith, top, floor);
  past = λ ts above below. let e : ts ≡ start = omega (arith, above, below, top, floor) in let z : start - start ≡ 0 = omega arith in rw (e, z) past;
}

-- trimming below a floor keeps the transactions that were run
pub trimmed : (look : Look) (start : ℕ) (log : List Txn) (was now : Timeline) → floor_of was ≤ floor_of now → floor_of now ≤ top_of now
    → top_of now ≡ top_of was → ((ts : ℕ) → floor_of now ≤ ts → past_of now ts ≡ past_of was ts) → HasRun look start log was → HasRun look start log now
trimmed look start log was now above ordered top past h = record {
  top = top ∙ h.top;
  floor = omega (arith, h.floor, above);
  ordered = ordered;
  past = λ ts low high. past ts low ∙ h.past ts (omega (arith, low, above)) (omega (arith, high, top));
}

-- the machine runs the transactions that its history ran, if their timestamps are below the limit
pub goes_on : (m : Timeline) (n : ℕ) (was now : Timeline) (log : List Txn) (a : List Reply) → m ≡ was → floor_of m ≤ top_of m → top_of m + length log < 2 ^ 32
    → IsApplied was now (take n log) 4294967295 a → GoesOn m now (take n log) a
goes_on m n was now log a is ordered low h =
    let below : was.floor ≤ was.top = rw is at ordered in
    let room : was.top + length log < 2 ^ 32 = rw is at low in
    rw is (went 4294967295 was now (take n log) a below (omega (arith, h.top, room, length-take n log)) h)

-- a batch that was run whole
pub batch_on : (m was now : Timeline) (log : List Txn) → m ≡ was → floor_of m ≤ top_of m → top_of m + length log < 2 ^ 32
    → IsApplied was now log 4294967295 (replies (past was was.top) log) → GoesOn m now log (replies (now_of m) log)
batch_on m was now log is ordered low h =
    let below : was.floor ≤ was.top = rw is at ordered in
    let room : was.top + length log < 2 ^ 32 = rw is at low in
    rw is (went 4294967295 was now log (replies (past was was.top) log) below (omega (arith, h.top, room)) h)

-- a batch of no transactions
pub none_on : (m : Timeline) (log : List Txn) → length log ≡ 0 → GoesOn m m log (replies (now_of m) log)
none_on m [] none = at_rest m
none_on m (t ∷ ts) none = absurd (omega (arith, none))

pub none_told : (look : Look) (told : List Reply) (log : List Txn) → length log ≡ 0 → told ≡ told ++ replies look log
none_told look told [] none = sym (append-nil told)
none_told look told (t ∷ ts) none = absurd (omega (arith, none))

-- a batch of which nothing was run
pub still_on : (m was now : Timeline) → m ≡ was → floor_of m ≤ top_of m → IsStillPast was now → GoesOn m now [] []
still_on m was now is ordered h =
    let below : was.floor ≤ was.top = rw is at ordered in
    rw is (record {
      replies = refl;
      top = omega (arith, h.top);
      floor = h.floor;
      earlier = λ ts above under. h.past ts above under;
      later = λ ts above under.
          let e : ts ≡ top_of was = omega (arith, above, under, h.top) in
          let z : ts - top_of was ≡ 0 = omega (arith, e) in
          rw z (h.past ts (omega (arith, below, above)) (omega (arith, e)) ∙ ap (past_of was) e);
      count = omega (arith, h.count);
    })

-- a machine that forgot the past before its top has run what it had run
pub compacted_run : (was now : Timeline) → top_of now ≡ top_of was → floor_of now ≡ top_of was → now_of now ≡ now_of was
    → (look : Look) (start : ℕ) (log : List Txn) → HasRun look start log was → HasRun look start log now
compacted_run was now top floor holds look start log h = record {
  top = top ∙ h.top;
  floor = omega (arith, h.floor, h.ordered, floor);
  ordered = omega (arith, top, floor);
  past = λ ts low high.
      let e : ts ≡ top_of now = omega (arith, low, high, top, floor) in
      let same : top_of was ≡ ts = omega (arith, e, top) in
      ap (past_of now) e ∙ holds ∙ h.past (top_of was) h.ordered (omega arith) ∙ ap (λ (n : ℕ). state look log (n - start)) same;
}

-- a machine that was restored from the store at another one's top is that one, compacted
pub compacted : {E : Type 0} (was : Timeline) (top : ℕ) (store : List (List ℕ × ℤ)) (r : Result Timeline E) → top ≡ top_of was
    → cell_in (store_of store) ≡ past_of was top → store ≡ entries (store_of store) → IfOk r (λ m. top_of m ≡ top) → IfOk r (λ m. floor_of m ≡ top)
    → IfOk r (λ m. past_of m top ≡ cell_in (store_of store)) → IfOk r (λ m. keys_of m.chains ≡ names_of store)
    → IfOk r (λ m. total m.chains ≡ length store) → IfOk r (IsCompacted was)
compacted was top store (Err e) at cells listed tops floors pasts names counts = tt
compacted was top store (Ok m) at cells listed tops floors pasts names counts =
    let same : top_of m ≡ top_of was = tops ∙ at in
    let low : floor_of m ≡ top_of was = floors ∙ at in
    let holds : now_of m ≡ now_of was = ap (past_of m) tops ∙ pasts ∙ cells ∙ ap (past_of was) at in
    record {
      top = same;
      floor = low;
      holds = holds;
      store = store;
      listed = listed;
      cells = cells ∙ ap (past_of was) at;
      names = names;
      count = counts;
      run = compacted_run was m same low holds;
    }

-- ---- facts of results

pub when_ok : {A E P Q : Type 0} (r : Result A E) → (P → Q) → OnOk r P → OnOk r Q
when_ok (Ok a) f h = f h
when_ok (Err e) f h = tt

pub when_err : {A E P Q : Type 0} (r : Result A E) → (P → Q) → OnErr r P → OnErr r Q
when_err (Ok a) f h = tt
when_err (Err e) f h = f h
