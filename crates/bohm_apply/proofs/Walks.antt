-- A walk over a cut log, batch after batch.
use Rattle.std.proofs.Common.{◌≡◌, ℕ, ◌+◌, ◌-◌, ◌<◌, ◌≤◌, ◌++◌, List, length, take, drop, refl, ap, sym, ◌∙◌, arith, Bool}
use Rattle.std.proofs.Common.{true, false, [], ◌∷◌, length-append, slice_get, Some}
use Rattle.std.specs.Prelude.{slice_index, ℤ}
use Rattle.std.specs.FinMap.{entries}
use Rattle.std.specs.List.{sum}
use Rattle.std.proofs.Math.Seq.{take-add, take-length}
use Rattle.std.proofs.lemmas.List.{length-take-le, take-append-drop}
use Rattle.std.proofs.lemmas.List.Sums.{sum_by-take-drop}
use Rattle.bohm_types.specs.Txn.{Txn}
use Rattle.bohm_txn.specs.declared.outcome.Reply.{Reply}
use Rattle.bohm_txn.specs.Serial.{replies, state}
use Rattle.bohm_txn.specs.Stores.{Store, cell_in, store_of, store_after}
use Rattle.bohm_txn.proofs.ForCallers.{length-replies, state-front, cell_in-after, same_store}
use Rattle.bohm_store.specs.Versions.{Timeline, declared_writes, past, total}
use Rattle.bohm_place.specs.Plans.{Planned}
use Rattle.bohm_place.specs.Cuttings.{ArePlans, Cutting, IsPlanAt, ahead, txns_at}
use Rattle.bohm_txn.specs.Meaning.{Look}
use Rattle.bohm_apply.specs.Runs.{IsApplied, IsWalked, IsHistoryOf, floor_after}
use Rattle.bohm_apply.proofs.Going.{went_on, at_rest}
use Rattle.bohm_place.proofs.ForCallers.{ahead_next}

-- the transactions before a batch, followed by those of the batch, are those before the next batch
front_more : (c : Cutting) (i start : ℕ) (txns : List Txn) → i < length c.sizes → start ≡ ahead c.sizes i → txns ≡ txns_at c i
    → ahead c.sizes (i + 1) ≡ start + length txns → take (start + length txns) c.log ≡ take start c.log ++ txns
front_more c i start txns inside here is next =
    let size : slice_index c.sizes i ≡ length txns = omega (arith, ahead_next c.sizes i inside, next, here) in
    let own : txns ≡ take (length txns) (drop start c.log) = is ∙ (λ j. take (size j) (drop (sym here j) c.log)) in
    take-add start (length txns) c.log ∙ ap (λ ts. take start c.log ++ ts) (sym own)

-- settling the next batch of a walk continues the history by that batch too
pub walked_on : (was mid now : Timeline) (c : Cutting) (i start keep : ℕ) (a : List Reply) (txns : List Txn) → was.floor ≤ was.top → i < length c.sizes
    → start ≡ ahead c.sizes i → txns ≡ txns_at c i → ahead c.sizes (i + 1) ≡ start + length txns
    → IsApplied was mid (take start c.log) keep a → IsApplied mid now txns keep (replies (past mid mid.top) txns)
    → IsApplied was now (take (start + length txns) c.log) keep (a ++ replies (past mid mid.top) txns)
walked_on was mid now c i start keep a txns ordered inside here is next h g =
    rw (front_more c i start txns inside here is next) (went_on was mid now (take start c.log) txns keep a (replies (past mid mid.top) txns) ordered h g)

plan_at : (ys : List Planned) (p : Planned) (rest : List Planned) → slice_get (ys ++ p ∷ rest) (length ys) ≡ Some p
plan_at [] p rest = refl
plan_at (y ∷ ys) p rest = plan_at ys p rest

-- the plan that follows n other plans is right for the batch at index n
pub plan_there : (c : Cutting) (ys : List Planned) (p : Planned) (rest all : List Planned) → ys ++ p ∷ rest ≡ all → ArePlans c all
    → (length ys < length c.sizes) × IsPlanAt c (length ys) p
plan_there c ys p rest all whole plans = (
  omega (arith, ap length whole, length-append ys (p ∷ rest), plans.count),
  plans.each (length ys) p (ap (λ (l : List Planned). slice_get l (length ys)) (sym whole) ∙ plan_at ys p rest),
)

-- the transactions of all batches are the whole log
pub all_ahead : (c : Cutting) (n start : ℕ) → n ≡ length c.sizes → start ≡ ahead c.sizes n → sum c.sizes ≡ length c.log → take start c.log ≡ c.log
all_ahead c n start all here total =
    let whole : start ≡ length c.log = here ∙ (ap (ahead c.sizes) all ∙ (ap sum (take-length c.sizes) ∙ total)) in
    ap (λ (m : ℕ). take m c.log) whole ∙ take-length c.log

ahead_within : (sizes : List ℕ) (i : ℕ) → ahead sizes i ≤ sum sizes
ahead_within sizes i = omega (arith, sum_by-take-drop (λ x. x) sizes i)

-- there are as many replies as there are transactions before the next batch
pub answered : (was now : Timeline) (c : Cutting) (start keep : ℕ) (a : List Reply) → start ≤ length c.log → IsApplied was now (take start c.log) keep a
    → length a ≡ start
answered was now c start keep a low h = ap length h.replies ∙ length-replies (past was was.top) (take start c.log) ∙ length-take-le start c.log low

pub inside : (c : Cutting) (i start : ℕ) → sum c.sizes ≡ length c.log → start ≡ ahead c.sizes i → start ≤ length c.log
inside c i start all here = omega (arith, ahead_within c.sizes i, all, here)

-- a walk that ends between batches has settled whole batches, and all of them if it succeeded
pub walk_ends : (was now : Timeline) (c : Cutting) (i start keep : ℕ) (a : List Reply) (ended : Bool) → sum c.sizes ≡ length c.log → start ≡ ahead c.sizes i
    → (ended ≡ true → i ≡ length c.sizes) → IsApplied was now (take start c.log) keep a → IsWalked was now c keep a ended
walk_ends was now c i start keep a ended all here whole h =
    let e : length a ≡ start = answered was now c start keep a (inside c i start all here) h in
    record {
      applied = rw e h;
      batches = (i, e ∙ here);
      whole = λ t. e ∙ here ∙ ap (ahead c.sizes) (whole t) ∙ ap sum (take-length c.sizes) ∙ all;
    }

-- a walk that ends before the first batch has settled none
pub walk_rests : (was : Timeline) (c : Cutting) (keep : ℕ) (a : List Reply) → a ≡ [] → sum c.sizes ≡ length c.log → IsWalked was was c keep a false
walk_rests was c keep a none all = rw none (walk_ends was was c 0 0 keep [] false all refl (λ t. absurd cc) (at_rest was keep))

-- ---- a whole log on a new history

floor_from_zero : (was : Timeline) (keep : ℕ) (log : List Txn) → was.floor ≡ 0 → was.top ≡ 0 → floor_after was keep (length log) ≡ length log - keep
floor_from_zero was keep [] f t = omega (arith, f)
floor_from_zero was keep (x ∷ xs) f t = rw (f, t) (omega arith)

-- the run of a whole log has the replies and the past of the serial run from the starting store
pub whole_run : (start : Look) (was now : Timeline) (log : List Txn) (keep : ℕ) (a : List Reply) → was.floor ≡ 0 → was.top ≡ 0 → past was 0 ≡ start
    → IsApplied was now (take (length a) log) keep a → length a ≡ length log
    → (a ≡ replies start log) × IsHistoryOf start log keep now
whole_run start was now log keep a floor top opened h all =
    let whole : take (length a) log ≡ log = ap (λ n. take n log) all ∙ take-length log in
    let g : IsApplied was now log keep a = rw whole at h in
    let from : past was was.top ≡ start = ap (past was) top ∙ opened in (
      rw from at g.replies,
      record {
        top = omega (arith, g.top, top);
        floor = g.floor ∙ floor_from_zero was keep log floor top;
        past = λ ts above below. g.later ts above (omega (arith, top)) below ∙ rw (from, top) (let e : ts - 0 ≡ ts = omega arith in rw e refl);
      },
    )

-- the run of a whole log adds at most one version for each declared write
pub whole_count : (was now : Timeline) (log : List Txn) (keep : ℕ) (a : List Reply) → IsApplied was now (take (length a) log) keep a
    → length a ≡ length log → total now.chains ≤ total was.chains + declared_writes log
whole_count was now log keep a h all =
    let whole : take (length a) log ≡ log = ap (λ n. take n log) all ∙ take-length log in
    rw whole at h.count

-- entries with the cells of the timestamp ts are those of the store after the first ts transactions
pub store_then : (s : Store) (log : List Txn) (ts : ℕ) (entered : List (List ℕ × ℤ)) → ts ≤ length log → cell_in (store_of entered) ≡ state (cell_in s) log ts
    → entered ≡ entries (store_of entered) → entered ≡ entries (store_after s (take ts log))
store_then s log ts entered inside cells own =
    let front : length (take ts log) ≡ ts = length-take-le ts log inside in
    let there : cell_in (store_after s (take ts log)) ≡ state (cell_in s) log ts = cell_in-after s (take ts log) ∙ ap (state (cell_in s) (take ts log)) front
    ∙ sym (state-front (cell_in s) (take ts log) (drop ts log) ts (omega (arith, front)))
    ∙ ap (λ (ts' : List Txn). state (cell_in s) ts' ts) (take-append-drop ts log) in
    own ∙ ap (λ (m : Store). entries m) (same_store (store_of entered) (store_after s (take ts log)) (λ k i. (cells ∙ sym there) i k))
