-- The next transaction: the numbers of its keys, the cells that it leaves, and its versions.
use Rattle.std.proofs.Common.{◌≡◌, ◌∙◌, map, ◌+◌, ◌-◌, ◌∷◌, [], ℕ, List, sym, ap, subst}
use Rattle.std.specs.Map.{keys_of}
use Rattle.bohm_types.specs.declared.cell.Cell.{Cell}
use Rattle.bohm_txn.specs.Meaning.{Look, body}
use Rattle.bohm_txn.specs.Faulty.{IsWellFormedTxn}
use Rattle.bohm_txn.specs.Serial.{after, outcome_of, shows_of}
use Rattle.bohm_types.specs.Txn.{Txn}
use Rattle.bohm_store.specs.Versions.{Timeline, past}
use Rattle.bohm_store.specs.Nexts.{IsSettledKept}
use Rattle.bohm_store.specs.Runs.{Leaves}
use Rattle.bohm_store.specs.Writes.{AreNumbersOf}
use Rattle.bohm_store.proofs.Same.{kept_same, same_top}
use Rattle.bohm_store.proofs.Runnable.{runnable}
use Rattle.bohm_store.proofs.history.History.run_next.Goals as goal

-- a well-formed transaction leaves these cells at the keys with these numbers
left_by : (t : Txn) (now : Timeline) (numbers : List ℕ) (cells : List Cell) → IsWellFormedTxn t → AreNumbersOf (keys_of now.chains) numbers t.writes
    → map (after (past now now.top) t) t.writes ≡ cells → Leaves now numbers cells t
left_by t now numbers cells well are left = record { runnable = runnable t well; writes = are; left = left }

pub add_versions-requires-clause-leaves : goal.add_versions-requires-clause-leaves
add_versions-requires-clause-leaves c =
    let t = c.args.txn.now in
    let are : AreNumbersOf (keys_of c.number_writes.new.self.chains) c.as_slice-numbers.result.now t.writes =
    rw (c.as_slice-numbers.ensures.value) (subst (λ (ks : List (List ℕ)). AreNumbersOf (keys_of c.number_writes.new.self.chains)
    c.number_writes.new.numbers.items ks) c.writes.ensures c.in_ok-number_writes.ensures.numbers) in
    (t, left_by t c.number_writes.new.self _ _ c.requires.well are (c.evaluate-outcome.ensures.cells ∙ sym c.cells.ensures))

pub returns-clause-outcome : goal.returns-clause-outcome
returns-clause-outcome c =
    let same = c.in_ok-number_writes.ensures.same in
    ap (λ (look : Look). outcome_of (body look c.args.txn.now)) (sym (same_top c.args.self.now c.number_writes.new.self same))
    ∙ c.evaluate-outcome.ensures.outcome

pub returns-clause-shows : goal.returns-clause-shows
returns-clause-shows c =
    let same = c.in_ok-number_writes.ensures.same in
    ap (λ (look : Look). shows_of (body look c.args.txn.now)) (sym (same_top c.args.self.now c.number_writes.new.self same))
    ∙ c.evaluate-outcome.ensures.shows

pub returns-clause-settled : goal.returns-clause-settled
returns-clause-settled c =
    let was = c.args.self.now in
    let now = c.add_versions.new.self in
    let t = c.args.txn.now in
    let txns = t ∷ [] in
    let numbers = c.number_writes.new.numbers.items in
    let are : AreNumbersOf (keys_of c.number_writes.new.self.chains) c.as_slice-numbers.result.now t.writes =
    rw (c.as_slice-numbers.ensures.value) (subst (λ (ks : List (List ℕ)). AreNumbersOf (keys_of c.number_writes.new.self.chains) numbers ks)
    c.writes.ensures c.in_ok-number_writes.ensures.numbers) in
    let same = c.in_ok-number_writes.ensures.same in
    let floor : c.saturating_sub-floor.result ≡ (was.top + 1) - c.args.keep =
    c.saturating_sub-floor.ensures ∙ ap (λ (n : ℕ). (n + 1) - c.args.keep) (c.top.ensures.top ∙ same.top) in
    subst (λ (low : ℕ). IsSettledKept was now txns low) floor
    (kept_same was c.number_writes.new.self now txns c.saturating_sub-floor.result same (c.in_ok-add_versions.ensures.ok t
    (left_by t c.number_writes.new.self _ _ c.requires.well are (c.evaluate-outcome.ensures.cells ∙ sym c.cells.ensures))))
