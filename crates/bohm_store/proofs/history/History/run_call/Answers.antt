-- A call: the numbers of the keys that it writes, the cells that it leaves, and its versions.
use Rattle.std.proofs.Common.{◌≡◌, ◌∙◌, ◌+◌, ◌-◌, ◌∷◌, [], ℕ, List, map, sym, ap, subst, take}
use Rattle.std.specs.Map.{keys_of}
use Rattle.bohm_types.specs.declared.cell.Cell.{Cell}
use Rattle.bohm_types.specs.Txn.{Txn}
use Rattle.bohm_txn.specs.declared.outcome.Outcome.TheVariants as outcomes_are
use Rattle.bohm_txn.specs.Meaning.{Ended, Look, body}
use Rattle.bohm_txn.specs.Serial.{after, outcome_of, over, shows_of, writes_of}
use Rattle.bohm_shapes.specs.declared.call.Call.{Call}
use Rattle.bohm_shapes.specs.Calls.{txn_of}
use Rattle.bohm_shapes.proofs.ForCallers.{same_effects}
use Rattle.bohm_store.specs.Nexts.{IsSettledKept}
use Rattle.bohm_store.specs.Runs.{IsRunOf, Leaves}
use Rattle.bohm_store.specs.Versions.{Timeline, past}
use Rattle.bohm_store.specs.Writes.{AreNumbersOf}
use Rattle.bohm_store.proofs.Same.{kept_same, same_top}
use Rattle.bohm_store.proofs.history.History.run_call.Goals as goal

pub returns-clause-outcome : goal.returns-clause-outcome
returns-clause-outcome c =
    let same = c.in_ok-number_first.ensures.same in
    ap (λ (look : Look). outcome_of (body look (txn_of c.args.call.now))) (sym (same_top c.args.self.now c.number_first.new.self same))
    ∙ c.evaluate_call-outcome.ensures.outcome

pub returns-clause-shows : goal.returns-clause-shows
returns-clause-shows c e =
    let same = c.in_ok-number_first.ensures.same in
    let is : c.evaluate_call-outcome.result ≡ outcomes_are.Commit = cc in
    ap (λ (look : Look). shows_of (body look (txn_of c.args.call.now))) (sym (same_top c.args.self.now c.number_first.new.self same))
    ∙ c.evaluate_call-outcome.ensures.shows is

-- a transaction that does what the call does leaves the same cells
leaves : (call : Call) (now : Timeline) (numbers : List ℕ) (cells : List Cell)
    → AreNumbersOf (keys_of now.chains) numbers (take call.shape.now.writes call.keys.now)
    → map (after (past now now.top) (txn_of call)) (take call.shape.now.writes call.keys.now) ≡ cells
    → (t : Txn) → IsRunOf call t → Leaves now numbers cells t
leaves call now numbers cells are left t run =
    let look : Look = past now now.top in
    let same : body look t ≡ body look (txn_of call) = same_effects t (txn_of call) run.edition run.body look in
    record {
      runnable = run.runnable;
      writes = subst (λ (ks : List (List ℕ)). AreNumbersOf (keys_of now.chains) numbers ks) (sym run.writes) are;
      left = (λ i. map (over look (writes_of (same i))) (run.writes i)) ∙ left;
    }

pub add_versions-requires-clause-leaves : goal.add_versions-requires-clause-leaves
add_versions-requires-clause-leaves c =
    let (t, run) = c.requires.runs in
    let call = c.args.call.now in
    let w = call.shape.now.writes in
    let now = c.number_first.new.self in
    let are = subst (λ (ns : List ℕ). AreNumbersOf (keys_of now.chains) ns (take w call.keys.now)) (sym c.as_slice-numbers.ensures.value)
    c.in_ok-number_first.ensures.numbers in
    (t, leaves call now c.as_slice-numbers.result.now _ are (c.evaluate_call-outcome.ensures.cells ∙ sym (ap (take w) c.cells.ensures)) t run)

pub returns-clause-settled : goal.returns-clause-settled
returns-clause-settled c t run =
    let was = c.args.self.now in
    let later = c.add_versions.new.self in
    let call = c.args.call.now in
    let w = call.shape.now.writes in
    let now = c.number_first.new.self in
    let same = c.in_ok-number_first.ensures.same in
    let are = subst (λ (ns : List ℕ). AreNumbersOf (keys_of now.chains) ns (take w call.keys.now)) (sym c.as_slice-numbers.ensures.value)
    c.in_ok-number_first.ensures.numbers in
    let floor : c.saturating_sub-floor.result ≡ (was.top + 1) - c.args.keep =
    c.saturating_sub-floor.ensures ∙ ap (λ (n : ℕ). (n + 1) - c.args.keep) (c.top.ensures.top ∙ same.top) in
    subst (λ (low : ℕ). IsSettledKept was later (t ∷ []) low) floor
    (kept_same was now later (t ∷ []) c.saturating_sub-floor.result same (c.in_ok-add_versions.ensures.ok t
    (leaves call now c.as_slice-numbers.result.now _ are (c.evaluate_call-outcome.ensures.cells ∙ sym (ap (take w) c.cells.ensures)) t run)))
