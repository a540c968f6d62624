-- The cells that a call leaves when it runs on the cells of its keys at the top.
use Rattle.std.proofs.Common.{◌≡◌, ◌∙◌, ◌≤◌, ◌++◌, List, ℕ, Ok, Err, ap, length, map, take, drop, sym, arith, refl, subst}
use Rattle.std.proofs.lemmas.List.{length-map, length-take-le, take-map, take_all}
use Rattle.bohm_types.specs.declared.cell.Cell.TheVariants.{Absent}
use Rattle.bohm_types.specs.Txn.{Txn}
use Rattle.bohm_txn.specs.declared.outcome.Outcome.TheVariants as outcomes_are
use Rattle.bohm_txn.specs.declared.outcome.Reason.{Reason}
use Rattle.bohm_txn.specs.Meaning.{Ended, Look, body}
use Rattle.bohm_txn.specs.Serial.{after, outcome_of, over, writes_of}
use Rattle.bohm_shapes.specs.Results.{Results}
use Rattle.bohm_shapes.specs.Calls.{txn_of}
use Rattle.bohm_store.specs.Numbered.{timeline, versions_at}
use Rattle.bohm_store.specs.Versions.{Timeline, cell_at, past}
use Rattle.bohm_store.specs.Writes.{AreNumbersOf}
use Rattle.bohm_store.proofs.CallCells.{all_cells, first_cells, many}
use Rattle.bohm_store.proofs.Entries.{keys_named}
use Rattle.bohm_store.proofs.history.History.evaluate_call.Goals.{After-push_others}
use Rattle.bohm_store.proofs.history.History.evaluate_call.Goals as goal

ends_so : (look : Look) (keys : List (List ℕ)) (reason : Reason) (stmt : ℕ) (r : Ended) → outcome_of r ≡ outcomes_are.Abort reason stmt
    → map (over look (writes_of r)) keys ≡ map look keys
ends_so look keys reason stmt (Ok run) ended = absurd cc
ends_so look keys reason stmt (Err fault) ended = refl

module _ (c : After-push_others) where
  abbrev names : List (List ℕ)
  names = c.self.inside.names

  abbrev keys : List (List ℕ)
  keys = c.args.call.now.keys.now

  abbrev w : ℕ
  w = c.args.call.now.shape.now.writes

  inside : w ≤ length keys
  inside = omega (arith, c.requires.call.usable.written, c.requires.call.paired)

  are : AreNumbersOf names c.args.numbers.now (take w keys)
  are = rw (← c.self.view_is, keys_named (versions_at c.self.inside.numbered) 0 names) at c.requires.numbers

  seen : map (past c.args.self.now c.args.self.now.top) keys ≡ c.push_others.new.registers.cells
  seen = subst (λ (t : Timeline). map (past t t.top) keys ≡ c.push_others.new.registers.cells) c.self.view_is (all_cells names c.self.inside.numbered c.args.numbers.now keys w inside are c.push_others.new.registers.cells
      c.push_first.new.registers.cells c.table.ensures.apart c.push_first.ensures c.push_others.ensures)

  first_seen : map (past c.args.self.now c.args.self.now.top) (take w keys)
      ≡ map (λ n. cell_at c.self.inside.numbered.top (versions_at c.self.inside.numbered n) Absent) c.args.numbers.now
  first_seen =
      subst (λ (t : Timeline). map (past t t.top) (take w keys)
      ≡ map (λ n. cell_at c.self.inside.numbered.top (versions_at c.self.inside.numbered n) Absent) c.args.numbers.now) c.self.view_is
      (first_cells names c.self.inside.numbered c.args.numbers.now keys w inside are c.table.ensures.apart)

pub push_first-requires-clause-few : goal.push_first-requires-clause-few
push_first-requires-clause-few c =
    let names = c.self.inside.names in
    let keys = c.args.call.now.keys.now in
    let w = c.args.call.now.shape.now.writes in
    let usable = c.requires.call.usable in
    let inside : w ≤ length keys = omega (arith, usable.written, c.requires.call.paired) in
    let are : AreNumbersOf names c.args.numbers.now (take w keys) =
    rw (← c.self.view_is, keys_named (versions_at c.self.inside.numbered) 0 names) at c.requires.numbers in
    omega (arith, many names c.self.inside.numbered c.args.numbers.now keys w inside are, usable.written, usable.few_names)

pub returns-in-Commit-clause-outcome : goal.returns-in-Commit-clause-outcome
returns-in-Commit-clause-outcome c =
    c.evaluate-outcome.ensures.outcome (past c.args.self.now c.args.self.now.top) (seen (goal.at.returns-in-Commit-clause-outcome c).After-push_others)

pub returns-in-Commit-clause-shows : goal.returns-in-Commit-clause-shows
returns-in-Commit-clause-shows c is =
    c.evaluate-outcome.ensures.shows is (past c.args.self.now c.args.self.now.top) (seen (goal.at.returns-in-Commit-clause-shows c).After-push_others)

pub returns-in-Commit-clause-many : goal.returns-in-Commit-clause-many
returns-in-Commit-clause-many c =
    let at = (goal.at.returns-in-Commit-clause-many c).After-push_others in
    let look : Look = past c.args.self.now c.args.self.now.top in
    let keys = c.args.call.now.keys.now in
    let left = c.evaluate-outcome.ensures.cells c.in-Commit.is look (seen at) in
    omega (arith, inside at, ap length left, length-map keys (after look (txn_of c.args.call.now)))

pub returns-in-Commit-clause-cells : goal.returns-in-Commit-clause-cells
returns-in-Commit-clause-cells c =
    let look : Look = past c.args.self.now c.args.self.now.top in
    let w = c.args.call.now.shape.now.writes in
    let left = c.evaluate-outcome.ensures.cells c.in-Commit.is look (seen (goal.at.returns-in-Commit-clause-cells c).After-push_others) in
    sym (take-map (after look (txn_of c.args.call.now)) w c.args.call.now.keys.now) ∙ ap (take w) left

pub returns-in-Abort-clause-outcome : goal.returns-in-Abort-clause-outcome
returns-in-Abort-clause-outcome c =
    c.evaluate-outcome.ensures.outcome (past c.args.self.now c.args.self.now.top) (seen (goal.at.returns-in-Abort-clause-outcome c).After-push_others)

pub returns-in-Abort-clause-cells : goal.returns-in-Abort-clause-cells
returns-in-Abort-clause-cells c =
    let at = (goal.at.returns-in-Abort-clause-cells c).After-push_others in
    let look : Look = past c.args.self.now c.args.self.now.top in
    let w = c.args.call.now.shape.now.writes in
    let cells = c.push_first-in-Abort.new.registers.cells in
    let ended : outcome_of (body look (txn_of c.args.call.now)) ≡ outcomes_are.Abort c.in-Abort.reason c.in-Abort.stmt =
    c.evaluate-outcome.ensures.outcome look (seen at) ∙ c.in-Abort.is in
    let same : map (after look (txn_of c.args.call.now)) (take w c.args.call.now.keys.now) ≡ cells =
    ends_so look (take w c.args.call.now.keys.now) c.in-Abort.reason c.in-Abort.stmt (body look (txn_of c.args.call.now)) ended ∙ first_seen at
    ∙ sym c.push_first-in-Abort.ensures in
    let long : length cells ≤ w = omega (
      arith,
      ap length same,
      length-map (take w c.args.call.now.keys.now) (after look (txn_of c.args.call.now)),
      length-take-le w c.args.call.now.keys.now (inside at),
    ) in
    same ∙ sym (take_all w cells long)
