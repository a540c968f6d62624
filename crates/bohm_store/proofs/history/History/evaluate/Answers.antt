-- The cells that a transaction leaves when it runs on the cells of its keys at the top.
use Rattle.std.proofs.Common.{◌≡◌, ◌∙◌, List, ℕ, Ok, Err, map, sym, arith, refl}
use Rattle.bohm_types.specs.Txn.{Txn}
use Rattle.bohm_txn.specs.declared.outcome.Outcome.TheVariants as outcomes_are
use Rattle.bohm_txn.specs.declared.outcome.Reason.{Reason}
use Rattle.bohm_txn.specs.Meaning.{Ended, Look, body}
use Rattle.bohm_txn.specs.Serial.{after, outcome_of, over, writes_of}
use Rattle.bohm_txn.proofs.ForCallers.{usable}
use Rattle.bohm_store.specs.Numbered.{versions_at}
use Rattle.bohm_store.specs.Versions.{past}
use Rattle.bohm_store.specs.Writes.{AreNumbersOf}
use Rattle.bohm_store.proofs.Advanced.{cells_by_number, numbers_long}
use Rattle.bohm_store.proofs.Entries.{keys_named}
use Rattle.bohm_store.proofs.history.History.evaluate.Goals as goal

ends_so : (look : Look) (keys : List (List ℕ)) (reason : Reason) (stmt : ℕ) (r : Ended) → outcome_of r ≡ outcomes_are.Abort reason stmt
    → map (over look (writes_of r)) keys ≡ map look keys
ends_so look keys reason stmt (Ok run) ended = absurd cc
ends_so look keys reason stmt (Err fault) ended = refl

-- an abort leaves each key as it was
abort_keeps : (t : Txn) (look : Look) (reason : Reason) (stmt : ℕ) → outcome_of (body look t) ≡ outcomes_are.Abort reason stmt
    → map (after look t) t.writes ≡ map look t.writes
abort_keeps t look reason stmt ended = ends_so look t.writes reason stmt (body look t) ended

pub push_cells-requires-clause-few : goal.push_cells-requires-clause-few
push_cells-requires-clause-few c =
    let h = c.self.inside.numbered in
    let names = c.self.inside.names in
    let are : AreNumbersOf names c.args.numbers.now c.args.txn.now.writes = rw (← c.self.view_is, keys_named (versions_at h) 0 names) at c.requires.numbers in
    omega (arith, numbers_long names c.args.numbers.now c.args.txn.now.writes are, (usable c.args.txn.now c.requires.well).few_writes)

pub returns-in-Commit-clause-cells : goal.returns-in-Commit-clause-cells
returns-in-Commit-clause-cells c = c.eval_in_place-outcome.ensures.cells c.in-Commit.is (past c.args.self.now c.args.self.now.top) c.push_held.ensures.seen
    c.push_held.ensures.cells

pub returns-in-Abort-clause-cells : goal.returns-in-Abort-clause-cells
returns-in-Abort-clause-cells c =
    let names = c.self.inside.names in
    let h = c.self.inside.numbered in
    let t = c.args.txn.now in
    let ns = c.args.numbers.now in
    let look : Look = past c.args.self.now c.args.self.now.top in
    let are : AreNumbersOf names ns t.writes = rw (← c.self.view_is, keys_named (versions_at h) 0 names) at c.requires.numbers in
    let ended : outcome_of (body look t) ≡ outcomes_are.Abort c.in-Abort.reason c.in-Abort.stmt =
    c.eval_in_place-outcome.ensures.outcome look c.push_held.ensures.seen ∙ c.in-Abort.is in
    let held : map look t.writes ≡ c.push_cells.new.scratch.cells =
    rw (← c.self.view_is) (cells_by_number names h ns t.writes c.table.ensures.apart are ∙ sym c.push_cells.ensures.cells) in
    abort_keeps t look c.in-Abort.reason c.in-Abort.stmt ended ∙ held
