-- The cells of a transaction's declared keys at the top, by the numbers of the keys that it writes.
use Rattle.std.proofs.Common.{◌≡◌, ◌∙◌, ◌≤◌, List, ℕ, length, map, sym, ap, arith}
use Rattle.std.specs.List.{IsDistinct}
use Rattle.std.specs.Map.{keys_of}
use Rattle.std.specs.Str.{bytes_eq}
use Rattle.bohm_types.specs.declared.cell.Cell.TheVariants.{Absent}
use Rattle.bohm_types.specs.Txn.{Txn}
use Rattle.bohm_txn.specs.Faulty.{IsWellFormedTxn}
use Rattle.bohm_txn.proofs.ForCallers.{usable}
use Rattle.bohm_store.specs.Numbered.{Numbered, timeline, versions_at}
use Rattle.bohm_store.specs.Versions.{cell_at, past}
use Rattle.bohm_store.specs.Writes.{AreNumbersOf}
use Rattle.bohm_store.proofs.Advanced.{cells_by_number, numbers_long}
use Rattle.bohm_store.proofs.Entries.{keys_named}
use Rattle.bohm_store.proofs.history.History.push_held.Goals as goal

module _ (names : List (List ℕ)) (h : Numbered) (ns : List ℕ) (t : Txn) (named : AreNumbersOf (keys_of (timeline names h).chains) ns t.writes) where
  are : AreNumbersOf names ns t.writes
  are = rw (keys_named (versions_at h) 0 names) at named

  few : IsWellFormedTxn t → length ns ≤ 16
  few well = omega (arith, numbers_long names ns t.writes are, (usable t well).few_writes)

  held : IsDistinct bytes_eq names → map (past (timeline names h) h.top) t.writes ≡ map (λ n. cell_at h.top (versions_at h n) Absent) ns
  held apart = cells_by_number names h ns t.writes apart are

pub push_reads_and_cells-requires-clause-few : goal.push_reads_and_cells-requires-clause-few
push_reads_and_cells-requires-clause-few c =
    few c.self.inside.names c.self.inside.numbered c.args.numbers.now c.args.txn.now (rw (← c.self.view_is) at c.requires.numbers) c.requires.well

pub push_cells-requires-clause-few : goal.push_cells-requires-clause-few
push_cells-requires-clause-few c =
    few c.self.inside.names c.self.inside.numbered c.args.numbers.now c.args.txn.now (rw (← c.self.view_is) at c.requires.numbers) c.requires.well

pub push_reads-requires-clause-few : goal.push_reads-requires-clause-few
push_reads-requires-clause-few c = rw c.reads.ensures ((usable c.args.txn.now c.requires.well).few_reads)

pub returns-then-writes_its_reads-clause-seen : goal.returns-then-writes_its_reads-clause-seen
returns-then-writes_its_reads-clause-seen c =
    let names = c.self.inside.names in
    let h = c.self.inside.numbered in
    let here = held names h c.args.numbers.now c.args.txn.now (rw (← c.self.view_is) at c.requires.numbers) c.table.ensures.apart in
    let same = ap (map (past (timeline names h) h.top)) (c.writes_its_reads.ensures c.if-writes_its_reads.true) in
    rw (← c.self.view_is) (same ∙ here ∙ sym c.push_reads_and_cells.ensures.seen)

pub returns-then-writes_its_reads-clause-cells : goal.returns-then-writes_its_reads-clause-cells
returns-then-writes_its_reads-clause-cells c =
    let here = held c.self.inside.names c.self.inside.numbered c.args.numbers.now c.args.txn.now (rw (← c.self.view_is) at c.requires.numbers)
    c.table.ensures.apart in
    rw (← c.self.view_is) (here ∙ sym c.push_reads_and_cells.ensures.cells)

pub returns-else-writes_its_reads-clause-cells : goal.returns-else-writes_its_reads-clause-cells
returns-else-writes_its_reads-clause-cells c =
    let here = held c.self.inside.names c.self.inside.numbered c.args.numbers.now c.args.txn.now (rw (← c.self.view_is) at c.requires.numbers)
    c.table.ensures.apart in
    rw (← c.self.view_is) (here ∙ sym c.push_cells.ensures.cells)
