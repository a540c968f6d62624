-- The versions of one transaction, from the numbers of its writes and the cells that it leaves.
use Rattle.std.proofs.Common.{◌≡◌, ◌∙◌, ◌+◌, ◌∷◌, [], ℕ, ap, arith, map}
use Rattle.bohm_types.specs.Txn.{Txn}
use Rattle.bohm_txn.specs.Meaning.{Look}
use Rattle.bohm_txn.specs.Serial.{after}
use Rattle.bohm_store.specs.Numbered.{timeline, versions_at}
use Rattle.bohm_store.specs.Runs.{Leaves}
use Rattle.bohm_store.specs.Versions.{past}
use Rattle.bohm_store.specs.Writes.{AreTxnWrites, AreWritesBehind, writes_by}
use Rattle.bohm_store.proofs.Advanced.{txn_written}
use Rattle.bohm_store.proofs.Entries.{keys_named}
use Rattle.bohm_store.proofs.Grown.{txn_behind}
use Rattle.bohm_store.proofs.Same.{covered_same, kept_same, same_top}
use Rattle.bohm_store.proofs.history.History.add_versions.Goals.{After-cover}
use Rattle.bohm_store.proofs.history.History.add_versions.Goals as goal

-- on the history with more room, the numbers and cells are still the transaction's writes
covered : (c : After-cover) (t : Txn) → Leaves c.args.self.now c.args.numbers.now c.args.cells.now t
    → let names = c.self.inside.names in let mid = c.cover.new.self in
    AreTxnWrites names (mid.top + 1) (past (timeline names mid) mid.top) t (writes_by (mid.top + 1) c.args.numbers.now c.args.cells.now)
covered c t leaves =
    let names = c.self.inside.names in
    let old = c.self.inside.numbered in
    let mid = c.cover.new.self in
    let are = rw (← c.self.view_is, keys_named (versions_at old) 0 names) at leaves.writes in
    let same = covered_same names old mid c.cover.ensures.floor c.cover.ensures.top c.cover.ensures.versions in
    let left = ap (λ (look : Look). map (after look t) t.writes) (same_top (timeline names old) (timeline names mid) same)
    ∙ rw (← c.self.view_is) at leaves.left in
    txn_written names (mid.top + 1) (past (timeline names mid) mid.top) t c.args.numbers.now c.args.cells.now are left

-- the numbers and cells are the writes of the one transaction after the top
behind : (c : After-cover) (begin : ℕ) → begin ≡ c.cover.new.self.top + 1 → (t : Txn)
    → Leaves c.args.self.now c.args.numbers.now c.args.cells.now t
    → AreWritesBehind c.self.inside.names (timeline c.self.inside.names c.cover.new.self) 1 (t ∷ [])
    (writes_by begin c.args.numbers.now c.args.cells.now)
behind c begin e t leaves =
    let names = c.self.inside.names in
    rw e (txn_behind names (timeline names c.cover.new.self) t (writes_by (c.cover.new.self.top + 1) c.args.numbers.now c.args.cells.now)
    leaves.runnable (covered c t leaves))

pub add_above-requires : goal.add_above-requires
add_above-requires c =
    let room = rw (← c.self.view_is) at c.requires.timestamp in
    let low = rw (← c.self.view_is) at c.requires.floor in
    let (t, leaves) = c.requires.leaves in
    rw c.table.ensures.names (record {
      names = c.table.ensures.apart;
      long = omega (arith, c.in_ok-cover.ensures, c.len.ensures);
      timestamps = omega (arith, room, c.cover.ensures.top);
      writes = (t ∷ [], behind (goal.at.add_above-requires c).After-cover _ (ap (λ n. n + 1) c.top-begin.ensures.top) t leaves);
      floor = omega (arith, low, c.cover.ensures.top);
    })

pub returns-clause-ok : goal.returns-clause-ok
returns-clause-ok c t leaves =
    let names = c.self.inside.names in
    let old = c.self.inside.numbered in
    let mid = c.cover.new.self in
    let told = rw c.table.ensures.names at c.in_ok-add_above.ensures.ok in
    rw (← c.self.view_is) (kept_same (timeline names old) (timeline names mid) (timeline names c.add_above.new.self) (t ∷ []) c.args.floor
    (covered_same names old mid c.cover.ensures.floor c.cover.ensures.top c.cover.ensures.versions)
    (told (t ∷ []) (behind (goal.at.returns-clause-ok c).After-cover _ (ap (λ n. n + 1) c.top-begin.ensures.top) t leaves)))
