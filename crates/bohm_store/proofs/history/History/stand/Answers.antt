use Rattle.std.proofs.Common.{◌∙◌, List, ℕ, ap, arith}
use Rattle.std.proofs.lemmas.List.{length-map}
use Rattle.std.specs.Prelude.{ℤ}
use Rattle.bohm_types.specs.Keys.{names_of}
use Rattle.bohm_types.specs.declared.cell.Cell.TheVariants.{Absent}
use Rattle.bohm_txn.specs.Stores.{cell_in, store_of}
use Rattle.bohm_store.specs.Numbered.{versions_at}
use Rattle.bohm_store.specs.Versions.{cell_at}
use Rattle.bohm_store.proofs.Entries.{keys_named}
use Rattle.bohm_store.proofs.Opened.{started_past}
use Rattle.bohm_store.proofs.history.History.stand.Goals as goal

pub invariant_of-result : goal.invariant_of-result
invariant_of-result c =
    let es = c.args.entries.now in
    rw c.requires.names (omega (arith, c.in_ok-numbered.ensures.long, length-map es (λ (e : List ℕ × ℤ). e.0)))

pub returns-clause-versions : goal.returns-clause-versions
returns-clause-versions c k = rw c.requires.names (c.in_ok-numbered.ensures.versions k)

pub returns-clause-past : goal.returns-clause-past
returns-clause-past c =
    let look = cell_in (store_of c.args.entries.now) in
    let same : (k : List ℕ) → _ = λ k. ap (λ vs. cell_at c.args.ts vs Absent) (c.in_ok-numbered.ensures.versions k) ∙ started_past c.args.ts (look k) in
    rw c.requires.names (λ i k. same k i)

pub returns-clause-count : goal.returns-clause-count
returns-clause-count c = rw c.requires.names c.in_ok-numbered.ensures.count

pub returns-clause-names : goal.returns-clause-names
returns-clause-names c = rw c.requires.names (keys_named (versions_at c.in_ok-numbered.numbered) 0 (names_of c.args.entries.now))
