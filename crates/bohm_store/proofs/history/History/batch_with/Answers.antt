use Rattle.std.proofs.Common.{◌≡◌, ◌∙◌, List, ℕ, sym, ap}
use Rattle.std.specs.Prelude.{slice_index_or}
use Rattle.bohm_types.specs.declared.cell.Cell.TheVariants.{Absent}
use Rattle.bohm_txn.specs.Meaning.{Look}
use Rattle.bohm_hints.specs.declared.held.Held.{Held}
use Rattle.bohm_hints.specs.declared.held.Held.TheVariants.{Never}
use Rattle.bohm_hints.specs.Top.{held_by, held_cell}
use Rattle.bohm_store.specs.Versions.{cell_at}
use Rattle.bohm_store.specs.Numbered.{versions_at}
use Rattle.bohm_store.proofs.Tops.{top_past}
use Rattle.bohm_store.proofs.history.History.batch_with.Goals as goal

pub returns-clause-next : goal.returns-clause-next
returns-clause-next c =
    let names = c.self.inside.names in
    let h = c.self.inside.numbered in
    let each : (n : ℕ) → held_cell (slice_index_or h.newest n Never) ≡ cell_at h.top (versions_at h n) Absent =
    λ n. ap (λ (xs : List Held). held_cell (slice_index_or xs n Never)) (sym c.newest.ensures.newest) ∙ c.newest.ensures.cells n in
    rw (← c.self.view_is) (record {
      first = c.over.ensures.first ∙ rw (← c.self.view_is) at c.requires.first;
      base = λ k declared. ap (λ (look : Look). look k) c.over.ensures.base
          ∙ (ap (λ (xs : List Held). held_cell (held_by names xs k)) c.newest.ensures.newest ∙ top_past names h k c.table.ensures.apart each);
    })
