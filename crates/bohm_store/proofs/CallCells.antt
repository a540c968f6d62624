-- The cells of a call's keys at the top: of the first ones by their numbers, and of the others.
use Rattle.std.proofs.Common.{◌≡◌, ◌∙◌, ℕ, ◌≤◌, List, ◌++◌, length, map, take, drop, sym, ap, arith}
use Rattle.std.specs.List.{IsDistinct}
use Rattle.std.specs.Str.{bytes_eq}
use Rattle.std.proofs.lemmas.List.{length-map, length-take-le, map-append, take-append-drop}
use Rattle.bohm_types.specs.declared.cell.Cell.{Cell}
use Rattle.bohm_types.specs.declared.cell.Cell.TheVariants.{Absent}
use Rattle.bohm_txn.specs.Meaning.{Look}
use Rattle.bohm_store.specs.Numbered.{Numbered, timeline, versions_at}
use Rattle.bohm_store.specs.Versions.{cell_at, past}
use Rattle.bohm_store.specs.Writes.{AreNumbersOf}
use Rattle.bohm_store.proofs.Advanced.{cells_by_number, numbers_long}

module _ (names : List (List ℕ)) (h : Numbered) (ns : List ℕ) (keys : List (List ℕ)) (w : ℕ) (inside : w ≤ length keys)
    (are : AreNumbersOf names ns (take w keys)) where
  pub many : length ns ≡ w
  many = numbers_long names ns (take w keys) are ∙ length-take-le w keys inside

  pub first_cells : IsDistinct bytes_eq names
      → map (past (timeline names h) h.top) (take w keys) ≡ map (λ n. cell_at h.top (versions_at h n) Absent) ns
  first_cells apart = cells_by_number names h ns (take w keys) apart are

  pub all_cells : (cells first : List Cell) → IsDistinct bytes_eq names
      → first ≡ map (λ n. cell_at h.top (versions_at h n) Absent) ns
      → cells ≡ first ++ map (past (timeline names h) h.top) (drop (length ns) keys)
      → map (past (timeline names h) h.top) keys ≡ cells
  all_cells cells first apart begin is =
      let look : Look = past (timeline names h) h.top in
      ap (map look) (sym (take-append-drop w keys)) ∙ map-append look (take w keys) (drop w keys)
      ∙ (λ i. (first_cells apart ∙ sym begin) i ++ map look (drop (sym many i) keys)) ∙ sym is
