-- The cells at the top of a history, as a batch over it looks them up.
use Rattle.std.proofs.Common.{◌≡◌, ◌∙◌, List, ℕ, refl, sym, Some, None}
use Rattle.std.specs.Prelude.{Option, slice_index_or}
use Rattle.std.specs.List.{IsDistinct, position}
use Rattle.std.specs.Option.{option_map, unwrap_or}
use Rattle.std.specs.Str.{bytes_eq}
use Rattle.bohm_types.specs.declared.cell.Cell.TheVariants.{Absent}
use Rattle.bohm_hints.specs.declared.held.Held.TheVariants.{Never}
use Rattle.bohm_hints.specs.Top.{held_by, held_cell}
use Rattle.bohm_store.specs.Versions.{cell_at, past}
use Rattle.bohm_store.specs.Numbered.{Numbered, timeline, versions_at}
use Rattle.bohm_store.proofs.Kept.{past_named, past_unnamed}
use Rattle.bohm_store.proofs.Names.{found_at, not_found}

pub top_past : (names : List (List ℕ)) (h : Numbered) (k : List ℕ) → IsDistinct bytes_eq names
    → ((n : ℕ) → held_cell (slice_index_or h.newest n Never) ≡ cell_at h.top (versions_at h n) Absent)
    → held_cell (held_by names h.newest k) ≡ past (timeline names h) h.top k
top_past names h k apart each = by (position (bytes_eq k) names) refl
  where
    by : (o : Option ℕ) → position (bytes_eq k) names ≡ o
        → held_cell (unwrap_or (option_map (λ n. slice_index_or h.newest n Never) o) Never) ≡ past (timeline names h) h.top k
    by None e = sym (past_unnamed names h h.top k (not_found names k e))
    by (Some n) e = let (inside, is) = found_at names k n e in each n ∙ sym (past_named names h h.top n k apart inside is)
