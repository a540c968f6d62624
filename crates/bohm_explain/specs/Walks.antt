-- A walk back along a heaviest chain.
use Rattle.std.specs.Prelude.{ℕ, ◌+◌, ◌==◌, ◌&&◌, Bool, List, slice_index}
use Rattle.bohm_explain.specs.declared.arrow.Arrow.{Arrow}

-- whether a heaviest chain to `first` comes through this arrow
abbrev pub goes_on : List ℕ → List ℕ → ℕ → Arrow → Bool
goes_on weights heaviest first a =
    a.to == first && (slice_index heaviest a.from + slice_index weights first == slice_index heaviest first)
