-- Which keys are the hottest.
use Rattle.std.specs.Prelude.{◌≡◌, ℕ, ◌+◌, List}
use Rattle.std.specs.List.{AllPairs}
use Rattle.std.specs.List.Sorted.{IsPermutation}
use Rattle.std.specs.declared.cmp.Ordering.{Ordering}
use Rattle.std.specs.declared.cmp.Ordering.TheVariants.{Less}
use Rattle.std.specs.Ordering.{nat_cmp, ordering_then}
use Rattle.std.specs.Cmp.Lexicographic.{slice_cmp}
use Rattle.bohm_explain.specs.declared.heat.Heat.{Heat}

-- the number of transactions that write the key, plus the number of those that read it
abbrev pub accesses : Heat → ℕ
accesses h = h.writers + h.readers

-- first the key with more accesses, then the one with the longer chain, then the lesser key
abbrev pub rank_cmp : Heat → Heat → Ordering
rank_cmp h g =
    ordering_then
    (ordering_then (nat_cmp (accesses g) (accesses h)) (nat_cmp g.chain h.chain))
    (slice_cmp nat_cmp h.key g.key)

abbrev pub IsHotter : Heat → Heat → Type 0
IsHotter h g = rank_cmp h g ≡ Less

-- the same heats, each hotter than those after it
pub record IsRanking (heats ranked : List Heat) : Type 0 where
  pub same : IsPermutation heats ranked
  pub hottest_first : AllPairs IsHotter ranked
