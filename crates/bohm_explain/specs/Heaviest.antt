-- Chains of wanted versions, and the greatest weight of one. Each position of a chain but the first wants the version of the one before.
use Rattle.std.specs.Prelude.{ℕ, zero, suc, ◌+◌, ◌-◌, ◌<◌, ◌≤◌, ◌==◌, List, [], ◌∷◌, ◌++◌, All, length, map, filter, slice_index}
use Rattle.bohm_place.specs.Chains.{greatest}
use Rattle.bohm_explain.specs.declared.arrow.Arrow.{Arrow}
use Rattle.bohm_types.specs.Limits.{largest_batch}

-- terms of a transaction: 64 statements with three sums of 16 terms each
abbrev pub greatest_weight : ℕ
greatest_weight = 3072

-- versions that a part's transactions want: one for each declared key
abbrev pub most_arrows : ℕ
most_arrows = 131072

-- both ends are among the first n positions
abbrev pub IsInside : ℕ → Arrow → Type 0
IsInside n a = (a.from < n) × (a.to < n)

-- each arrow leads upwards, to n or above, and none leads to a position below that of an earlier arrow
abbrev pub AreRising : ℕ → List Arrow → Type 0
AreRising n [] = Unit {0}
AreRising n (a ∷ rest) = (n ≤ a.to) × (a.from < a.to) × AreRising a.to rest

-- arrows between positions with these weights, so few and so light that each chain's weight fits in a number
pub record AreChainable (weights : List ℕ) (arrows : List Arrow) : Type 0 where
  pub inside : All (IsInside (length weights)) arrows
  pub rising : AreRising 0 arrows
  pub light : All (λ w. w ≤ greatest_weight) weights
  pub few : length weights ≤ largest_batch
  pub few_arrows : length arrows ≤ most_arrows

-- the greatest number of the positions whose versions p wants, or 0
abbrev pub greatest_wanted : (ℕ → ℕ) → List Arrow → ℕ → ℕ
greatest_wanted number arrows p = greatest (map (λ a. number a.from) (filter (λ a. a.to == p) arrows))

-- the greatest number of the positions that want the version of p, or 0
abbrev pub greatest_wanting : (ℕ → ℕ) → List Arrow → ℕ → ℕ
greatest_wanting number arrows p = greatest (map (λ a. number a.to) (filter (λ a. a.from == p) arrows))

-- ---- the heaviest chain that ends at each position

-- for each position below a count: its weight, plus the greatest weight of a chain to a position whose version it wants
abbrev pub ending_below : List ℕ → List Arrow → ℕ → List ℕ
ending_below weights arrows zero = []
ending_below weights arrows (suc p) =
    let before = ending_below weights arrows p in
    before ++ (slice_index weights p + greatest_wanted (slice_index before) arrows p) ∷ []

abbrev pub heaviest_to : List ℕ → List Arrow → List ℕ
heaviest_to weights arrows = ending_below weights arrows (length weights)

-- ---- the heaviest chain that begins at each position

-- for each position from p on, with these weights: its weight, plus the greatest weight of a chain from a position that wants its version
abbrev pub beginning_from : ℕ → List ℕ → List Arrow → List ℕ
beginning_from p [] arrows = []
beginning_from p (weight ∷ weights) arrows =
    let later = beginning_from (suc p) weights arrows in
    (weight + greatest_wanting (λ q. slice_index later (q - suc p)) arrows p) ∷ later

abbrev pub heaviest_from : List ℕ → List Arrow → List ℕ
heaviest_from weights arrows = beginning_from 0 weights arrows

-- ---- chains through something

-- the heaviest chain through each arrow, from the heaviest ones to and from each position
abbrev pub through : List ℕ → List ℕ → List Arrow → List ℕ
through to from arrows = map (λ a. slice_index to a.from + slice_index from a.to) arrows
