-- Which batches leave.
use Rattle.std.proofs.Common.{◌≡◌, ◌⊎◌, inl, inr, ℕ, zero, suc, pos, ◌+◌, ◌<◌, ◌≤◌, Bool, true, false, List, [], ◌∷◌, refl, sym, ap, ◌∙◌, arith, subst, if◌then◌else◌, Equal, Greater}
use Rattle.std.specs.Prelude.{not}
use Rattle.std.specs.Ordering.{is_lt}
use Rattle.std.specs.Cmp.{int_cmp_is}
use Rattle.std.proofs.lemmas.Int.{ints}
use Rattle.sqlite_value.specs.declared.value.Value.TheVariants.{Int, Null, Text}
use Rattle.sqlite_value.specs.Order.{Row, value_cmp}
use Rattle.sqlite_value.specs.Keys.{plain, prefix_cmp}
use Rattle.sqlite_value.proofs.OrderLemmas.{value_cmp-Int}
use Rattle.sqlite_trees.specs.Tree.{from_key, has_rowid, without_rowid}
use Rattle.sqlite_trees.proofs.TreeLemmas.{prefix_cmp-one}
use Rattle.bohm_ledger.specs.Rows.{Has, batch_row, place_of, first_of, text_of}
use Rattle.bohm_ledger.specs.Rules.{Rules}
use Rattle.bohm_ledger.specs.Ledgers.{AreKept}
use Rattle.bohm_ledger.specs.Steps.{IsBatchTree, AreYoung, AreYoungBefore}
use Rattle.bohm_ledger.proofs.Forgetting.{is_it}
use Rattle.bohm_ledger.proofs.Placing.{passed}

either_order : (m n : ℕ) → (m < n) ⊎ ((m ≡ n) ⊎ (n < m))
either_order zero zero = inr (inl refl)
either_order zero (suc n) = inl (omega arith)
either_order (suc m) zero = inr (inr (omega arith))
either_order (suc m) (suc n) = elim (either_order m n) [
  | inl h ↦ inl (omega arith)
  | inr other ↦ elim other [ inl h ↦ inr (inl (ap suc h)) | inr h ↦ inr (inr (omega arith)) ]
]

-- a row below a key has a place before it
lower : (m first n : ℕ) (b : List ℕ) → is_lt (prefix_cmp plain (batch_row m first b) (Int (pos n) ∷ [])) ≡ true → m < n
lower m first n b below = elim (either_order m n) [
  | inl h ↦ h
  | inr other ↦ elim other [
    | inl same ↦
        let level : value_cmp (Int (pos m)) (Int (pos n)) ≡ Equal = rw same (value_cmp-Int (pos n) (pos n) ∙ sym (int_cmp_is (pos n) (pos n) Equal refl)) in
        let wrong = sym below ∙ ap is_lt (compared ∙ level) in absurd cc
    | inr h ↦
        let above : value_cmp (Int (pos m)) (Int (pos n)) ≡ Greater = value_cmp-Int (pos m) (pos n) ∙ sym (int_cmp_is (pos m) (pos n) Greater (omega (arith, ints))) in
        let wrong = sym below ∙ ap is_lt (compared ∙ above) in absurd cc
  ]
]
  where
    compared : prefix_cmp plain (batch_row m first b) (Int (pos n) ∷ []) ≡ value_cmp (Int (pos m)) (Int (pos n))
    compared = prefix_cmp-one (Int (pos m)) (Null ∷ Int (pos first) ∷ Text b ∷ []) (Int (pos n))

module _ {Defs : Type 0} (rules : Rules Defs) (c : ℕ) where
  -- rows of later batches have later places and later transactions
  pub later : (bs : List (List ℕ)) (p f : ℕ) (rows : List Row) → AreKept rules c p f bs rows → (r : Row) → Has r rows → (p ≤ place_of r) × (f ≤ first_of r)
  later [] p f rows kept r there = absurd (subst (Has r) kept there)
  later (b ∷ bs) p f rows (inl (rest, is, kept)) r there = elim (subst (Has r) is there) [
    | inl same ↦ let place = ap place_of same in let first = ap first_of same in (omega (arith, place), omega (arith, first))
    | inr more ↦ let e = later bs (p + 1) (f + rules.size b) rest kept r more in (omega (arith, e.0), omega (arith, e.1))
  ]
  later (b ∷ bs) p f rows (inr (gone, kept)) r there = let e = later bs (p + 1) (f + rules.size b) rows kept r there in (omega (arith, e.0), omega (arith, e.1))

  -- of two rows one is before the other, or they are the same
  pub apart : (bs : List (List ℕ)) (p f : ℕ) (rows : List Row) → AreKept rules c p f bs rows → (r s : Row) → Has r rows → Has s rows
      → (r ≡ s) ⊎ (((place_of r < place_of s) × (first_of r + rules.size (text_of r) ≤ first_of s)) ⊎ (place_of s < place_of r))
  apart [] p f rows kept r s here there = absurd (subst (Has r) kept here)
  apart (b ∷ bs) p f rows (inr (gone, kept)) r s here there = apart bs (p + 1) (f + rules.size b) rows kept r s here there
  apart (b ∷ bs) p f rows (inl (rest, is, kept)) r s here there = elim (subst (Has r) is here) [
    | inl one ↦ elim (subst (Has s) is there) [
      | inl other ↦ inl (one ∙ sym other)
      | inr other ↦
          let e = later bs (p + 1) (f + rules.size b) rest kept s other in
          let place = ap place_of one in
          let first = ap first_of one in
          let size = ap (λ (x : Row). rules.size (text_of x)) one in
          inr (inl (omega (arith, place, e.0), omega (arith, first, size, e.1)))
    ]
    | inr one ↦ elim (subst (Has s) is there) [
      | inl other ↦
          let e = later bs (p + 1) (f + rules.size b) rest kept r one in
          let place = ap place_of other in
          inr (inr (omega (arith, place, e.0)))
      | inr other ↦ apart bs (p + 1) (f + rules.size b) rest kept r s one other
    ]
  ]

  -- the rows before the first one from a place on are before that place
  pub cut : (bs : List (List ℕ)) (p f : ℕ) (rows : List Row) → AreKept rules c p f bs rows → (n : ℕ) (row : Row) (left : List Row)
      → from_key plain (Int (pos n) ∷ []) rows ≡ row ∷ left → (r : Row) → Has r rows → (place_of r < n) ⊎ (place_of row ≤ place_of r)
  cut [] p f rows kept n row left first r there = absurd (subst (Has r) kept there)
  cut (b ∷ bs) p f rows (inr (gone, kept)) n row left first r there = cut bs (p + 1) (f + rules.size b) rows kept n row left first r there
  cut (b ∷ bs) p f rows (inl (rest, is, kept)) n row left first r there =
      go (is_lt (prefix_cmp plain (batch_row p f b) (Int (pos n) ∷ []))) refl
      (λ starts more. cut bs (p + 1) (f + rules.size b) rest kept n row left starts r more)
      (subst (λ (rs : List Row). from_key plain (Int (pos n) ∷ []) rs ≡ row ∷ left) is first) (subst (Has r) is there)
    where
      go : (below : Bool) → is_lt (prefix_cmp plain (batch_row p f b) (Int (pos n) ∷ [])) ≡ below
          → (from_key plain (Int (pos n) ∷ []) rest ≡ row ∷ left → Has r rest → (place_of r < n) ⊎ (place_of row ≤ place_of r))
          → (if below then from_key plain (Int (pos n) ∷ []) rest else batch_row p f b ∷ rest) ≡ row ∷ left
          → Has r (batch_row p f b ∷ rest) → (place_of r < n) ⊎ (place_of row ≤ place_of r)
      go true below others starts (inl same) = let low = lower p f n b below in let place = ap place_of same in inl (omega (arith, low, place))
      go true below others starts (inr more) = others starts more
      go false above others starts (inl same) =
          let head : batch_row p f b ≡ row = cc in
          let place = ap place_of same in
          let from = ap place_of head in
          inr (omega (arith, place, from))
      go false above others starts (inr more) =
          let head : batch_row p f b ≡ row = cc in
          let from = ap place_of head in
          let e = later bs (p + 1) (f + rules.size b) rest kept r more in
          inr (omega (arith, from, e.0))

  -- where there is none from a place on, all are before it
  pub all_before : (bs : List (List ℕ)) (p f : ℕ) (rows : List Row) → AreKept rules c p f bs rows → (n : ℕ)
      → from_key plain (Int (pos n) ∷ []) rows ≡ [] → (r : Row) → Has r rows → place_of r < n
  all_before [] p f rows kept n none r there = absurd (subst (Has r) kept there)
  all_before (b ∷ bs) p f rows (inr (gone, kept)) n none r there = all_before bs (p + 1) (f + rules.size b) rows kept n none r there
  all_before (b ∷ bs) p f rows (inl (rest, is, kept)) n none r there =
      go (is_lt (prefix_cmp plain (batch_row p f b) (Int (pos n) ∷ []))) refl
      (λ ends more. all_before bs (p + 1) (f + rules.size b) rest kept n ends r more)
      (subst (λ (rs : List Row). from_key plain (Int (pos n) ∷ []) rs ≡ []) is none) (subst (Has r) is there)
    where
      go : (below : Bool) → is_lt (prefix_cmp plain (batch_row p f b) (Int (pos n) ∷ [])) ≡ below
          → (from_key plain (Int (pos n) ∷ []) rest ≡ [] → Has r rest → place_of r < n)
          → (if below then from_key plain (Int (pos n) ∷ []) rest else batch_row p f b ∷ rest) ≡ []
          → Has r (batch_row p f b ∷ rest) → place_of r < n
      go true below others ends (inl same) = let low = lower p f n b below in let place = ap place_of same in omega (arith, low, place)
      go true below others ends (inr more) = others ends more
      go false above others ends there = absurd cc

module _ {Defs : Type 0} (rules : Rules Defs) (bound next n : ℕ) (rows : List Row) (is : IsBatchTree rules bound next rows)
    (young : AreYoungBefore rules bound next n rows) where
  -- there is no row from the place on
  pub none_left : from_key plain (Int (pos n) ∷ []) rows ≡ [] → AreYoung rules bound next rows
  none_left none r there = young r there (all_before rules is.checkpoint is.batches 1 1 rows is.kept n none r there)

  module _ (row : Row) (left : List Row) (first : from_key plain (Int (pos n) ∷ []) rows ≡ row ∷ left) (here : Has row rows) where
    -- a row is before the place, the first one from there on, or behind that one
    placed : (r : Row) → Has r rows → (place_of r < n) ⊎ ((row ≡ r)
        ⊎ ((place_of row < place_of r) × (first_of row + rules.size (text_of row) ≤ first_of r)))
    placed r there = elim (cut rules is.checkpoint is.batches 1 1 rows is.kept n row left first r there) [
      | inl before ↦ inl before
      | inr behind ↦ elim (apart rules is.checkpoint is.batches 1 1 rows is.kept row r here there) [
        | inl same ↦ inr (inl same)
        | inr other ↦ elim other [
          | inl above ↦ inr (inr above)
          | inr below ↦ absurd (omega (arith, behind, below))
        ]
      ]
    ]

    -- the first one is the last batch's, or has a transaction above the bound
    pub late_row : (next ≤ place_of row + 1) ⊎ (bound + 1 < first_of row + rules.size (text_of row)) → AreYoung rules bound next rows
    late_row late r there old = elim (placed r there) [
      | inl before ↦ young r there before old
      | inr other ↦ elim other [
        | inl same ↦
            let place = ap place_of same in
            let last = ap (λ (x : Row). first_of x + rules.size (text_of x)) same in
            elim late [
              | inl end ↦ absurd (omega (arith, end, place, old.followed))
              | inr above ↦ absurd (omega (arith, above, last, old.below))
            ]
        | inr further ↦ elim late [
          | inl end ↦ absurd (omega (arith, end, further.0, old.followed))
          | inr above ↦ absurd (omega (arith, above, further.1, old.below))
        ]
      ]
    ]

    -- the first one has a definition
    pub kept_row : rules.is_plain (text_of row) ≡ false → AreYoungBefore rules bound next (place_of row + 1) rows
    kept_row defining r there low old = elim (placed r there) [
      | inl before ↦ young r there before old
      | inr other ↦ elim other [
        | inl same ↦ let wrong = sym defining ∙ (ap (λ (x : Row). rules.is_plain (text_of x)) same ∙ old.undefining) in absurd cc
        | inr further ↦ absurd (omega (arith, low, further.0))
      ]
    ]

    -- the first one leaves
    pub gone_row : (m f : ℕ) (b : List ℕ) → row ≡ batch_row m f b → AreYoungBefore rules bound next (m + 1) (without_rowid (pos m) rows)
    gone_row m f b form r there low old =
        let was = passed (λ x. not (has_rowid (pos m) x)) rows r there in
        let place = ap place_of form in
        elim (placed r was.0) [
          | inl before ↦ young r was.0 before old
          | inr other ↦ elim other [
            | inl same ↦ let wrong = sym was.1 ∙ ap (λ (x : Row). not (has_rowid (pos m) x)) (sym same ∙ form) ∙ ap not (is_it m f b) in absurd cc
            | inr further ↦ absurd (omega (arith, low, place, further.0))
          ]
        ]
