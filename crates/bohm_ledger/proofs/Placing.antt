-- What a search for a batch's place tells.
use Rattle.std.proofs.Common.{◌≡◌, ◌≢◌, inl, inr, ℕ, pos, ◌+◌, ◌≤◌, length, arith, Bool, true, false, List, [], ◌∷◌, refl, sym, ap, ◌∙◌, subst, if◌then◌else◌}
use Rattle.std.specs.List.{filter}
use Rattle.std.proofs.lemmas.Bool.Decides.{eqb_tells}
use Rattle.bohm_types.specs.declared.edition.Edition.{Edition}
use Rattle.sqlite_value.specs.Order.{Row}
use Rattle.sqlite_trees.specs.Tree.{has_rowid}
use Rattle.sqlite_trees.specs.View.{View, Finds}
use Rattle.bohm_ledger.specs.Rows.{Has, batch_tree, batch_row, place_of, text_of}
use Rattle.bohm_ledger.specs.Rules.{Look, State, Rules}
use Rattle.bohm_ledger.specs.Ledgers.{AreKept, IsReady}
use Rattle.bohm_ledger.specs.Places.{IsAt, IsMissing}
use Rattle.bohm_ledger.proofs.Forgetting.{is_it, is_another}

-- what a filter leaves was there, and passes its test
pub passed : (p : Row → Bool) (rows : List Row) (row : Row) → Has row (filter p rows) → Has row rows × (p row ≡ true)
passed p [] row none = absurd none
passed p (r ∷ rows) row there = go (p r) refl (passed p rows row) there
  where
    go : (b : Bool) → p r ≡ b → (Has row (filter p rows) → Has row rows × (p row ≡ true))
        → Has row (if b then r ∷ filter p rows else filter p rows) → Has row (r ∷ rows) × (p row ≡ true)
    go true is more (inl same) = (inl same, ap p same ∙ is)
    go true is more (inr there) = (inr (more there).0, (more there).1)
    go false is more there = (inr (more there).0, (more there).1)

-- what passes the test stays
stays : (p : Row → Bool) (rows : List Row) (row : Row) → Has row rows → p row ≡ true → Has row (filter p rows)
stays p [] row none passes = absurd none
stays p (r ∷ rows) row there passes = go (p r) refl (λ there. stays p rows row there passes) there
  where
    go : (b : Bool) → p r ≡ b → (Has row rows → Has row (filter p rows)) → Has row (r ∷ rows)
        → Has row (if b then r ∷ filter p rows else filter p rows)
    go true is more (inl same) = inl same
    go true is more (inr there) = inr (more there)
    go false is more (inl same) = absurd (let wrong = sym passes ∙ ap p same ∙ is in cc)
    go false is more (inr there) = more there

-- the rows are those of batches
abbrev pub AreBatches : List Row → Type 0
AreBatches rows = (row : Row) → Has row rows → (place : ℕ) × (first : ℕ) × (text : List ℕ) × (row ≡ batch_row place first text)

module _ {Defs : Type 0} (rules : Rules Defs) (c : ℕ) where
  -- a row is its batch's
  kept_at : (bs : List (List ℕ)) (from first : ℕ) (rows : List Row) → AreKept rules c from first bs rows → (place at : ℕ) (text : List ℕ)
      → Has (batch_row place at text) rows → IsAt place from text bs
  kept_at [] from first rows kept place at text there = absurd (subst (Has (batch_row place at text)) kept there)
  kept_at (b ∷ bs) from first rows (inl (rest, is, kept)) place at text there = elim (subst (Has (batch_row place at text)) is there) [
    | inl same ↦ inl (ap place_of same, ap text_of same)
    | inr more ↦ inr (kept_at bs (from + 1) (first + rules.size b) rest kept place at text more)
  ]
  kept_at (b ∷ bs) from first rows (inr (gone, kept)) place at text there =
      inr (kept_at bs (from + 1) (first + rules.size b) rows kept place at text there)

  -- each row is a batch's
  pub are_batches : (bs : List (List ℕ)) (from first : ℕ) (rows : List Row) → AreKept rules c from first bs rows → AreBatches rows
  are_batches [] from first rows kept row there = absurd (subst (Has row) kept there)
  are_batches (b ∷ bs) from first rows (inl (rest, is, kept)) row there = elim (subst (Has row) is there) [
    | inl same ↦ (from, first, b, same)
    | inr more ↦ are_batches bs (from + 1) (first + rules.size b) rest kept row more
  ]
  are_batches (b ∷ bs) from first rows (inr (gone, kept)) row there = are_batches bs (from + 1) (first + rules.size b) rows kept row there

  -- a place that no row has
  missing_at : (bs : List (List ℕ)) (from first : ℕ) (rows : List Row) → AreKept rules c from first bs rows → (place : ℕ)
      → ((row : Row) → Has row rows → has_rowid (pos place) row ≢ true) → IsMissing rules c place from first bs
  missing_at [] from first rows kept place none = tt
  missing_at (b ∷ bs) from first rows (inl (rest, is, kept)) place none = (
    λ same. absurd (none (batch_row from first b) (subst (Has (batch_row from first b)) (sym is) (inl refl))
        (ap (λ n. has_rowid (pos n) (batch_row from first b)) same ∙ is_it from first b)),
    missing_at bs (from + 1) (first + rules.size b) rest kept place
        (λ row there. none row (subst (Has row) (sym is) (inr there))),
  )
  missing_at (b ∷ bs) from first rows (inr (gone, kept)) place none = (
    λ same. gone,
    missing_at bs (from + 1) (first + rules.size b) rows kept place none,
  )

  -- a place after all of them
  pub beyond : (bs : List (List ℕ)) (from first place : ℕ) → from + length bs ≤ place → IsMissing rules c place from first bs
  beyond [] from first place high = tt
  beyond (b ∷ bs) from first place high = (
    λ same. absurd (omega arith),
    beyond bs (from + 1) (first + rules.size b) place (omega arith),
  )

module _ {Defs : Type 0} (rules : Rules Defs) (edition : Edition) (bs : List (List ℕ)) (v : View) (next checkpoint : ℕ) (state : State Defs)
    (saved : Look) (ready : IsReady rules edition bs v next checkpoint state saved) where
  pub kept : AreKept rules checkpoint 1 1 bs (v.trees batch_tree)
  kept = subst (λ n. AreKept rules n 1 1 bs (v.trees batch_tree)) (sym ready.checkpointed) ready.ledger.batches

  pub all_batches : AreBatches (v.trees batch_tree)
  all_batches = are_batches rules checkpoint bs 1 1 (v.trees batch_tree) kept

  -- the row that was found is a batch's
  pub found_batch : (place : ℕ) (row : Row) → Finds (v.trees batch_tree) (pos place) row true
      → ((n at : ℕ) (text : List ℕ) → ¬ (row ≡ batch_row n at text)) → ⊥
  found_batch place row finds none =
      let there = passed (has_rowid (pos place)) (v.trees batch_tree) row (subst (Has row) (sym finds) (inl refl)) in
      let form = all_batches row there.0 in
      none form.0 form.1 form.2 form.3

  pub missing : (place : ℕ) (row : Row) → Finds (v.trees batch_tree) (pos place) row false → IsMissing rules checkpoint place 1 1 bs
  missing place row none = missing_at rules checkpoint bs 1 1 (v.trees batch_tree) kept place
      (λ row there is. subst (Has row) none (stays (has_rowid (pos place)) (v.trees batch_tree) row there is))

  pub later : (place : ℕ) → next ≤ place → IsMissing rules checkpoint place 1 1 bs
  later place high = let at = ready.placed in beyond rules checkpoint bs 1 1 place (omega arith)

  -- the row that was found has the place
  pub found : (place n at : ℕ) (text : List ℕ) (row : Row) → Finds (v.trees batch_tree) (pos place) row true → row ≡ batch_row n at text
      → IsAt place 1 text bs
  found place n at text row finds is =
      let there = passed (has_rowid (pos place)) (v.trees batch_tree) row (subst (Has row) (sym finds) (inl refl)) in
      let it : IsAt n 1 text bs = kept_at rules checkpoint bs 1 1 (v.trees batch_tree) kept n at text (subst (λ r. Has r (v.trees batch_tree)) is there.0) in
      let same : n ≡ place = same_place (ap (has_rowid (pos place)) (sym is) ∙ there.1) in
      subst (λ m. IsAt m 1 text bs) same it
    where
      same_place : has_rowid (pos place) (batch_row n at text) ≡ true → n ≡ place
      same_place tied = elim (eqb_tells n place) [
        | inl equal ↦ equal.1
        | inr other ↦ absurd (let wrong = sym tied ∙ is_another n place at text other.1 in cc)
      ]
