-- What a search for an id tells.
use Rattle.std.proofs.Common.{◌≡◌, ◌≢◌, inl, inr, ℕ, pos, Bool, true, false, List, [], ◌∷◌, refl, sym, ap, ◌∙◌, subst, if◌then◌else◌, Less, Equal}
use Rattle.std.proofs.lemmas.Cmp.{tied_itself}
use Rattle.std.specs.List.{AllByRecursion}
use Rattle.std.specs.Ordering.{is_lt}
use Rattle.sqlite_value.specs.declared.value.Value.TheVariants.{Int, Text}
use Rattle.sqlite_value.specs.Order.{Row, value_cmp, row_cmp, column}
use Rattle.sqlite_value.specs.Keys.{plain, entry_cmp, prefix_cmp}
use Rattle.sqlite_value.proofs.OrderLemmas.{value_cmp_total}
use Rattle.sqlite_value.proofs.KeyLemmas.{entry_cmp-plain, then_below}
use Rattle.sqlite_trees.specs.Tree.{IsIndex, from_key}
use Rattle.sqlite_trees.proofs.TreeLemmas.{prefix_cmp-one}
use Rattle.bohm_ledger.specs.Rows.{Has, request_row, AreRequests}
use Rattle.bohm_ledger.specs.Steps.{Finds}
use Rattle.bohm_ledger.proofs.Forgetting.{first_in}
use Rattle.bohm_ledger.proofs.Members.{texts_tied}

holds_of : (P : Row → Type 0) (rows : List Row) (row : Row) → AllByRecursion P rows → Has row rows → P row
holds_of P [] row all there = absurd there
holds_of P (r ∷ rows) row all (inl is) = subst P (sym is) all.0
holds_of P (r ∷ rows) row all (inr there) = holds_of P rows row all.1 there

to_key : (n : ℕ) (f : List ℕ × List ℕ) (id : List ℕ) → prefix_cmp plain (request_row n f) (Text id ∷ []) ≡ value_cmp (Text f.0) (Text id)
to_key n f id = prefix_cmp-one (Text f.0) (Int (pos n) ∷ Text f.1 ∷ []) (Text id)

-- a row of the id isn't below the key
not_below : (n : ℕ) (id text : List ℕ) → is_lt (prefix_cmp plain (request_row n (id, text)) (Text id ∷ [])) ≡ false
not_below n id text = ap is_lt (to_key n (id, text) id ∙ same)
  where
    same : value_cmp (Text id) (Text id) ≡ Equal
    same = tied_itself value_cmp_total (Text id)

-- the rows before the key have other ids, and so have those after the first one that isn't below it, unless it has the id
pub not_there : (rows : List Row) (id text : List ℕ) (n : ℕ) → IsIndex plain rows → AreRequests rows
    → ((x : Row) (left : List Row) → from_key plain (Text id ∷ []) rows ≡ x ∷ left → column x 0 ≢ Text id)
    → Has (request_row n (id, text)) rows → ⊥
not_there [] id text n sorted all first there = there
not_there (r ∷ rows) id text n sorted all first there = go (is_lt (prefix_cmp plain r (Text id ∷ []))) refl
    (not_there rows id text n sorted.1 (λ x h. all x (inr h))) first there
  where
    form : (m : ℕ) × (f : List ℕ × List ℕ) × (r ≡ request_row m f)
    form = all r (inl refl)

    go : (b : Bool) → is_lt (prefix_cmp plain r (Text id ∷ [])) ≡ b
        → (((x : Row) (left : List Row) → from_key plain (Text id ∷ []) rows ≡ x ∷ left → column x 0 ≢ Text id) → Has (request_row n (id, text)) rows → ⊥)
        → ((x : Row) (left : List Row) → (if b then from_key plain (Text id ∷ []) rows else r ∷ rows) ≡ x ∷ left → column x 0 ≢ Text id)
        → Has (request_row n (id, text)) (r ∷ rows) → ⊥
    go true below more first (inl is) = let wrong = sym (not_below n id text) ∙ ap (λ x. is_lt (prefix_cmp plain x (Text id ∷ []))) is ∙ below in cc
    go true below more first (inr there) = more first there
    go false above more first (inl is) = first r rows refl (ap (λ x. column x 0) (sym is))
    go false above more first (inr there) =
        let less : entry_cmp plain r (request_row n (id, text)) ≡ Less = holds_of (λ x. entry_cmp plain r x ≡ Less) rows
        (request_row n (id, text)) sorted.0 there in
        let rows_less : row_cmp (request_row form.0 form.1) (request_row n (id, text)) ≡ Less =
        sym (entry_cmp-plain (request_row form.0 form.1) (request_row n (id, text)))
        ∙ ap (λ x. entry_cmp plain x (request_row n (id, text))) (sym form.2) ∙ less in
        elim (then_below (value_cmp (Text form.1.0) (Text id)) _ rows_less) [
          | inl lower ↦ let wrong = sym above ∙ ap (λ x. is_lt (prefix_cmp plain x (Text id ∷ []))) form.2 ∙ ap is_lt (to_key form.0 form.1 id ∙ lower) in cc
          | inr level ↦ first r rows refl (ap (λ x. column x 0) form.2 ∙ ap Text (texts_tied form.1.0 id level.0))
        ]

abbrev head_or : Row → List Row → Row
head_or d [] = d
head_or d (r ∷ rows) = r

-- the first row that isn't below the key tells
pub finds : (b : Bool) (id : List ℕ) (row : Row) (left rows : List Row) → IsIndex plain rows → AreRequests rows
    → from_key plain (Text id ∷ []) rows ≡ row ∷ left
    → (b ≡ true → column row 0 ≡ Text id) → (column row 0 ≡ Text id → b ≡ true) → Finds id row b rows
finds true id row left rows sorted all is h k = (first_in plain (Text id ∷ []) rows row left is, h refl)
finds false id row left rows sorted all is h k =
    λ place answer there. not_there rows id answer place sorted all
    (λ x more same has. let wrong = k (ap (λ rs. column (head_or row rs) 0) (sym is ∙ same) ∙ has) in cc) there

pub finds_none : (id : List ℕ) (row : Row) (rows : List Row) → IsIndex plain rows → AreRequests rows → from_key plain (Text id ∷ []) rows ≡ []
    → Finds id row false rows
finds_none id row rows sorted all is = λ place answer there. not_there rows id answer place sorted all
    (λ x more same has. let wrong = sym is ∙ same in cc) there
