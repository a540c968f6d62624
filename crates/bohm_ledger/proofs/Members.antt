-- Which rows a tree has after an edit.
use Rattle.std.proofs.Common.{◌≡◌, ◌≢◌, pos, if◌then◌else◌, ◌⊎◌, inl, inr, ℕ, ℤ, Bool, true, false}
use Rattle.std.proofs.Common.{not, List, [], ◌∷◌, ◌++◌, refl, sym, ap, ◌∙◌, Less, Equal, Greater, is_eq}
use Rattle.std.specs.declared.cmp.Ordering.{Ordering}
use Rattle.std.specs.Ordering.{match_ordering}
use Rattle.std.proofs.lemmas.Cmp.{tied_itself}
use Rattle.std.proofs.lemmas.Map.Lookups.{exact_signed}
use Rattle.std.proofs.lemmas.Map.Text.{is_eq-slice_cmp}
use Rattle.std.proofs.lemmas.Slice.Eq.{bytes_eq-Decides}
use Rattle.sqlite_value.specs.declared.value.Value.TheVariants.{Int, Text}
use Rattle.sqlite_value.specs.Order.{Row, value_cmp, row_cmp}
use Rattle.sqlite_value.specs.Keys.{plain, entry_cmp}
use Rattle.sqlite_value.proofs.OrderLemmas.{value_cmp-Int, value_cmp-Text}
use Rattle.sqlite_value.proofs.KeyLemmas.{entry_cmp-plain, entry_cmp_total, then_tied}
use Rattle.sqlite_trees.specs.Tree.{insert_entry, remove_entry}
use Rattle.bohm_ledger.specs.Rows.{Has, balance_row, request_row}

pub has_first : (row : Row) (xs ys : List Row) → Has row xs → Has row (xs ++ ys)
has_first row [] ys none = absurd none
has_first row (x ∷ xs) ys (inl is) = inl is
has_first row (x ∷ xs) ys (inr more) = inr (has_first row xs ys more)

pub has_second : (row : Row) (xs ys : List Row) → Has row ys → Has row (xs ++ ys)
has_second row [] ys there = there
has_second row (x ∷ xs) ys there = inr (has_second row xs ys there)

pub has_either : (row : Row) (xs ys : List Row) → Has row (xs ++ ys) → Has row xs ⊎ Has row ys
has_either row [] ys there = inr there
has_either row (x ∷ xs) ys (inl is) = inl (inl is)
has_either row (x ∷ xs) ys (inr more) = elim (has_either row xs ys more) [ inl here ↦ inl (inr here) | inr there ↦ inr there ]

-- ---- rows that the order doesn't tell apart are one

pub texts_tied : (s t : List ℕ) → value_cmp (Text s) (Text t) ≡ Equal → s ≡ t
texts_tied s t tied = (bytes_eq-Decides s t).0 (sym (is_eq-slice_cmp s t) ∙ ap is_eq (sym (value_cmp-Text s t) ∙ tied))

ints_tied : (m n : ℤ) → value_cmp (Int m) (Int n) ≡ Equal → m ≡ n
ints_tied m n tied = exact_signed m n (sym (value_cmp-Int m n) ∙ tied)

pub balance_tied : (a b : List ℕ × ℤ) → entry_cmp plain (balance_row a) (balance_row b) ≡ Equal → balance_row a ≡ balance_row b
balance_tied a b tied =
    let rows : row_cmp (balance_row a) (balance_row b) ≡ Equal = sym (entry_cmp-plain (balance_row a) (balance_row b)) ∙ tied in
    let first = then_tied (value_cmp (Text a.0) (Text b.0)) _ rows in
    let second = then_tied (value_cmp (Int a.1) (Int b.1)) _ first.1 in
    let key = texts_tied a.0 b.0 first.0 in
    let value = ints_tied a.1 b.1 second.0 in
    ap (λ k. Text k ∷ Int a.1 ∷ []) key ∙ ap (λ v. Text b.0 ∷ Int v ∷ []) value

pub request_tied : (m n : ℕ) (a b : List ℕ × List ℕ) → entry_cmp plain (request_row m a) (request_row n b) ≡ Equal → request_row m a ≡ request_row n b
request_tied m n a b tied =
    let rows : row_cmp (request_row m a) (request_row n b) ≡ Equal = sym (entry_cmp-plain (request_row m a) (request_row n b)) ∙ tied in
    let first = then_tied (value_cmp (Text a.0) (Text b.0)) _ rows in
    let second = then_tied (value_cmp (Int (pos m)) (Int (pos n))) _ first.1 in
    let third = then_tied (value_cmp (Text a.1) (Text b.1)) _ second.1 in
    let id = texts_tied a.0 b.0 first.0 in
    let place = ints_tied (pos m) (pos n) second.0 in
    let answer = texts_tied a.1 b.1 third.0 in
    ap (λ k. Text k ∷ Int (pos m) ∷ Text a.1 ∷ []) id ∙ ap (λ p. Text b.0 ∷ Int p ∷ Text a.1 ∷ []) place
    ∙ ap (λ t. Text b.0 ∷ Int (pos n) ∷ Text t ∷ []) answer

pub tied_self : (row : Row) → entry_cmp plain row row ≡ Equal
tied_self = tied_itself (entry_cmp_total plain)

-- ---- an entry that is put in

-- no row but the new one itself is equal to it in the order
abbrev pub IsAlone : Row → List Row → Type 0
IsAlone new rows = (row : Row) → Has row rows → entry_cmp plain row new ≡ Equal → row ≡ new

pub inserted : (new : Row) (rows : List Row) → IsAlone new rows → Has new (insert_entry plain new rows)
inserted new [] alone = inl refl
inserted new (r ∷ rs) alone = go (entry_cmp plain r new) refl (inserted new rs (λ row here. alone row (inr here)))
  where
    go : (o : Ordering) → entry_cmp plain r new ≡ o → Has new (insert_entry plain new rs)
        → Has new (match_ordering o (r ∷ insert_entry plain new rs) (r ∷ rs) (new ∷ r ∷ rs))
    go Less is more = inr more
    go Equal is more = inl (sym (alone r (inl refl) is))
    go Greater is more = inl refl

pub still_in : (new : Row) (rows : List Row) (row : Row) → Has row rows → Has row (insert_entry plain new rows)
still_in new [] row here = absurd here
still_in new (r ∷ rs) row here = go (entry_cmp plain r new) (still_in new rs row) here
  where
    go : (o : Ordering) → (Has row rs → Has row (insert_entry plain new rs)) → Has row (r ∷ rs)
        → Has row (match_ordering o (r ∷ insert_entry plain new rs) (r ∷ rs) (new ∷ r ∷ rs))
    go Less more (inl is) = inl is
    go Less more (inr there) = inr (more there)
    go Equal more there = there
    go Greater more there = inr there

pub in_before : (new : Row) (rows : List Row) (row : Row) → Has row (insert_entry plain new rows) → (row ≡ new) ⊎ Has row rows
in_before new [] row (inl is) = inl is
in_before new [] row (inr none) = absurd none
in_before new (r ∷ rs) row there = go (entry_cmp plain r new) (in_before new rs row) there
  where
    go : (o : Ordering) → (Has row (insert_entry plain new rs) → (row ≡ new) ⊎ Has row rs)
        → Has row (match_ordering o (r ∷ insert_entry plain new rs) (r ∷ rs) (new ∷ r ∷ rs)) → (row ≡ new) ⊎ Has row (r ∷ rs)
    go Less more (inl is) = inr (inl is)
    go Less more (inr there) = elim (more there) [ inl is ↦ inl is | inr before ↦ inr (inr before) ]
    go Equal more there = inr there
    go Greater more (inl is) = inl is
    go Greater more (inr there) = inr there

-- ---- an entry that is taken away

level : (o : Ordering) → is_eq o ≡ true → o ≡ Equal
level Less e = absurd (cc)
level Equal e = refl
level Greater e = absurd (cc)

pub gone_before : (old : Row) (rows : List Row) (row : Row) → Has row (remove_entry plain old rows) → Has row rows × (entry_cmp plain row old ≢ Equal)
gone_before old [] row none = absurd none
gone_before old (r ∷ rs) row there = go (is_eq (entry_cmp plain r old)) refl (gone_before old rs row) there
  where
    go : (b : Bool) → is_eq (entry_cmp plain r old) ≡ b → (Has row (remove_entry plain old rs) → Has row rs × (entry_cmp plain row old ≢ Equal))
        → Has row (if not b then r ∷ remove_entry plain old rs else remove_entry plain old rs) → Has row (r ∷ rs) × (entry_cmp plain row old ≢ Equal)
    go true is more there = (inr (more there).0, (more there).1)
    go false is more (inl same) = (inl same, λ tied. let e = ap is_eq (ap (λ x. entry_cmp plain x old) (sym same) ∙ tied) in cc)
    go false is more (inr there) = (inr (more there).0, (more there).1)

pub not_gone : (old : Row) (rows : List Row) (row : Row) → Has row rows → entry_cmp plain row old ≢ Equal → Has row (remove_entry plain old rows)
not_gone old [] row none other = absurd none
not_gone old (r ∷ rs) row here other = go (is_eq (entry_cmp plain r old)) refl (λ there. not_gone old rs row there other) here
  where
    go : (b : Bool) → is_eq (entry_cmp plain r old) ≡ b → (Has row rs → Has row (remove_entry plain old rs)) → Has row (r ∷ rs)
        → Has row (if not b then r ∷ remove_entry plain old rs else remove_entry plain old rs)
    go true is more (inl same) = absurd (other (ap (λ x. entry_cmp plain x old) same ∙ level (entry_cmp plain r old) is))
    go true is more (inr there) = more there
    go false is more (inl same) = inl same
    go false is more (inr there) = inr (more there)
