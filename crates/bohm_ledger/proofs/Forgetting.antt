-- Batches behind the checkpoint may leave.
use Rattle.std.proofs.Common.{◌≡◌, ◌≢◌, ◌⊎◌, inl, inr, ℕ, zero, suc, pos, ◌+◌, ◌<◌, ◌≤◌, Bool, true, false, List}
use Rattle.std.proofs.Common.{[], ◌∷◌, length, refl, sym, ap, ◌∙◌, arith, subst, if◌then◌else◌, Equal, Greater, is_eq, Result, Ok, Err}
use Rattle.std.specs.Result.{IfOk}
use Rattle.std.specs.Ordering.{is_lt}
use Rattle.std.specs.Cmp.{int_cmp_is}
use Rattle.std.proofs.lemmas.Int.{ints}
use Rattle.sqlite_value.specs.Order.{Row}
use Rattle.sqlite_value.specs.declared.keys.Order.{Order}
use Rattle.sqlite_value.specs.Keys.{prefix_cmp}
use Rattle.sqlite_value.proofs.OrderLemmas.{value_cmp-Int}
use Rattle.sqlite_trees.specs.Tree.{Trees, from_key, has_rowid, without_rowid}
use Rattle.sqlite_trees.specs.View.{View, SetsTree}
use Rattle.bohm_ledger.specs.Rows.{Has, batch_tree, batch_row, place_of, first_of, text_of}
use Rattle.bohm_ledger.specs.Rules.{Rules}
use Rattle.bohm_ledger.specs.Ledgers.{AreKept}
use Rattle.bohm_ledger.specs.Steps.{AreLess, Forgets}
use Rattle.bohm_ledger.proofs.Appending.{int_below}
use Rattle.bohm_ledger.proofs.Storing.{sets_from}

pub is_it : (n : ℕ) (first : ℕ) (b : List ℕ) → has_rowid (pos n) (batch_row n first b) ≡ true
is_it n first b = ap is_eq (value_cmp-Int (pos n) (pos n) ∙ sym (int_cmp_is (pos n) (pos n) Equal refl))

pub is_another : (m n first : ℕ) (b : List ℕ) → m ≢ n → has_rowid (pos n) (batch_row m first b) ≡ false
is_another m n first b other = go (above_or_below m n other)
  where
    above_or_below : (m n : ℕ) → m ≢ n → (m < n) ⊎ (n < m)
    above_or_below zero zero other = absurd (other refl)
    above_or_below zero (suc n) other = inl (omega arith)
    above_or_below (suc m) zero other = inr (omega arith)
    above_or_below (suc m) (suc n) other = elim (above_or_below m n (λ same. other (ap suc same))) [ inl h ↦ inl (omega arith) | inr h ↦ inr (omega arith) ]

    go : (m < n) ⊎ (n < m) → has_rowid (pos n) (batch_row m first b) ≡ false
    go (inl h) = ap is_eq (int_below m n h)
    go (inr h) = ap is_eq (value_cmp-Int (pos m) (pos n) ∙ sym (int_cmp_is (pos m) (pos n) Greater (omega (arith, ints))))

module _ {Defs : Type 0} (rules : Rules Defs) (c : ℕ) where
  -- the rows of later batches have later places
  later : (bs : List (List ℕ)) (place first : ℕ) (rows : List Row) → AreKept rules c place first bs rows → (n at : ℕ) (text : List ℕ)
      → Has (batch_row n at text) rows → place ≤ n
  later [] place first rows kept n at text there = absurd (subst (Has (batch_row n at text)) kept there)
  later (b ∷ bs) place first rows (inl (rest, is, kept)) n at text there = elim (subst (Has (batch_row n at text)) is there) [
    | inl same ↦ let e = ap place_of same in omega arith
    | inr more ↦ let e = later bs (place + 1) (first + rules.size b) rest kept n at text more in omega arith
  ]
  later (b ∷ bs) place first rows (inr (gone, kept)) n at text there = let e = later bs (place + 1)
      (first + rules.size b) rows kept n at text there in omega arith

  -- a place before all of them is none of theirs
  none_of_them : (bs : List (List ℕ)) (place first n : ℕ) (rows : List Row) → AreKept rules c place first bs rows → n < place
      → without_rowid (pos n) rows ≡ rows
  none_of_them [] place first n rows kept low = rw kept refl
  none_of_them (b ∷ bs) place first n rows (inl (rest, is, kept)) low =
      let head : has_rowid (pos n) (batch_row place first b) ≡ false = is_another place n first b (λ e. absurd (omega arith)) in
      let more = none_of_them bs (place + 1) (first + rules.size b) n rest kept (omega arith) in
      rw is (rw head (ap (λ rs. batch_row place first b ∷ rs) more))
  none_of_them (b ∷ bs) place first n rows (inr (gone, kept)) low = none_of_them bs (place + 1) (first + rules.size b) n rows kept (omega arith)

  pub one_gone : (bs : List (List ℕ)) (place first n at : ℕ) (text : List ℕ) (rows : List Row) → AreKept rules c place first bs rows
      → Has (batch_row n at text) rows → rules.is_plain text ≡ true
      → at + rules.size text ≤ c + 1 → n + 1 < place + length bs → AreKept rules c place first bs (without_rowid (pos n) rows)
  one_gone [] place first n at text rows kept there plain low before = absurd (subst (Has (batch_row n at text)) kept there)
  one_gone (b ∷ bs) place first n at text rows (inl (rest, is, kept)) there plain low before = elim (subst (Has (batch_row n at text)) is there) [
    | inl same ↦
        let here : n ≡ place = ap place_of same in
        let from : at ≡ first = ap first_of same in
        let what : text ≡ b = ap text_of same in
        let head : has_rowid (pos n) (batch_row place first b) ≡ true = rw here (is_it place first b) in
        let more = none_of_them bs (place + 1) (first + rules.size b) n rest kept (omega arith) in
        inr (
          record { undefining = subst (λ x. rules.is_plain x ≡ true) what plain; below = let s = ap rules.size what in omega arith; followed = omega arith },
          rw is (rw head (rw more kept)),
        )
    | inr further ↦
        let high : place + 1 ≤ n = later bs (place + 1) (first + rules.size b) rest kept n at text further in
        let head : has_rowid (pos n) (batch_row place first b) ≡ false = is_another place n first b (λ e. absurd (omega arith)) in
        inl (
          without_rowid (pos n) rest,
          rw is (rw head refl),
          one_gone bs (place + 1) (first + rules.size b) n at text rest kept further plain low
              (omega arith),
        )
  ]
  one_gone (b ∷ bs) place first n at text rows (inr (gone, kept)) there plain low before =
      inr (gone, one_gone bs (place + 1) (first + rules.size b) n at text rows kept there plain low (omega arith))

-- what a cursor has left after a seek is in the tree
pub has_from : (o : Order) (key : Row) (rows : List Row) (row : Row) → Has row (from_key o key rows) → Has row rows
has_from o key [] row there = there
has_from o key (r ∷ rs) row there = go (is_lt (prefix_cmp o r key)) (has_from o key rs row) there
  where
    go : (b : Bool) → (Has row (from_key o key rs) → Has row rs) → Has row (if b then from_key o key rs else r ∷ rs) → Has row (r ∷ rs)
    go true more there = inr (more there)
    go false more there = there

pub first_in : (o : Order) (key : Row) (rows : List Row) (row : Row) (left : List Row) → from_key o key rows ≡ row ∷ left → Has row rows
first_in o key rows row left is = has_from o key rows row (subst (Has row) (sym is) (inl refl))

pub forgets_none : {Defs : Type 0} (rules : Rules Defs) (bound next : ℕ) (old new : View) → new ≡ record old { cursors = new.cursors }
    → Forgets rules bound next old new
forgets_none rules bound next old new same = record {
  kept = λ c bs low is kept. subst (λ (db : Trees). AreKept rules c 1 1 bs (db batch_tree)) (sym (ap (λ (v : View). v.trees) same)) kept;
  others = λ t other. ap (λ (v : View). v.trees t) same;
  rest = same ∙ ap (λ ts. record old { trees = ts; cursors = new.cursors }) (sym (ap (λ (v : View). v.trees) same));
}

pub forgets_one : {Defs : Type 0} (rules : Rules Defs) (bound next : ℕ) (old mid new : View) (n at : ℕ) (text : List ℕ)
    → mid ≡ record old { cursors = mid.cursors } → SetsTree mid new batch_tree (without_rowid (pos n))
    → Has (batch_row n at text) (old.trees batch_tree) → rules.is_plain text ≡ true → at + rules.size text ≤ bound + 1 → n + 1 < next
    → Forgets rules bound next old new
forgets_one rules bound next old mid new n at text same sets there plain low before =
    let put = sets_from mid new batch_tree (without_rowid (pos n)) sets in
    let trees : mid.trees ≡ old.trees = ap (λ (v : View). v.trees) same in
    record {
      kept = λ c bs above is kept. subst (AreKept rules c 1 1 bs) (sym (put.this ∙ ap (λ (db : Trees). without_rowid (pos n) (db batch_tree)) trees))
          (one_gone rules c bs 1 1 n at text (old.trees batch_tree) kept there plain (omega arith) (omega arith));
      others = λ t other. put.others t other ∙ ap (λ (db : Trees). db t) trees;
      rest = put.rest ∙ ap (λ (v : View). record v { trees = new.trees; cursors = new.cursors }) same;
    }

pub forgets_then : {Defs : Type 0} (rules : Rules Defs) (bound next : ℕ) (a b c : View) → Forgets rules bound next a b → Forgets rules bound next b c
    → Forgets rules bound next a c
forgets_then rules bound next a b c h k = record {
  kept = λ d bs low is kept. k.kept d bs low is (h.kept d bs low is kept);
  others = λ t other. k.others t other ∙ h.others t other;
  rest = k.rest ∙ ap (λ (v : View). record v { trees = c.trees; cursors = c.cursors }) h.rest;
}

pub are_less : {Defs : Type 0} (rules : Rules Defs) (bound next : ℕ) (old new : View) → Forgets rules bound next old new
    → AreLess rules bound next old.trees new.trees
are_less rules bound next old new h = record { kept = h.kept; others = h.others }

pub if_ok_weaker : {T E : Type 0} {P Q : T → Type 0} (r : Result T E) → ((x : T) → P x → Q x) → IfOk r P → IfOk r Q
if_ok_weaker (Ok x) f h = f x h
if_ok_weaker (Err e) f h = tt
