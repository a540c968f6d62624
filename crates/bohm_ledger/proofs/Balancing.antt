-- What a checkpoint makes of the table `balance`.
use Rattle.std.proofs.Common.{◌≡◌, ◌≢◌, ◌⊎◌, inl, inr, ℕ, ℤ, pos, Bool, true, false, List, [], ◌∷◌, ◌++◌, refl, sym, ap, ◌∙◌, arith, subst, if◌then◌else◌, ◌||◌}
use Rattle.std.specs.Str.{bytes_eq}
use Rattle.std.proofs.lemmas.Slice.Eq.{bytes_eq-Decides}
use Rattle.bohm_types.specs.declared.cell.Cell.{Cell}
use Rattle.bohm_types.specs.declared.cell.Cell.TheVariants.{Absent, Present}
use Rattle.bohm_types.specs.declared.edition.Edition.{Edition}
use Rattle.bohm_types.specs.Keys.{is_among}
use Rattle.sqlite_value.specs.declared.value.Value.{Value}
use Rattle.sqlite_value.specs.declared.value.Value.TheVariants.{Int}
use Rattle.sqlite_value.specs.Order.{Row, bytes, column}
use Rattle.sqlite_value.specs.Keys.{plain, entry_cmp}
use Rattle.sqlite_trees.specs.Tree.{put_row}
use Rattle.sqlite_trees.specs.View.{View, SetsTree}
use Rattle.bohm_ledger.specs.Rows.{Has, balance_row, head_tree, batch_tree, balance_tree, request_tree, head_row}
use Rattle.bohm_ledger.specs.Rules.{Look}
use Rattle.bohm_ledger.specs.Ledgers.{IsBalance}
use Rattle.bohm_ledger.specs.Steps.{with_key, with_keys, with_cell, without_cell, IsBetween, Sets, Rebalances, HasCheckpoint}
use Rattle.bohm_ledger.proofs.Members.{inserted, still_in, in_before, gone_before, not_gone, balance_tied, tied_self}
use Rattle.bohm_ledger.proofs.Storing.{sets_from}

pub row_key : (a b : List ℕ × ℤ) → balance_row a ≡ balance_row b → a.0 ≡ b.0
row_key a b same = ap (λ row. bytes (column row 0)) same

abbrev pub cell_value : Cell → ℤ
cell_value Absent = pos 0
cell_value (Present z) = z

at_key : (now look : Look) (key : List ℕ) → with_key now key look key ≡ now key
at_key now look key = rw ((bytes_eq-Decides key key).1 refl)

other_key : (now look : Look) (key k : List ℕ) → (key ≢ k) → with_key now key look k ≡ look k
other_key now look key k other = go (bytes_eq key k) refl
  where
    go : (b : Bool) → bytes_eq key k ≡ b → (if b then now k else look k) ≡ look k
    go true e = absurd (other ((bytes_eq-Decides key k).0 e))
    go false e = refl

abbrev pub integer : Value → ℤ
integer (Int z) = z
integer _ = pos 0

pub row_value : (a b : List ℕ × ℤ) → balance_row a ≡ balance_row b → a.1 ≡ b.1
row_value a b same = ap (λ row. integer (column row 1)) same

-- whether two keys are one
pub same_or_not : (key k : List ℕ) → (key ≡ k) ⊎ (key ≢ k)
same_or_not key k = go (bytes_eq key k) refl
  where
    go : (b : Bool) → bytes_eq key k ≡ b → (key ≡ k) ⊎ (key ≢ k)
    go true e = inl ((bytes_eq-Decides key k).0 e)
    go false e = inr (λ same. let there = (bytes_eq-Decides key k).1 same in cc)

-- ---- one key

absent_or_present : (c : Cell) → (c ≡ Absent) ⊎ ((v : ℤ) × (c ≡ Present v))
absent_or_present Absent = inl refl
absent_or_present (Present v) = inr (v, refl)

abbrev is_absent : Cell → Bool
is_absent Absent = true
is_absent (Present z) = false

pub absent_apart : (v : ℤ) → Absent ≢ Present v
absent_apart v e = let d = ap is_absent e in cc

pub present_same : (v w : ℤ) → Present v ≡ Present w → v ≡ w
present_same v w same = ap cell_value same

-- the rows without the cell of a key, which held this or something else
abbrev IsWithout : Look → List ℕ → List Row → Type 0
IsWithout look key rows =
    ((row : Row) → Has row rows → (e : List ℕ × ℤ) × (row ≡ balance_row e) × (look e.0 ≡ Present e.1))
    × ((k : List ℕ) (v : ℤ) → key ≢ k → look k ≡ Present v → Has (balance_row (k, v)) rows)

row_without : (key : List ℕ) (was : Cell) (rows : List Row) (row : Row) → Has row (without_cell key was rows) → Has row rows
row_without key Absent rows row there = there
row_without key (Present v) rows row there = (gone_before (balance_row (key, v)) rows row there).0

others_stay : (key : List ℕ) (was : Cell) (rows : List Row) (k : List ℕ) (v : ℤ) → key ≢ k → Has (balance_row (k, v)) rows
    → Has (balance_row (k, v)) (without_cell key was rows)
others_stay key Absent rows k v other there = there
others_stay key (Present z) rows k v other there =
    not_gone (balance_row (key, z)) rows (balance_row (k, v)) there (λ tied. other (sym (row_key (k, v) (key, z) (balance_tied (k, v) (key, z) tied))))

-- the key's own row is gone, if it had this cell
its_own_gone : (key : List ℕ) (was : Cell) (rows : List Row) (v : ℤ) → Has (balance_row (key, v)) (without_cell key was rows) → was ≢ Present v
its_own_gone key Absent rows v there = absent_apart v
its_own_gone key (Present z) rows v there = λ e.
    (gone_before (balance_row (key, z)) rows (balance_row (key, v)) there).1
    (ap (λ x. entry_cmp plain (balance_row (key, v)) (balance_row (key, x))) (present_same z v e) ∙ tied_self (balance_row (key, v)))

with_row : (key : List ℕ) (is : Cell) (rows : List Row) (row : Row) → Has row (with_cell key is rows) → Has row rows
    ⊎ ((v : ℤ) × (is ≡ Present v) × (row ≡ balance_row (key, v)))
with_row key Absent rows row there = inl there
with_row key (Present v) rows row there = elim (in_before (balance_row (key, v)) rows row there) [ inl same ↦ inr (v, refl, same) | inr before ↦ inl before ]

still_with : (key : List ℕ) (is : Cell) (rows : List Row) (row : Row) → Has row rows → Has row (with_cell key is rows)
still_with key Absent rows row there = there
still_with key (Present v) rows row there = still_in (balance_row (key, v)) rows row there

its_own_there : (key : List ℕ) (is : Cell) (rows : List Row) (v : ℤ) → ((row : Row) → Has row rows → (e : List ℕ × ℤ) × (row ≡ balance_row e))
    → is ≡ Present v → Has (balance_row (key, v)) (with_cell key is rows)
its_own_there key Absent rows v shaped e = absurd (absent_apart v e)
its_own_there key (Present z) rows v shaped e =
    let there : Has (balance_row (key, z)) (with_cell key (Present z) rows) = inserted (balance_row (key, z)) rows (λ row here tied.
    let form = shaped row here in
    form.1 ∙ balance_tied form.0 (key, z) (ap (λ r. entry_cmp plain r (balance_row (key, z))) (sym form.1) ∙ tied)) in
    subst (λ x. Has (balance_row (key, x)) (with_cell key (Present z) rows)) (present_same z v e) there

-- a key's cell in place of the one that it had
pub put_key : (was now look : Look) (key : List ℕ) (rows : List Row) → IsBalance look rows → (look key ≡ was key) ⊎ (look key ≡ now key)
    → IsBalance (with_key now key look) (with_cell key (now key) (without_cell key (was key) rows))
put_key was now look key rows h held = record { each = each_row; all = all_rows }
  where
    left : List Row
    left = without_cell key (was key) rows

    shaped : (row : Row) → Has row left → (e : List ℕ × ℤ) × (row ≡ balance_row e)
    shaped row there = let form = h.each row (row_without key (was key) rows row there) in (form.0, form.1)

    -- a row of another value of the key isn't there
    own : (v : ℤ) → Has (balance_row (key, v)) left → look key ≡ Present v → now key ≡ Present v
    own v there is = elim held [ inl e ↦ absurd (its_own_gone key (was key) rows v there (sym e ∙ is)) | inr e ↦ sym e ∙ is ]

    old_row : (row : Row) → Has row left → (e : List ℕ × ℤ) × (row ≡ balance_row e) × (with_key now key look e.0 ≡ Present e.1)
    old_row row there =
        let form = h.each row (row_without key (was key) rows row there) in
        elim (same_or_not key form.0.0) [
          | inl same ↦ (
            form.0,
            form.1,
            subst (λ k. with_key now key look k ≡ Present form.0.1) same (at_key now look key ∙ own form.0.1
                (subst (λ k. Has (balance_row (k, form.0.1)) left) (sym same) (subst (λ r. Has r left) form.1 there))
                (subst (λ k. look k ≡ Present form.0.1) (sym same) form.2)),
          )
          | inr other ↦ (form.0, form.1, other_key now look key form.0.0 other ∙ form.2)
        ]

    each_row : (row : Row) → Has row (with_cell key (now key) left) → (e : List ℕ × ℤ) × (row ≡ balance_row e) × (with_key now key look e.0 ≡ Present e.1)
    each_row row there = elim (with_row key (now key) left row there) [
      | inl before ↦ old_row row before
      | inr new ↦ ((key, new.0), new.2, at_key now look key ∙ new.1)
    ]

    all_rows : (k : List ℕ) (v : ℤ) → with_key now key look k ≡ Present v → Has (balance_row (k, v)) (with_cell key (now key) left)
    all_rows k v is = elim (same_or_not key k) [
      | inl same ↦ subst (λ x. Has (balance_row (x, v)) (with_cell key (now key) left)) same
          (its_own_there key (now key) left v shaped (sym (at_key now look key) ∙ subst (λ x. with_key now key look x ≡ Present v) (sym same) is))
      | inr other ↦ still_with key (now key) left (balance_row (k, v))
          (others_stay key (was key) rows k v other (h.all k v (sym (other_key now look key k other) ∙ is)))
    ]

pub balance_same : (look other : Look) (rows : List Row) → IsBalance look rows → ((k : List ℕ) → look k ≡ other k) → IsBalance other rows
balance_same look other rows h same = record {
  each = λ row there. let form = h.each row there in (form.0, form.1, sym (same form.0.0) ∙ form.2);
  all = λ k v is. h.all k v (same k ∙ is);
}

-- ---- all changed keys

-- a key that was looked at holds what it holds now
with_keys_now : (now : Look) (keys : List (List ℕ)) (look : Look) (k : List ℕ) → (is_among keys k ≡ false → look k ≡ now k)
    → with_keys now keys look k ≡ now k
with_keys_now now [] look k h = h refl
with_keys_now now (x ∷ xs) look k h = with_keys_now now xs (with_key now x look) k (go (bytes_eq x k) h)
  where
    go : (b : Bool) → ((b || is_among xs k) ≡ false → look k ≡ now k) → is_among xs k ≡ false → (if b then now k else look k) ≡ now k
    go true h none = refl
    go false h none = h none

pub with_keys_all : (was now : Look) (keys : List (List ℕ)) (rows : List Row) → ((k : List ℕ) → is_among keys k ≡ false → was k ≡ now k)
    → IsBalance (with_keys now keys was) rows → IsBalance now rows
with_keys_all was now keys rows changed h = balance_same (with_keys now keys was) now rows h (λ k. with_keys_now now keys was k (changed k))

pub with_keys_more : (now : Look) (ks : List (List ℕ)) (k : List ℕ) (look : Look) → with_keys now (ks ++ k ∷ []) look ≡ with_key now k (with_keys now ks look)
with_keys_more now [] k look = refl
with_keys_more now (x ∷ ks) k look = with_keys_more now ks k (with_key now x look)

between_one : (was now look : Look) (key : List ℕ) → IsBetween was now look → IsBetween was now (with_key now key look)
between_one was now look key h k = go (bytes_eq key k) (h k)
  where
    go : (b : Bool) → (look k ≡ was k) ⊎ (look k ≡ now k) → ((if b then now k else look k) ≡ was k) ⊎ ((if b then now k else look k) ≡ now k)
    go true either = inr refl
    go false either = either

pub between : (was now look : Look) (keys : List (List ℕ)) → IsBetween was now look → IsBetween was now (with_keys now keys look)
between was now look [] h = h
between was now look (x ∷ xs) h = between was now (with_key now x look) xs (between_one was now look x h)

pub rebalances_none : (v : View) (look : Look) → IsBalance look (v.trees balance_tree) → Rebalances v v look
rebalances_none v look h = record { balance = h; others = λ t other. refl; rest = refl }

-- a key that didn't change
pub key_same : (v : View) (was now look : Look) (key : List ℕ) → was key ≡ now key → IsBalance look (v.trees balance_tree) → (look key ≡ was key)
    ⊎ (look key ≡ now key) → Rebalances v v (with_key now key look)
key_same v was now look key same h held = rebalances_none v (with_key now key look) (balance_same look (with_key now key look) (v.trees balance_tree) h each)
  where
    is : look key ≡ now key
    is = elim held [ inl e ↦ e ∙ same | inr e ↦ e ]

    each : (k : List ℕ) → look k ≡ with_key now key look k
    each k = elim (same_or_not key k) [
      | inl one ↦ subst (λ x. look x ≡ with_key now key look x) one (is ∙ sym (at_key now look key))
      | inr other ↦ sym (other_key now look key k other)
    ]

pub key_put : (a b : View) (was now look : Look) (key : List ℕ) (w i : Cell) → w ≡ was key → i ≡ now key
    → Sets a b balance_tree (with_cell key i (without_cell key w (a.trees balance_tree)))
    → IsBalance look (a.trees balance_tree) → (look key ≡ was key) ⊎ (look key ≡ now key) → Rebalances a b (with_key now key look)
key_put a b was now look key w i first second sets h held =
    let this : b.trees balance_tree ≡ with_cell key (now key) (without_cell key (was key) (a.trees balance_tree)) =
    sets.this ∙ ap (λ x. with_cell key x (without_cell key w (a.trees balance_tree))) second
    ∙ ap (λ x. with_cell key (now key) (without_cell key x (a.trees balance_tree))) first in
    record {
      balance = subst (IsBalance (with_key now key look)) (sym this) (put_key was now look key (a.trees balance_tree) h held);
      others = sets.others;
      rest = sets.rest;
    }

pub rebalances_then : (a b c : View) (look more : Look) → Rebalances a b look → Rebalances b c more → Rebalances a c more
rebalances_then a b c look more h k = record {
  balance = k.balance;
  others = λ t other. k.others t other ∙ h.others t other;
  rest = k.rest ∙ ap (λ (v : View). record v { trees = c.trees; cursors = c.cursors }) h.rest;
}

pub checkpoint_made : (a b c : View) (edition : Edition) (top : ℕ) (look : Look) → Rebalances a b look
    → SetsTree b c head_tree (put_row (head_row edition top)) → HasCheckpoint a.trees edition top look c.trees
checkpoint_made a b c edition top look one two =
    let put = sets_from b c head_tree (put_row (head_row edition top)) two in
    record {
      head = put.this ∙ ap (put_row (head_row edition top)) (one.others head_tree (λ e. absurd (omega arith)));
      balance = subst (IsBalance look) (sym (put.others balance_tree (λ e. absurd (omega arith)))) one.balance;
      batch = put.others batch_tree (λ e. absurd (omega arith)) ∙ one.others batch_tree (λ e. absurd (omega arith));
      request = put.others request_tree (λ e. absurd (omega arith)) ∙ one.others request_tree (λ e. absurd (omega arith));
    }
