-- Faults that are appended one after another, up to the most that are listed.
use Rattle.std.proofs.Common.{◌≡◌, ℕ, ◌+◌, ◌≤◌, List, [], ◌++◌, length, take, drop, Some, refl, ap, sym, ◌∙◌}
use Rattle.std.specs.List.{slice_get}
use Rattle.std.proofs.lemmas.List.{append_assoc, append-nil, drop_all}
use Rattle.bohm_txn.proofs.ForCallers.{drop_at}
use Rattle.bohm_check.specs.declared.told.Told.{Told}
use Rattle.bohm_types.specs.Stmt.{Stmt}
use Rattle.bohm_types.specs.Txn.{Txn}
use Rattle.bohm_txn.specs.Faulty.{stmt_faulty}
use Rattle.bohm_check.specs.All.{each_from, kinds_told, stmt_told, AreTold}
use Rattle.bohm_check.proofs.Lists.{same_front, full}

module _ {A : Type 0} (tell : ℕ → A → List Told) (xs : List A) (i : ℕ) (start : List Told) where
  -- the faults of the next element were appended
  pub added : (x : A) (before now : List Told) → slice_get xs i ≡ Some x → AreTold before (tell i x) now
      → take 20 (before ++ each_from tell i (drop i xs)) ≡ take 20 start → take 20 (now ++ each_from tell (i + 1) (drop (i + 1) xs)) ≡ take 20 start
  added x before now at told so_far =
      let more = each_from tell (i + 1) (drop (i + 1) xs) in
      let next : each_from tell i (drop i xs) ≡ tell i x ++ more = rw (drop_at xs i x at) refl in
      same_front 20 now (before ++ tell i x) more told ∙ ap (take 20) (append_assoc before (tell i x) more)
      ∙ ap (λ (ys : List Told). take 20 (before ++ ys)) (sym next) ∙ so_far

  -- the list has the most faults already
  pub enough : (now : List Told) → 20 ≤ length now → take 20 (now ++ each_from tell i (drop i xs)) ≡ take 20 start → take 20 now ≡ take 20 start
  enough now many so_far = full 20 now (each_from tell i (drop i xs)) many ∙ so_far

  -- no element is left
  pub ended : (now : List Told) → length xs ≤ i → take 20 (now ++ each_from tell i (drop i xs)) ≡ take 20 start → take 20 now ≡ take 20 start
  ended now end so_far =
      let nothing : each_from tell i (drop i xs) ≡ [] = rw (drop_all i xs end) refl in
      ap (take 20) (sym (append-nil now) ∙ ap (λ (ys : List Told). now ++ ys) (sym nothing)) ∙ so_far

-- appending two lists of faults one after the other
pub two : (old a b now later : List Told) → now ≡ old ++ a → later ≡ now ++ b → later ≡ old ++ (a ++ b)
two old a b now later first second = second ∙ ap (λ (xs : List Told). xs ++ b) first ∙ append_assoc old a b

pub four : (old a b c d x y z now : List Told) → x ≡ old ++ a → y ≡ x ++ b → z ≡ y ++ c → now ≡ z ++ d → now ≡ old ++ (a ++ (b ++ (c ++ d)))
four old a b c d x y z now first second third fourth =
    two old a (b ++ (c ++ d)) x now first (two x b (c ++ d) y now second (two y c d z now third fourth))

-- the same, of which only the first 20 faults are known
pub two_told : (old a b now later : List Told) → now ≡ old ++ a → AreTold now b later → AreTold old (a ++ b) later
two_told old a b now later first second = second ∙ ap (take 20) (ap (λ (xs : List Told). xs ++ b) first ∙ append_assoc old a b)

-- the faults of a statement are those of its kinds, with its number and its line
pub stmt_added : (t : Txn) (number opening i : ℕ) (s : Stmt) (n line : ℕ) (before now : List Told) → n ≡ i + 1 → line ≡ opening + 3 + i
    → now ≡ before ++ kinds_told number n (stmt_faulty t (take i t.body) s) (λ kind. line) → AreTold before (stmt_told t number opening i s) now
stmt_added t number opening i s n line before now numbered lined told =
    ap (take 20) (told
    ∙ ap (λ (m : ℕ). before ++ kinds_told number m (stmt_faulty t (take i t.body) s) (λ kind. line)) numbered
    ∙ ap (λ (m : ℕ). before ++ kinds_told number (i + 1) (stmt_faulty t (take i t.body) s) (λ kind. m)) lined)
