-- What rows and cursors give.
use Rattle.std.proofs.Common.{◌≡◌, ℕ, Bool, true, false, List, [], ◌∷◌, ◌++◌, map, refl, sym, ap, ◌∙◌, eq-eqb, Some, None, Option, if◌then◌else◌, append_assoc}
use Rattle.bohm_types.specs.Name.{is_name, key_of}
use Rattle.sqlite_value.specs.declared.keys.Order.{Order}
use Rattle.sqlite_value.specs.Order.{Row}
use Rattle.sqlite_trees.specs.Tree.{from_key}
use Rattle.sqlite_trees.specs.View.{View, Advances, with_cursor}
use Rattle.bohm_ledger.specs.Steps.{left_of}

abbrev or_empty : Option (List ℕ) → List ℕ
or_empty None = []
or_empty (Some xs) = xs

pub read_name : (name key : List ℕ) → key_of name ≡ Some key → name ≡ key
read_name name key is = go (is_name name) is
  where
    go : (b : Bool) → (if b then Some name else None) ≡ Some key → name ≡ key
    go true same = ap or_empty same
    go false same = absurd (cc)

pub stepped : (old new : View) (cursor : ℕ) (row : Row) → Advances old new cursor row true → left_of old cursor ≡ row ∷ left_of new cursor
stepped old new cursor row h = rw (h.1, h.2, eq-eqb cursor cursor refl)

pub ended : (old new : View) (cursor : ℕ) (row : Row) → Advances old new cursor row false → left_of old cursor ≡ []
ended old new cursor row h = rw h.0

pub placed : (v : View) (cursor : ℕ) (es : List Row) → left_of (with_cursor v cursor es) cursor ≡ es
placed v cursor es = rw (eq-eqb cursor cursor refl)

pub from_no_key : (o : Order) (es : List Row) → from_key o [] es ≡ es
from_no_key o [] = refl
from_no_key o (e ∷ es) = refl

-- one row more was taken from a cursor
pub one_taken : {X : Type 0} (f : X → Row) (all left : List Row) (row : Row) (so_far now : List X) → all ≡ map f so_far ++ row ∷ left
    → map f now ≡ map f so_far ++ row ∷ [] → all ≡ map f now ++ left
one_taken f all left row so_far now is more = is ∙ sym (append_assoc (map f so_far) (row ∷ []) left) ∙ ap (λ rs. rs ++ left) (sym more)
