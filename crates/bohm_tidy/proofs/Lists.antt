-- Lists that are built element by element.
use Rattle.std.proofs.Common.{◌≡◌, ℕ, ◌+◌, List, ◌++◌, drop, Some, ap, sym, ◌∙◌, append_assoc}
use Rattle.std.specs.List.{flat_map, slice_get}
use Rattle.bohm_txn.proofs.ForCallers.{drop_at}

-- after element i's list is appended, the lists of the following elements are the rest of the whole
pub gather_more : {A B : Type 0} (f : A → List B) (xs : List A) (i : ℕ) (x : A) (out longer whole : List B) → slice_get xs i ≡ Some x → longer ≡ out ++ f x
    → out ++ flat_map f (drop i xs) ≡ whole → longer ++ flat_map f (drop (i + 1) xs) ≡ whole
gather_more f xs i x out longer whole at more so_far =
    ap (λ (ys : List _). ys ++ flat_map f (drop (i + 1) xs)) more
    ∙ append_assoc out (f x) (flat_map f (drop (i + 1) xs))
    ∙ ap (λ (ys : List _). out ++ flat_map f ys) (sym (drop_at xs i x at))
    ∙ so_far
