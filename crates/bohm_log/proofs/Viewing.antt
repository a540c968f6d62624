-- Elements of mapped lists, such as names read by number.
use Rattle.std.proofs.Common.{◌≡◌, ℕ, ◌<◌, List, [], length, get_or, map, Some, true, refl, ap, sym, ◌∙◌, arith}
use Rattle.std.proofs.Common.{slice_get}
use Rattle.std.specs.Prelude.{◌==◌}
use Rattle.std.specs.Cmp.Lexicographic.{pointwise}
use Rattle.std.proofs.lemmas.Bool.Decides.{Decides-eqb}
use Rattle.std.proofs.lemmas.Slice.Eq.{slice_eq-Decides}
use Rattle.std.proofs.lemmas.List.{length-map, get_or-map, get_or_default}
use Rattle.std.specs.List.{All}
use Rattle.bohm_log.specs.declared.row.StmtRow.{StmtRow}
use Rattle.bohm_log.specs.Parts.{Parts, RowIn, name_at}
use Rattle.std.proofs.lemmas.Option.{slice_get-get_or, slice_get_within, get_or_from_slice_get}

pub mapped_at : {A B : Type 0} (f : A → B) (xs : List A) (i : ℕ) (x : A) → i < length xs → x ≡ get_or xs i x → slice_get (map f xs) i ≡ Some (f x)
mapped_at f xs i x h is =
    let within : i < length (map f xs) = omega (arith, length-map xs f) in
    slice_get-get_or (map f xs) i (f x) within ∙ ap Some (get_or-map f xs i x (f x) h ∙ ap f (sym is))

pub read_at : (names : List (List ℕ)) (ids : List ℕ) (i : ℕ) (k : List ℕ) → i < length ids → get_or ids i 0 < length names
    → k ≡ get_or names (get_or ids i 0) k → slice_get (map (name_at names) ids) i ≡ Some k
read_at names ids i k h named is =
    let within : i < length (map (name_at names) ids) = omega (arith, length-map ids (name_at names)) in
    slice_get-get_or (map (name_at names) ids) i [] within
    ∙ ap Some (get_or-map (name_at names) ids i 0 [] h ∙ get_or_default names (get_or ids i 0) [] k named ∙ sym is)

pub mapped_get : {A B : Type 0} (f : A → B) (xs : List A) (i : ℕ) (x : A) → slice_get xs i ≡ Some x → slice_get (map f xs) i ≡ Some (f x)
mapped_get f xs i x e =
    let within : i < length xs = slice_get_within xs i x e in
    mapped_at f xs i x within (sym (get_or_from_slice_get xs i x x e))

pub mapped_length : {A B : Type 0} (f : A → B) (xs : List A) → length (map f xs) ≡ length xs
mapped_length f xs = length-map xs f

pub row_in : (p : Parts) (rs : List StmtRow) (i : ℕ) (d : StmtRow) → i < length rs → All (RowIn p) rs → RowIn p (get_or rs i d)
row_in p rs i d h all = all i d h

pub same_numbers : (names : List (List ℕ)) (xs ys : List ℕ) → true ≡ pointwise (λ x y. x == y) xs ys → map (name_at names) xs ≡ map (name_at names) ys
same_numbers names xs ys e = ap (map (name_at names)) ((slice_eq-Decides Decides-eqb xs ys true e).0 refl)
