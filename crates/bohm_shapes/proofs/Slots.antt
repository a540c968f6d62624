-- Names by their indices and numbers.
use Rattle.std.proofs.Common.{◌≡◌, ℕ, suc, ◌<◌, ◌≤◌, true, All, subst, ⊎_elim, List, [], ◌∷◌, ◌++◌, Some, get_or, length, take, refl, sym, ap, ◌∙◌, arith}
use Rattle.std.specs.Prelude.{◌==◌}
use Rattle.std.specs.List.{IsDistinct, list_any, slice_get}
use Rattle.std.proofs.lemmas.Bool.{cases_lt}
use Rattle.std.proofs.lemmas.Bool.Decides.{eqb_tells}
use Rattle.std.proofs.lemmas.Map.Keys.{apart_from_distinct}
use Rattle.std.proofs.lemmas.List.{get_or-map, length-map}
use Rattle.std.proofs.lemmas.Option.{get_or_from_slice_get, slice_get-get_or}
use Rattle.std.specs.Str.{bytes_eq}
use Rattle.std.proofs.lemmas.Iterator.Adapters.{position_from-zero}
use Rattle.std.proofs.lemmas.List.Quantifiers.{position-Some}
use Rattle.bohm_types.specs.Keys.{is_among, place}
use Rattle.bohm_log.specs.Parts.{name_at, names_at}
use Rattle.bohm_txn.proofs.ForCallers.{key_itself, other_key, same_key}
use Rattle.bohm_shapes.specs.Apart.{all_apart, apart_numbers}

pub found : (names : List (List ℕ)) (k : List ℕ) (i : ℕ) → place names k ≡ Some i → name_at names i ≡ k
found names k i e =
    let p = position-Some (λ x. bytes_eq x k) names i [] (position_from-zero (λ x. bytes_eq x k) names ∙ e) in
    same_key (get_or names i []) k p.1

pub as_many : (names : List (List ℕ)) (ids : List ℕ) → length (names_at names ids) ≡ length ids
as_many names ids = length-map ids (name_at names)

pub named_at : (names : List (List ℕ)) (ids : List ℕ) (i : ℕ) (k : List ℕ) → i < length ids → get_or ids i 0 < length names
    → slice_get names (get_or ids i 0) ≡ Some k → slice_get (names_at names ids) i ≡ Some k
named_at names ids i k h named is =
    let within : i < length (names_at names ids) = omega (arith, length-map ids (name_at names)) in
    slice_get-get_or (names_at names ids) i [] within
    ∙ ap Some (get_or-map (name_at names) ids i 0 [] h ∙ get_or_from_slice_get names (get_or ids i 0) k [] is)

taken : (xs more : List (List ℕ)) → take (length xs) (xs ++ more) ≡ xs
taken [] more = refl
taken (x ∷ xs) more = ap (λ (rest : List (List ℕ)). x ∷ rest) (taken xs more)

-- the first elements are those before the others
pub first_taken : (xs ys more : List (List ℕ)) (n : ℕ) → ys ≡ xs ++ more → n ≡ length xs → take n ys ≡ xs
first_taken xs ys more n e l = rw (e, l) (taken xs more)

-- ---- distinct names at numbers are distinct just if the numbers are

same_name : (names : List (List ℕ)) (i j : ℕ) → IsDistinct bytes_eq names → i < length names → j < length names
    → bytes_eq (name_at names i) (name_at names j) ≡ (i == j)
same_name names i j apart hi hj = ⊎_elim
    (λ yes. let there : bytes_eq (name_at names i) (name_at names j) ≡ true =
    subst (λ n. bytes_eq (name_at names i) (name_at names n) ≡ true) yes.1 (key_itself (name_at names i)) in there ∙ sym yes.0)
    (λ no. ⊎_elim
    (λ early. apart_from_distinct bytes_eq names i j [] apart early hj ∙ sym no.0)
    (λ late.
    let strict : j < i = lt_from j i late (λ e. no.1 (sym e)) in
    other_key (name_at names j) (name_at names i) (apart_from_distinct bytes_eq names j i [] apart strict hi) ∙ sym no.0)
    (cases_lt i j))
    (eqb_tells i j)
  where
    lt_from : (a b : ℕ) → a ≤ b → ¬ (a ≡ b) → a < b
    lt_from a b h ne = grind (arith, h, ne)

among_named : (names : List (List ℕ)) (ids : List ℕ) (n : ℕ) → IsDistinct bytes_eq names → All (λ i. i < length names) ids → n < length names
    → is_among (names_at names ids) (name_at names n) ≡ list_any (λ m. m == n) ids
among_named names [] n apart all inside = refl
among_named names (m ∷ ms) n apart all inside = rw (
  same_name names m n apart (all 0 m (omega arith)) inside,
  among_named names ms n apart (λ j d h. all (suc j) d (omega (arith, h))) inside,
) refl

pub apart_keys : (names : List (List ℕ)) (ids : List ℕ) → All (λ i. i < length names) ids → IsDistinct bytes_eq names
    → apart_numbers ids ≡ all_apart (names_at names ids)
apart_keys names [] all apart = refl
apart_keys names (n ∷ ns) all apart =
    let rest : All (λ i. i < length names) ns = λ j d h. all (suc j) d (omega (arith, h)) in
    rw (among_named names ns n apart rest (all 0 n (omega arith)), apart_keys names ns rest apart) refl
