-- Keys by their numbers among names to which more are appended.
use Rattle.std.proofs.Common.{◌≡◌, ℕ, ◌+◌, ◌<◌, ◌≤◌, List, [], ◌∷◌, ◌++◌, Option, Some, None, ap, sym, ◌∙◌, get_or, length, map, take, subst}
use Rattle.std.proofs.lemmas.List.{get_or-map, get_or_past, length-map, map-append, take_more}
use Rattle.std.proofs.lemmas.List.Elements.{All-push}
use Rattle.bohm_types.specs.Keys.{place}
use Rattle.bohm_types.specs.Procedure.{argument_or, stands_for}
use Rattle.bohm_log.specs.Columns.{AllNamed}
use Rattle.bohm_log.specs.Parts.{Begins, name_at, names_at}
use Rattle.bohm_log.proofs.ForCallers.{named_more, same_names}

-- an index past the arguments stands for the name itself
pub past_arguments : (names : List (List ℕ)) (ids : List ℕ) (k : List ℕ) (i : ℕ) → length ids ≤ i → argument_or k (names_at names ids) (Some i) ≡ k
past_arguments names ids k i over =
    get_or_past (names_at names ids) i k (subst (λ (n : ℕ). n ≤ i) (sym (length-map ids (name_at names))) over)

-- numbers keep their keys when keys are appended
module _ (xs ys : List (List ℕ)) (ids : List ℕ) (grows : Begins xs ys) (named : AllNamed xs ids) where
  pub pushed_named : (i : ℕ) (more : List ℕ) → more ≡ ids ++ i ∷ [] → i < length ys → AllNamed ys more
  pushed_named i more e inside = subst (AllNamed ys) (sym e) (All-push (λ m. m < length ys) ids i (named_more xs ys ids grows named) inside)

  pub pushed_names : (i : ℕ) (more : List ℕ) (k : List ℕ) → more ≡ ids ++ i ∷ [] → name_at ys i ≡ k
      → names_at ys more ≡ names_at xs ids ++ k ∷ []
  pushed_names i more k e is =
      ap (names_at ys) e ∙ map-append (name_at ys) ids (i ∷ []) ∙ (λ j. same_names xs ys ids grows named j ++ is j ∷ [])

-- the number of the key that one more name stands for was appended
pub next_key : (ps : List (List ℕ)) (first names later declared : List (List ℕ)) (arguments ids more : List ℕ) (parameters : List (Option ℕ)) (i n : ℕ)
    (k : List ℕ) → Begins first names → AllNamed first arguments → Begins names later → AllNamed names ids → more ≡ ids ++ n ∷ []
    → i < length declared → k ≡ get_or declared i k → parameters ≡ map (place ps) declared
    → name_at later n ≡ argument_or k (names_at names arguments) (get_or parameters i None)
    → names_at names ids ≡ map (stands_for ps (names_at first arguments)) (take i declared)
    → names_at later more ≡ map (stands_for ps (names_at first arguments)) (take (i + 1) declared)
next_key ps first names later declared arguments ids more parameters i n k before known grows named added inside key are is so_far =
    let f = stands_for ps (names_at first arguments) in
    let same : names_at names arguments ≡ names_at first arguments = same_names first names arguments before known in
    let which : get_or parameters i None ≡ place ps k =
    ap (λ (xs : List (Option ℕ)). get_or xs i None) are ∙ get_or-map (place ps) declared i k None inside ∙ ap (place ps) (sym key) in
    let one : name_at later n ≡ f k = is ∙ (λ j. argument_or k (same j) (which j)) in
    pushed_names names later ids grows named n more (f k) added one ∙ ap (λ (xs : List (List ℕ)). xs ++ f k ∷ []) so_far
    ∙ sym (ap (map f) (take_more declared i k inside ∙ ap (λ (x : List ℕ). take i declared ++ x ∷ []) (sym key)) ∙ map-append f (take i declared) (k ∷ []))
