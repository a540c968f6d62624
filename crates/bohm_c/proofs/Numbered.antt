-- Keys by their numbers: shared keys, and after them a list's own.
use Rattle.std.proofs.Common.{◌≡◌, ℕ, ◌<◌, List, [], ◌∷◌, ◌++◌, Some, length, ap, sym, ◌∙◌, append_assoc, slice_get, subst}
use Rattle.std.specs.List.{position}
use Rattle.std.specs.Str.{bytes_eq}
use Rattle.std.proofs.lemmas.List.{get_or_append_left, map-append}
use Rattle.std.proofs.lemmas.Option.{slice_get_within, get_or_from_slice_get}
use Rattle.std.proofs.lemmas.List.Elements.{All-push}
use Rattle.bohm_log.specs.Columns.{AllNamed}
use Rattle.bohm_log.specs.Parts.{Begins, name_at, names_at}
use Rattle.bohm_log.proofs.ForCallers.{at_its_number, named_more, same_names}

-- a key with the number of a shared key
pub shared_key : (shared own : List (List ℕ)) (k : List ℕ) (i : ℕ) → slice_get shared i ≡ Some k → name_at (shared ++ own) i ≡ k
shared_key shared own k i at = get_or_append_left shared own [] i (slice_get_within shared i k at) ∙ get_or_from_slice_get shared i k [] at

-- a key that was found among the shared keys
pub found_key : (shared own : List (List ℕ)) (k : List ℕ) (i : ℕ) → Some i ≡ position (bytes_eq k) shared → name_at (shared ++ own) i ≡ k
found_key shared own k i e =
    shared_key shared own k i (at_its_number shared k i e)

-- appending a key of its own
pub added_grows : (shared own more : List (List ℕ)) (k : List ℕ) → more ≡ own ++ k ∷ [] → Begins (shared ++ own) (shared ++ more)
added_grows shared own more k e = (k ∷ [], ap (λ names. shared ++ names) e ∙ sym (append_assoc shared own (k ∷ [])))

-- numbers keep their keys when keys are appended
module _ (xs ys : List (List ℕ)) (ids : List ℕ) (grows : Begins xs ys) (named : AllNamed xs ids) where
  pub pushed_named : (i : ℕ) (more : List ℕ) → more ≡ ids ++ i ∷ [] → i < length ys → AllNamed ys more
  pushed_named i more e inside = subst (AllNamed ys) (sym e) (All-push (λ m. m < length ys) ids i (named_more xs ys ids grows named) inside)

  pub pushed_names : (i : ℕ) (more : List ℕ) (k : List ℕ) → more ≡ ids ++ i ∷ [] → name_at ys i ≡ k
      → names_at ys more ≡ names_at xs ids ++ k ∷ []
  pushed_names i more k e is =
      ap (names_at ys) e ∙ map-append (name_at ys) ids (i ∷ []) ∙ (λ j. same_names xs ys ids grows named j ++ is j ∷ [])
