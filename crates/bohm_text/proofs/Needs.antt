-- The words after `need` are read as a condition, unless they test whether a key is present.
use Rattle.std.proofs.Common.{◌≡◌, ℕ, Bool, true, false, cond, List, [], ◌∷◌, Some, None, refl, ap, sym, ◌∙◌}
use Rattle.std.specs.Prelude.{Option, ◌||◌, codes}
use Rattle.std.specs.Option.{option_map}
use Rattle.std.specs.Str.{bytes_eq}
use Rattle.bohm_types.specs.Term.{Atom}
use Rattle.bohm_types.specs.Stmt.{Has, Lacks, Need}
use Rattle.bohm_types.specs.Name.{key_of}
use Rattle.bohm_text.specs.declared.stops.Stop.{Stop}
use Rattle.bohm_text.specs.declared.stops.Stop.TheVariants as stops
use Rattle.bohm_text.specs.Print.{Words}
use Rattle.bohm_text.specs.Ahead.{is_ahead}
use Rattle.bohm_text.specs.Reading.{◌>>=◌, first_of, stop_of, longer, ending, terms_of, sum_from, last_sum, right_side, cond_of, presence_of, need_of}

pub no_words : (words : Words) → words ≡ [] → need_of words ≡ option_map Need (cond_of words)
unfolding need_of cond_of sum_from
no_words words e = rw e refl

-- a single term isn't a condition
alone : (term : Option (Bool × Atom)) → ((term >>= λ t. longer t (Some ([], ending stops.End []))) >>= right_side) ≡ None
alone None = refl
alone (Some t) = refl

one_is_none : (word : List ℕ) → cond_of (word ∷ []) ≡ None
unfolding cond_of sum_from terms_of
one_is_none word = alone (first_of word)

pub one_word : (words rest : Words) (word : List ℕ) → words ≡ word ∷ rest → rest ≡ [] → need_of words ≡ option_map Need (cond_of words)
unfolding need_of
one_word words rest word e none = rw (e, none) (ap (option_map Need) (sym (one_is_none word)))

-- two words aren't a condition, since no right side follows
two_are_none : (word name : List ℕ) → cond_of (word ∷ name ∷ []) ≡ None
unfolding cond_of sum_from terms_of last_sum
two_are_none word name = ends (first_of word) (stop_of name)
  where
    ends : (term : Option (Bool × Atom)) (stop : Option Stop) → ((term >>= λ t. longer t (stop >>= λ s. Some ([], ending s []))) >>= right_side) ≡ None
    ends None stop = refl
    ends (Some t) None = refl
    ends (Some t) (Some stops.End) = refl
    ends (Some t) (Some stops.When) = refl
    ends (Some t) (Some (stops.Compared cmp)) = refl

untested : (word name : List ℕ) → bytes_eq word (codes "has") || bytes_eq word (codes "no") ≡ false → presence_of word name ≡ None
unfolding presence_of
untested word name e =
    let no : Bool = bytes_eq word (codes "no") in
    let Q : Bool → Type 0 = λ (t : Bool). t ≡ false → cond t (option_map Lacks (key_of name)) None ≡ None in
    let P : Bool → Type 0 = λ (s : Bool). s || no ≡ false → cond s (option_map Has (key_of name)) (cond no (option_map Lacks (key_of name)) None) ≡ None in
    elim (bytes_eq word (codes "has")) as P [
      | true ↦ λ h. absurd cc
      | false ↦ elim no as Q [ true ↦ λ h. absurd cc | false ↦ λ _. refl ]
    ] e

-- words that begin neither with `has` nor with `no` and another word are read as a condition
pub no_test : (words : Words) → is_ahead (codes "has") words || is_ahead (codes "no") words ≡ false → need_of words ≡ option_map Need (cond_of words)
unfolding need_of
no_test [] none = no_words [] refl
no_test (word ∷ []) none = ap (option_map Need) (sym (one_is_none word))
no_test (word ∷ name ∷ []) none = untested word name none ∙ ap (option_map Need) (sym (two_are_none word name))
no_test (left ∷ cmp ∷ right ∷ rest) none = refl

pub many_words : (words w1 w2 w3 : Words) (left cmp right : List ℕ) → words ≡ left ∷ w1 → w1 ≡ cmp ∷ w2 → w2 ≡ right ∷ w3
    → need_of words ≡ option_map Need (cond_of words)
unfolding need_of
many_words words w1 w2 w3 left cmp right e1 e2 e3 = rw (e1, e2, e3) refl

-- exactly two words are read as a test of a key's presence
pub test_alone : (words : Words) (word name : List ℕ) → words ≡ word ∷ name ∷ [] → need_of words ≡ presence_of word name
unfolding need_of
test_alone words word name e = rw e refl
