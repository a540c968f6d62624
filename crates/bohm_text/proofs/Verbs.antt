-- Words that begin neither with `set` nor with `need` and another word are read by the other verbs.
use Rattle.std.proofs.Common.{◌≡◌, ℕ, Bool, true, false, List, [], ◌∷◌, refl}
use Rattle.std.specs.Prelude.{codes}
use Rattle.std.specs.Str.{bytes_eq}
use Rattle.bohm_txn.proofs.ForCallers.{same_key}
use Rattle.bohm_text.specs.Print.{Words}
use Rattle.bohm_text.specs.Ahead.{is_ahead}
use Rattle.bohm_text.specs.Reading.{put_of, need_of, stmt_of}
use Rattle.bohm_text.specs.Verbs.{other_of}

set_alone : (verb : List ℕ) → verb ≡ codes "set" → stmt_of (verb ∷ []) ≡ other_of (verb ∷ [])
unfolding stmt_of other_of put_of
set_alone verb e = rw e refl

need_alone : (verb : List ℕ) → verb ≡ codes "need" → stmt_of (verb ∷ []) ≡ other_of (verb ∷ [])
unfolding stmt_of other_of need_of
need_alone verb e = rw e refl

neither : (verb : List ℕ) (words : Words) → bytes_eq verb (codes "set") ≡ false → bytes_eq verb (codes "need") ≡ false
    → stmt_of (verb ∷ words) ≡ other_of (verb ∷ words)
unfolding stmt_of other_of
neither verb words set need = rw (set, need) refl

alone : (verb : List ℕ) → stmt_of (verb ∷ []) ≡ other_of (verb ∷ [])
alone verb =
    let same : Type 0 = stmt_of (verb ∷ []) ≡ other_of (verb ∷ []) in
    elim (bytes_eq verb (codes "set")) as (λ (t : Bool). bytes_eq verb (codes "set") ≡ t → same) [
      | true ↦ λ e. set_alone verb (same_key verb (codes "set") e)
      | false ↦ λ set. elim (bytes_eq verb (codes "need")) as (λ (t : Bool). bytes_eq verb (codes "need") ≡ t → same) [
        | true ↦ λ e. need_alone verb (same_key verb (codes "need") e)
        | false ↦ λ need. neither verb [] set need
      ] refl
    ] refl

pub other_verb : (words : Words) → is_ahead (codes "set") words ≡ false → is_ahead (codes "need") words ≡ false → stmt_of words ≡ other_of words
unfolding stmt_of other_of
other_verb [] set need = refl
other_verb (verb ∷ []) set need = alone verb
other_verb (verb ∷ next ∷ words) set need = neither verb (next ∷ words) set need
