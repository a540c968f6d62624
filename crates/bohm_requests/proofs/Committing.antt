-- A commit that stores nothing.
use Rattle.std.proofs.Common.{◌≡◌, ◌<◌, ℕ, List, [], ◌∷◌, ◌++◌, refl, ap, sym, ◌∙◌, subst, length, arith, ◌⊎◌, inl, inr}
use Rattle.std.proofs.lemmas.List.{append-nil}
use Rattle.bohm_text.specs.Cut.{whole_lines}
use Rattle.bohm_entries.specs.Batches.{Defined, entries_of}
use Rattle.sqlite_trees.specs.Tree.{Trees}
use Rattle.bohm_types.specs.declared.edition.Edition.{Edition}
use Rattle.bohm_ledger.specs.Rules.{State}
use Rattle.bohm_ledger.specs.Ledgers.{StandsFor}
use Rattle.bohm_replay.specs.Entries.{answers_by, entry_rules}
use Rattle.bohm_requests.specs.Desks.{batches_of}

pub no_batch : (bs : List (List ℕ)) (batch : List ℕ) → batch ≡ [] → bs ≡ bs ++ batches_of batch
no_batch bs batch none = sym (ap (λ (b : List ℕ). bs ++ batches_of b) none ∙ append-nil bs)

pub some_batch : (batch : List ℕ) → 0 < length batch → batches_of batch ≡ batch ∷ []
some_batch [] some = absurd (omega (arith, some))
some_batch (b ∷ bs) some = refl

pub no_answers : (s : State Defined) (batch : List ℕ) → batch ≡ [] → [] ≡ answers_by s (entries_of batch)
unfolding whole_lines
no_answers s batch none = sym (ap (λ (b : List ℕ). answers_by s (entries_of b)) none)

-- a commit that stores something
pub some_stands : (edition : Edition) (bs : List (List ℕ)) (given batch : List ℕ) (db : Trees) → given ≡ batch → 0 < length batch
    → StandsFor entry_rules edition (bs ++ given ∷ []) db → StandsFor entry_rules edition (bs ++ batches_of batch) db
some_stands edition bs given batch db same some stands =
    subst (λ (cs : List (List ℕ)). StandsFor entry_rules edition (bs ++ cs) db)
    (ap (λ (b : List ℕ). b ∷ []) same ∙ sym (some_batch batch some)) stands

pub some_left : (edition : Edition) (bs : List (List ℕ)) (given batch : List ℕ) (db : Trees) → given ≡ batch → 0 < length batch
    → StandsFor entry_rules edition bs db ⊎ StandsFor entry_rules edition (bs ++ given ∷ []) db
    → StandsFor entry_rules edition bs db ⊎ StandsFor entry_rules edition (bs ++ batches_of batch) db
some_left edition bs given batch db same some (inl old) = inl old
some_left edition bs given batch db same some (inr new) = inr (some_stands edition bs given batch db same some new)

pub left_by : {A B C : Type 0} → (A → B) → A ⊎ C → B ⊎ C
left_by f (inl a) = inl (f a)
left_by f (inr c) = inr c

pub none_by_length : (xs : List ℕ) → length xs ≡ 0 → xs ≡ []
none_by_length [] none = refl
none_by_length (x ∷ xs) none = absurd (omega (arith, none))
