-- A total, term by term.
use Rattle.std.proofs.Common.{◌≡◌, ℕ, Bool, true, false, cond, List, [], ◌∷◌, reverse, Option, Some, None, refl, ap, sym, ◌∙◌}
use Rattle.std.specs.Prelude.{ℤ, if◌then◌else◌}
use Rattle.std.specs.List.{find}
use Rattle.std.specs.Option.{option_map, option_or}
use Rattle.std.specs.Str.{bytes_eq}
use Rattle.std.proofs.lemmas.List.{reverse-append}
use Rattle.std.proofs.lemmas.List.Folds.{find-append}
use Rattle.bohm_types.specs.Term.{Atom}
use Rattle.bohm_txn.specs.Meaning.{newest, Look, Locals, atom_value, total_from, signed, ◌>>=◌}

pub total_step : (look : Look) (locals : Locals) (terms rest : List (Bool × Atom)) (t : Bool × Atom) (z n : ℤ) → terms ≡ t ∷ rest
    → option_map (λ x. signed z t.0 x) (atom_value look locals t.1) ≡ Some n
    → total_from look locals z terms ≡ total_from look locals n rest
total_step look locals terms rest t z n is value = rw is (after (atom_value look locals t.1) value)
  where
    after : (o : Option ℤ) → option_map (λ x. signed z t.0 x) o ≡ Some n
        → (o >>= λ x. total_from look locals (signed z t.0 x) rest) ≡ total_from look locals n rest
    after None e = absurd cc
    after (Some x) e = let same : signed z t.0 x ≡ n = cc in rw same refl

-- ---- the newest entry, searched from the end of the list

abbrev entry_or : {A : Type 0} → Option (List ℕ × A) → A → A
entry_or None before = before
entry_or (Some e) before = e.1

newest-reverse : {A : Type 0} (es : List (List ℕ × A)) (k : List ℕ) (before : A)
    → newest es k before ≡ entry_or (find (λ e. bytes_eq e.0 k) (reverse es)) before
newest-reverse [] k before = refl
newest-reverse {A = A} (e ∷ es) k before =
    newest-reverse es k (if bytes_eq e.0 k then e.1 else before) ∙ joined (find (λ e. bytes_eq e.0 k) (reverse es)) (bytes_eq e.0 k)
    ∙ ap (λ o. entry_or o before) (sym (find-append (λ e. bytes_eq e.0 k) (reverse es) (e ∷ [])))
    ∙ ap (λ rs. entry_or (find (λ e. bytes_eq e.0 k) rs) before) (sym (reverse-append (e ∷ []) es))
  where
    joined : (o : Option (List ℕ × A)) (b : Bool) → entry_or o (cond b e.1 before) ≡ entry_or (option_or o (cond b (Some e) None)) before
    joined (Some x) b = refl
    joined None true = refl
    joined None false = refl

pub newest_found : {A : Type 0} (es : List (List ℕ × A)) (k : List ℕ) (before : A) (e : List ℕ × A) → Some e ≡ find (λ e. bytes_eq e.0 k) (reverse es)
    → e.1 ≡ newest es k before
newest_found es k before e found = ap (λ o. entry_or o before) found ∙ sym (newest-reverse es k before)

pub newest_none : {A : Type 0} (es : List (List ℕ × A)) (k : List ℕ) (before : A) → None ≡ find (λ e. bytes_eq e.0 k) (reverse es) → before ≡ newest es k before
newest_none es k before found = ap (λ o. entry_or o before) found ∙ sym (newest-reverse es k before)
