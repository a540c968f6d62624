-- Faults that are reported one after another.
use Rattle.std.proofs.Common.{◌≡◌, ℕ, ◌+◌, ◌<◌, ◌≤◌, List, [], ◌∷◌, ◌++◌, length, take, get_or, refl, ap, sym, subst, ◌∙◌, append_assoc}
use Rattle.std.proofs.lemmas.List.{append-nil, take_all, take_more}
use Rattle.bohm_check.specs.declared.told.Told.{Told}
use Rattle.bohm_check.specs.Reports.{Adds, Reports, ReportsSome, head_at}

-- whatever is reported next is reported behind the first ones
abbrev pub AreReported : List Told → List ℕ → List ℕ → Type 0
AreReported first old now = (more : List Told) (new : List ℕ) → Reports more now new → Reports (first ++ more) old new

pub none_yet : (old : List ℕ) → AreReported [] old old
none_yet old more new reports = reports

longer : (first next : List Told) (told : Told) (old now later : List ℕ) → next ≡ first ++ told ∷ [] → AreReported first old now
    → Adds (head_at told) now later → AreReported next old later
longer first next told old now later more_of before adds more new reports =
    let whole : first ++ (told ∷ more) ≡ next ++ more = sym (append_assoc first (told ∷ []) more) ∙ ap (λ (xs : List Told). xs ++ more) (sym more_of) in
    subst (λ (xs : List Told). Reports xs old new) whole (before (told ∷ more) new (later, adds, reports))

-- the fault at an index was reported
pub one_more : (faults : List Told) (i : ℕ) (d : Told) (old now later : List ℕ) → i < length faults → AreReported (take i faults) old now
    → Adds (head_at (get_or faults i d)) now later → AreReported (take (i + 1) faults) old later
one_more faults i d old now later within before adds =
    longer (take i faults) (take (i + 1) faults) (get_or faults i d) old now later (take_more faults i d within) before adds

-- nothing is added any more
pub so_far : (faults : List Told) (i : ℕ) (old now : List ℕ) → AreReported (take i faults) old now → ReportsSome faults old now
so_far faults i old now are = record {
  count = i;
  reports = subst (λ (xs : List Told). Reports xs old now) (append-nil (take i faults)) (are [] now refl);
}
