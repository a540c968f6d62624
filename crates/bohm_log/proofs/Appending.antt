-- Appending a transaction of a document's edition keeps all of its transactions in that edition.
use Rattle.std.proofs.Common.{◌≡◌, true, List, [], ◌∷◌, ◌++◌, Ok, Err, refl, sym, ap, ◌∙◌, subst}
use Rattle.std.specs.Prelude.{Result, OnOk, OnErr, IsTrue}
use Rattle.std.specs.List.{list_all}
use Rattle.std.proofs.lemmas.Bool.{and_from}
use Rattle.std.proofs.lemmas.List.Folds.{list_all-append}
use Rattle.bohm_types.specs.declared.edition.Edition.{Edition}
use Rattle.bohm_types.specs.declared.edition.Edition.TheVariants.{One, Two}
use Rattle.bohm_types.specs.Document.{same_edition, in_edition}
use Rattle.bohm_types.specs.Txn.{Txn}

pub same_self : (e : Edition) → same_edition e e ≡ true
same_self One = refl
same_self Two = refl

one_more : (e : Edition) (log : List Txn) (t : Txn) → t.edition ≡ e → IsTrue (list_all (in_edition e) log) → IsTrue (list_all (in_edition e) (log ++ t ∷ []))
one_more e log t same all =
    let here : same_edition t.edition e ≡ true = ap (λ x. same_edition x e) same ∙ same_self e in
    let last : list_all (in_edition e) (t ∷ []) ≡ true = and_from (same_edition t.edition e) true here refl in
    list_all-append (in_edition e) log (t ∷ []) ∙ and_from (list_all (in_edition e) log) (list_all (in_edition e) (t ∷ [])) all last

pub stays_in : {X F : Type 0} (r : Result X F) (e : Edition) (old new : List Txn) (t : Txn) → OnOk r (new ≡ old ++ t ∷ []) → OnErr r (new ≡ old)
    → t.edition ≡ e → IsTrue (list_all (in_edition e) old) → IsTrue (list_all (in_edition e) new)
stays_in (Ok x) e old new t ok err same all = subst (λ (ts : List Txn). IsTrue (list_all (in_edition e) ts)) (sym ok) (one_more e old t same all)
stays_in (Err x) e old new t ok err same all = subst (λ (ts : List Txn). IsTrue (list_all (in_edition e) ts)) (sym err) all
