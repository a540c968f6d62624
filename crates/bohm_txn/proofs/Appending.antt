-- A document stays well formed when a well-formed transaction is appended.
use Rattle.std.proofs.Common.{◌≡◌, ℕ, zero, suc, ◌<◌, ◌+◌, Bool, true, false, List, [], ◌∷◌, ◌++◌}
use Rattle.std.proofs.Common.{length, Ok, Err, sym, ap, ◌∙◌, subst, arith, length-append}
use Rattle.std.specs.Prelude.{Result, OnOk, OnErr, not, nat_le}
use Rattle.std.proofs.lemmas.Bool.Decides.{nat_tests}
use Rattle.std.proofs.lemmas.Bool.{false≢true}
use Rattle.bohm_types.specs.Appending.{with_txn}
use Rattle.bohm_types.specs.Document.{Document}
use Rattle.bohm_types.specs.Txn.{Txn}
use Rattle.bohm_txn.specs.declared.fault.CheckKind.{CheckKind}
use Rattle.bohm_txn.specs.declared.fault.CheckKind.TheVariants.{Order, Unread, Unwritten, Local as LocalFault, Limit}
use Rattle.bohm_txn.specs.Faulty.{txn_faulty, faulty, passes_at, WellFormed, IsWellFormedTxn}

at_end : {A : Type 0} (p : A → Bool) (xs : List A) (y : A) (i : ℕ) → passes_at p (xs ++ y ∷ []) i ≡ true → ¬ (p y ≡ true) → passes_at p xs i ≡ true
at_end p [] y zero e not = absurd (not e)
at_end p [] y (suc i) e not = e
at_end p (x ∷ xs) y zero e not = e
at_end p (x ∷ xs) y (suc i) e not = at_end p xs y i e not

one_more : (d : Document) (t : Txn) → WellFormed d → IsWellFormedTxn t → length d.log < 1000000 → WellFormed (with_txn d t)
one_more d t well one few = within
  where
    count : length (d.log ++ t ∷ []) ≡ length d.log + 1
    count = length-append d.log (t ∷ [])

    within : (n s : ℕ) (kind : CheckKind) → ¬ (faulty (with_txn d t) n s kind ≡ true)
    within zero zero Order = well 0 0 Order
    within zero zero Unread = false≢true
    within zero zero Unwritten = false≢true
    within zero zero LocalFault = false≢true
    within zero zero Limit = λ e. absurd (
        let fits : nat_le (length (d.log ++ t ∷ [])) 1000000 ≡ true = grind (arith, nat_tests, count, few) in
        let bad : false ≡ true = ap not (sym fits) ∙ e in
        false≢true bad)
    within zero (suc s) kind = false≢true
    within (suc i) s kind = λ e. well (suc i) s kind (at_end (λ u. txn_faulty u s kind) d.log t i e (one 1 s kind))

pub stays_well : {X F : Type 0} (r : Result X F) (old new : Document) (t : Txn) → OnOk r (new ≡ with_txn old t) → OnErr r (new ≡ old)
    → WellFormed old → IsWellFormedTxn t → length old.log < 1000000 → WellFormed new
stays_well (Ok x) old new t ok err well one few = subst WellFormed (sym ok) (one_more old t well one few)
stays_well (Err x) old new t ok err well one few = subst WellFormed (sym err) well
