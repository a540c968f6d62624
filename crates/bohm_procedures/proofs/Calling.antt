-- A procedure's own instance is checked alone, and there are as many handles as keys.
use Rattle.std.proofs.Common.{◌≡◌, ℕ, false, List, [], ◌∷◌, ◌++◌, length, Some, Ok, Err, refl, sym, ap, ◌∙◌, arith, ◌≤◌, ◌+◌, map, take}
use Rattle.std.specs.Prelude.{ℤ, Result, OnOk, is_err}
use Rattle.std.specs.List.{sum_by}
use Rattle.std.proofs.lemmas.List.Sums.{sum_by-append}
use Rattle.std.proofs.lemmas.Option.{same_Some}
use Rattle.bohm_types.specs.declared.edition.Edition.{Edition}
use Rattle.bohm_types.specs.Txn.{Txn}
use Rattle.bohm_log.specs.declared.key_handle.KeyHandle.{KeyHandle}
use Rattle.bohm_log.specs.Drafting.{Drafted, IsBetween}
use Rattle.bohm_log.specs.Handles.{keys_named}
use Rattle.bohm_log.specs.Sizes.{open_terms, stmt_terms}
use Rattle.bohm_log.proofs.ForCallers.{same_self}
use Rattle.bohm_types.specs.Document.{Document, document_of}
use Rattle.bohm_txn.specs.Faulty.{alone}
use Rattle.bohm_text.specs.ProcedureReading.{let_zero}
use Rattle.bohm_procedures.specs.Accepting.{BeginsWithLets}
use Rattle.std.proofs.lemmas.List.{length-map, length-take}

pub named_length : (handles : List KeyHandle) → length (keys_named handles) ≡ length handles
named_length handles = length-map handles (λ (h : KeyHandle). h.key)

one_document : (t : Txn) → document_of t.edition [] (t ∷ []) ≡ Some (alone t)
one_document t = rw (same_self t.edition) refl

pub checked_alone : (e : Edition) (t : Txn) (store : List (List ℕ × ℤ)) (log : List Txn) (d : Document) → t.edition ≡ e → store ≡ []
    → log ≡ t ∷ [] → Some d ≡ document_of e store log → d ≡ alone t
checked_alone e t store log d same none one made =
    same_Some d (alone t) (made ∙ (λ j. document_of (sym same j) (none j) (one j)) ∙ one_document t)

pub closed_alone : {X F : Type 0} (r : Result X F) (old new : List Txn) (t : Txn) → is_err r ≡ false → OnOk r (new ≡ old ++ t ∷ []) → old ≡ [] → new ≡ t ∷ []
closed_alone (Ok x) old new t went ok none = ok ∙ ap (λ ts. ts ++ t ∷ []) none
closed_alone (Err x) old new t went ok none = absurd cc

pub lets_within : (t : Txn) (values : List (List ℕ)) → BeginsWithLets t values → length values ≤ length t.body
lets_within t values e = omega (arith, sym (length-map values let_zero), ap length e, length-take (length values) t.body)

zeros_terms : (xs : List (List ℕ)) → sum_by stmt_terms (map let_zero xs) ≡ length xs
zeros_terms [] = refl
zeros_terms (x ∷ xs) =
    let split : sum_by stmt_terms (map let_zero (x ∷ xs)) ≡ 1 + sum_by stmt_terms (map let_zero xs) =
    sum_by-append stmt_terms (let_zero x ∷ []) (map let_zero xs) in
    omega (arith, split, zeros_terms xs)

-- the statements of the values have at most one term for each value
pub lets_short : (d : Drafted) (values : List (List ℕ)) → BeginsWithLets d.txn values → IsBetween d
    → sum_by stmt_terms (take (length values) d.txn.body) + open_terms d ≤ length values
lets_short d values e whole =
    let none : open_terms d ≡ 0 = rw (whole.done, whole.latest) refl in
    omega (arith, ap (sum_by stmt_terms) e, zeros_terms values, none)

pub own_alone : {X F : Type 0} (e : Edition) (t : Txn) (r : Result X F) (old new : List Txn) (store : List (List ℕ × ℤ)) (d : Document)
    → is_err r ≡ false → OnOk r (new ≡ old ++ t ∷ []) → old ≡ [] → store ≡ [] → t.edition ≡ e → Some d ≡ document_of e store new → d ≡ alone t
own_alone e t r old new store d went ok none empty same made = checked_alone e t store new d same empty (closed_alone r old new t went ok none) made
