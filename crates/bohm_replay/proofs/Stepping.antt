-- What the functions of the machine find along the way.
use Rattle.std.proofs.Common.{◌≡◌, ℕ, ℤ, ◌+◌, List, [], ◌∷◌, ◌++◌, Some, refl, ap, sym, ◌∙◌, subst}
use Rattle.std.proofs.lemmas.List.{append-nil}
use Rattle.std.specs.Prelude.{IfOk, OnOk, Option, Result, Ok, Err}
use Rattle.bohm_types.specs.Appending.{empty_document, with_txn}
use Rattle.bohm_types.specs.Document.{Document}
use Rattle.bohm_text.specs.Cut.{whole_lines}
use Rattle.bohm_types.specs.declared.edition.Edition.{Edition}
use Rattle.bohm_types.specs.Procedure.{Procedure, instance}
use Rattle.bohm_txn.specs.Meaning.{Look}
use Rattle.bohm_txn.specs.Serial.{after}
use Rattle.bohm_entries.specs.Meaning.{Call, Definitions, Entry, defined}
use Rattle.bohm_entries.specs.Batches.{Defined, count, defined_by, definitions_with, entries_of, txns_with}
use Rattle.bohm_ledger.specs.Rules.{State}
use Rattle.bohm_replay.specs.Entries.{IsRun, answers_by, look_after, look_by, reply_line, requests_by, state_of}

pub call_then : (edition : Edition) (ds : Definitions) (look now : Look) (top : ℕ) (entry : Option Entry) (name : List ℕ) (p : Procedure)
    (keys : List (List ℕ)) (values : List ℤ) (text : List ℕ) → entry ≡ Some (Call name keys values) → defined ds name ≡ Some p
    → now ≡ after look (instance p keys values) → text ≡ reply_line (top + 1) look (instance p keys values)
    → IsRun (state_of edition ds look top) entry 1 (state_of edition ds now (top + 1)) text
call_then edition ds look now top entry name p keys values text is known ran said =
    let txns : txns_with ds entry ≡ instance p keys values ∷ [] = rw (is, known) refl in
    record {
      went =
          let defs : ds ≡ definitions_with ds entry = rw is refl in
          let same : now ≡ look_after look (txns_with ds entry) = ran ∙ ap (look_after look) (sym txns) in
          λ i. state_of edition (defs i) (same i) (top + 1);
      answer = rw is (rw known said);
    }

-- the same state by other names
pub landed : (was : State Defined) (entry : Option Entry) (size : ℕ) (text : List ℕ) (edition to : Edition) (ds es : Definitions) (look : Look) (top last : ℕ)
    → to ≡ edition → es ≡ ds → last ≡ top → IsRun was entry size (state_of edition ds look top) text → IsRun was entry size (state_of to es look last) text
landed was entry size text edition to ds es look top last same_edition same_defs same_top run =
    let P : State Defined → Type 0 = λ s. IsRun was entry size s text in
    let is : state_of to es look last ≡ state_of edition ds look top = λ i. state_of (same_edition i) (same_defs i) look (same_top i) in
    subst P (sym is) run

-- a call that was pushed to an empty list is the only one there
pub only_call : (now was : Document) (edition : Edition) (p : Procedure) (ks keys : List (List ℕ)) (vs values : List ℤ)
    → now ≡ with_txn was (instance p ks vs) → was ≡ empty_document edition → ks ≡ keys → vs ≡ values → now.log ≡ instance p keys values ∷ []
only_call now was edition p ks keys vs values pushed fresh same_keys same_values =
    ap (λ (d : Document). d.log) pushed
    ∙ (ap (λ (d : Document). d.log ++ instance p ks vs ∷ []) fresh ∙ (λ i. instance p (same_keys i) (same_values i) ∷ []))

-- what three clauses say of a result
pub if_all : {T E : Type 0} (A D : T → Type 0) (B C : Type 0) (r : Result T E) → ((x : T) → A x → B → C → D x) → IfOk r A → OnOk r B → OnOk r C → IfOk r D
if_all A D B C (Ok x) f a b c = f x a b c
if_all A D B C (Err e) f a b c = tt

no_entries : entries_of [] ≡ []
unfolding whole_lines
no_entries = refl

-- a text that is one entry, with nothing behind it
pub alone : (text entry rest : List ℕ) → text ≡ entry ++ rest → rest ≡ [] → entries_of text ≡ whole_lines entry ∷ entries_of rest
    → entries_of text ≡ whole_lines text ∷ []
alone text entry rest bytes none entries =
    let same : text ≡ entry = bytes ∙ (ap (λ (r : List ℕ). entry ++ r) none ∙ append-nil entry) in
    entries ∙ ((λ i. whole_lines (sym same i) ∷ entries_of (none i)) ∙ ap (λ es. whole_lines text ∷ es) no_entries)

-- some entries of a batch were run, with these replies and these answers to ids; the others are left
pub record IsUnderWay (start now : State Defined) (all left : List (List (List ℕ))) (told : List (List ℕ)) (noted : List (List ℕ × List ℕ)) : Type 0 where
  pub defs : defined_by now.defs left ≡ defined_by start.defs all
  pub look : look_by now.defs now.look left ≡ look_by start.defs start.look all
  pub top : now.top + count left ≡ start.top + count all
  pub replies : told ++ answers_by now left ≡ answers_by start all
  pub answers : noted ++ requests_by now left ≡ requests_by start all
