-- What was read of an entry's text is what its lines spell.
use Rattle.std.proofs.Common.{◌≡◌, ℕ, ℤ, ◌+◌, ◌≤◌, IsSome, length-drop, List, [], ◌∷◌, ◌++◌, drop, take, length, zero, suc, Some, None, refl, ap, sym, ◌∙◌, append_assoc, subst, arith, rules}
use Rattle.std.proofs.lemmas.List.{append-nil}
use Rattle.std.proofs.lemmas.Option.{same_Some}
use Rattle.std.specs.Prelude.{codes, Err, Option, Result}
use Rattle.bohm_types.specs.declared.edition.Edition.{Edition}
use Rattle.bohm_types.specs.Document.{Document}
use Rattle.bohm_types.specs.Sound.{IsDocument}
use Rattle.bohm_types.specs.Procedure.{Procedure}
use Rattle.bohm_types.specs.Txn.{Txn}
use Rattle.bohm_txn.specs.Faulty.{IsFirstFault}
use Rattle.bohm_txn.specs.declared.fault.CheckFault.{CheckFault}
use Rattle.bohm_text.specs.Cut.{whole_lines}
use Rattle.bohm_text.specs.Print.{Words, print_doc}
use Rattle.bohm_text.specs.ProcedureText.{IsProcedure, print_procedure}
use Rattle.bohm_text.specs.Reading.{◌>>=◌, keys_of, number_of}
use Rattle.bohm_types.specs.Name.{key_of}
use Rattle.bohm_text.specs.Step.{Nothing, steps}
use Rattle.bohm_text.specs.Windows.{head_line}
use Rattle.bohm_text.proofs.ForCallers.{headed_lines, text_stages, text_steps, window_lines}
use Rattle.bohm_entries.specs.declared.refusal.EntryFault.{EntryFault}
use Rattle.bohm_entries.specs.declared.refusal.EntryFault.TheVariants as fault_is
use Rattle.bohm_entries.specs.declared.refusal.Refusal.TheVariants as refusal_is
use Rattle.bohm_entries.specs.Meaning.{Call, Define, Definitions, defined}
use Rattle.bohm_entries.specs.Batches.{behind_opening, called_of, define_of, named, procedure_at, only_txn, procedure_in, txn_at, txn_in, values_of}

pub opening_lines : (e : Edition) (lines : List ℕ) → whole_lines (behind_opening e lines) ≡ head_line e ∷ codes "txn" ∷ whole_lines lines
opening_lines e lines = headed_lines e (codes "txn" ++ 10 ∷ lines)
    ∙ ap (λ (ls : List (List ℕ)). head_line e ∷ ls) (window_lines (codes "txn" ++ 10 ∷ lines) (record { behind = lines; begins = refl }))

one_of : (ts : List Txn) → length ts ≡ 1 → (t : Txn) × (ts ≡ t ∷ [])
one_of [] h = absurd (omega (arith, h))
one_of (t ∷ []) h = (t, refl)
one_of (t ∷ u ∷ ts) h = absurd (omega (arith, h))

-- a document's text that holds one transaction
pub txn_read : (e : Edition) (lines : List ℕ) (d : Document) → IsDocument d → print_doc d ≡ behind_opening e lines → length d.log ≡ 1
    → (t : Txn) × (d.log ≡ t ∷ []) × (txn_in e (whole_lines lines) ≡ Some t)
txn_read e lines d sound print one =
    let only = one_of d.log one in (
      only.0,
      only.1,
      ap (λ ls. txn_at (steps Nothing ls)) (sym (ap whole_lines print ∙ opening_lines e lines))
          ∙ (ap txn_at (text_steps d sound) ∙ ap only_txn only.1),
    )

-- a procedure's text
pub procedure_read : (lines : List ℕ) (p : Procedure) → IsProcedure p → print_procedure p ≡ lines → procedure_in (whole_lines lines) ≡ Some p
procedure_read lines p sound print = ap (λ (t : List ℕ). procedure_in (whole_lines t)) (sym print) ∙ ap procedure_at (text_stages p sound)

-- a name, and a procedure's text
pub define_read : (words : Words) (name lines : List ℕ) (p : Procedure) → named words ≡ Some name → IsProcedure p → print_procedure p ≡ lines
    → define_of words (whole_lines lines) ≡ Some (Define name p)
define_read words name lines p is sound print = rw (is, procedure_read lines p sound print) refl

-- a call's arguments
pub call_read : (ds : Definitions) (name : List ℕ) (words : Words) (p : Procedure) (keys : List (List ℕ)) (values : List ℤ) → defined ds name ≡ Some p
    → keys_of (take (length p.keys) words) ≡ Some keys → values_of (drop (length p.keys) words) ≡ Some values
    → called_of ds (name ∷ words) ≡ Some (Call name keys values)
call_read ds name words p keys values is read_keys read_values = rw (is, read_keys, read_values) refl

-- what was read so far, and what is read of the rest
abbrev pub with_front : {X : Type 0} → List X → Option (List X) → Option (List X)
with_front front None = None
with_front front (Some rest) = Some (front ++ rest)

one_more_value : (front : List ℤ) (v : ℤ) (o : Option (List ℤ)) → with_front front (o >>= λ vs. Some (v ∷ vs)) ≡ with_front (front ++ v ∷ []) o
one_more_value front v None = refl
one_more_value front v (Some vs) = ap Some (sym (append_assoc front (v ∷ []) vs))

one_more_key : (front : List (List ℕ)) (k : List ℕ) (o : Option (List (List ℕ))) → with_front front (o >>= λ ks. Some (k ∷ ks)) ≡ with_front (front ++ k ∷ []) o
one_more_key front k None = refl
one_more_key front k (Some ks) = ap Some (sym (append_assoc front (k ∷ []) ks))

pub value_taken : (front : List ℤ) (v : ℤ) (word : List ℕ) (before after : Words) (all : Option (List ℤ)) → before ≡ word ∷ after → number_of word ≡ Some v
    → with_front front (values_of before) ≡ all → with_front (front ++ v ∷ []) (values_of after) ≡ all
value_taken front v word before after all is value h =
    let one : values_of before ≡ (values_of after >>= λ vs. Some (v ∷ vs)) = ap values_of is ∙ rw value refl in
    sym (one_more_value front v (values_of after)) ∙ (ap (with_front front) (sym one) ∙ h)

pub values_taken : (front : List ℤ) (rest : Words) (all : Option (List ℤ)) → rest ≡ [] → with_front front (values_of rest) ≡ all → all ≡ Some front
values_taken front rest all none h = sym h ∙ (ap (λ (ws : Words). with_front front (values_of ws)) none ∙ ap Some (append-nil front))

pub key_taken : (front : List (List ℕ)) (key word : List ℕ) (before after : Words) (n m : ℕ) (all : Option (List (List ℕ))) → n ≡ suc m → before ≡ word ∷ after
    → key_of word ≡ Some key → with_front front (keys_of (take n before)) ≡ all → with_front (front ++ key ∷ []) (keys_of (take m after)) ≡ all
unfolding keys_of
key_taken front key word before after n m all more is found h =
    let one : keys_of (take n before) ≡ (keys_of (take m after) >>= λ ks. Some (key ∷ ks)) =
    (λ i. keys_of (take (more i) (is i))) ∙ rw found refl in
    sym (one_more_key front key (keys_of (take m after))) ∙ (ap (with_front front) (sym one) ∙ h)

-- a word that spells no value
pub value_bad : (front : List ℤ) (word : List ℕ) (before after : Words) (all : Option (List ℤ)) → before ≡ word ∷ after → number_of word ≡ None
    → with_front front (values_of before) ≡ all → all ≡ None
value_bad front word before after all is bad h = sym h ∙ (ap (λ ws. with_front front (values_of ws)) is ∙ rw bad refl)

-- a word that is no key
pub key_bad : (front : List (List ℕ)) (word : List ℕ) (before after : Words) (n m : ℕ) (all : Option (List (List ℕ))) → n ≡ suc m → before ≡ word ∷ after
    → key_of word ≡ None → with_front front (keys_of (take n before)) ≡ all → all ≡ None
unfolding keys_of
key_bad front word before after n m all more is bad h =
    sym h ∙ ((λ i. with_front front (keys_of (take (more i) (is i)))) ∙ rw bad refl)

-- as many elements as words
one_counted : {A : Type 0} (n : ℕ) (x : Option A) (o : Option (List A)) (all : List A) → ((xs : List A) → o ≡ Some xs → length xs ≡ n)
    → (x >>= λ y. o >>= λ xs. Some (y ∷ xs)) ≡ Some all → length all ≡ suc n
one_counted n None o all each h = absurd cc
one_counted n (Some y) None all each h = absurd cc
one_counted n (Some y) (Some xs) all each h = ap length (sym (same_Some (y ∷ xs) all h)) ∙ ap suc (each xs refl)

pub values_counted : (words : Words) (values : List ℤ) → values_of words ≡ Some values → length values ≡ length words
values_counted [] values h = ap length (sym (same_Some [] values h))
values_counted (w ∷ ws) values h = one_counted (length ws) (number_of w) (values_of ws) values (λ vs is. values_counted ws vs is) h

pub keys_counted : (words : Words) (keys : List (List ℕ)) → keys_of words ≡ Some keys → length keys ≡ length words
unfolding keys_of
keys_counted [] keys h = ap length (sym (same_Some [] keys h))
keys_counted (w ∷ ws) keys h = one_counted (length ws) (key_of w) (keys_of ws) keys (λ ks is. keys_counted ws ks is) h

-- words that two runs of them take whole
pub words_counted : (words behind ahead : Words) (n m : ℕ) → behind ≡ drop n words → ahead ≡ drop m behind → n ≤ length words → m ≤ length behind → ahead ≡ []
    → length words ≡ n + m
words_counted words behind ahead n m first second enough more none =
    omega (arith, ap length first, ap length second, ap length none, length-drop n words, length-drop m behind)

pub some_is : {A : Type 0} (o : Option A) (x : A) → o ≡ Some x → IsSome o
some_is None x h = absurd cc
some_is (Some y) x h = search rules

take_none : (n : ℕ) (ws : Words) → ws ≡ [] → take n ws ≡ []
take_none zero ws h = refl
take_none (suc n) [] h = refl
take_none (suc n) (w ∷ ws) h = absurd cc

pub keys_ended : (front : List (List ℕ)) (rest : Words) (n : ℕ) (all : Option (List (List ℕ))) → rest ≡ [] → with_front front (keys_of (take n rest)) ≡ all → all ≡ Some front
unfolding keys_of
keys_ended front rest n all none h =
    sym h ∙ (ap (λ (ws : Words). with_front front (keys_of ws)) (take_none n rest none) ∙ ap Some (append-nil front))

pub keys_taken : (front : List (List ℕ)) (rest : Words) (n : ℕ) (all : Option (List (List ℕ))) → n ≡ 0 → with_front front (keys_of (take n rest)) ≡ all → all ≡ Some front
unfolding keys_of
keys_taken front rest n all none h = sym h ∙ (ap (λ (m : ℕ). with_front front (keys_of (take m rest))) none ∙ ap Some (append-nil front))

pub one_dropped : (n m : ℕ) (w : List ℕ) (before after all : Words) → n ≡ suc m → before ≡ w ∷ after → drop n before ≡ all → drop m after ≡ all
one_dropped n m w before after all more is h = (λ i. drop (sym more i) (sym is i)) ∙ h

abbrev refused : {A : Type 0} → CheckFault → Result A EntryFault
refused f = Err (fault_is.Refused (refusal_is.Check f))

-- the fault of a refusal is the one that it names
pub same_fault : {A : Type 0} (d : Document) (f g : CheckFault) → refused {A = A} f ≡ refused g
    → IsFirstFault d f → IsFirstFault d g
same_fault d f g h first =
    let same : f ≡ g = cc in
    subst (IsFirstFault d) same first
