-- What the first line of an entry says, and what entries of each kind do.
use Rattle.std.proofs.Common.{◌≡◌, ℕ, Bool, true, false, cond, List, [], ◌∷◌, drop, take, length, Some, None, refl, ap}
use Rattle.std.specs.Prelude.{Option, codes}
use Rattle.bohm_text.specs.Cut.{split}
use Rattle.bohm_text.specs.Print.{Words}
use Rattle.bohm_text.specs.Reading.{◌>>=◌, keys_of}
use Rattle.bohm_types.specs.Procedure.{Procedure}
use Rattle.bohm_entries.specs.declared.first_line.Kind.{Kind}
use Rattle.bohm_entries.specs.declared.first_line.Kind.TheVariants as kinds
use Rattle.bohm_entries.specs.FirstLines.{IsRest, has_mark, line_words}
use Rattle.bohm_entries.specs.Meaning.{Entry, Call, Define, Definitions, Transaction, defined}
use Rattle.bohm_entries.specs.Batches.{Defined, behind_id, behind_kind, call_of, called_of, defined_after, define_of, definitions_with, entry_by, entry_by_kind, id_ahead, id_marked, is_definition, leads, named, procedure_in, transaction_of, txn_in, txns_in, txns_with, values_of, weight_of}

-- ---- the first line

no_id : (w : List ℕ) → has_mark w ≡ false → id_marked w ≡ None
no_id [] h = refl
no_id (b ∷ bs) h = rw h refl

pub id_read : (kind : Kind) (id : Option (List ℕ)) (rest : Words) → IsRest id rest → id_ahead (behind_kind (line_words kind id rest)) ≡ id
id_read kind None [] h = refl
id_read kind None (w ∷ ws) h = no_id w h
id_read kind (Some id) rest h = refl

pub words_behind : (rest : Words) → IsRest None rest → behind_id rest ≡ rest
words_behind [] h = refl
words_behind (w ∷ ws) h = rw h refl

pub kind_read : (d : Defined) (kind : Kind) (id : Option (List ℕ)) (rest : Words) (lines : List (List ℕ)) → IsRest id rest
    → entry_by d (line_words kind id rest) lines ≡ entry_by_kind d kind rest lines
kind_read d kinds.Define None rest lines h = ap (λ ws. define_of ws lines) (words_behind rest h)
kind_read d kinds.Define (Some id) rest lines h = refl
kind_read d kinds.Call None rest lines h = ap (λ ws. called_of d.procedures ws) (words_behind rest h)
kind_read d kinds.Call (Some id) rest lines h = refl
kind_read d kinds.Transaction None rest lines h = refl
kind_read d kinds.Transaction (Some id) rest lines h = refl

pub weight_read : (kind : Kind) (id : Option (List ℕ)) (rest : Words) → cond (leads (codes "define") (line_words kind id rest)) 0 1 ≡ weight_of kind
weight_read kinds.Define None rest = refl
weight_read kinds.Define (Some id) rest = refl
weight_read kinds.Call None rest = refl
weight_read kinds.Call (Some id) rest = refl
weight_read kinds.Transaction None rest = refl
weight_read kinds.Transaction (Some id) rest = refl

-- ---- what entries do

kept_then : {A : Type 0} (ds : Definitions) (o : Option A) (f : A → Option Entry) → ((x : A) → definitions_with ds (f x) ≡ ds) → definitions_with ds (o >>= f) ≡ ds
kept_then ds None f h = refl
kept_then ds (Some x) f h = h x

arguments_keep : (ds : Definitions) (name : List ℕ) (p : Procedure) (words : Words) → definitions_with ds (call_of name p words) ≡ ds
arguments_keep ds name p words =
    let values = values_of (drop (length p.keys) words) in
    kept_then ds (keys_of (take (length p.keys) words)) (λ keys. values >>= λ vs. Some (Call name keys vs))
    (λ keys. kept_then ds values (λ vs. Some (Call name keys vs)) (λ vs. refl))

call_keeps : (ds qs : Definitions) (words : Words) → definitions_with ds (called_of qs words) ≡ ds
call_keeps ds qs [] = refl
call_keeps ds qs (name ∷ words) = kept_then ds (defined qs name) (λ p. call_of name p words) (λ p. arguments_keep ds name p words)

transaction_keeps : (ds : Definitions) (d : Defined) (lines : List (List ℕ)) → definitions_with ds (transaction_of d.edition lines) ≡ ds
transaction_keeps ds d lines = kept_then ds (txn_in d.edition lines) (λ t. Some (Transaction t)) (λ t. refl)

other_keeps : (d : Defined) (words : Words) (lines : List (List ℕ)) → leads (codes "define") words ≡ false → definitions_with d.procedures (entry_by d words lines) ≡ d.procedures
other_keeps d words lines h =
    let call = behind_id (behind_kind words) in
    let transaction : Bool → Option Entry = λ (t : Bool). cond t (transaction_of d.edition lines) None in
    let P : Bool → Type 0 = λ (t : Bool). definitions_with d.procedures (cond t (called_of d.procedures call) (transaction (leads (codes "txn") words))) ≡ d.procedures in
    let Q : Bool → Type 0 = λ (t : Bool). definitions_with d.procedures (transaction t) ≡ d.procedures in
    rw h (elim (leads (codes "call") words) as P [
      | true ↦ call_keeps d.procedures d.procedures call
      | false ↦ elim (leads (codes "txn") words) as Q [
        | true ↦ transaction_keeps d.procedures d lines
        | false ↦ refl
      ]
    ])

-- an entry that is no definition leaves the definitions
pub not_defining : (d : Defined) (e : List (List ℕ)) → is_definition e ≡ false → defined_after d e ≡ d
not_defining d [] h = refl
not_defining d (line ∷ lines) h = ap (λ ps. record { edition = d.edition; procedures = ps }) (other_keeps d (split 32 line) lines h)

none_then : {A : Type 0} (ds : Definitions) (o : Option A) (f : A → Option Entry) → ((x : A) → txns_with ds (f x) ≡ []) → txns_with ds (o >>= f) ≡ []
none_then ds None f h = refl
none_then ds (Some x) f h = h x

pub define_runs_none : (ds : Definitions) (words : Words) (lines : List (List ℕ)) → txns_with ds (define_of words lines) ≡ []
define_runs_none ds words lines = none_then ds (named words) (λ name. procedure_in lines >>= λ p. Some (Define name p))
    (λ name. none_then ds (procedure_in lines) (λ p. Some (Define name p)) (λ p. refl))

-- a definition has no transaction
pub only_defining : (d : Defined) (e : List (List ℕ)) → is_definition e ≡ true → txns_in d e ≡ []
only_defining d [] h = refl
only_defining d (line ∷ lines) h = rw h (define_runs_none d.procedures (behind_id (behind_kind (split 32 line))) lines)
