-- A procedure's own instance is read again from the procedure's text, and each call costs what it costs.
use Rattle.std.proofs.Common.{◌≡◌, ◌∙◌, ℕ, zero, suc, ◌+◌, ◌-◌, ◌*◌, ◌/◌, ◌<◌, ◌≤◌, false, List, [], ◌∷◌, ◌++◌, length, map, drop}
use Rattle.std.proofs.Common.{refl, sym, ap, arith, length-append, ⊎_elim}
use Rattle.std.specs.Prelude.{ℤ, ◌==◌, ◌||◌, nat_lt, nat_le, if◌then◌else◌}
use Rattle.std.specs.List.{AllByRecursion}
use Rattle.std.proofs.lemmas.Bool.{cases_lt, le-leb, lt-leb}
use Rattle.std.proofs.lemmas.Nat.{mul-le}
use Rattle.std.proofs.lemmas.List.Sums.{sum_by-cons}
use Rattle.std.proofs.lemmas.List.{length-map, take-append-drop}
use Rattle.std.proofs.lemmas.Option.{same_Some}
use Rattle.bohm_log.proofs.ForCallers.{key_set_few}
use Rattle.bohm_types.specs.Limits.{largest_batch}
use Rattle.bohm_types.specs.Procedure.{Procedure, lets, stands_for}
use Rattle.bohm_types.specs.Substitution.{stmt_with}
use Rattle.bohm_types.specs.Txn.{Txn}
use Rattle.bohm_text.specs.Cut.{whole_lines}
use Rattle.bohm_text.specs.ProcedureFaults.{IsFirstBadLine, IsShort}
use Rattle.bohm_text.specs.ProcedureRead.{IsProcedureOf, procedure_in}
use Rattle.bohm_text.specs.ProcedureReading.{let_zero}
use Rattle.bohm_text.specs.ProcedureText.{IsProcedure, print_procedure, stages, Nothing, Done}
use Rattle.bohm_text.specs.declared.procedures.ProcedureReader.{ProcedureReader}
use Rattle.bohm_text.specs.declared.fault.TextFault.{TextFault}
use Rattle.bohm_text.specs.declared.fault.TextFault.TheVariants as faults
use Rattle.bohm_text.proofs.ForCallers.{lines_of_procedure, text_stages}
use Rattle.bohm_procedures.specs.Accepting.{own}
use Rattle.bohm_settings.specs.Given.{Given}
use Rattle.bohm_read_ahead.specs.Sharing.{are_long, every, sharing_of, statements}
use Rattle.bohm_read_ahead.specs.declared.checked_chunk.Sharing.TheVariants.{OneWorker, NoTransactions, ShortBodies, Shared}
use Rattle.bohm_explain.specs.Costs.{IsCallOf}

module _ (p : Procedure) (text : List ℕ) (sound : IsProcedure p) (is : text ≡ print_procedure p) where
  never_bad : (n : ℕ) → ¬ IsFirstBadLine (whole_lines text) n
  never_bad n bad =
      bad.bad (record {
        procedure = p;
        sound = sound;
        more = drop n (whole_lines text);
        begins = sym (lines_of_procedure p sound) ∙ (ap whole_lines (sym is) ∙ sym (take-append-drop n (whole_lines text)));
      })

  never_short : ¬ IsShort text
  never_short short = short.none p sound (sym is)

  pub only_memory : (fault : TextFault) → ((n : ℕ) → fault ≡ faults.Line n → IsFirstBadLine (whole_lines text) n) → (fault ≡ faults.Short → IsShort text)
      → fault ≡ faults.NoMemory
  only_memory (faults.Line n) line short = absurd (never_bad n (line n refl))
  only_memory faults.Short line short = absurd (never_short (short refl))
  only_memory faults.NoMemory line short = refl

  same_procedure : (q : Procedure) → Done p ≡ Done q → p ≡ q
  same_procedure q e = cc

  pub own_read : (r : ProcedureReader) → IsProcedureOf text r → r.draft.txn ≡ own p
  own_read r read =
      let q = procedure_in r in
      let same : p ≡ q = same_procedure q (same_Some (Done p) (Done q)
      (sym (text_stages p sound) ∙ (ap (λ (t : List ℕ). stages Nothing (whole_lines t)) (sym is ∙ sym read.text_is) ∙ text_stages q read.sound))) in
      let body : map let_zero r.values.items ++ drop (length r.values.items) r.draft.txn.body ≡ r.draft.txn.body =
      ap (λ ss. ss ++ drop (length r.values.items) r.draft.txn.body) (sym read.lets) ∙ take-append-drop (length r.values.items) r.draft.txn.body in
      sym (ap own same ∙ (λ j. record { edition = r.draft.txn.edition; reads = r.draft.txn.reads; writes = r.draft.txn.writes; body = body j }))

lets_long : (xs : List (List ℕ)) (vs : List ℤ) → length vs ≡ length xs → length (lets xs vs) ≡ length xs
lets_long [] vs e = refl
lets_long (x ∷ xs) [] e = absurd (omega (arith, e))
lets_long (x ∷ xs) (v ∷ vs) e = omega (arith, lets_long xs vs (omega (arith, e)))

module _ (p : Procedure) (t : Txn) (call : IsCallOf p t) where
  pub as_many : length t.body ≡ length (own p).body
  as_many = rw call.is (omega (
    arith,
    lets_long p.values call.values call.paired,
    length-append (lets p.values call.values) (map (stmt_with (stands_for p.keys call.keys)) p.body),
    length-append (map let_zero p.values) p.body,
    length-map p.values let_zero,
    length-map p.body (stmt_with (stands_for p.keys call.keys)),
  ))

  pub few_reads : length t.reads ≤ length p.reads
  few_reads = rw call.is (omega (arith, key_set_few (map (stands_for p.keys call.keys) p.reads), length-map p.reads (stands_for p.keys call.keys)))

  pub few_writes : length t.writes ≤ length p.writes
  few_writes = rw call.is (omega (arith, key_set_few (map (stands_for p.keys call.keys) p.writes), length-map p.writes (stands_for p.keys call.keys)))

-- ---- transactions with n statements each are shared as one of them is

module _ (n : ℕ) where
  abbrev Same : List Txn → Type 0
  Same ts = AllByRecursion (λ t. length t.body ≡ n) ts

  sampled_same : (step k : ℕ) (ts : List Txn) → Same ts → Same (every step k ts)
  sampled_same step k [] h = tt
  sampled_same step zero (t ∷ ts) h = (h.0, sampled_same step (step - 1) ts h.1)
  sampled_same step (suc k) (t ∷ ts) h = sampled_same step k ts h.1

  sum_same : (ts : List Txn) → Same ts → statements ts ≡ length ts * n
  sum_same [] h = omega arith
  sum_same (t ∷ ts) h = sum_by-cons (λ (u : Txn). length u.body) t ts ∙ omega (arith, h.0, sum_same ts h.1)

  rule : (m : ℕ) → nat_le (suc m * 32) (suc m * n) ≡ nat_le 32 n
  rule m = ⊎_elim
      (λ few. let less = mul-le (suc m) (suc n) (suc m) 32 (omega arith) few in
      lt-leb (suc m * 32) (suc m * n) (omega (arith, less)) ∙ sym (lt-leb 32 n few))
      (λ long. le-leb (suc m * 32) (suc m * n) (mul-le (suc m) 32 (suc m) n (omega arith) long) ∙ sym (le-leb 32 n long))
      (cases_lt n 32)

  long_same : (t : Txn) (ts : List Txn) → Same (t ∷ ts) → are_long (t ∷ ts) ≡ nat_le 32 n
  long_same t ts h =
      let step = length (t ∷ ts) / 64 + 1 in
      ap (nat_le (length (every step 0 (t ∷ ts)) * 32)) (sum_same (every step 0 (t ∷ ts)) (sampled_same step 0 (t ∷ ts) h))
      ∙ rule (length (every step (step - 1) ts))

same_calls : (p : Procedure) (ts : List Txn) → AllByRecursion (IsCallOf p) ts → Same (length (own p).body) ts
same_calls p [] h = tt
same_calls p (t ∷ ts) h = (as_many p t h.0, same_calls p ts h.1)

pub shared_alike : (given : Given) (p : Procedure) (ts : List Txn) → 0 < length ts → AllByRecursion (IsCallOf p) ts
    → sharing_of given ts ≡ sharing_of given (own p ∷ [])
shared_alike given p [] some h = absurd (omega (arith, some))
shared_alike given p (t ∷ ts) some h =
    let n = length (own p).body in
    let long : are_long (t ∷ ts) ≡ are_long (own p ∷ []) = long_same n t ts (same_calls p (t ∷ ts) h) ∙ sym (long_same n (own p) [] (refl, tt)) in
    let more : (length (t ∷ ts) == 0) ≡ false = grind (arith, some) in
    λ i. if given.exec == 1 then OneWorker
    else (if more i then NoTransactions else (if nat_lt given.batch largest_batch || long i then Shared else ShortBodies))
