-- A sum that was read has a term, so a draft takes its statement unless an allocation fails.
use Rattle.std.proofs.Common.{◌≡◌, ◌<◌, Bool, List, [], ◌∷◌, length, Some, None, Ok, Err, refl, ap, sym, subst, ◌∙◌, arith}
use Rattle.std.specs.Prelude.{Option, Result, codes}
use Rattle.std.specs.Option.{option_map}
use Rattle.std.specs.Result.{IsErrAnd}
use Rattle.std.proofs.lemmas.List.{length-append}
use Rattle.std.proofs.lemmas.Option.{same_Some}
use Rattle.bohm_types.specs.declared.cmp.Cmp.{Cmp}
use Rattle.bohm_types.specs.Stmt.{Cond}
use Rattle.bohm_types.specs.Term.{Atom}
use Rattle.bohm_log.specs.declared.fault.SumFault.{SumFault}
use Rattle.bohm_log.specs.declared.fault.SumFault.TheVariants.{Empty, Log}
use Rattle.bohm_log.specs.Drafting.{Drafted, with_sum}
use Rattle.bohm_text.specs.declared.fault.ReadFault.{ReadFault}
use Rattle.bohm_text.specs.declared.fault.ReadFault.TheVariants.{NoMemory}
use Rattle.bohm_text.specs.Print.{Words}
use Rattle.bohm_text.specs.Reading.{Fails, Ending, Terms, sum_from, last_sum, after, cond_of}
use Rattle.bohm_text.specs.Taking.{read_fault_of, taken, compared, with_terms, with_cond, Takes, TakesCond}
use Rattle.bohm_text.proofs.Sounds.{sum_sound, bound_sound, last_sound, cond_sound}

-- ---- a sum that was read has a term

long : (d : Drafted) (sum : List (Bool × Atom)) → 0 < length sum → 0 < length (with_terms d sum).latest
long d sum some = omega (some, length-append d.latest sum, arith)

pub sum_long : (d now : Drafted) (words : Words) (end : Ending) → taken d (sum_from words) ≡ Some (now, end) → 0 < length now.latest
sum_long d now words end e =
    let P : Option Terms → Type 0 = λ (read : Option Terms). sum_from words ≡ read → taken d read ≡ Some (now, end) → 0 < length now.latest in
    elim (sum_from words) as P [
      | None ↦ λ _ h. absurd cc
      | Some p ↦ λ is h.
          let same = ap (λ (x : Drafted × Ending). x.0) (same_Some (with_terms d p.0, p.1) (now, end) h) in
          subst (λ (x : Drafted). 0 < length x.latest) same (long d p.0 (sum_sound words p is).0)
    ] refl e

-- reading a sum or a condition leaves the declared writes unchanged
pub sum_behind : (d now : Drafted) (words : Words) (end : Ending) → taken d (sum_from words) ≡ Some (now, end) → d.txn.writes ≡ now.txn.writes
sum_behind d now words end e = go (sum_from words) e
  where
    go : (read : Option Terms) → taken d read ≡ Some (now, end) → d.txn.writes ≡ now.txn.writes
    go None h = absurd cc
    go (Some p) h = ap (λ (x : Drafted × Ending). x.0.txn.writes) (same_Some (with_terms d p.0, p.1) (now, end) h)

pub cond_behind : (d now : Drafted) (words : Words) (cmp : Cmp) → compared d (cond_of words) ≡ Some (now, cmp) → d.txn.writes ≡ now.txn.writes
cond_behind d now words cmp e = go (cond_of words) e
  where
    go : (read : Option Cond) → compared d read ≡ Some (now, cmp) → d.txn.writes ≡ now.txn.writes
    go None h = absurd cc
    go (Some c) h = ap (λ (x : Drafted × Cmp). x.0.txn.writes) (same_Some (with_cond d c, c.cmp) (now, cmp) h)

module _ (d now : Drafted) (words : Words) where
  pub last_long : option_map (with_terms d) (last_sum words) ≡ Some now → 0 < length now.latest
  last_long e =
      let P : Option (List (Bool × Atom)) → Type 0 =
      λ (read : Option (List (Bool × Atom))). last_sum words ≡ read → option_map (with_terms d) read ≡ Some now → 0 < length now.latest in
      elim (last_sum words) as P [
        | None ↦ λ _ h. absurd cc
        | Some sum ↦ λ is h. subst (λ (x : Drafted). 0 < length x.latest) (same_Some (with_terms d sum) now h) (long d sum (last_sound words sum is).0)
      ] refl e

  pub bound_long : option_map (with_terms d) (after (codes "=") last_sum words) ≡ Some now → 0 < length now.latest
  bound_long e =
      let P : Option (List (Bool × Atom)) → Type 0 =
      λ (read : Option (List (Bool × Atom))). after (codes "=") last_sum words ≡ read → option_map (with_terms d) read ≡ Some now → 0 < length now.latest in
      elim (after (codes "=") last_sum words) as P [
        | None ↦ λ _ h. absurd cc
        | Some sum ↦ λ is h. subst (λ (x : Drafted). 0 < length x.latest) (same_Some (with_terms d sum) now h) (long d sum (bound_sound words sum is).0)
      ] refl e

  pub cond_long : (cmp : Cmp) → compared d (cond_of words) ≡ Some (now, cmp) → 0 < length now.latest
  cond_long cmp e =
      let P : Option Cond → Type 0 = λ (read : Option Cond). cond_of words ≡ read → compared d read ≡ Some (now, cmp) → 0 < length now.latest in
      elim (cond_of words) as P [
        | None ↦ λ _ h. absurd cc
        | Some c ↦ λ is h.
            let same = ap (λ (x : Drafted × Cmp). x.0) (same_Some (with_cond d c, c.cmp) (now, cmp) h) in
            subst (λ (x : Drafted). 0 < length x.latest) same (long (with_sum (with_terms d c.left)) c.right (cond_sound words c is).1.0)
      ] refl e

-- ---- a fault is a failed allocation

no_term : (terms : List (Bool × Atom)) → 0 < length terms → terms ≡ [] → ⊥
no_term [] some e = absurd (omega (arith, some))
no_term (t ∷ ts) some e = absurd cc

module _ (fault : SumFault) (terms : List (Bool × Atom)) (some : 0 < length terms) (empty : fault ≡ Empty → terms ≡ []) where
  pub no_memory : read_fault_of fault ≡ NoMemory
  no_memory = elim fault as (λ (f : SumFault). fault ≡ f → read_fault_of f ≡ NoMemory) [
    | Empty ↦ λ is. absurd (no_term terms some (empty is))
    | Log other ↦ λ _. refl
  ] refl

  pub not_taken : {X : Type 0} (r : Result (Unit {0}) ReadFault) (read : Option X) (add : X → Drafted) (now : Drafted)
      → IsErrAnd r (λ e. e ≡ read_fault_of fault) → Takes r read add now
  not_taken (Ok done) read add now is = absurd is
  not_taken (Err e) read add now is = subst (λ (f : ReadFault). Fails f read) (sym (is ∙ no_memory)) tt

  pub not_compared : (r : Result Cmp ReadFault) (read : Option Cond) (before now : Drafted) → IsErrAnd r (λ e. e ≡ read_fault_of fault)
      → TakesCond r read before now
  not_compared (Ok cmp) read before now is = absurd is
  not_compared (Err e) read before now is = subst (λ (f : ReadFault). Fails f read) (sym (is ∙ no_memory)) tt
