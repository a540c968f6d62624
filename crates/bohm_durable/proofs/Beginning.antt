-- A machine that was made from a store.
use Rattle.std.proofs.Common.{◌≡◌, ◌+◌, ◌-◌, ◌≤◌, ℕ, Bool, true, false, cond, List, [], ◌∷◌, Some, refl, ap, sym, subst, ◌∙◌, arith}
use Rattle.std.specs.Prelude.{ℤ}
use Rattle.std.specs.Map.{lookup}
use Rattle.std.specs.Str.{bytes_eq}
use Rattle.bohm_types.specs.declared.cell.Cell.TheVariants.{Present}
use Rattle.bohm_txn.specs.Meaning.{Look}
use Rattle.bohm_txn.specs.Stores.{cell_in, cell_of, store_of}
use Rattle.bohm_txn.proofs.ForCallers.{get-store_of, key_itself, other_key, same_key}
use Rattle.bohm_store.specs.Versions.{Timeline}
use Rattle.bohm_machine.specs.Machines.{floor_of, now_of, past_of, top_of}
use Rattle.bohm_ledger.specs.Rules.{cells}
use Rattle.bohm_durable.specs.Entering.{IsSince}

either_way : (x k : List ℕ) → bytes_eq k x ≡ bytes_eq x k
either_way x k =
    elim (bytes_eq x k) as (λ (t : Bool). bytes_eq x k ≡ t → bytes_eq k x ≡ t) [
      | true ↦ λ h. subst (λ (y : List ℕ). bytes_eq y x ≡ true) (same_key x k h) (key_itself x)
      | false ↦ λ h. other_key x k h
    ] refl

cell_listed : (es : List (List ℕ × ℤ)) (k : List ℕ) → cell_of (lookup (bytes_eq k) es) ≡ cells es k
cell_listed [] k = refl
cell_listed (e ∷ es) k =
    ap (λ (b : Bool). cell_of (cond b (Some e.1) (lookup (bytes_eq k) es))) (either_way e.0 k)
    ∙ elim (bytes_eq e.0 k) as (λ (b : Bool). cell_of (cond b (Some e.1) (lookup (bytes_eq k) es)) ≡ cond b (Present e.1) (cells es k)) [
      | true ↦ refl
      | false ↦ cell_listed es k
    ]

-- what each key holds in a store is what it holds in the list of its entries
pub cells_of : (es : List (List ℕ × ℤ)) → cell_in (store_of es) ≡ cells es
cells_of es = λ i k. (ap cell_of (get-store_of es k) ∙ cell_listed es k) i

-- a machine whose whole past is one state
pub record IsAtOnce (m : Timeline) (look : Look) : Type 0 where
  pub now : now_of m ≡ look
  pub saved : past_of m (floor_of m) ≡ look
  pub since : (changed : List (List ℕ)) → IsSince m changed

at_once : (m : Timeline) (look : Look) → floor_of m ≡ top_of m → now_of m ≡ look → IsAtOnce m look
at_once m look same now =
    let saved : past_of m (floor_of m) ≡ look = ap (past_of m) same ∙ now in
    record {
      now = now;
      saved = saved;
      since = λ changed. record {
        ordered = omega (arith, same);
        others = λ k absent. ap (λ (l : Look). l k) (saved ∙ sym now);
      };
    }

-- a machine that was made from a store
pub restored : (m : Timeline) (n : ℕ) (es : List (List ℕ × ℤ)) → top_of m ≡ n → floor_of m ≡ n → past_of m n ≡ cell_in (store_of es) → IsAtOnce m (cells es)
restored m n es top floor past = at_once m (cells es) (floor ∙ sym top) (ap (past_of m) top ∙ (past ∙ cells_of es))

-- a machine that was made anew at its last checkpoint
pub renewed : (was now : Timeline) (n last floor : ℕ) → last ≡ top_of was → floor ≡ floor_of was → floor ≡ last → floor_of now ≡ 0
    → past_of now 0 ≡ past_of was last → n ≤ top_of was - floor_of was → past_of now (floor_of now + n) ≡ past_of was (floor_of was + n)
renewed was now n last floor top low same begins past few =
    let here : floor_of now + n ≡ 0 = omega (arith, top, low, same, begins, few) in
    let there : last ≡ floor_of was + n = omega (arith, top, low, same, few) in
    ap (past_of now) here ∙ (past ∙ ap (past_of was) there)
