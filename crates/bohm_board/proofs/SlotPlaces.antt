-- The transaction and index of each slot number, and the number of each position's first slot.
use Rattle.std.proofs.Common.{◌≡◌, ℕ, zero, suc, ◌+◌, ◌<◌, List, [], ◌∷◌, ◌++◌, length, Some, refl}
use Rattle.std.proofs.Common.{ap, sym, ◌∙◌, arith, inl, inr}
use Rattle.std.specs.Prelude.{◌⊎◌}
use Rattle.std.specs.List.{slice_get}
use Rattle.std.proofs.lemmas.Option.{same_Some, slice_get_within}
use Rattle.bohm_types.specs.declared.cell.Cell.{Cell}
use Rattle.bohm_types.specs.Txn.{Txn}
use Rattle.bohm_txn.specs.Meaning.{Look}
use Rattle.bohm_txn.specs.Serial.{after}
use Rattle.bohm_board.specs.declared.batch.Batch.{Batch}
use Rattle.bohm_board.specs.declared.knowledge.RightSlot.{RightSlot}
use Rattle.bohm_place.specs.Slots.{width, offset}
use Rattle.bohm_board.specs.Serial.{own_cells, slot_at, slots_of, slots_from}
use Rattle.bohm_board.specs.Batches.{rights_of, base_of, txns_of, first_of}
use Rattle.bohm_board.proofs.SerialSlots.{length-own_cells, length-outcomes, length-slots_of, length-slots}

abbrev pub InSecond : {A : Type 0} → List A → List A → ℕ → A → Type 0
InSecond xs ys p x = (m : ℕ) × (p ≡ length xs + m) × (slice_get ys m ≡ Some x)

pub in_either : {A : Type 0} (xs ys : List A) (p : ℕ) (x : A) → slice_get (xs ++ ys) p ≡ Some x → (slice_get xs p ≡ Some x) ⊎ InSecond xs ys p x
in_either [] ys p x e = inr (p, omega arith, e)
in_either (y ∷ xs) ys zero x e = inl e
in_either (y ∷ xs) ys (suc p) x e = elim (in_either xs ys p x e) as (λ _. (slice_get xs p ≡ Some x) ⊎ InSecond (y ∷ xs) ys (suc p) x) [
  | inl h ↦ inl h
  | inr (m, q, f) ↦ inr (m, omega (arith, q), f)
]

own_slot : (t i : ℕ) (cs : List Cell) (p : ℕ) (x : RightSlot) → slice_get (slots_of t i cs) p ≡ Some x → x.slot ≡ record { txn = t; index = i + p }
own_slot t i [] p x e = absurd cc
own_slot t i (c ∷ cs) zero x e = ap (λ (r : RightSlot). r.slot) (sym (same_Some (slot_at t i c) x e))
    ∙ ap (λ (j : ℕ). record { txn = t; index = j }) (omega arith)
own_slot t i (c ∷ cs) (suc p) x e = own_slot t (suc i) cs p x e ∙ ap (λ (j : ℕ). record { txn = t; index = j }) (omega arith)

-- slot p is slot j of transaction i, whose timestamp is n + i
pub record IsOwn (n : ℕ) (ts : List Txn) (p : ℕ) (x : RightSlot) : Type 0 where
  pub i : ℕ
  pub j : ℕ
  pub txn : Txn
  pub is_at : slice_get ts i ≡ Some txn
  pub inside : j < width txn
  pub slot : x.slot ≡ record { txn = n + i; index = j }
  pub place : p ≡ offset ts i + j

pub slot_place : (n : ℕ) (look : Look) (ts : List Txn) (p : ℕ) (x : RightSlot) → slice_get (slots_from n look ts) p ≡ Some x → IsOwn n ts p x
slot_place n look [] p x e = absurd cc
slot_place n look (t ∷ ts) p x e = elim (in_either (slots_of n 0 (own_cells look t))
    (slots_from (n + 1) (after look t) ts) p x e) as (λ _. IsOwn n (t ∷ ts) p x) [
      | inl h ↦ record {
        i = 0;
        j = p;
        txn = t;
        is_at = refl;
        inside = omega (arith, slice_get_within (slots_of n 0 (own_cells look t)) p x h, length-slots_of n 0 (own_cells look t), length-own_cells look t);
        slot = own_slot n 0 (own_cells look t) p x h
            ∙ (let same : n ≡ n + 0 = omega arith in let index : 0 + p ≡ p = omega arith in λ d. record { txn = same d; index = index d });
        place = omega arith;
      }
      | inr (m, q, f) ↦
          let r = slot_place (n + 1) (after look t) ts m x f in
          record {
            i = suc r.i;
            j = r.j;
            txn = r.txn;
            is_at = r.is_at;
            inside = r.inside;
            slot = r.slot ∙ (let same : (n + 1) + r.i ≡ n + suc r.i = omega arith in ap (λ (z : ℕ). record { txn = z; index = r.j }) same);
            place = omega (arith, q, r.place, length-slots_of n 0 (own_cells look t), length-own_cells look t);
          }
    ]

pub slot_of_batch : (b : Batch) (p : ℕ) (x : RightSlot) → slice_get (rights_of b).slots p ≡ Some x → IsOwn (first_of b) (txns_of b) p x
unfolding rights_of
slot_of_batch b p x e = slot_place (first_of b) (base_of b) (txns_of b) p x e

pub first_right : (b : Batch) → (rights_of b).first ≡ first_of b
unfolding rights_of
first_right b = refl

pub outcomes_long : (b : Batch) → length (rights_of b).outcomes ≡ length (txns_of b)
unfolding rights_of
outcomes_long b = length-outcomes (base_of b) (txns_of b)

pub slots_long : (b : Batch) → length (rights_of b).slots ≡ offset (txns_of b) (length (txns_of b))
unfolding rights_of
slots_long b = length-slots (first_of b) (base_of b) (txns_of b)
