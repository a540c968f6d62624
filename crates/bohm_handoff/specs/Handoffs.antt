-- The rule of a handoff, which has one word and one slot.
use Rattle.std.specs.Prelude.{◌≡◌, ℕ, ◌∷◌, [], Bool, true, false, Option, Some, None, slice_index, length}
use mathlib.Core.Option.{some}
use lib.ListN.{get_elem?}
use Rattle.atomic_table.specs.Table.{State, Me}
use Rattle.bohm_handoff.specs.declared.rule.Side.{Side}

abbrev pub side : {P : Type 0} → P → Bool → Side P
side promise fresh = record { promise = promise; fresh = fresh }

module _ {T P : Type 0} where
  -- the slot has a value with this property
  abbrev pub IsFilled : (T → Type 0) → State (Option T) (Side P) → Type 0
  IsFilled fits s = (value : T) × (get_elem? s.homes 0 ≡ some (some (Some value))) × fits value

  -- while the word is 0 the slot is filled; only the first side is fresh, and while it is the slot is empty
  pub record IsHandoff (fits : T → Type 0) (s : State (Option T) (Side P)) : Type 0 where
    pub one : length s.words ≡ 1
    pub filled : slice_index s.words 0 ≡ 0 → IsFilled fits s
    pub first : (id : ℕ) (v : Side P) → get_elem? s.views id ≡ some v → v.fresh ≡ true → id ≡ 0
    pub empty : (v : Side P) → get_elem? s.views 0 ≡ some v → v.fresh ≡ true → (get_elem? s.homes 0 ≡ some (some None)) × (slice_index s.words 0 ≡ 1)

  -- this side has the empty slot, and isn't fresh any more
  abbrev pub HasEmpty : P → Me (Option T) (Side P) → Type 0
  HasEmpty promise m = m ≡ (side promise false, (0, None) ∷ [])

  abbrev pub HasValue : (T → Type 0) → Me (Option T) (Side P) → Type 0
  HasValue fits m = (value : T) × (m.1 ≡ (0, Some value) ∷ []) × fits value
