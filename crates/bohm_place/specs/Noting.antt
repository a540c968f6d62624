-- The keys that a batch declares, and the indices of keys in a base.
use Rattle.std.specs.Prelude.{◌≡◌, ℕ, ◌<◌, ◌⊎◌, List, Bool, ◌||◌, Some, slice_get}
use Rattle.std.specs.List.{list_any, IsDistinct}
use Rattle.std.specs.Str.{bytes_eq}
use Rattle.bohm_types.specs.Txn.{Txn}
use Rattle.bohm_types.specs.Keys.{is_among}
use Rattle.bohm_place.specs.declared.access.Access.{Access}
use Rattle.bohm_place.specs.declared.access.Source.TheVariants.{Before}
use Rattle.bohm_place.specs.declared.declared_set.DeclaredSet.{DeclaredSet}
use Rattle.bohm_place.specs.Plans.{Planned, keys_in, planned_in, HasSourcesOf, IsRightPlan}

abbrev pub declares_key : List ℕ → Txn → Bool
declares_key k t = is_among t.reads k || is_among t.writes k

-- the keys are distinct, and are exactly the keys that some transaction declares
pub record AreKeysOf (txns : List Txn) (keys : List (List ℕ)) : Type 0 where
  pub apart : IsDistinct bytes_eq keys
  pub each : (k : List ℕ) → is_among keys k ≡ list_any (declares_key k) txns

-- ---- indices in a base

-- the access's index is that of key n in the base
abbrev pub HasPlace : List (List ℕ) → List (List ℕ) → ℕ → Access → Type 0
HasPlace base keys n a = (k : List ℕ) → slice_get keys n ≡ Some k → slice_get base a.index ≡ Some k

-- each access whose source is `Before` has the index of its key in the base
abbrev pub AreNoted : List Txn → Planned → List (List ℕ) → Type 0
AreNoted txns p base = (set : DeclaredSet) (i n : ℕ) (x : Txn) (a : Access) → slice_get txns i ≡ Some x → slice_get (planned_in set p i) n ≡ Some a
    → a.source ≡ Before → HasPlace base (keys_in set x) n a

-- the second plan is the first with the indices of the first `count` keys of the set in row i
pub record IsSetNoted (p q : Planned) (set : DeclaredSet) (i : ℕ) (keys base : List (List ℕ)) (count : ℕ) : Type 0 where
  pub sources : HasSourcesOf p q
  pub right : (txns : List Txn) → IsRightPlan txns p → IsRightPlan txns q
  pub each : (other : DeclaredSet) (m n : ℕ) (a : Access) → slice_get (planned_in other q m) n ≡ Some a
      → (slice_get (planned_in other p m) n ≡ Some a) ⊎ ((other ≡ set) × (m ≡ i) × HasPlace base keys n a)
  pub done : (n : ℕ) (a : Access) → n < count → slice_get (planned_in set q i) n ≡ Some a → a.source ≡ Before → HasPlace base keys n a
