-- Chains of begins by key.
use Rattle.std.specs.Prelude.{◌≡◌, ℕ, ◌<◌, ◌≤◌, ◌⊎◌, All, Contains, List, [], ◌∷◌, ◌++◌, length, map, filter}
use Rattle.std.specs.Prelude.{max, nat_lt, nat_le, unwrap_or, Option, Some, None, slice_get, if◌then◌else◌}
use Rattle.std.specs.Option.{option_map}
use Rattle.std.specs.Str.{bytes_eq}
use Rattle.std.specs.Map.{lookup}
use Rattle.std.specs.HashMap.{HashMap, get}
use Rattle.bohm_types.specs.Keys.{IsAmong}
use Rattle.bohm_place.specs.declared.placeholder.Placeholder.{Placeholder}
use Rattle.bohm_place.specs.declared.chain.Chain.{Chain}

-- the contract view of a partition's chains: the placeholders of each key, oldest first
abbrev pub Keyed : Type 0
Keyed = List (List ℕ × List Placeholder)

abbrev pub placeholders : Keyed → List ℕ → List Placeholder
placeholders p k = unwrap_or (lookup (bytes_eq k) p) []

abbrev pub begins : List Placeholder → List ℕ
begins vs = map (λ v. v.begin) vs

-- the begins of a key's versions, oldest first
abbrev pub chain : Keyed → List ℕ → List ℕ
chain p k = begins (placeholders p k)

-- the placeholders of a key, if each part of the keys has its own chains
abbrev pub placeholders_in : (List ℕ → ℕ) → List Keyed → List ℕ → List Placeholder
placeholders_in part shards k = unwrap_or (option_map (λ p. placeholders p k) (slice_get shards (part k))) []

abbrev pub chain_in : (List ℕ → ℕ) → List Keyed → List ℕ → List ℕ
chain_in part shards k = begins (placeholders_in part shards k)

-- no part has a chain
abbrev pub AreEmpty : List Keyed → Type 0
AreEmpty parts = (i : ℕ) (p : Keyed) (k : List ℕ) → slice_get parts i ≡ Some p → placeholders p k ≡ []

-- each number is above the previous one, and the first is above n
abbrev pub RisesFrom : ℕ → List ℕ → Type 0
RisesFrom n [] = Unit {0}
RisesFrom n (b ∷ bs) = (n < b) × RisesFrom b bs

-- the greatest of the numbers, or 0 if there are none
abbrev pub greatest : List ℕ → ℕ
greatest [] = 0
greatest (b ∷ bs) = max b (greatest bs)

-- the greatest of the numbers below a timestamp, or 0 if there are none
abbrev pub greatest_below : ℕ → List ℕ → ℕ
greatest_below ts bs = greatest (filter (λ b. nat_lt b ts) bs)

-- the newest begin at or below a floor, and all begins above it
abbrev pub kept : ℕ → List ℕ → List ℕ
kept floor [] = []
kept floor (b ∷ []) = b ∷ []
kept floor (b ∷ c ∷ cs) = if nat_le c floor then kept floor (c ∷ cs) else (b ∷ c ∷ cs)

-- the begin is above the floor, or is the greatest one at or below it
abbrev pub IsKept : ℕ → List ℕ → ℕ → Type 0
IsKept floor bs b = Contains bs b × ((floor < b) ⊎ ((b ≤ floor) × All (λ c. c ≤ floor → c ≤ b) bs))

-- each part has the kept begins of its chains
abbrev pub AreKept : ℕ → List Keyed → List Keyed → Type 0
AreKept floor parts left = (part : List ℕ → ℕ) (k : List ℕ) → chain_in part left k ≡ kept floor (chain_in part parts k)

-- the newest placeholder at or below a floor, and all placeholders above it
abbrev pub kept_items : ℕ → List Placeholder → List Placeholder
kept_items floor [] = []
kept_items floor (v ∷ []) = v ∷ []
kept_items floor (v ∷ w ∷ ws) = if nat_le w.begin floor then kept_items floor (w ∷ ws) else (v ∷ w ∷ ws)

-- represents no placeholder
abbrev pub none : Placeholder
none = record { begin = 0; index = 0 }

abbrev pub last_or : Placeholder → List Placeholder → Placeholder
last_or v [] = v
last_or v (w ∷ ws) = last_or w ws

-- the begin that follows the oldest one
abbrev pub second : List Placeholder → Option ℕ
second [] = None
second (v ∷ []) = None
second (v ∷ w ∷ ws) = Some w.begin

-- the placeholders of a chain in memory
abbrev pub items : Chain → List Placeholder
items c = c.older.items ++ c.newest ∷ []

abbrev pub items_of : Option Chain → List Placeholder
items_of None = []
items_of (Some c) = items c

abbrev pub items_at : {S : Type 0} → HashMap (List ℕ) Chain S → List ℕ → List Placeholder
items_at m k = items_of (get bytes_eq m k)

abbrev pub table : List (List ℕ × Chain) → Keyed
table es = map (λ e. (e.0, items e.1)) es

-- the chains ascend, and each key whose chain has more than one begin is listed
pub record IsPlaces {S : Type 0} (chains : HashMap (List ℕ) Chain S) (long : List (List ℕ)) : Type 0 where
  pub rises : (k : List ℕ) → RisesFrom 0 (begins (items_at chains k))
  pub listed : (k : List ℕ) → 1 < length (items_at chains k) → IsAmong long k
