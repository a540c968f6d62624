-- The placeholders that a planning worker finds and adds. `part_of` gives the part of a partition that each key belongs to.
use Rattle.std.specs.Prelude.{◌≡◌, ℕ, ◌<◌, ◌&&◌, Bool, true, List, [], ◌∷◌, All}
use Rattle.std.specs.Str.{bytes_eq}
use Rattle.bohm_place.specs.declared.placeholder.Placeholder.{Placeholder}
use Rattle.bohm_place.specs.declared.worker.Known.{Known}
use Rattle.bohm_place.specs.declared.worker.WorkerKeys.{WorkerKeys}
use Rattle.bohm_place.specs.Knowing.{AreKnown}
use Rattle.bohm_place.specs.declared.by_key.KeyPlanner.{KeyPlanner}
use Rattle.bohm_place.specs.declared.by_number.NumberPlanner.{NumberPlanner}
use Rattle.bohm_place.specs.Chains.{Keyed, placeholders_in, chain_in}
use Rattle.bohm_place.specs.Shares.{keys_of, found_of, ArePlacedFor}
use Rattle.bohm_place.specs.Numbered.{found_at, AreNumbersPlaced}

-- whether the key is one of the worker's
abbrev pub mine : {P : Type 0} → (P → List ℕ → ℕ) → WorkerKeys P → List ℕ → Bool
mine part_of own = keys_of (part_of own.partition.now) own.worker.count own.worker.number

-- ---- by keys

-- the placeholder that the worker finds for the key in these parts
abbrev pub found_in : {P : Type 0} → (P → List ℕ → ℕ) → KeyPlanner P → List Keyed → List ℕ → Placeholder
found_in part_of p parts = found_of (mine part_of p.keys) p.batch.first (placeholders_in (part_of p.keys.partition.now) parts)

-- if the key is the worker's, its chain is below a timestamp
abbrev pub IsBelow : {P : Type 0} → (P → List ℕ → ℕ) → KeyPlanner P → ℕ → List Keyed → List ℕ → Type 0
IsBelow part_of p ts parts k = mine part_of p.keys k ≡ true → All (λ b. b < ts) (chain_in (part_of p.keys.partition.now) parts k)

-- the second list of parts has the chains of the first, with the placeholders that f gives for a key appended to its chain if the key is the worker's
abbrev pub ArePlaced : {P : Type 0} → (P → List ℕ → ℕ) → KeyPlanner P → (List ℕ → List Placeholder) → List Keyed → List Keyed → Type 0
ArePlaced part_of p = ArePlacedFor (part_of p.keys.partition.now) (mine part_of p.keys)

-- the second list of parts has the chains of the first, with this placeholder appended to this key's chain if the key is the worker's
abbrev pub IsPlaced : {P : Type 0} → (P → List ℕ → ℕ) → KeyPlanner P → List ℕ → Placeholder → List Keyed → List Keyed → Type 0
IsPlaced part_of p key next = ArePlacedFor (part_of p.keys.partition.now) (λ k. bytes_eq key k && mine part_of p.keys k) (λ _. next ∷ [])

-- ---- by key numbers

-- the placeholder that the worker finds for the key with this number in this array
abbrev pub found_of_number : {P : Type 0} → (P → List ℕ → ℕ) → NumberPlanner P → List Placeholder → ℕ → Placeholder
found_of_number part_of p = found_at (mine part_of p.keys) p.batch.first p.declared.names

-- what the worker knows of the parts of keys is right
abbrev pub Knows : {P : Type 0} → (P → List ℕ → ℕ) → NumberPlanner P → List Known → Type 0
Knows part_of p = AreKnown (mine part_of p.keys) p.keys.worker.count p.declared.names

-- for the worker's keys, the second array has the placeholders of ts, which writes the keys with these numbers
abbrev pub ArePlacedByNumber : {P : Type 0} → (P → List ℕ → ℕ) → NumberPlanner P → ℕ → List ℕ → List Placeholder → List Placeholder → Type 0
ArePlacedByNumber part_of p ts = AreNumbersPlaced (mine part_of p.keys) p.batch.first ts p.declared.names
