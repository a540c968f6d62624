-- The results of each planning worker and of all together. Worker w of n has the parts p with p % n ≡ w.
use Rattle.std.specs.Prelude.{◌≡◌, ◌≢◌, ℕ, ◌+◌, ◌%◌, ◌==◌, ◌<◌, Bool, true, false, List, [], ◌∷◌, ◌++◌, length, map, max, All, nat_lt, slice_get, if◌then◌else◌}
use Rattle.std.specs.List.{zip}
use Rattle.std.specs.Str.{bytes_eq}
use Rattle.bohm_types.specs.Txn.{Txn}
use Rattle.bohm_types.specs.Keys.{is_among}
use Rattle.bohm_txn.specs.Faulty.{IsWellFormedTxn}
use Rattle.bohm_txn.specs.Sure.{is_sure}
use Rattle.bohm_place.specs.declared.placeholder.Placeholder.{Placeholder}
use Rattle.bohm_place.specs.declared.row.Row.{Row}
use Rattle.bohm_place.specs.Chains.{Keyed, placeholders_in, chain_in, none, last_or}
use Rattle.bohm_place.specs.Slots.{width}

abbrev pub AreWellFormed : List Txn → Type 0
AreWellFormed txns = All IsWellFormedTxn txns

-- the keys are distinct
abbrev pub AreDistinct : List (List ℕ) → Type 0
AreDistinct [] = Unit {0}
AreDistinct (k ∷ ks) = (is_among ks k ≡ false) × AreDistinct ks

-- the part of each key is below this count
abbrev pub AreParts : (List ℕ → ℕ) → ℕ → Type 0
AreParts part count = (k : List ℕ) → part k < count

-- the keys of worker w of n: those whose part it has
abbrev pub keys_of : (List ℕ → ℕ) → ℕ → ℕ → List ℕ → Bool
keys_of part n w k = (part k % n) == w

-- a placeholder of the batch that starts at `first`, or none
abbrev pub within : ℕ → Placeholder → Placeholder
within first v = if nat_lt v.begin first then none else v

-- the key's placeholders from these declared writes of u, the first of which has this index
abbrev pub placeholders_written : ℕ → ℕ → List (List ℕ) → List ℕ → List Placeholder
placeholders_written u index [] k = []
placeholders_written u index (w ∷ ws) k = (if bytes_eq w k then record { begin = u; index = index } ∷ [] else []) ++ placeholders_written u (index + 1) ws k

-- the key's placeholders from transactions, the first of which has the timestamp u
abbrev pub placeholders_made : ℕ → List Txn → List ℕ → List Placeholder
placeholders_made u [] k = []
placeholders_made u (t ∷ ts) k = placeholders_written u 0 t.writes k ++ placeholders_made (u + 1) ts k

-- the placeholder that a worker finds for a key, given the chains: the key's newest one of the batch; none if the key isn't the worker's
abbrev pub found_of : (List ℕ → Bool) → ℕ → (List ℕ → List Placeholder) → List ℕ → Placeholder
found_of mine first chains k = if mine k then within first (last_or none (chains k)) else none

-- for each transaction, what f gives for each of its declared keys, the reads first, and the transactions before it; none if the key isn't the worker's
abbrev pub found_by : (List ℕ → Bool) → (List Txn → List ℕ → Placeholder) → List Txn → List Txn → List Placeholder
found_by mine f ahead [] = []
found_by mine f ahead (t ∷ ts) = map (λ k. if mine k then f ahead k else none) (t.reads ++ t.writes) ++ found_by mine f (ahead ++ t ∷ []) ts

-- the key's newest placeholder in the batch, given the chains before it
abbrev pub newest_ahead : ℕ → (List ℕ → List Placeholder) → List Txn → List ℕ → Placeholder
newest_ahead first base ahead k = within first (last_or none (base k ++ placeholders_made first ahead k))

-- the key's newest placeholder from the transactions `ahead`, the first of which has the timestamp `first`
abbrev pub ahead_of : ℕ → List Txn → List ℕ → Placeholder
ahead_of first ahead k = last_or none (placeholders_made first ahead k)

-- where the accesses of each transaction are, the first of them at `start`, the number of slots before it, counted from `slot`, and whether it is sure
abbrev pub rows_from : ℕ → ℕ → List Txn → List Row
rows_from start slot [] = []
rows_from start slot (t ∷ ts) = record { start = start; reads = length t.reads; writes = length t.writes; slot = slot; sure = is_sure t } ∷ rows_from
    ((start + length t.reads) + length t.writes) (slot + width t) ts

-- the greater begin and the greater index of the two
abbrev pub greater_of : Placeholder → Placeholder → Placeholder
greater_of v w = record { begin = max v.begin w.begin; index = max v.index w.index }

abbrev pub greater : List Placeholder → List Placeholder → List Placeholder
greater vs ws = map (λ p. greater_of p.0 p.1) (zip vs ws)

-- the second list of parts has the same parts for the worker as the first
abbrev pub HasPartsOf : ℕ → ℕ → List Keyed → List Keyed → Type 0
HasPartsOf n w parts own = (p : ℕ) → p < length parts → ((p % n) == w) ≡ true → slice_get own p ≡ slice_get parts p

-- the second list of parts has the same parts for the other workers as the first
abbrev pub KeepsOthers : ℕ → ℕ → List Keyed → List Keyed → Type 0
KeepsOthers n w parts left = (p : ℕ) → p < length parts → ((p % n) == w) ≡ false → slice_get left p ≡ slice_get parts p

-- each part of the second list has the chains of the first, except those of the part's own keys
abbrev pub KeepsForeign : (List ℕ → ℕ) → List Keyed → List Keyed → Type 0
KeepsForeign part old new = (i : ℕ) (k : List ℕ) → part k ≢ i → placeholders_in (λ _. i) new k ≡ placeholders_in (λ _. i) old k

-- the chains of the worker's keys are below a timestamp
abbrev pub AreBelow : (List ℕ → ℕ) → (List ℕ → Bool) → ℕ → List Keyed → Type 0
AreBelow part mine ts parts = (k : List ℕ) → mine k ≡ true → All (λ b. b < ts) (chain_in part parts k)

-- the second list of parts has the chains of the first, with the placeholders that f gives for a key appended to its chain if the key is the worker's
abbrev pub ArePlacedFor : (List ℕ → ℕ) → (List ℕ → Bool) → (List ℕ → List Placeholder) → List Keyed → List Keyed → Type 0
ArePlacedFor part mine f old new = (k : List ℕ) → placeholders_in part new k
    ≡ (if mine k then placeholders_in part old k ++ f k else placeholders_in part old k)

-- a worker can plan with these parts a batch that starts at `first`
pub record CanPlace (part : List ℕ → ℕ) (count n w first : ℕ) (given : List Keyed) : Type 0 where
  pub parts : length given ≡ count
  pub earlier : AreBelow part (keys_of part n w) first given

-- a worker's result for the parts that it was given
pub record IsFoundIn (part : List ℕ → ℕ) (n w first : ℕ) (txns : List Txn) (given : List Keyed) (out : List Placeholder) (left : List Keyed) : Type 0 where
  pub found : out ≡ found_by (keys_of part n w) (newest_ahead first (placeholders_in part given)) [] txns
  pub chains : ArePlacedFor part (keys_of part n w) (placeholders_made first txns) given left
  pub others : KeepsForeign part given left
  pub parts : length left ≡ length given

-- a worker's result if it was given its own parts of all parts
pub record IsFoundInAll (part : List ℕ → ℕ) (n w first : ℕ) (txns : List Txn) (all : List Keyed) (out : List Placeholder) (left : List Keyed) : Type 0 where
  pub found : out ≡ found_by (keys_of part n w) (newest_ahead first (placeholders_in part all)) [] txns
  pub chains : (k : List ℕ) → keys_of part n w k ≡ true → placeholders_in part left k ≡ placeholders_in part all k ++ placeholders_made first txns k
  pub others : (i : ℕ) (k : List ℕ) → i < length all → ((i % n) == w) ≡ true → part k ≢ i → placeholders_in (λ _. i) left k ≡ placeholders_in (λ _. i) all k
  pub parts : length left ≡ length all
