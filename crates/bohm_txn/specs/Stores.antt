-- Finite stores: what their keys hold, and the store that the serial run leaves.
use Rattle.std.specs.Prelude.{ℕ, ℤ, List, [], ◌∷◌, Option, Some, None}
use Rattle.std.specs.Ordering.{nat_cmp}
use Rattle.std.specs.Cmp.Lexicographic.{slice_cmp}
use Rattle.std.specs.FinMap as map
use Rattle.bohm_types.specs.declared.cell.Cell.{Cell}
use Rattle.bohm_types.specs.declared.cell.Cell.TheVariants.{Absent, Present}
use Rattle.bohm_types.specs.Txn.{Txn}
use Rattle.bohm_txn.specs.Meaning.{Look, body}
use Rattle.bohm_txn.specs.Serial.{writes_of}

-- values by key, in the order of the keys' bytes
abbrev pub Store : Type 0
Store = map.FinMap (slice_cmp nat_cmp) ℤ

abbrev pub cell_of : Option ℤ → Cell
cell_of None = Absent
cell_of (Some z) = Present z

-- what each key holds in the store
abbrev pub cell_in : Store → Look
cell_in s = λ k. cell_of (map.get s k)

abbrev pub put : Store → List ℕ → Cell → Store
put s k Absent = map.remove s k
put s k (Present z) = map.insert s k z

abbrev pub put_all : Store → List (List ℕ × Cell) → Store
put_all s [] = s
put_all s (w ∷ ws) = put_all (put s w.0 w.1) ws

-- the store of a list of entries
abbrev pub store_of : List (List ℕ × ℤ) → Store
store_of entries = map.from_entries entries

-- S(n): the store after all the transactions
abbrev pub store_after : Store → List Txn → Store
store_after s [] = s
store_after s (t ∷ ts) = store_after (put_all s (writes_of (body (cell_in s) t))) ts
