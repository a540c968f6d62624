-- The indices of a call's keys in its sets, and the parts of the call's instance.
use Rattle.std.specs.Prelude.{◌≡◌, ◌≢◌, ◌⊎◌, ℕ, ℤ, List, [], ◌∷◌, ◌++◌, map, length, drop, get_or, if◌then◌else◌}
use Rattle.std.specs.List.{range_with_len}
use Rattle.bohm_types.specs.KeySets.{key_set}
use Rattle.bohm_log.specs.declared.call_places.KeyOrder.TheVariants.{Rising, Falling}
use Rattle.bohm_log.specs.declared.call_places.SetPlaces.{SetPlaces}
use Rattle.bohm_log.specs.declared.call_places.CallPlaces.{CallPlaces}
use Rattle.bohm_log.specs.declared.placed_body.PlacedBody.{PlacedBody}
use Rattle.bohm_log.specs.declared.template.BodyColumns.{BodyColumns}
use Rattle.bohm_log.specs.Columns.{AllNamed}
use Rattle.bohm_log.specs.Calling.{argument_of, ArePlaces, term_to, row_to, let_large, let_terms, let_rows}
use Rattle.bohm_log.specs.Parts.{Parts, names_at}

-- the numbers are those of the distinct keys, in ascending order
pub record AreSorted (names : List (List ℕ)) (ids sorted : List ℕ) : Type 0 where
  pub named : AllNamed names sorted
  pub same : names_at names sorted ≡ key_set (names_at names ids)

-- two keys, the second of which is the lower one and so the first one of their set
abbrev pub IsFalling : List (List ℕ) → Type 0
IsFalling keys = (length keys ≡ 2) × (key_set keys ≡ get_or keys 1 [] ∷ get_or keys 0 [] ∷ [])

-- the indices of this many keys, where the keys' order determines them
pub record IsOrdered (count : ℕ) (s : SetPlaces) : Type 0 where
  pub rising : s.order ≡ Rising → s.places.items ≡ range_with_len 0 count
  pub falling : s.order ≡ Falling → s.places.items ≡ 1 ∷ 0 ∷ []

-- the indices of keys in their set
pub record HasPlaces (keys : List (List ℕ)) (s : SetPlaces) : Type 0 where
  pub at : ArePlaces keys (key_set keys) s.places.items
  pub ordered : IsOrdered (length keys) s

-- the set of the keys with these numbers has these numbers if the keys ascend, and otherwise its own numbers
pub record IsSettled (names : List (List ℕ)) (ids : List ℕ) (s : SetPlaces) : Type 0 where
  pub places : HasPlaces (names_at names ids) s
  pub itself : s.order ≡ Rising → key_set (names_at names ids) ≡ names_at names ids
  pub sorted : s.order ≢ Rising → AreSorted names ids s.numbers.items

-- the indices of the keys that are written
abbrev pub written : BodyColumns → CallPlaces → SetPlaces
written body p = if body.same_sets then p.reads else p.writes

-- the indices of the keys that a body's names represent
pub record HasSets (args : List (List ℕ)) (body : BodyColumns) (p : CallPlaces) : Type 0 where
  pub reads : HasPlaces (map (argument_of args) body.reads.items) p.reads
  pub writes : HasPlaces (map (argument_of args) body.writes.items) (written body p)

-- it is prepared for keys at these indices
abbrev pub IsChosen : BodyColumns → List ℕ → List ℕ → PlacedBody → Type 0
IsChosen body reads writes b = ((b ≡ body.rising)
    × ((reads ≡ range_with_len 0 (length body.reads.items)) × (writes ≡ range_with_len 0 (length body.writes.items))))
    ⊎ ((b ≡ body.falling) × ((reads ≡ 1 ∷ 0 ∷ []) × (writes ≡ 1 ∷ 0 ∷ [])))

-- the parts of a call's instance, given the body and the indices of its values' names
abbrev pub parts_called : List (List ℕ) → BodyColumns → List ℕ → List ℤ → CallPlaces → Parts
parts_called args body locals vs p = record {
  reads = key_set (map (argument_of args) body.reads.items);
  writes = key_set (map (argument_of args) body.writes.items);
  others = body.others.items;
  large = body.large.items ++ let_large vs;
  terms = map (term_to p.reads.places.items) body.terms.items ++ let_terms (length body.large.items) vs;
  rows = let_rows (length body.terms.items) locals vs
      ++ map (row_to p.reads.places.items (written body p).places.items) (drop (length locals) body.rows.items);
}
