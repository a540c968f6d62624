-- Where the older versions of each key are in their queue.
use Rattle.std.specs.Prelude.{◌≢◌, ℕ, ◌+◌, ◌<◌, ◌≤◌, List, length, get_or}
use Rattle.bohm_store.specs.declared.older.Older.{Older}

-- the older versions, the capacity for more, and the number of keys that have a count
pub record OlderList : Type 0 where
  pub items : List Older
  pub room : ℕ
  pub places : ℕ

-- a count without information
abbrev pub unknown : ℕ
unknown = 18446744073709551615

-- the counts of the queue, from which this many versions were removed before
pub record IsPlaced (gone : ℕ) (latest : List ℕ) (os : List Older) : Type 0 where
  -- the `others` entries just before an entry are of other keys
  pub others : (i j : ℕ) (d : Older) → i < j → j < length os → j ≤ i + (get_or os j d).others → (get_or os i d).number ≢ (get_or os j d).number
  -- no entry of a key is after the key's latest one
  pub counted : (i : ℕ) (d : Older) → i < length os → get_or latest (get_or os i d).number 0 < unknown → gone + i < get_or latest (get_or os i d).number 0
