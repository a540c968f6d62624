-- The distinct keys of a document.
use Rattle.std.specs.Prelude.{◌≡◌, ℕ, List, Bool, true, ◌||◌, length}
use Rattle.std.specs.List.{list_any}
use Rattle.bohm_types.specs.Document.{Document}
use Rattle.bohm_types.specs.Keys.{is_among, names_of, rising}
use Rattle.bohm_types.specs.Txn.{Txn}

abbrev pub declares : List ℕ → Txn → Bool
declares k t = is_among t.reads k || is_among t.writes k

-- a transaction declares the key
abbrev pub is_declared : List Txn → List ℕ → Bool
is_declared log k = list_any (declares k) log

-- these are the keys of the store and those that transactions declare, and each is there once, since they ascend
pub record AreKeysOf (d : Document) (names : List (List ℕ)) : Type 0 where
  pub rises : rising names ≡ true
  pub same : (k : List ℕ) → is_among names k ≡ (is_declared d.log k || is_among (names_of d.store) k)

-- the number of these keys
pub record CountsKeys (d : Document) (n : ℕ) : Type 0 where
  pub names : List (List ℕ)
  pub are : AreKeysOf d names
  pub count : n ≡ length names
