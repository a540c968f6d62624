-- Digests of what keys hold.
use Rattle.std.specs.Prelude.{◌≡◌, ◌≢◌, ℕ, ℤ, List}
use Rattle.std.specs.FinMap.{entries}
use Rattle.std.specs.List.{AllByRecursion}
use Rattle.sha2.specs.Sha256.{sha256}
use Rattle.bohm_types.specs.Sound.{IsEntry}
use Rattle.bohm_text.specs.Print.{print_store}
use Rattle.bohm_txn.specs.Meaning.{Look}
use Rattle.bohm_txn.specs.Stores.{cell_in, store_of}

-- the digest is that of the text of the store in which each key holds this
pub record IsDigest (look : Look) (digest : List ℕ) : Type 0 where
  pub listed : List (List ℕ × ℤ)
  pub cells : cell_in (store_of listed) ≡ look
  pub ordered : listed ≡ entries (store_of listed)
  pub sound : AllByRecursion IsEntry listed
  pub same : digest ≡ sha256 (print_store listed)

-- two different texts with one SHA-256
pub record Collide (one other : List ℕ) : Type 0 where
  pub differ : one ≢ other
  pub same : sha256 one ≡ sha256 other
