-- How a log uses its keys: which transactions declare them, and how long the chains are that they make.
use Rattle.std.specs.Prelude.{◌≡◌, ℕ, List, map, filter, count_by, Bool, ◌||◌, All}
use Rattle.std.specs.List.{list_any}
use Rattle.std.specs.Str.{bytes_eq}
use Rattle.bohm_types.specs.Txn.{Txn}
use Rattle.bohm_types.specs.Keys.{is_among}
use Rattle.bohm_place.specs.Chains.{greatest}
use Rattle.bohm_place.specs.Shares.{AreDistinct}
use Rattle.bohm_explain.specs.declared.arrow.Arrow.{Arrow}
use Rattle.bohm_explain.specs.declared.heat.Heat.{Heat}

-- whether the transaction declares the key
abbrev pub declares : List ℕ → Txn → Bool
declares k t = is_among t.reads k || is_among t.writes k

-- how many transactions declare to write the key, and how many to read it
abbrev pub writers_of : List ℕ → List Txn → ℕ
writers_of k log = count_by (λ t. is_among t.writes k) log

abbrev pub readers_of : List ℕ → List Txn → ℕ
readers_of k log = count_by (λ t. is_among t.reads k) log

-- the arrows of a part, each with the transactions on the longest chain through it
abbrev pub Chained : Type 0
Chained = List (Arrow × ℕ)

-- the longest chain through an arrow for the key, or 0 if there is none
abbrev pub chain_in : List ℕ → Chained → ℕ
chain_in k arrows = greatest (map (λ a. a.1) (filter (λ a. bytes_eq a.0.key k) arrows))

-- the longest such chain in any of these parts
abbrev pub chain_of : List ℕ → List Chained → ℕ
chain_of k batches = greatest (map (chain_in k) batches)

abbrev pub heat_of : List Txn → List Chained → List ℕ → Heat
heat_of log batches k = record { key = k; writers = writers_of k log; readers = readers_of k log; chain = chain_of k batches }

abbrev pub keys_of : List Heat → List (List ℕ)
keys_of heats = map (λ h. h.key) heats

-- exactly the keys that a transaction of the log declares are listed, each once, with its heat
pub record AreHeatsOf (log : List Txn) (batches : List Chained) (heats : List Heat) : Type 0 where
  pub distinct : AreDistinct (keys_of heats)
  pub listed : (k : List ℕ) → is_among (keys_of heats) k ≡ list_any (declares k) log
  pub right : All (λ h. h ≡ heat_of log batches h.key) heats
