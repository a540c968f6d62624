-- Which transactions of a part want which versions: its arrows. Positions in a part are counted from 0.
use Rattle.std.specs.Prelude.{ℕ, zero, suc, ◌-◌, List, [], ◌++◌, length, Bool, false, Option, Some, None, slice_get, unwrap_or, filter_map, if◌then◌else◌}
use Rattle.std.specs.Option.{option_map}
use Rattle.bohm_types.specs.Txn.{Txn}
use Rattle.bohm_types.specs.Keys.{is_among}
use Rattle.bohm_txn.specs.Sure.{is_sure}
use Rattle.bohm_place.specs.declared.access.Source.{Source}
use Rattle.bohm_place.specs.declared.access.Source.TheVariants.{Before, Within}
use Rattle.bohm_place.specs.declared.declared_set.DeclaredSet.{DeclaredSet}
use Rattle.bohm_place.specs.declared.declared_set.DeclaredSet.TheVariants.{Reads, Writes}
use Rattle.bohm_place.specs.Plans.{keys_in}
use Rattle.bohm_explain.specs.declared.arrow.Arrow.{Arrow}

-- whether the transaction at this position declares to write the key
abbrev pub writes_at : List Txn → List ℕ → ℕ → Bool
writes_at txns k p = unwrap_or (option_map (λ t. is_among t.writes k) (slice_get txns p)) false

-- the newest position below this one whose transaction writes the key
abbrev pub newest_before : List Txn → List ℕ → ℕ → Option ℕ
newest_before txns k zero = None
newest_before txns k (suc p) = if writes_at txns k p then Some p else newest_before txns k p

-- the position of a source, in a part that starts at a timestamp
abbrev pub place_of : ℕ → Source → Option ℕ
place_of first Before = None
place_of first (Within u) = Some (u - first)

-- the arrow for the key, if a transaction of the part writes it before this position
abbrev pub arrow_of : List Txn → ℕ → List ℕ → Option Arrow
arrow_of txns p k = option_map (λ f. record { from = f; to = p; key = k }) (newest_before txns k p)

abbrev pub keys_at : DeclaredSet → List Txn → ℕ → List (List ℕ)
keys_at set txns p = unwrap_or (option_map (keys_in set) (slice_get txns p)) []

-- the arrows for the keys of one of the declared sets
abbrev pub arrows_in : DeclaredSet → List Txn → ℕ → List Arrow
arrows_in set txns p = filter_map (arrow_of txns p) (keys_at set txns p)

abbrev pub is_sure_at : List Txn → ℕ → Bool
is_sure_at txns p = unwrap_or (option_map is_sure (slice_get txns p)) false

-- a transaction wants the versions of its reads and, unless it is sure, those that its writes replace
abbrev pub arrows_at : List Txn → ℕ → List Arrow
arrows_at txns p = arrows_in Reads txns p ++ (if is_sure_at txns p then [] else arrows_in Writes txns p)

-- the arrows to the positions below p
abbrev pub arrows_below : List Txn → ℕ → List Arrow
arrows_below txns zero = []
arrows_below txns (suc p) = arrows_below txns p ++ arrows_at txns p

-- the versions of the part that its transactions want, in the order of the transactions that want them
abbrev pub arrows : List Txn → List Arrow
arrows txns = arrows_below txns (length txns)
