-- Keys in lists, chains by key, and the last placeholder of a list.
use Rattle.std.proofs.Common.{◌≡◌, ℕ, Bool, List, [], ◌∷◌, ◌++◌, Option, Some, None, unwrap_or, option_map, refl, ap, ◌∙◌}
use Rattle.std.specs.Map.{lookup}
use Rattle.std.specs.Str.{bytes_eq}
use Rattle.std.proofs.lemmas.Bool.{or_left, or_right}
use Rattle.std.proofs.lemmas.List.Folds.{list_any-append}
use Rattle.std.proofs.lemmas.Map.Made.{lookup-map_values}
use Rattle.bohm_types.specs.Keys.{is_among, IsAmong}
use Rattle.bohm_txn.proofs.ForCallers.{among_first, key_itself}
use Rattle.bohm_place.specs.declared.placeholder.Placeholder.{Placeholder}
use Rattle.bohm_place.specs.declared.chain.Chain.{Chain}
use Rattle.bohm_place.specs.Chains.{table, items, items_of, last_or}

pub among_left : (xs ys : List (List ℕ)) (k : List ℕ) → IsAmong xs k → IsAmong (xs ++ ys) k
among_left xs ys k h = list_any-append (λ x. bytes_eq x k) xs ys ∙ or_left (is_among xs k) (is_among ys k) h

pub among_right : (xs ys : List (List ℕ)) (k : List ℕ) → IsAmong ys k → IsAmong (xs ++ ys) k
among_right xs ys k h = list_any-append (λ x. bytes_eq x k) xs ys ∙ or_right (is_among xs k) (is_among ys k) h

pub among_push : (xs : List (List ℕ)) (k : List ℕ) → IsAmong (xs ++ k ∷ []) k
among_push xs k = among_right xs (k ∷ []) k (among_first k k [] (key_itself k))

items_by : (o : Option Chain) → unwrap_or (option_map items o) [] ≡ items_of o
items_by None = refl
items_by (Some c) = refl

pub lookup_table : (test : List ℕ → Bool) (es : List (List ℕ × Chain)) → unwrap_or (lookup test (table es)) [] ≡ items_of (lookup test es)
lookup_table test es = ap (λ o. unwrap_or o []) (lookup-map_values items test es) ∙ items_by (lookup test es)

pub last_or-append : (v : Placeholder) (vs ws : List Placeholder) → last_or v (vs ++ ws) ≡ last_or (last_or v vs) ws
last_or-append v [] ws = refl
last_or-append v (w ∷ vs) ws = last_or-append w vs ws

pub last_or-items : (v : Placeholder) (c : Chain) → last_or v (items c) ≡ c.newest
last_or-items v c = last_or-append v c.older.items (c.newest ∷ [])
