-- The counts of a log's keys after one more part.
use Rattle.std.proofs.Common.{◌≡◌, ℕ, zero, suc, ◌+◌, Bool, true, false, cond, ◌||◌, List, [], ◌∷◌, ◌++◌, length, Option}
use Rattle.std.proofs.Common.{Some, None, option_map, unwrap_or, slice_get, All, refl, sym, ap, subst, ◌∙◌, get_or}
use Rattle.std.specs.List.{filter_map, cons_option, list_any}
use Rattle.std.specs.HashMap.{HashMap}
use Rattle.std.proofs.lemmas.Bool.{false≢true}
use Rattle.std.proofs.lemmas.Option.{get_or_from_slice_get, slice_get_within}
use Rattle.std.proofs.lemmas.List.Elements.{All-append, All-nil, All-cons}
use Rattle.std.proofs.lemmas.List.Folds.{list_any-append, list_any_at}
use Rattle.std.proofs.lemmas.List.Sums.{sum_by-append}
use Rattle.bohm_types.specs.Txn.{Txn}
use Rattle.bohm_types.specs.Keys.{is_among}
use Rattle.bohm_txn.proofs.ForCallers.{among_first, among_then, key_itself}
use Rattle.bohm_place.specs.declared.declared_set.DeclaredSet.{DeclaredSet}
use Rattle.bohm_place.specs.declared.declared_set.DeclaredSet.TheVariants.{Reads, Writes}
use Rattle.bohm_place.specs.Plans.{keys_in}
use Rattle.bohm_explain.specs.declared.arrow.Arrow.{Arrow}
use Rattle.bohm_explain.specs.declared.tallies.Tally.{Tally}
use Rattle.bohm_explain.specs.Heats.{Chained, chain_in, chain_of, declares, readers_of, writers_of}
use Rattle.bohm_explain.specs.Tallies.{IsTallied, counted_in, lists, raised, tally}
use Rattle.bohm_explain.specs.Wanted.{arrow_of, arrows, arrows_at, arrows_below, arrows_in, is_sure_at, keys_at, newest_before}
use Rattle.bohm_explain.proofs.Raising.{chain_push}

-- ---- the counts after one more part

counted_more : (k : List ℕ) (log txns : List Txn) (batches : List Chained) (batch : Chained) (old mid new : Tally)
    → old ≡ record { writers = writers_of k log; readers = readers_of k log; chain = chain_of k batches }
    → mid ≡ counted_in old txns k → new ≡ raised mid (chain_in k batch)
    → new ≡ record { writers = writers_of k (log ++ txns); readers = readers_of k (log ++ txns); chain = chain_of k (batches ++ batch ∷ []) }
counted_more k log txns batches batch old mid new o m n =
    let writers : writers_of k (log ++ txns) ≡ writers_of k log + writers_of k txns = sum_by-append (λ t. cond (is_among t.writes k) 1 0) log txns in
    let readers : readers_of k (log ++ txns) ≡ readers_of k log + readers_of k txns = sum_by-append (λ t. cond (is_among t.reads k) 1 0) log txns in
    rw (writers, readers, chain_push k batches batch) (n ∙ ap (λ (t : Tally). raised t (chain_in k batch)) (m ∙ ap (λ (t : Tally). counted_in t txns k) o))

pub tallied_more : {S : Type 0} (log txns : List Txn) (batches : List Chained) (batch : Chained) (old mid new : HashMap (List ℕ) Tally S)
    → IsTallied log batches old
    → ((k : List ℕ) → tally mid k ≡ counted_in (tally old k) txns k) → ((k : List ℕ) → lists mid k ≡ (lists old k || list_any (declares k) txns))
    → ((k : List ℕ) → tally new k ≡ raised (tally mid k) (chain_in k batch)) → ((k : List ℕ) → lists new k ≡ lists mid k)
    → IsTallied (log ++ txns) (batches ++ batch ∷ []) new
tallied_more log txns batches batch old mid new all counts listed chains same = record {
  counts = λ k. counted_more k log txns batches batch (tally old k) (tally mid k) (tally new k) (all.counts k) (counts k) (chains k);
  listed = λ k. same k ∙ (listed k ∙ (ap (λ (b : Bool). b || list_any (declares k) txns) (all.listed k) ∙ sym (list_any-append (declares k) log txns)));
}

-- ---- a transaction declares the key of each arrow

declares_in : (set : DeclaredSet) (t : Txn) (k : List ℕ) → is_among (keys_in set t) k ≡ true → declares k t ≡ true
declares_in Reads t k h = rw h refl
declares_in Writes t k h = by (is_among t.reads k) h
  where
    by : (b : Bool) → is_among t.writes k ≡ true → (b || is_among t.writes k) ≡ true
    by true h = refl
    by false h = h

module _ (txns : List Txn) (p : ℕ) where
  abbrev Declared : Arrow → Type 0
  Declared a = list_any (declares a.key) txns ≡ true

  declared_at : (set : DeclaredSet) (k : List ℕ) (o : Option Txn) → slice_get txns p ≡ o → is_among (unwrap_or (option_map (keys_in set) o) []) k ≡ true
      → list_any (declares k) txns ≡ true
  declared_at set k None at h = absurd (false≢true h)
  declared_at set k (Some t) at h = list_any_at (declares k) txns p t (slice_get_within txns p t at)
      (rw (get_or_from_slice_get txns p t t at) (declares_in set t k h))

  one : (k : List ℕ) (o : Option ℕ) (rest : List Arrow) → list_any (declares k) txns ≡ true → All Declared rest
      → All Declared (cons_option (option_map (λ f. record { from = f; to = p; key = k }) o) rest)
  one k None rest is h = h
  one k (Some f) rest is h = All-cons Declared (record { from = f; to = p; key = k }) rest is h

  for_keys : (ks : List (List ℕ)) → ((k : List ℕ) → is_among ks k ≡ true → list_any (declares k) txns ≡ true) → All Declared (filter_map (arrow_of txns p) ks)
  for_keys [] among = All-nil Declared
  for_keys (k ∷ ks) among = one k (newest_before txns k p) (filter_map (arrow_of txns p) ks) (among k (among_first k k ks (key_itself k)))
      (for_keys ks (λ x h. among x (among_then k x ks h)))

  for_set : (set : DeclaredSet) → All Declared (arrows_in set txns p)
  for_set set = for_keys (keys_at set txns p) (λ k h. declared_at set k (slice_get txns p) refl h)

  for_writes : (b : Bool) → All Declared (cond b [] (arrows_in Writes txns p))
  for_writes true = All-nil Declared
  for_writes false = for_set Writes

  at_position : All Declared (arrows_at txns p)
  at_position = All-append Declared (arrows_in Reads txns p) (cond (is_sure_at txns p) [] (arrows_in Writes txns p)) (for_set Reads)
      (for_writes (is_sure_at txns p))

declared_below : (txns : List Txn) (p : ℕ) → All (λ a. list_any (declares a.key) txns ≡ true) (arrows_below txns p)
declared_below txns zero = All-nil (λ a. list_any (declares a.key) txns ≡ true)
declared_below txns (suc p) = All-append (λ a. list_any (declares a.key) txns ≡ true) (arrows_below txns p) (arrows_at txns p) (declared_below txns p)
    (at_position txns p)

pub listed_arrows : {S : Type 0} (txns : List Txn) (wanted : List Arrow) (old new : HashMap (List ℕ) Tally S) → wanted ≡ arrows txns
    → ((k : List ℕ) → lists new k ≡ (lists old k || list_any (declares k) txns)) → All (λ a. lists new a.key ≡ true) wanted
listed_arrows txns wanted old new is listed i d lt =
    let all : All (λ a. list_any (declares a.key) txns ≡ true) wanted =
    subst (λ (as' : List Arrow). All (λ a. list_any (declares a.key) txns ≡ true) as') (sym is) (declared_below txns (length txns)) in
    let k = (get_or wanted i d).key in
    listed k ∙ last (lists old k) (list_any (declares k) txns) (all i d lt)
  where
    last : (a b : Bool) → b ≡ true → (a || b) ≡ true
    last true b h = refl
    last false b h = h
