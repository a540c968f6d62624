-- The writes of a batch, from lists of the writes of its parts, some of whose keys have no number yet.
use Rattle.std.proofs.Common.{◌≡◌, ◌∙◌, ℕ, zero, suc, ◌+◌, ◌-◌, ◌*◌, ◌<◌, ◌≤◌, List, [], ◌∷◌, ◌++◌, length, map}
use Rattle.std.proofs.Common.{take, drop, get_or, nat_lt, Some, refl, sym, ap, subst, arith}
use Rattle.std.proofs.Common.{add-one, append-nil, append_assoc, length-append, ⊎_elim, slice_get, true, false}
use Rattle.std.proofs.lemmas.Bool.{cases_lt}
use Rattle.std.proofs.lemmas.Bool.Decides.{nat_tests}
use Rattle.std.proofs.Math.Seq.{take-nil}
use Rattle.std.proofs.lemmas.List.{get_or-append_right, get_or-map, get_or_append_left, length-map, map-append, take_more}
use Rattle.std.proofs.lemmas.List.Elements.{All-get_or, All-head, All-nil, All-cons, All-tail}
use Rattle.bohm_log.specs.Parts.{Begins, name_at}
use Rattle.bohm_types.specs.Txn.{Txn}
use Rattle.bohm_txn.specs.Meaning.{Look}
use Rattle.bohm_txn.specs.Serial.{after, state}
use Rattle.bohm_txn.proofs.ForCallers.{drop_at, next}
use Rattle.bohm_board.specs.declared.batch.Batch.{Batch}
use Rattle.bohm_board.specs.Batches.{txns_of}
use Rattle.bohm_store.specs.declared.listed_writes.FreshKey.{FreshKey}
use Rattle.bohm_store.specs.declared.listed_writes.ListedWrites.{ListedWrites}
use Rattle.bohm_store.specs.declared.numbered_write.NumberedWrite.{NumberedWrite}
use Rattle.bohm_store.specs.Versions.{KeyedVersion}
use Rattle.bohm_store.specs.Writes.{AreBelow, AreListedFrom, AreNumbersOf, AreShares, all_txn_writes, named_write, names_with}
use Rattle.bohm_store.specs.Writes.{number_by, txn_writes, with_number}

-- ---- the writes of a part of transactions

-- the writes of the first n + m transactions are those of the first n, and then those of the m behind them
pub written_between : (u : ℕ) (look : Look) (txns : List Txn) (n m : ℕ)
    → all_txn_writes u look (take (n + m) txns)
    ≡ all_txn_writes u look (take n txns) ++ all_txn_writes (u + n) (state look txns n) (take m (drop n txns))
written_between u look [] zero m =
    let none : 0 + m ≡ m = omega arith in
    let same : u ≡ u + 0 = omega arith in
    rw none (ap (λ (v : ℕ). all_txn_writes v look (take m [])) same)
written_between u look [] (suc n) m = rw (take-nil (suc n + m), take-nil m) refl
written_between u look (t ∷ txns) zero m =
    let none : 0 + m ≡ m = omega arith in
    let same : u ≡ u + 0 = omega arith in
    rw none (ap (λ (v : ℕ). all_txn_writes v look (take m (t ∷ txns))) same)
written_between u look (t ∷ txns) (suc n) m =
    let more : suc n + m ≡ suc (n + m) = omega arith in
    let same : (u + 1) + n ≡ u + suc n = omega arith in
    let rest = written_between (u + 1) (after look t) txns n m in
    let rest' = subst (λ (v : ℕ). all_txn_writes (u + 1) (after look t) (take (n + m) txns)
    ≡ all_txn_writes (u + 1) (after look t) (take n txns) ++ all_txn_writes v (state (after look t) txns n) (take m (drop n txns))) same rest in
    rw more (ap (λ (ws : List KeyedVersion). txn_writes u (after look t) t.writes ++ ws) rest'
    ∙ sym (append_assoc (txn_writes u (after look t) t.writes) (all_txn_writes (u + 1) (after look t) (take n txns))
    (all_txn_writes (u + suc n) (state (after look t) txns n) (take m (drop n txns)))))

-- the writes of one more transaction follow those before it
pub written_next : (u : ℕ) (look : Look) (txns : List Txn) (i : ℕ) (x : Txn) → slice_get txns i ≡ Some x
    → all_txn_writes u look (take (i + 1) txns)
    ≡ all_txn_writes u look (take i txns) ++ txn_writes (u + i) (state look txns (i + 1)) x.writes
written_next u look txns i x here =
    let left : drop i txns ≡ x ∷ drop (i + 1) txns = drop_at txns i x here in
    let after_it : after (state look txns i) x ≡ state look txns (i + 1) = sym (rw add-one (next look txns i x here)) in
    written_between u look txns i 1
    ∙ ap (λ (ws : List KeyedVersion). all_txn_writes u look (take i txns) ++ ws)
    (ap (λ (xs : List Txn). all_txn_writes (u + i) (state look txns i) (take 1 xs)) left
    ∙ append-nil (txn_writes (u + i) (after (state look txns i) x) x.writes)
    ∙ ap (λ (l : Look). txn_writes (u + i) l x.writes) after_it)

state_none : (look : Look) (n : ℕ) → state look [] n ≡ look
state_none look zero = refl
state_none look (suc n) = refl

-- the states of transactions behind the first n are those of all, n transactions later
pub state_behind : (look : Look) (txns : List Txn) (n i : ℕ) → state (state look txns n) (drop n txns) i ≡ state look txns (n + i)
state_behind look txns zero i = let none : i ≡ 0 + i = omega arith in ap (λ (k : ℕ). state look txns k) none
state_behind look [] (suc n) i = state_none look i ∙ sym (state_none look (suc n + i))
state_behind look (t ∷ txns) (suc n) i =
    let more : suc (n + i) ≡ suc n + i = omega arith in
    state_behind (after look t) txns n i ∙ ap (λ (k : ℕ). state look (t ∷ txns) k) more

-- ---- fresh keys and their numbers

module _ (names names' keys : List (List ℕ)) (known : ℕ) (numbers : List ℕ) (long : length names ≡ known) (longer : Begins names names')
    (are : AreNumbersOf names' numbers keys) where
  many : length numbers ≡ length keys
  many = sym (length-map numbers (name_at names')) ∙ ap length are.named

  -- a key that was counted behind the names gets its number
  pub renumbered : (n : ℕ) → n < length (names ++ keys)
      → (number_by known numbers n < length names') × (name_at names' (number_by known numbers n) ≡ name_at (names ++ keys) n)
  renumbered n inside = ⊎_elim
      (λ (low : n < known).
      let yes : nat_lt n known ≡ true = grind (arith, nat_tests) in
      let (more, e) = longer in
      let wide : length names' ≡ length names + length more = ap length e ∙ length-append names more in
      let here : name_at names' n ≡ name_at names n = ap (λ (ns : List (List ℕ)). name_at ns n) e ∙ get_or_append_left names more [] n (omega arith) in
      rw yes (omega arith, here ∙ sym (get_or_append_left names keys [] n (omega arith))))
      (λ (high : known ≤ n).
      let no : nat_lt n known ≡ false = grind (arith, nat_tests) in
      let at : n - known < length numbers = omega (arith, inside, length-append names keys, many, long) in
      let here : name_at names' (get_or numbers (n - known) 0) ≡ get_or keys (n - known) [] =
      sym (get_or-map (name_at names') numbers (n - known) 0 [] at) ∙ ap (λ (ks : List (List ℕ)). get_or ks (n - known) []) are.named in
      rw no (
        All-get_or (λ (m : ℕ). m < length names') numbers (n - known) 0 at are.below,
        here ∙ sym (get_or-append_right names keys known n [] long high),
      ))
      (cases_lt n known)

  pub renumbered_below : (ws : List NumberedWrite) → AreBelow (length (names ++ keys)) ws → AreBelow (length names') (map (with_number known numbers) ws)
  renumbered_below [] below = All-nil (λ (w : NumberedWrite). w.number < length names')
  renumbered_below (w ∷ ws) below =
      All-cons (λ (x : NumberedWrite). x.number < length names') (with_number known numbers w) (map (with_number known numbers) ws)
      (renumbered w.number (All-head (λ (x : NumberedWrite). x.number < length (names ++ keys)) w ws below)).0
      (renumbered_below ws (All-tail (λ (x : NumberedWrite). x.number < length (names ++ keys)) w ws below))

  pub renumbered_named : (ws : List NumberedWrite) → AreBelow (length (names ++ keys)) ws
      → map (named_write names') (map (with_number known numbers) ws) ≡ map (named_write (names ++ keys)) ws
  renumbered_named [] below = refl
  renumbered_named (w ∷ ws) below =
      let here = (renumbered w.number (All-head (λ (x : NumberedWrite). x.number < length (names ++ keys)) w ws below)).1 in
      let rest = renumbered_named ws (All-tail (λ (x : NumberedWrite). x.number < length (names ++ keys)) w ws below) in
      λ i. record { begin = w.version.begin; key = here i; cell = w.version.cell } ∷ rest i

-- ---- the names with fresh keys behind them

pub fresh_more : (fresh : List FreshKey) (i : ℕ) (f : FreshKey) → i < length fresh → f ≡ get_or fresh i f
    → map (λ g. g.key) (take (i + 1) fresh) ≡ map (λ g. g.key) (take i fresh) ++ f.key ∷ []
fresh_more fresh i f low is =
    ap (map (λ g. g.key)) (take_more fresh i f low ∙ ap (λ (g : FreshKey). take i fresh ++ g ∷ []) (sym is))
    ∙ map-append (λ g. g.key) (take i fresh) (f ∷ [])

-- a fresh key is appended to the names with those before it
pub names_push : (names : List (List ℕ)) (fresh : List FreshKey) (f : FreshKey) → names_with names (fresh ++ f ∷ []) ≡ names_with names fresh ++ f.key ∷ []
names_push names fresh f =
    ap (λ (ks : List (List ℕ)). names ++ ks) (map-append (λ g. g.key) fresh (f ∷ [])) ∙ sym (append_assoc names (map (λ g. g.key) fresh) (f.key ∷ []))

pub names_long : (names : List (List ℕ)) (fresh : List FreshKey) → length (names_with names fresh) ≡ length names + length fresh
names_long names fresh = length-append names (map (λ g. g.key) fresh) ∙ ap (λ n. length names + n) (length-map fresh (λ g. g.key))

pub last_there : (xs : List (List ℕ)) (x : List ℕ) (n : ℕ) → n ≡ length xs → slice_get (xs ++ x ∷ []) n ≡ Some x
last_there [] x n e = rw e refl
last_there (y ∷ xs) x n e = rw e (last_there xs x (length xs) refl)

-- ---- all writes of a batch

-- one list of all writes of a batch is its only share
pub one_share : (names : List (List ℕ)) (b : Batch) (count : ℕ) (l : ListedWrites) → length (txns_of b) ≡ count → AreListedFrom names b 0 count l
    → AreShares names b (l ∷ [])
one_share names b count l many are = record {
  size = count;
  each = λ i d low.
      let first : i ≡ 0 = omega (arith, low) in
      let none : 0 ≡ 0 * count = omega arith in
      rw first (subst (λ (n : ℕ). AreListedFrom names b n count l) none are);
  whole = let once : 1 * count ≡ count = omega arith in omega (arith, many, once);
}
