-- The versions that a serial run produces: they ascend, and give each key's cell after each transaction.
use Rattle.std.proofs.Common.{◌≡◌, ℕ, suc, ◌+◌, ◌-◌, ◌<◌, ◌≤◌, Bool, true, false, List, [], ◌∷◌, ◌++◌, length, All, refl, sym, ap, ◌∙◌}
use Rattle.std.proofs.Common.{arith, if◌then◌else◌, nat_le, ⊎_elim}
use Rattle.std.specs.List.{list_any}
use Rattle.std.proofs.lemmas.Bool.{cases_lt, or_left, or_right, true≢false}
use Rattle.std.proofs.lemmas.Bool.Decides.{nat_tests}
use Rattle.std.proofs.lemmas.List.Elements.{All-head, All-tail, All-nil, All-cons, All-weaker, All-append}
use Rattle.bohm_types.specs.declared.cell.Cell.{Cell}
use Rattle.bohm_types.specs.Txn.{Txn}
use Rattle.bohm_types.specs.Keys.{is_among}
use Rattle.bohm_txn.specs.Meaning.{Look, body}
use Rattle.bohm_txn.specs.Serial.{after, replies, reply_of, state}
use Rattle.bohm_txn.proofs.ForCallers.{kept, same_reads, same_after}
use Rattle.bohm_board.specs.declared.batch.Batch.{Batch}
use Rattle.bohm_place.specs.Noting.{declares_key}
use Rattle.bohm_board.specs.Batches.{base_of, txns_of}
use Rattle.bohm_store.specs.declared.version.Version.{Version}
use Rattle.bohm_store.specs.Versions.{Rises, Timeline, cell_at, past, produced_versions}
use Rattle.bohm_store.specs.Nexts.{Agree, IsNext}
use Rattle.bohm_store.specs.Chains.{Above, UpTo}
use Rattle.bohm_store.specs.Writes.{IsRunnable}
use Rattle.bohm_store.proofs.Runnable.{all_runnable}
use Rattle.bohm_store.proofs.Past.{cell_at-above, cell_at-append}

-- the version that a transaction gives a key, if it declares to write the key
abbrev one : Bool → ℕ → Cell → List Version
one b u c = if b then record { begin = u; cell = c } ∷ [] else []

all_one : (P : Version → Type 0) (b : Bool) (u : ℕ) (c : Cell) → P (record { begin = u; cell = c }) → All P (one b u c)
all_one P true u c h = All-cons P (record { begin = u; cell = c }) [] h (All-nil P)
all_one P false u c h = All-nil P

-- ---- the begins of produced versions

pub produced_from : (n u : ℕ) (look : Look) (ts : List Txn) (k : List ℕ) → n < u → Above n (produced_versions u look ts k)
produced_from n u look [] k lt = All-nil (λ v. n < v.begin)
produced_from n u look (t ∷ ts) k lt =
    All-append (λ v. n < v.begin) (one (is_among t.writes k) u (after look t k)) (produced_versions (u + 1) (after look t) ts k)
    (all_one (λ v. n < v.begin) (is_among t.writes k) u (after look t k) lt) (produced_from n (u + 1) (after look t) ts k (omega arith))

pub produced_up_to : (top u : ℕ) (look : Look) (ts : List Txn) (k : List ℕ) → u + length ts ≤ top + 1 → UpTo top (produced_versions u look ts k)
produced_up_to top u look [] k le = All-nil (λ v. v.begin ≤ top)
produced_up_to top u look (t ∷ ts) k le =
    All-append (λ v. v.begin ≤ top) (one (is_among t.writes k) u (after look t k)) (produced_versions (u + 1) (after look t) ts k)
    (all_one (λ v. v.begin ≤ top) (is_among t.writes k) u (after look t k) (omega arith))
    (produced_up_to top (u + 1) (after look t) ts k (omega arith))

-- ascending versions followed by later ascending versions are ascending
pub Rises-append : (top : ℕ) (vs ws : List Version) → Rises vs → Rises ws → UpTo top vs → Above top ws → Rises (vs ++ ws)
Rises-append top [] ws r s low above = s
Rises-append top (v ∷ vs) ws r s low above =
    let first : v.begin ≤ top = All-head (λ x. x.begin ≤ top) v vs low in (
      All-append (λ x. v.begin < x.begin) vs ws r.0
          (All-weaker (λ x. top < x.begin) (λ x. v.begin < x.begin) (λ x lt. omega arith) ws above),
      Rises-append top vs ws r.1 s
          (All-tail (λ x. x.begin ≤ top) v vs low) above,
    )

rises_one : (b : Bool) (u : ℕ) (c : Cell) → Rises (one b u c)
rises_one true u c = (All-nil (λ x. u < x.begin), tt)
rises_one false u c = tt

pub produced_rises : (u : ℕ) (look : Look) (ts : List Txn) (k : List ℕ) → Rises (produced_versions u look ts k)
produced_rises u look [] k = tt
produced_rises u look (t ∷ ts) k =
    Rises-append u (one (is_among t.writes k) u (after look t k)) (produced_versions (u + 1) (after look t) ts k)
    (rises_one (is_among t.writes k) u (after look t k)) (produced_rises (u + 1) (after look t) ts k)
    (all_one (λ v. v.begin ≤ u) (is_among t.writes k) u (after look t k) (omega arith))
    (produced_from u (u + 1) (after look t) ts k (omega arith))

-- ---- the cells that produced versions give

one_by : (u ts : ℕ) (b : Bool) (c before : Cell) → u ≤ ts → (b ≡ false → c ≡ before) → cell_at ts (one b u c) before ≡ c
one_by u ts true c before le same = let here : nat_le u ts ≡ true = grind (arith, nat_tests) in rw here refl
one_by u ts false c before le same = sym (same refl)

unwritten : (look : Look) (t : Txn) (k : List ℕ) → IsRunnable t → is_among t.writes k ≡ false → after look t k ≡ look k
unwritten look t k well none = kept look t k well.usable (λ among. true≢false (sym among ∙ none))

-- after the transaction at ts, each key has the cell of the newest produced version at or below ts
pub produced_state : (n ts : ℕ) (look : Look) (txns : List Txn) (k : List ℕ) → All IsRunnable txns → ts ≤ n + length txns → n ≤ ts
    → cell_at ts (produced_versions (n + 1) look txns k) (look k) ≡ state look txns (ts - n) k
produced_state n ts look [] k well high low = let none : ts - n ≡ 0 = omega arith in rw none refl
produced_state n ts look (t ∷ txns) k well high low = ⊎_elim
    (λ (lt : n < ts).
    let next : ts - n ≡ suc (ts - (n + 1)) = omega arith in
    let head = one (is_among t.writes k) (n + 1) (after look t k) in
    let rest = produced_versions (n + 1 + 1) (after look t) txns k in
    cell_at-append ts head rest (look k)
    ∙ ap (cell_at ts rest) (one_by (n + 1) ts (is_among t.writes k) (after look t k) (look k) (omega arith)
    (unwritten look t k (All-head IsRunnable t txns well)))
    ∙ produced_state (n + 1) ts (after look t) txns k (All-tail IsRunnable t txns well) (omega arith) (omega arith)
    ∙ rw next refl)
    (λ (le : ts ≤ n).
    let none : ts - n ≡ 0 = omega arith in
    cell_at-above ts (produced_versions (n + 1) look (t ∷ txns) k) (look k) (produced_from ts (n + 1) look (t ∷ txns) k (omega arith)) ∙ rw none refl)
    (cases_lt n ts)

-- ---- the cells of undeclared keys don't matter

agree_after : (look other : Look) (t : Txn) (txns : List Txn) → IsRunnable t → Agree (t ∷ txns) look other
    → Agree (t ∷ txns) (after look t) (after other t)
agree_after look other t txns well same =
    λ k declared. same_after look other t k (same_reads look other t well.usable (λ j among. same j
    (or_left (declares_key j t) (list_any (declares_key j) txns) (or_left (is_among t.reads j) (is_among t.writes j) among)))) (same k declared)

one_same : (b : Bool) (u : ℕ) (c d : Cell) → (b ≡ true → c ≡ d) → one b u c ≡ one b u d
one_same true u c d same = ap (λ x. record { begin = u; cell = x } ∷ []) (same refl)
one_same false u c d same = refl

both : (xs ys us vs : List Version) → xs ≡ us → ys ≡ vs → xs ++ ys ≡ us ++ vs
both xs ys us vs e f = rw (e, f) refl

pub produced_same : (u : ℕ) (look other : Look) (txns : List Txn) (k : List ℕ) → All IsRunnable txns → Agree txns look other
    → produced_versions u look txns k ≡ produced_versions u other txns k
produced_same u look other [] k well same = refl
produced_same u look other (t ∷ txns) k well same =
    let next = agree_after look other t txns (All-head IsRunnable t txns well) same in
    both (one (is_among t.writes k) u (after look t k)) (produced_versions (u + 1) (after look t) txns k)
    (one (is_among t.writes k) u (after other t k)) (produced_versions (u + 1) (after other t) txns k)
    (one_same (is_among t.writes k) u (after look t k) (after other t k)
    (λ among. next k (or_left (declares_key k t) (list_any (declares_key k) txns) (or_right (is_among t.reads k) (is_among t.writes k) among))))
    (produced_same (u + 1) (after look t) (after other t) txns k (All-tail IsRunnable t txns well)
    (λ j declared. next j (or_right (declares_key j t) (list_any (declares_key j) txns) declared)))

pub replies_same : (look other : Look) (txns : List Txn) → All IsRunnable txns → Agree txns look other → replies look txns ≡ replies other txns
replies_same look other [] well same = refl
replies_same look other (t ∷ txns) well same =
    let next = agree_after look other t txns (All-head IsRunnable t txns well) same in
    let here : body look t ≡ body other t =
    same_reads look other t (All-head IsRunnable t txns well).usable
    (λ j among. same j (or_left (declares_key j t) (list_any (declares_key j) txns) (or_left (is_among t.reads j) (is_among t.writes j) among))) in
    let rest =
    replies_same (after look t) (after other t) txns (All-tail IsRunnable t txns well)
    (λ j declared. next j (or_right (declares_key j t) (list_any (declares_key j) txns) declared)) in
    λ i. reply_of (here i) ∷ rest i

-- the next batch gives the same replies on its base as on the past at the history's top
pub next_replies : (t : Timeline) (b : Batch) → IsNext t b → replies (base_of b) (txns_of b) ≡ replies (past t t.top) (txns_of b)
next_replies t b next = replies_same (base_of b) (past t t.top) (txns_of b) (all_runnable (txns_of b) b.batched.formed) next.base
