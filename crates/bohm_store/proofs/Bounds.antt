-- How many versions a history has at most.
use Rattle.std.proofs.Common.{◌≡◌, ℕ, ◌+◌, ◌<◌, ◌≤◌, ◌||◌, Bool, true, false, List, [], ◌∷◌, ◌++◌, length}
use Rattle.std.proofs.Common.{length-append, append-nil, refl, sym, ap, ◌∙◌, arith, if◌then◌else◌, nat_le, ⊎_elim}
use Rattle.std.proofs.lemmas.Bool.{cases_lt}
use Rattle.std.specs.List.{AllByRecursion, IsDistinct}
use Rattle.std.specs.Map.{keys_of, remove_entry}
use Rattle.std.specs.Str.{bytes_eq}
use Rattle.std.specs.Cmp.Lexicographic.{nat_list_eq_equiv}
use Rattle.bohm_types.specs.Txn.{Txn}
use Rattle.bohm_types.specs.Keys.{is_among}
use Rattle.bohm_txn.specs.Meaning.{Look}
use Rattle.bohm_txn.specs.Serial.{after}
use Rattle.bohm_txn.proofs.ForCallers.{key_itself}
use Rattle.bohm_store.specs.declared.version.Version.{Version}
use Rattle.bohm_store.specs.Versions.{Timeline, declared_writes, kept_versions, past, produced_versions, total, versions, versions_in, versions_to}
use Rattle.bohm_store.specs.Nexts.{IsSettledKept, grown_versions}
use Rattle.bohm_store.specs.Numbered.{named}
use Rattle.bohm_store.proofs.Counts.{gone, rest_distinct, total_removed}
use Rattle.bohm_store.proofs.ProducedVersions.{produced_from}
use Rattle.bohm_store.proofs.Rewound.{none_to}

-- ---- the versions that a floor keeps

kept_by : (floor : ℕ) (v w : Version) (ws : List Version) (b : Bool) → nat_le w.begin floor ≡ b
    → length (kept_versions floor (w ∷ ws)) ≤ length (w ∷ ws) → length (kept_versions floor (v ∷ w ∷ ws)) ≤ length (v ∷ w ∷ ws)
kept_by floor v w ws true e more = rw e (omega (arith, more))
kept_by floor v w ws false e more = rw e (omega arith)

pub kept_no_more : (floor : ℕ) (vs : List Version) → length (kept_versions floor vs) ≤ length vs
kept_no_more floor [] = omega arith
kept_no_more floor (v ∷ []) = omega arith
kept_no_more floor (v ∷ w ∷ ws) = kept_by floor v w ws (nat_le w.begin floor) refl (kept_no_more floor (w ∷ ws))

-- ---- two histories under the same names

pub named_no_more : (f g : ℕ → List Version) (n : ℕ) (names : List (List ℕ)) → ((m : ℕ) → length (f m) ≤ length (g m))
    → total (named f n names) ≤ total (named g n names)
named_no_more f g n [] h = omega arith
named_no_more f g n (k ∷ names) h = omega (arith, h n, named_no_more f g (n + 1) names h)

-- trimming at a floor leaves at most as many versions
pub trimmed_no_more : (f g : ℕ → List Version) (floor low : ℕ) (names : List (List ℕ)) → (floor < low → (n : ℕ) → f n ≡ kept_versions low (g n))
    → (low ≤ floor → (n : ℕ) → f n ≡ g n) → total (named f 0 names) ≤ total (named g 0 names)
trimmed_no_more f g floor low names less same = named_no_more f g 0 names (λ n. ⊎_elim
    (λ (lt : floor < low). (let is = less lt n in rw is (kept_no_more low (g n))))
    (λ (le : low ≤ floor). (let is = same le n in rw is (omega arith)))
    (cases_lt floor low))

-- ---- sums over keys

abbrev sum_of : (List ℕ → ℕ) → List (List ℕ) → ℕ
sum_of f [] = 0
sum_of f (k ∷ ks) = f k + sum_of f ks

sum_low : (f g : List ℕ → ℕ) (ks : List (List ℕ)) → ((k : List ℕ) → f k ≤ g k) → sum_of f ks ≤ sum_of g ks
sum_low f g [] h = omega arith
sum_low f g (k ∷ ks) h = omega (arith, h k, sum_low f g ks h)

sum_both : (f g : List ℕ → ℕ) (ks : List (List ℕ)) → sum_of (λ k. f k + g k) ks ≡ sum_of f ks + sum_of g ks
sum_both f g [] = refl
sum_both f g (k ∷ ks) = omega (arith, sum_both f g ks)

sum_zero : (ks : List (List ℕ)) → sum_of (λ _. 0) ks ≡ 0
sum_zero [] = refl
sum_zero (k ∷ ks) = omega (arith, sum_zero ks)

-- 1 for true, 0 for false
abbrev one_if : Bool → ℕ
one_if true = 1
one_if false = 0

none_equal : (w k : List ℕ) (ks : List (List ℕ)) → bytes_eq w k ≡ true → AllByRecursion (λ y. bytes_eq k y ≡ false) ks
    → sum_of (λ y. one_if (bytes_eq w y)) ks ≡ 0
none_equal w k [] e h = refl
none_equal w k (y ∷ ks) e h =
    let apart : bytes_eq w y ≡ false = nat_list_eq_equiv.congr w k y e ∙ h.0 in
    let here : one_if (bytes_eq w y) ≡ 0 = ap one_if apart in
    omega (arith, here, none_equal w k ks e h.1)

one_at_most : (w : List ℕ) (ks : List (List ℕ)) → IsDistinct bytes_eq ks → sum_of (λ y. one_if (bytes_eq w y)) ks ≤ 1
unfolding IsDistinct
one_at_most w [] d = omega arith
one_at_most w (k ∷ ks) d = by w k ks (bytes_eq w k) refl d.0 (one_at_most w ks d.1)
  where
    by : (w k : List ℕ) (ks : List (List ℕ)) (b : Bool) → bytes_eq w k ≡ b → AllByRecursion (λ y. bytes_eq k y ≡ false) ks
        → sum_of (λ y. one_if (bytes_eq w y)) ks ≤ 1 → sum_of (λ y. one_if (bytes_eq w y)) (k ∷ ks) ≤ 1
    by w k ks true e apart more = let here : one_if (bytes_eq w k) ≡ 1 = ap one_if e in omega (arith, here, none_equal w k ks e apart)
    by w k ks false e apart more = let here : one_if (bytes_eq w k) ≡ 0 = ap one_if e in omega (arith, here, more)

either : (a b : Bool) → one_if (a || b) ≤ one_if a + one_if b
either true b = omega arith
either false b = omega arith

among_at_most : (ws ks : List (List ℕ)) → IsDistinct bytes_eq ks → sum_of (λ k. one_if (is_among ws k)) ks ≤ length ws
among_at_most [] ks d = omega (arith, sum_zero ks)
among_at_most (w ∷ ws) ks d =
    omega (
      arith,
      sum_low (λ k. one_if (is_among (w ∷ ws) k)) (λ k. one_if (bytes_eq w k) + one_if (is_among ws k)) ks (λ k. either (bytes_eq w k) (is_among ws k)),
      sum_both (λ k. one_if (bytes_eq w k)) (λ k. one_if (is_among ws k)) ks,
      one_at_most w ks d,
      among_at_most ws ks d,
    )

one_long : (b : Bool) (v : Version) → length (if b then v ∷ [] else []) ≡ one_if b
one_long true v = refl
one_long false v = refl

produced_at_most : (u : ℕ) (look : Look) (txns : List Txn) (ks : List (List ℕ)) → IsDistinct bytes_eq ks
    → sum_of (λ k. length (produced_versions u look txns k)) ks ≤ declared_writes txns
produced_at_most u look [] ks d = omega (arith, sum_zero ks)
produced_at_most u look (t ∷ ts) ks d =
    omega (
      arith,
      sum_low (λ k. length (produced_versions u look (t ∷ ts) k))
          (λ k. one_if (is_among t.writes k) + length (produced_versions (u + 1) (after look t) ts k)) ks
          (λ k. (let long = length-append (if is_among t.writes k then record { begin = u; cell = after look t k } ∷ [] else [])
          (produced_versions (u + 1) (after look t) ts k) in
          omega (arith, long, one_long (is_among t.writes k) record { begin = u; cell = after look t k }))),
      sum_both (λ k. one_if (is_among t.writes k)) (λ k. length (produced_versions (u + 1) (after look t) ts k)) ks,
      among_at_most t.writes ks d,
      produced_at_most (u + 1) (after look t) ts ks d,
    )

-- ---- the total number of versions

abbrev Keyed : Type 0
Keyed = List (List ℕ × List Version)

-- removing a key's entry doesn't change another key's versions
other_by : (k q : List ℕ) (f : List ℕ × List Version) (fs : Keyed) (b c : Bool) → bytes_eq k f.0 ≡ b → bytes_eq q f.0 ≡ c → bytes_eq k q ≡ false
    → versions_in (remove_entry (bytes_eq k) fs) q ≡ versions_in fs q → versions_in (remove_entry (bytes_eq k) (f ∷ fs)) q ≡ versions_in (f ∷ fs) q
other_by k q f fs true c e is other more =
    let apart : bytes_eq q f.0 ≡ false = nat_list_eq_equiv.symm q f.0 ∙ sym (nat_list_eq_equiv.congr k f.0 q e) ∙ other in
    rw (e, apart) refl
other_by k q f fs false true e is other more = rw (e, is) refl
other_by k q f fs false false e is other more = rw (e, is) more

versions_other : (k q : List ℕ) (fs : Keyed) → bytes_eq k q ≡ false → versions_in (remove_entry (bytes_eq k) fs) q ≡ versions_in fs q
versions_other k q [] other = refl
versions_other k q (f ∷ fs) other = other_by k q f fs (bytes_eq k f.0) (bytes_eq q f.0) refl refl other (versions_other k q fs other)

rest_by : (e : List ℕ × List Version) (es fs : Keyed) (extra : List ℕ → ℕ) (k : List ℕ) (b : Bool) → bytes_eq e.0 k ≡ b → IsDistinct bytes_eq (keys_of (e ∷ es))
    → length (versions_in (e ∷ es) k) ≤ length (versions_in fs k) + extra k
    → length (versions_in es k) ≤ length (versions_in (remove_entry (bytes_eq e.0) fs) k) + extra k
rest_by e es fs extra k true is d few =
    let none : length (versions_in es k) ≡ 0 = ap (λ (vs : List Version). length vs) (gone e es k d (nat_list_eq_equiv.symm k e.0 ∙ is)) in
    omega (arith, none)
rest_by e es fs extra k false is d few =
    let other : bytes_eq k e.0 ≡ false = nat_list_eq_equiv.symm k e.0 ∙ is in
    let at = rw other at few in
    rw (versions_other e.0 k fs is) at

total_low : (es fs : Keyed) (extra : List ℕ → ℕ) → IsDistinct bytes_eq (keys_of es)
    → ((k : List ℕ) → length (versions_in es k) ≤ length (versions_in fs k) + extra k) → total es ≤ total fs + sum_of extra (keys_of es)
total_low [] fs extra d few = omega arith
total_low (e ∷ es) fs extra d few =
    let others = remove_entry (bytes_eq e.0) fs in
    let rest : total es ≤ total others + sum_of extra (keys_of es) =
    total_low es others extra (rest_distinct e es d) (λ k. rest_by e es fs extra k (bytes_eq e.0 k) refl d (few k)) in
    let here : length e.1 ≤ length (versions_in fs e.0) + extra e.0 = rw (key_itself e.0) at (few e.0) in
    let whole = total_removed e.0 fs in
    omega (arith, rest, whole, here)

-- if no key has more versions than before, the total isn't larger either
pub fewer_count : (was now : Timeline) → IsDistinct bytes_eq (keys_of now.chains) → ((k : List ℕ) → length (versions now k) ≤ length (versions was k))
    → total now.chains ≤ total was.chains
fewer_count was now d few =
    omega (arith, total_low now.chains was.chains (λ _. 0) d (λ k. omega (arith, few k)), sum_zero (keys_of now.chains))

pub grown_count : (was now : Timeline) (txns : List Txn) → IsDistinct bytes_eq (keys_of now.chains)
    → ((k : List ℕ) → length (versions now k) ≤ length (grown_versions was txns k)) → total now.chains ≤ total was.chains + declared_writes txns
grown_count was now txns d few =
    let made : List ℕ → ℕ = λ k. length (produced_versions (was.top + 1) (past was was.top) txns k) in
    omega (
      arith,
      total_low now.chains was.chains made d
          (λ k. omega (arith, few k, length-append (versions was k) (produced_versions (was.top + 1) (past was was.top) txns k))),
      produced_at_most (was.top + 1) (past was was.top) txns (keys_of now.chains) d,
    )

-- ---- versions that begin at or below a timestamp

to_by : (ts : ℕ) (v : Version) (vs : List Version) (b : Bool) → nat_le v.begin ts ≡ b → length (versions_to ts vs) ≤ length (versions_to ts (v ∷ vs))
to_by ts v vs true e = rw e (omega arith)
to_by ts v vs false e = rw e (omega arith)

few_by : (ts : ℕ) (v : Version) (vs : List Version) (b : Bool) → nat_le v.begin ts ≡ b → length (versions_to ts vs) ≤ length vs
    → length (versions_to ts (v ∷ vs)) ≤ length (v ∷ vs)
few_by ts v vs true e more = rw e (omega (arith, more))
few_by ts v vs false e more = rw e (omega (arith, more))

pub to_few : (ts : ℕ) (vs : List Version) → length (versions_to ts vs) ≤ length vs
to_few ts [] = omega arith
to_few ts (v ∷ vs) = few_by ts v vs (nat_le v.begin ts) refl (to_few ts vs)

append_by : (ts : ℕ) (v : Version) (vs ws : List Version) (b : Bool) → nat_le v.begin ts ≡ b
    → versions_to ts (vs ++ ws) ≡ versions_to ts vs ++ versions_to ts ws
    → versions_to ts ((v ∷ vs) ++ ws) ≡ versions_to ts (v ∷ vs) ++ versions_to ts ws
append_by ts v vs ws true e more = rw e (ap (λ (us : List Version). v ∷ us) more)
append_by ts v vs ws false e more = rw e more

to_append : (ts : ℕ) (vs ws : List Version) → versions_to ts (vs ++ ws) ≡ versions_to ts vs ++ versions_to ts ws
to_append ts [] ws = refl
to_append ts (v ∷ vs) ws = append_by ts v vs ws (nat_le v.begin ts) refl (to_append ts vs ws)

to_kept_by : (ts floor : ℕ) (v w : Version) (ws : List Version) (b : Bool) → nat_le w.begin floor ≡ b
    → length (versions_to ts (kept_versions floor (w ∷ ws))) ≤ length (versions_to ts (w ∷ ws))
    → length (versions_to ts (kept_versions floor (v ∷ w ∷ ws))) ≤ length (versions_to ts (v ∷ w ∷ ws))
to_kept_by ts floor v w ws true e more = rw e (omega (arith, more, to_by ts v (w ∷ ws) (nat_le v.begin ts) refl))
to_kept_by ts floor v w ws false e more = rw e (omega arith)

to_kept : (ts floor : ℕ) (vs : List Version) → length (versions_to ts (kept_versions floor vs)) ≤ length (versions_to ts vs)
to_kept ts floor [] = omega arith
to_kept ts floor (v ∷ []) = omega arith
to_kept ts floor (v ∷ w ∷ ws) = to_kept_by ts floor v w ws (nat_le w.begin floor) refl (to_kept ts floor (w ∷ ws))

to_grown : (was : Timeline) (txns : List Txn) (ts : ℕ) (k : List ℕ) → ts ≤ was.top
    → versions_to ts (grown_versions was txns k) ≡ versions_to ts (versions was k)
to_grown was txns ts k le =
    to_append ts (versions was k) (produced_versions (was.top + 1) (past was was.top) txns k)
    ∙ ap (λ (vs : List Version). versions_to ts (versions was k) ++ vs)
    (none_to ts (produced_versions (was.top + 1) (past was was.top) txns k) (produced_from ts (was.top + 1) (past was was.top) txns k (omega (arith, le))))
    ∙ append-nil (versions_to ts (versions was k))

-- settling transactions adds no version that begins at or below the former top
pub settled_early : (was now : Timeline) (txns : List Txn) (low ts : ℕ) → IsSettledKept was now txns low → ts ≤ was.top → (k : List ℕ)
    → length (versions_to ts (versions now k)) ≤ length (versions_to ts (versions was k))
settled_early was now txns low ts h le k =
    let same = to_grown was txns ts k le in
    ⊎_elim
    (λ (lt : was.floor < low). (let is = h.versions lt k in rw (is, ← same) (to_kept ts low (grown_versions was txns k))))
    (λ (le : low ≤ was.floor). (let is = h.unchanged le k in rw (is, same) (omega arith)))
    (cases_lt was.floor low)
