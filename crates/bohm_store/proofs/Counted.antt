-- How many versions a history has, counted by number and by key.
use Rattle.std.proofs.Common.{◌≡◌, ℕ, suc, ◌+◌, ◌<◌, ◌≤◌, ◌==◌, ◌∙◌, true, false, List, [], ◌∷◌, ◌++◌, length, take, drop, get_or}
use Rattle.std.proofs.Common.{refl, sym, ap, ⊎_elim, arith, if◌then◌else◌, All, add-one, drop-cons}
use Rattle.std.proofs.lemmas.Bool.{cases_eq, cases_lt}
use Rattle.std.proofs.lemmas.Bool.Decides.{nat_tests}
use Rattle.std.proofs.lemmas.List.{drop_all, get_or_past, take_more}
use Rattle.std.proofs.lemmas.List.Elements.{All-cons, All-nil, All-head, All-tail}
use Rattle.bohm_store.specs.declared.version.Version.{Version}
use Rattle.bohm_hints.specs.declared.held.Held.{Held}
use Rattle.bohm_hints.specs.declared.held.Held.TheVariants.{Never}
use Rattle.bohm_store.specs.declared.older.Older.{Older}
use Rattle.bohm_store.specs.Held.{held_at, held_versions}
use Rattle.bohm_store.specs.Versions.{total}
use Rattle.bohm_store.specs.Chains.{later_begins}
use Rattle.bohm_store.specs.Numbered.{IsNumbered, Numbered, ends_of, filled, named, older_of, version_of, versions_at}
use Rattle.bohm_store.proofs.Linked.{as_many, none_older}

-- ---- newest versions

none_filled : (now : List Held) (from : ℕ) (names : List (List ℕ)) → length now ≤ from → total (named (held_at now) from names) ≡ 0
none_filled now from [] le = refl
none_filled now from (k ∷ names) le =
    let held : held_at now from ≡ [] = ap held_versions (get_or_past now from Never le) in
    let here : length (held_at now from) ≡ 0 = ap (λ (vs : List Version). length vs) held in
    omega (arith, here, none_filled now (from + 1) names (omega arith))

total_filled : (now : List Held) (from : ℕ) (names : List (List ℕ)) → length now ≤ from + length names
    → total (named (held_at now) from names) ≡ filled (drop from now)
total_filled now from [] le = sym (ap filled (drop_all from now (omega arith)))
total_filled now from (k ∷ names) le = ⊎_elim
    (λ (lt : from < length now).
    let more = total_filled now (from + 1) names (omega arith) in
    let here : drop from now ≡ get_or now from Never ∷ drop (from + 1) now = rw add-one (drop-cons now from Never lt) in
    rw here (ap (λ (n : ℕ). length (held_at now from) + n) more))
    (λ (ge : length now ≤ from).
    none_filled now from (k ∷ names) ge ∙ sym (ap filled (drop_all from now ge)))
    (cases_lt from (length now))

filled-append : (vs ws : List Held) → filled (vs ++ ws) ≡ filled vs + filled ws
filled-append [] ws = let none : 0 + filled ws ≡ filled ws = omega arith in sym none
filled-append (v ∷ vs) ws = let more = filled-append vs ws in omega (arith, more)

pub filled_more : (vs : List Held) (i : ℕ) (v : Held) → i < length vs → v ≡ get_or vs i v
    → filled (take (i + 1) vs) ≡ filled (take i vs) + length (held_versions v)
filled_more vs i v lt is =
    let taken : take (i + 1) vs ≡ take i vs ++ v ∷ [] = take_more vs i v lt ∙ ap (λ (x : Held). take i vs ++ x ∷ []) (sym is) in
    let more = ap filled taken ∙ filled-append (take i vs) (v ∷ []) in
    omega (arith, more)

-- ---- one more older version

same_by : (o : Older) (os : List Older) (held : ℕ → List Version) (from : ℕ) (k : List ℕ) (names : List (List ℕ)) → o.number < from
    → total (named (λ n. older_of (o ∷ os) n ++ held n) from names) ≡ total (named (λ n. older_of os n ++ held n) from names)
same_by o os held from k [] lt = refl
same_by o os held from k (x ∷ names) lt =
    let no : (o.number == from) ≡ false = grind (arith, nat_tests) in
    let more = same_by o os held (from + 1) k names (omega arith) in
    rw no (ap (λ (n : ℕ). length (older_of os from ++ held from) + n) more)

one_more : (o : Older) (os : List Older) (held : ℕ → List Version) (from : ℕ) (names : List (List ℕ)) → from ≤ o.number
    → o.number < from + length names
    → total (named (λ n. older_of (o ∷ os) n ++ held n) from names) ≡ suc (total (named (λ n. older_of os n ++ held n) from names))
one_more o os held from [] low high = absurd (omega arith)
one_more o os held from (x ∷ names) low high = ⊎_elim
    (λ (same : o.number ≡ from).
    let yes : (o.number == from) ≡ true = grind (arith, nat_tests) in
    let rest = same_by o os held (from + 1) x names (omega arith) in
    rw yes (omega (arith, rest)))
    (λ other.
    let no : (o.number == from) ≡ false = grind (arith, nat_tests) in
    let above : from + 1 ≤ o.number = grind arith in
    let rest = one_more o os held (from + 1) names above (omega arith) in
    rw no (ap (λ (n : ℕ). length (older_of os from ++ held from) + n) rest
    ∙ add_suc (length (older_of os from ++ held from)) (total (named (λ n. older_of os n ++ held n) (from + 1) names))))
    (cases_eq o.number from)
  where
    add_suc : (m n : ℕ) → m + suc n ≡ suc (m + n)
    add_suc m n = omega arith

total_all : (os : List Older) (held : ℕ → List Version) (names : List (List ℕ)) → All (λ o. o.number < length names) os
    → total (named (λ n. older_of os n ++ held n) 0 names) ≡ length os + total (named held 0 names)
total_all [] held names low = let none : 0 + total (named held 0 names) ≡ total (named held 0 names) = omega arith in sym none
total_all (o ∷ os) held names low =
    let one = one_more o os held 0 names (omega arith) (omega (arith, All-head (λ (p : Older). p.number < length names) o os low)) in
    let rest = total_all os held names (All-tail (λ (p : Older). p.number < length names) o os low) in
    omega (arith, one, rest)

-- ---- the numbers of older versions are below the count of keys

none_left : (xs ys : List Version) → xs ++ ys ≡ [] → ys ≡ []
none_left [] ys e = e
none_left (x ∷ xs) ys e = absurd cc

known_by : (o : Older) (os : List Older) (count : ℕ) → ((n : ℕ) → count ≤ n → older_of (o ∷ os) n ≡ []) → o.number < count
known_by o os count none = ⊎_elim
    (λ (lt : o.number < count). lt)
    (λ (ge : count ≤ o.number).
    let yes : (o.number == o.number) ≡ true = grind (arith, nat_tests) in
    let gone = rw yes at (none o.number ge) in absurd cc)
    (cases_lt o.number count)

known : (os : List Older) (count : ℕ) → ((n : ℕ) → count ≤ n → older_of os n ≡ []) → All (λ o. o.number < count) os
known [] count none = All-nil (λ (o : Older). o.number < count)
known (o ∷ os) count none = All-cons (λ (p : Older). p.number < count) o os (known_by o os count none)
    (known os count (λ n le. none_left (if (o.number == n) then version_of o ∷ [] else []) (older_of os n) (none n le)))

none_behind_older : (h : Numbered) (n : ℕ) → IsNumbered h → length h.newest ≤ n → older_of h.older n ≡ []
none_behind_older h n inv le =
    let held : held_at h.newest n ≡ [] = ap held_versions (get_or_past h.newest n Never le) in
    none_older (older_of h.older n) (ends_of h.older n)
    (ap (λ (vs : List Version). later_begins (older_of h.older n ++ vs)) (sym held) ∙ inv.linked n) (as_many h.older n)

-- the total is the count of older versions plus the count of newest ones
pub counted : (h : Numbered) (names : List (List ℕ)) → IsNumbered h → length h.newest ≤ length names
    → total (named (versions_at h) 0 names) ≡ length h.older + filled h.newest
counted h names inv long =
    total_all h.older (held_at h.newest) names (known h.older (length names) (λ n le. none_behind_older h n inv (omega arith)))
    ∙ ap (λ (n : ℕ). length h.older + n) (total_filled h.newest 0 names (omega arith))
