-- A history under a longer list of names.
use Rattle.std.proofs.Common.{◌≡◌, ℕ, ◌+◌, ◌≤◌, ◌∙◌, Bool, true, false, List, [], ◌∷◌, ◌++◌, length, refl, sym, ap, arith}
use Rattle.std.specs.Str.{bytes_eq}
use Rattle.std.proofs.lemmas.List.{get_or_past}
use Rattle.bohm_store.specs.declared.version.Version.{Version}
use Rattle.bohm_store.specs.Versions.{total, versions_in}
use Rattle.bohm_store.specs.Chains.{later_begins}
use Rattle.bohm_hints.specs.declared.held.Held.TheVariants.{Never}
use Rattle.bohm_store.specs.Held.{held_at, held_versions}
use Rattle.bohm_store.specs.Numbered.{IsNumbered, Numbered, ends_of, named, older_of, versions_at}
use Rattle.bohm_store.proofs.Linked.{as_many, none_older}

-- a number at or past the end of the newest versions has no versions
pub none_behind : (h : Numbered) (n : ℕ) → IsNumbered h → length h.newest ≤ n → versions_at h n ≡ []
none_behind h n inv le =
    let held : held_at h.newest n ≡ [] = ap held_versions (get_or_past h.newest n Never le) in
    let olds : older_of h.older n ≡ [] =
    none_older (older_of h.older n) (ends_of h.older n)
    (ap (λ (vs : List Version). later_begins (older_of h.older n ++ vs)) (sym held) ∙ inv.linked n) (as_many h.older n) in
    ap (λ (vs : List Version). vs ++ held_at h.newest n) olds ∙ held

none_by : (f : ℕ → List Version) (from : ℕ) (x : List ℕ) (more : List (List ℕ)) (k : List ℕ) (b : Bool) → bytes_eq k x ≡ b → f from ≡ []
    → versions_in (named f (from + 1) more) k ≡ [] → versions_in (named f from (x ∷ more)) k ≡ []
none_by f from x more k true e at rest = rw e at
none_by f from x more k false e at rest = rw e rest

none_named : (f : ℕ → List Version) (from : ℕ) (more : List (List ℕ)) (k : List ℕ) → ((n : ℕ) → from ≤ n → f n ≡ []) → versions_in (named f from more) k ≡ []
none_named f from [] k at = refl
none_named f from (x ∷ more) k at =
    none_by f from x more k (bytes_eq k x) refl (at from (omega arith)) (none_named f (from + 1) more k (λ n le. at n (omega arith)))

longer_by : (f g : ℕ → List Version) (from : ℕ) (x : List ℕ) (names more : List (List ℕ)) (k : List ℕ) (b : Bool) → bytes_eq k x ≡ b
    → f from ≡ g from → versions_in (named f (from + 1) (names ++ more)) k ≡ versions_in (named g (from + 1) names) k
    → versions_in (named f from ((x ∷ names) ++ more)) k ≡ versions_in (named g from (x ∷ names)) k
longer_by f g from x names more k true e at rest = rw e at
longer_by f g from x names more k false e at rest = rw e rest

-- names whose numbers have no versions don't change the versions of any key
pub longer_names : (f g : ℕ → List Version) (from : ℕ) (names more : List (List ℕ)) (k : List ℕ) → ((n : ℕ) → f n ≡ g n)
    → ((n : ℕ) → from + length names ≤ n → f n ≡ []) → versions_in (named f from (names ++ more)) k ≡ versions_in (named g from names) k
longer_names f g from [] more k same none = none_named f from more k (λ n le. none n (omega arith))
longer_names f g from (x ∷ names) more k same none =
    longer_by f g from x names more k (bytes_eq k x) refl (same from) (longer_names f g (from + 1) names more k same (λ n le. none n (omega arith)))

none_total : (f : ℕ → List Version) (from : ℕ) (more : List (List ℕ)) → ((n : ℕ) → from ≤ n → f n ≡ []) → total (named f from more) ≡ 0
none_total f from [] at = refl
none_total f from (x ∷ more) at =
    let here : length (f from) ≡ 0 = ap (λ (vs : List Version). length vs) (at from (omega arith)) in
    omega (arith, here, none_total f (from + 1) more (λ n le. at n (omega arith)))

-- names whose numbers have no versions don't change the total
pub longer_total : (f : ℕ → List Version) (from : ℕ) (names more : List (List ℕ)) → ((n : ℕ) → from + length names ≤ n → f n ≡ [])
    → total (named f from (names ++ more)) ≡ total (named f from names)
longer_total f from [] more none = none_total f from more (λ n le. none n (omega arith))
longer_total f from (x ∷ names) more none =
    ap (λ (n : ℕ). length (f from) + n) (longer_total f (from + 1) names more (λ n le. none n (omega arith)))
