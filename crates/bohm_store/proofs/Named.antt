-- A property of each number's versions also holds for each key's versions.
use Rattle.std.proofs.Common.{◌≡◌, ℕ, ◌+◌, Bool, true, false, List, [], ◌∷◌, refl, sym}
use Rattle.std.specs.Str.{bytes_eq}
use Rattle.bohm_store.specs.declared.version.Version.{Version}
use Rattle.bohm_store.specs.Versions.{versions_in}
use Rattle.bohm_store.specs.Numbered.{named}

mapped_by : (f g : ℕ → List Version) (h : List Version → List Version) (from : ℕ) (x : List ℕ) (names : List (List ℕ)) (k : List ℕ) (b : Bool)
    → bytes_eq k x ≡ b → f from ≡ h (g from) → versions_in (named f (from + 1) names) k ≡ h (versions_in (named g (from + 1) names) k)
    → versions_in (named f from (x ∷ names)) k ≡ h (versions_in (named g from (x ∷ names)) k)
mapped_by f g h from x names k true e at rest = rw e at
mapped_by f g h from x names k false e at rest = rw e rest

mapped_from : (f g : ℕ → List Version) (h : List Version → List Version) (from : ℕ) (names : List (List ℕ)) (k : List ℕ) → h [] ≡ []
    → ((n : ℕ) → f n ≡ h (g n)) → versions_in (named f from names) k ≡ h (versions_in (named g from names) k)
mapped_from f g h from [] k none each = sym none
mapped_from f g h from (x ∷ names) k none each = mapped_by f g h from x names k (bytes_eq k x) refl (each from) (mapped_from f g h (from + 1) names k none each)

pub mapped_versions : (f g : ℕ → List Version) (h : List Version → List Version) (names : List (List ℕ)) (k : List ℕ) → h [] ≡ []
    → ((n : ℕ) → f n ≡ h (g n)) → versions_in (named f 0 names) k ≡ h (versions_in (named g 0 names) k)
mapped_versions f g h names k none each = mapped_from f g h 0 names k none each

all_by : (P : List Version → Type 0) (f : ℕ → List Version) (from : ℕ) (x : List ℕ) (names : List (List ℕ)) (k : List ℕ) (b : Bool)
    → bytes_eq k x ≡ b → P (f from) → P (versions_in (named f (from + 1) names) k) → P (versions_in (named f from (x ∷ names)) k)
all_by P f from x names k true e at rest = rw e at
all_by P f from x names k false e at rest = rw e rest

all_from : (P : List Version → Type 0) (f : ℕ → List Version) (from : ℕ) (names : List (List ℕ)) (k : List ℕ) → P [] → ((n : ℕ) → P (f n))
    → P (versions_in (named f from names) k)
all_from P f from [] k none each = none
all_from P f from (x ∷ names) k none each = all_by P f from x names k (bytes_eq k x) refl (each from) (all_from P f (from + 1) names k none each)

pub all_versions : (P : List Version → Type 0) (f : ℕ → List Version) (names : List (List ℕ)) (k : List ℕ) → P [] → ((n : ℕ) → P (f n))
    → P (versions_in (named f 0 names) k)
all_versions P f names k none each = all_from P f 0 names k none each
