-- A history by the numbers of keys.
use Rattle.std.specs.Prelude.{◌≡◌, ℕ, ◌+◌, ◌-◌, ◌<◌, ◌≤◌, ◌==◌, ◌&&◌, nat_le, nat_lt, All, List, [], ◌∷◌, ◌++◌, length, get_or, if◌then◌else◌}
use Rattle.bohm_store.specs.declared.version.Version.{Version}
use Rattle.bohm_store.specs.Versions.{Rises, Timeline}
use Rattle.bohm_store.specs.Chains.{UpTo, later_begins}
use Rattle.bohm_hints.specs.declared.held.Held.{Held}
use Rattle.bohm_store.specs.declared.older.Older.{Older}
use Rattle.bohm_store.specs.Held.{held_at, held_versions}

-- its contract view
pub record Numbered : Type 0 where
  pub floor : ℕ
  pub top : ℕ
  pub newest : List Held
  pub older : List Older

-- ---- superseded versions, in the order in which they were superseded

abbrev pub version_of : Older → Version
version_of o = record { begin = o.begin; cell = o.cell }

-- the versions of the key with this number
abbrev pub older_of : List Older → ℕ → List Version
older_of [] n = []
older_of (o ∷ os) n = (if (o.number == n) then version_of o ∷ [] else []) ++ older_of os n

-- the begins of the versions that superseded them
abbrev pub ends_of : List Older → ℕ → List ℕ
ends_of [] n = []
ends_of (o ∷ os) n = (if (o.number == n) then o.end ∷ [] else []) ++ ends_of os n

-- each ended at or above the one before, and none above the top
abbrev pub EndsRise : ℕ → List Older → Type 0
EndsRise top [] = Unit {0}
EndsRise top (o ∷ os) = (o.end ≤ top) × All (λ p. o.end ≤ p.end) os × EndsRise top os

-- each of these versions of the key with this number ends where the next one begins, the last where the held one begins
abbrev pub IsLinked : List Older → ℕ → List Version → Type 0
IsLinked os n held = later_begins (older_of os n ++ held) ≡ ends_of os n

-- the first one ended above the floor
abbrev pub IsNotDue : ℕ → List Older → Type 0
IsNotDue floor [] = Unit {0}
IsNotDue floor (o ∷ os) = floor < o.end

-- for the key with this number the first older version that ended above ts, or the present one
abbrev pub first_after : ℕ → List Older → ℕ → List Version → List Version
first_after ts [] n now = now
first_after ts (o ∷ os) n now = if ((o.number == n) && nat_lt ts o.end) then version_of o ∷ [] else first_after ts os n now

-- the last one ended at or below a timestamp
abbrev pub IsEndedBy : ℕ → List Older → Type 0
IsEndedBy ts os = (d : Older) → 0 < length os → (get_or os (length os - 1) d).end ≤ ts

-- the versions before the first one that ended above a timestamp
abbrev pub ended_by : ℕ → List Older → List Older
ended_by ts [] = []
ended_by ts (o ∷ os) = if nat_le o.end ts then o ∷ ended_by ts os else []

-- ---- all versions

-- the versions of the key with this number, oldest first
abbrev pub versions_at : Numbered → ℕ → List Version
versions_at h n = older_of h.older n ++ held_at h.newest n

-- the versions of each number ascend up to the top, and each older one ended where the next one begins, above the floor
pub record IsNumbered (h : Numbered) : Type 0 where
  pub ordered : h.floor ≤ h.top
  pub low : (n : ℕ) → UpTo h.top (versions_at h n)
  pub rising : (n : ℕ) → Rises (versions_at h n)
  pub linked : (n : ℕ) → later_begins (versions_at h n) ≡ ends_of h.older n
  pub climbs : EndsRise h.top h.older
  pub due : All (λ o. h.floor < o.end) h.older

-- each of these keys with what f gives for its number, of which the first is n
abbrev pub named : (ℕ → List Version) → ℕ → List (List ℕ) → List (List ℕ × List Version)
named f n [] = []
named f n (k ∷ ks) = (k, f n) ∷ named f (n + 1) ks

-- the same history by key; a key's number is its index in the names
abbrev pub timeline : List (List ℕ) → Numbered → Timeline
timeline names h = record { floor = h.floor; top = h.top; chains = named (versions_at h) 0 names }

-- the number of keys that have a version
abbrev pub filled : List Held → ℕ
filled [] = 0
filled (v ∷ vs) = length (held_versions v) + filled vs
