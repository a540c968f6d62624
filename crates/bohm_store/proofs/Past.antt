-- The cell that a list of versions gives at a timestamp.
use Rattle.std.proofs.Common.{◌≡◌, ℕ, ◌<◌, ◌≤◌, Bool, true, false, List, [], ◌∷◌, ◌++◌, refl, ◌∙◌}
use Rattle.std.proofs.Common.{arith, if◌then◌else◌, nat_le}
use Rattle.std.proofs.lemmas.Bool.Decides.{nat_tests}
use Rattle.std.proofs.lemmas.List.Elements.{All-head, All-tail}
use Rattle.bohm_types.specs.declared.cell.Cell.{Cell}
use Rattle.bohm_store.specs.declared.version.Version.{Version}
use Rattle.bohm_store.specs.Versions.{cell_at, kept_versions}
use Rattle.bohm_store.specs.Chains.{Above, UpTo}

pub cell_at-append : (ts : ℕ) (xs ys : List Version) (c : Cell) → cell_at ts (xs ++ ys) c ≡ cell_at ts ys (cell_at ts xs c)
cell_at-append ts [] ys c = refl
cell_at-append ts (x ∷ xs) ys c = cell_at-append ts xs ys (if nat_le x.begin ts then x.cell else c)

-- versions that begin above a timestamp don't change the cell at the timestamp
pub cell_at-above : (ts : ℕ) (vs : List Version) (c : Cell) → Above ts vs → cell_at ts vs c ≡ c
cell_at-above ts [] c h = refl
cell_at-above ts (v ∷ vs) c h =
    let later : ts < v.begin = All-head (λ v. ts < v.begin) v vs h in
    let no : nat_le v.begin ts ≡ false = grind (arith, nat_tests) in
    rw no (cell_at-above ts vs c (All-tail (λ v. ts < v.begin) v vs h))

-- if all versions begin at or below the top, the cell at each later timestamp is the one at the top
pub cell_at-up_to : (top ts : ℕ) (vs : List Version) (c : Cell) → UpTo top vs → top ≤ ts → cell_at ts vs c ≡ cell_at top vs c
cell_at-up_to top ts [] c h le = refl
cell_at-up_to top ts (v ∷ vs) c h le =
    let low : v.begin ≤ top = All-head (λ v. v.begin ≤ top) v vs h in
    let at_top : nat_le v.begin top ≡ true = grind (arith, nat_tests) in
    let at_ts : nat_le v.begin ts ≡ true = grind (arith, nat_tests) in
    rw (at_top, at_ts) (cell_at-up_to top ts vs v.cell (All-tail (λ v. v.begin ≤ top) v vs h) le)

-- versions that a floor drops don't change the cell at or above the floor
kept_by : (floor ts : ℕ) (v w : Version) (ws : List Version) (c : Cell) (b : Bool) → nat_le w.begin floor ≡ b → floor ≤ ts
    → ((d : Cell) → cell_at ts (kept_versions floor (w ∷ ws)) d ≡ cell_at ts (w ∷ ws) d)
    → cell_at ts (kept_versions floor (v ∷ w ∷ ws)) c ≡ cell_at ts (v ∷ w ∷ ws) c
kept_by floor ts v w ws c true e le more =
    let here : nat_le w.begin ts ≡ true = grind (arith, nat_tests) in
    rw e (more c ∙ rw here refl)
kept_by floor ts v w ws c false e le more = rw e refl

pub cell_at-kept : (floor ts : ℕ) (vs : List Version) (c : Cell) → floor ≤ ts → cell_at ts (kept_versions floor vs) c ≡ cell_at ts vs c
cell_at-kept floor ts [] c le = refl
cell_at-kept floor ts (v ∷ []) c le = refl
cell_at-kept floor ts (v ∷ w ∷ ws) c le = kept_by floor ts v w ws c (nat_le w.begin floor) refl le (λ d. cell_at-kept floor ts (w ∷ ws) d le)
