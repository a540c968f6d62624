-- A number's older versions and its newest one, linked by their ends and begins.
use Rattle.std.proofs.Common.{◌≡◌, ℕ, zero, suc, ◌<◌, ◌≤◌, ◌==◌, ◌∙◌, Bool, true, false, List, [], ◌∷◌, ◌++◌, length, get_or, take}
use Rattle.std.proofs.Common.{replicate, refl, ap, arith, nat_le}
use Rattle.bohm_hints.specs.Top.{held_cell}
use Rattle.bohm_store.specs.declared.version.Version.{Version}
use Rattle.std.proofs.lemmas.List.Elements.{All-nil, All-head, All-tail}
use Rattle.std.proofs.lemmas.Bool.Decides.{nat_tests}
use Rattle.std.proofs.lemmas.List.{take_all}
use Rattle.bohm_store.proofs.Past.{cell_at-append}
use Rattle.bohm_store.specs.Versions.{Rises, cell_at}
use Rattle.bohm_store.specs.Chains.{UpTo, newest_only, later_begins}
use Rattle.bohm_hints.specs.declared.held.Held.{Held}
use Rattle.bohm_hints.specs.declared.held.Held.TheVariants.{Never, Absent, Present}
use Rattle.bohm_store.specs.declared.older.Older.{Older}
use Rattle.bohm_store.specs.Held.{held_versions, held_at}
use Rattle.bohm_store.specs.Numbered.{IsNumbered, older_of, ends_of}
use Rattle.bohm_types.specs.declared.cell.Cell.TheVariants as cells

-- a key has at most one newest version
pub held_single : (v : Held) → later_begins (held_versions v) ≡ []
held_single Never = refl
held_single (Absent b) = refl
held_single (Present b z) = refl

pub rises_held : (v : Held) → Rises (held_versions v)
rises_held Never = tt
rises_held (Absent b) = (All-nil (λ w. b < w.begin), tt)
rises_held (Present b z) = (All-nil (λ w. b < w.begin), tt)

pub single_at : (now : List Held) (n : ℕ) → later_begins (held_at now n) ≡ []
single_at now n = held_single (get_or now n Never)

as_many_by : (o : Older) (os : List Older) (n : ℕ) (b : Bool) → (o.number == n) ≡ b → length (older_of os n) ≡ length (ends_of os n)
    → length (older_of (o ∷ os) n) ≡ length (ends_of (o ∷ os) n)
as_many_by o os n true e more = rw e (ap suc more)
as_many_by o os n false e more = rw e more

pub as_many : (os : List Older) (n : ℕ) → length (older_of os n) ≡ length (ends_of os n)
as_many [] n = refl
as_many (o ∷ os) n = as_many_by o os n (o.number == n) refl (as_many os n)

-- ---- the newest of all versions

newest_skip : (xs ps : List Version) (v : Version) → newest_only (xs ++ v ∷ ps) ≡ newest_only (v ∷ ps)
newest_skip [] ps v = refl
newest_skip (a ∷ []) ps v = refl
newest_skip (a ∷ c ∷ xs) ps v = newest_skip (c ∷ xs) ps v

length_later : (v : Version) (vs : List Version) → length (later_begins (v ∷ vs)) ≡ length vs
length_later v [] = refl
length_later v (w ∷ vs) = ap suc (length_later w vs)

length_nil : (xs : List Version) → length (xs ++ []) ≡ length xs
length_nil [] = refl
length_nil (a ∷ xs) = ap suc (length_nil xs)

-- a key with older versions also has a held one, so the older versions don't change the newest
pub newest_held : (xs hs ps : List Version) (es : List ℕ) → later_begins (xs ++ hs) ≡ es → length xs ≡ length es
    → newest_only (xs ++ (hs ++ ps)) ≡ newest_only (hs ++ ps)
newest_held [] hs ps es e l = refl
newest_held (a ∷ xs) (h ∷ hs) ps es e l = newest_skip (a ∷ xs) (hs ++ ps) h
newest_held (a ∷ xs) [] ps es e l = absurd (omega (arith, l, ap length e, length_later a (xs ++ []), length_nil xs))

-- a history with the same newest version for each number keeps the invariant
pub numbered_same : (floor top : ℕ) (old new : List Held) (older : List Older)
    → IsNumbered (record { floor = floor; top = top; newest = old; older = older }) → ((n : ℕ) → held_at new n ≡ held_at old n)
    → IsNumbered (record { floor = floor; top = top; newest = new; older = older })
numbered_same floor top old new older h same = record {
  ordered = h.ordered;
  low = λ n. rw (same n) (h.low n);
  rising = λ n. rw (same n) (h.rising n);
  linked = λ n. rw (same n) (h.linked n);
  climbs = h.climbs;
  due = h.due;
}

-- ---- the held version gives the cell at the top

last_low : (top : ℕ) (vs : List Version) (w : Version) → UpTo top (vs ++ w ∷ []) → w.begin ≤ top
last_low top [] w h = All-head (λ v. v.begin ≤ top) w [] h
last_low top (v ∷ vs) w h = last_low top vs w (All-tail (λ x. x.begin ≤ top) v (vs ++ w ∷ []) h)

cell_last : (top : ℕ) (vs : List Version) (w : Version) → UpTo top (vs ++ w ∷ []) → cell_at top (vs ++ w ∷ []) cells.Absent ≡ w.cell
cell_last top vs w low =
    let le = last_low top vs w low in
    let here : nat_le w.begin top ≡ true = grind (arith, nat_tests) in
    cell_at-append top vs (w ∷ []) cells.Absent ∙ rw here refl

pub none_older : (vs : List Version) (es : List ℕ) → later_begins (vs ++ []) ≡ es → length vs ≡ length es → vs ≡ []
none_older [] es e l = refl
none_older (v ∷ vs) es e l = absurd (omega (arith, l, ap length e, length_later v (vs ++ []), length_nil vs))

pub cell_held : (top : ℕ) (vs : List Version) (v : Held) (es : List ℕ) → later_begins (vs ++ held_versions v) ≡ es → length vs ≡ length es
    → UpTo top (vs ++ held_versions v) → cell_at top (vs ++ held_versions v) cells.Absent ≡ held_cell v
cell_held top vs Never es e l low = ap (λ (xs : List Version). cell_at top (xs ++ []) cells.Absent) (none_older vs es e l)
cell_held top vs (Absent b) es e l low = cell_last top vs (record { begin = b; cell = cells.Absent }) low
cell_held top vs (Present b z) es e l low = cell_last top vs (record { begin = b; cell = cells.Present z }) low

-- ---- room for more numbers

nothing_more : (m n : ℕ) → get_or (replicate m Never) n Never ≡ Never
nothing_more zero n = refl
nothing_more (suc m) zero = refl
nothing_more (suc m) (suc n) = nothing_more m n

padded_by : (xs : List Held) (m n : ℕ) → get_or (xs ++ replicate m Never) n Never ≡ get_or xs n Never
padded_by [] m n = nothing_more m n
padded_by (x ∷ xs) m zero = refl
padded_by (x ∷ xs) m (suc n) = padded_by xs m n

pub padded : (xs ys : List Held) (count m : ℕ) → length xs ≤ count → ys ≡ take count xs ++ replicate m Never → (n : ℕ) → held_at ys n ≡ held_at xs n
padded xs ys count m le is n =
    let whole : take count xs ≡ xs = take_all count xs le in
    let all : ys ≡ xs ++ replicate m Never = is ∙ ap (λ (zs : List Held). zs ++ replicate m Never) whole in
    ap held_versions (ap (λ (zs : List Held). get_or zs n Never) all ∙ padded_by xs m n)
