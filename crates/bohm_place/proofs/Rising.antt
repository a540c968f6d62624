-- Rising begins, and the greatest of them below a timestamp.
use Rattle.std.specs.Str.{bytes_eq}
use Rattle.std.proofs.Common.{◌≡◌, ℕ, ◌+◌, ◌<◌, ◌≤◌, Bool, ◌&&◌, if◌then◌else◌, true, false, List, [], ◌∷◌}
use Rattle.std.proofs.Common.{◌++◌, length, filter, get_or, take, drop, refl, sym, ap, ◌∙◌, arith, nat_lt, All}
use Rattle.std.specs.List.{AllByRecursion}
use Rattle.std.proofs.lemmas.Bool.Decides.{nat_tests}
use Rattle.std.proofs.lemmas.List.{append_assoc, drop_more, map-append, take-append-drop}
use Rattle.std.proofs.lemmas.List.Elements.{All-head, All-tail}
use Rattle.bohm_place.specs.declared.placeholder.Placeholder.{Placeholder}
use Rattle.bohm_place.specs.Chains.{begins, RisesFrom, greatest, greatest_below}
use Rattle.bohm_txn.proofs.ForCallers.{each_append}

pub begins-append : (vs ws : List Placeholder) → begins (vs ++ ws) ≡ begins vs ++ begins ws
begins-append vs ws = map-append (λ v. v.begin) vs ws

pub RisesFrom-push : (n : ℕ) (xs : List ℕ) (t : ℕ) → RisesFrom n xs → All (λ b. b < t) xs → n < t → RisesFrom n (xs ++ t ∷ [])
RisesFrom-push n [] t h below lt = (lt, tt)
RisesFrom-push n (x ∷ xs) t h below lt = (h.0, RisesFrom-push x xs t h.1 (All-tail (λ b. b < t) x xs below) (All-head (λ b. b < t) x xs below))

-- all begins are at or above ts
abbrev pub From : ℕ → List ℕ → Type 0
From ts xs = AllByRecursion (λ b. ts ≤ b) xs

none_below : (ts : ℕ) (xs : List ℕ) → From ts xs → filter (λ b. nat_lt b ts) xs ≡ []
none_below ts [] h = refl
none_below ts (x ∷ xs) h = let e : nat_lt x ts ≡ false = let above = h.0 in grind (arith, nat_tests) in rw e (none_below ts xs h.1)

pub greatest_below-none : (ts : ℕ) (xs : List ℕ) → From ts xs → greatest_below ts xs ≡ 0
greatest_below-none ts xs h = ap greatest (none_below ts xs h)

rises_below : (n : ℕ) (xs : List ℕ) (b : ℕ) (ys : List ℕ) → RisesFrom n (xs ++ b ∷ ys) → n < b
rises_below n [] b ys h = h.0
rises_below n (x ∷ xs) b ys h = let lt = rises_below x xs b ys h.1 in omega (arith, h.0)

pub greatest_below-found : (n ts : ℕ) (xs : List ℕ) (b : ℕ) (ys : List ℕ) → RisesFrom n (xs ++ b ∷ ys) → b < ts → From ts ys
    → greatest_below ts (xs ++ b ∷ ys) ≡ b
greatest_below-found n ts [] b ys h lt above =
    let e : nat_lt b ts ≡ true = grind (arith, nat_tests) in
    let g = greatest_below-none ts ys above in
    rw (e, g) (omega arith)
greatest_below-found n ts (x ∷ xs) b ys h lt above =
    let low = rises_below x xs b ys h.1 in
    let e : nat_lt x ts ≡ true = grind (arith, nat_tests) in
    let g = greatest_below-found x ts xs b ys h.1 lt above in
    rw (e, g) (omega arith)

-- in a rising chain, the last begin below ts, at index i, is the greatest begin below ts
pub greatest_below-at : (ts : ℕ) (vs : List Placeholder) (w : Placeholder) (i : ℕ) (d : Placeholder) → i < length vs → RisesFrom 0 (begins (vs ++ w ∷ []))
    → (get_or vs i d).begin < ts → From ts (begins (drop (i + 1) vs)) → ts ≤ w.begin
    → greatest_below ts (begins (vs ++ w ∷ [])) ≡ (get_or vs i d).begin
greatest_below-at ts vs w i d inside rises lt above last =
    let front = begins (take i vs) in
    let b = (get_or vs i d).begin in
    let back = begins (drop (i + 1) vs) in
    let parts : begins vs ≡ front ++ (b ∷ back) = ap begins (sym (take-append-drop i vs) ∙ ap (λ us. take i vs ++ us) (drop_more vs i d inside))
    ∙ begins-append (take i vs) (get_or vs i d ∷ drop (i + 1) vs) in
    let whole : begins (vs ++ w ∷ []) ≡ front ++ (b ∷ (back ++ w.begin ∷ [])) =
    begins-append vs (w ∷ []) ∙ ap (λ xs. xs ++ w.begin ∷ []) parts ∙ append_assoc front (b ∷ back) (w.begin ∷ []) in
    rw whole (greatest_below-found 0 ts front b (back ++ w.begin ∷ []) (rw whole at rises) lt (each_append (λ b. ts ≤ b) back (w.begin ∷ []) above (last, tt)))

-- a chain without a begin below ts has 0 as its greatest begin below ts
pub greatest_below-past : (ts : ℕ) (vs : List Placeholder) (w : Placeholder) → From ts (begins vs) → ts ≤ w.begin
    → greatest_below ts (begins (vs ++ w ∷ [])) ≡ 0
greatest_below-past ts vs w above last = rw (begins-append vs (w ∷ []))
    (greatest_below-none ts (begins vs ++ w.begin ∷ []) (each_append (λ b. ts ≤ b) (begins vs) (w.begin ∷ []) above (last, tt)))

-- if the newest placeholder begins below ts, its begin is the greatest begin below ts
pub greatest_below-newest : (ts : ℕ) (vs : List Placeholder) (w : Placeholder) → RisesFrom 0 (begins (vs ++ w ∷ [])) → w.begin < ts
    → greatest_below ts (begins (vs ++ w ∷ [])) ≡ w.begin
greatest_below-newest ts vs w rises lt = rw (begins-append vs (w ∷ []))
    (greatest_below-found 0 ts (begins vs) w.begin [] (rw (begins-append vs (w ∷ [])) at rises) lt tt)

rises_appended_by : (ok e : Bool) (old new : List Placeholder) (next : Placeholder) → RisesFrom 0 (begins old)
    → new ≡ (if (ok && e) then old ++ next ∷ [] else old) → (e ≡ true → All (λ b. b < next.begin) (begins old)) → 0 < next.begin → RisesFrom 0 (begins new)
rises_appended_by true true old new next h is above lt = rw (is, begins-append old (next ∷ [])) (RisesFrom-push 0 (begins old) next.begin h (above refl) lt)
rises_appended_by true false old new next h is above lt = rw is h
rises_appended_by false e old new next h is above lt = rw is h

-- a rising chain still rises after a placeholder with a greater begin is appended for its key
pub rises_appended : (ok : Bool) (key k : List ℕ) (old new : List Placeholder) (next : Placeholder) → RisesFrom 0 (begins old)
    → new ≡ (if (ok && bytes_eq key k) then old ++ next ∷ [] else old) → (bytes_eq key k ≡ true → All (λ b. b < next.begin) (begins old)) → 0 < next.begin
    → RisesFrom 0 (begins new)
rises_appended ok key k old new next h is above lt = rises_appended_by ok (bytes_eq key k) old new next h is above lt
