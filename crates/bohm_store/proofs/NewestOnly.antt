-- Only the newest of a key's versions.
use Rattle.std.proofs.Common.{◌≡◌, ℕ, ◌+◌, ◌<◌, ◌≤◌, ◌==◌, ◌∙◌, Bool, true, false, List, [], ◌∷◌, ◌++◌, length, take, get_or, refl}
use Rattle.std.proofs.Common.{sym, ap, arith, if◌then◌else◌, nat_le, append-nil, append_assoc}
use Rattle.std.proofs.lemmas.Bool.Decides.{nat_tests}
use Rattle.std.proofs.lemmas.List.Elements.{All-head, All-tail}
use Rattle.bohm_store.specs.declared.version.Version.{Version}
use Rattle.bohm_store.specs.Versions.{kept_versions}
use Rattle.bohm_store.specs.Chains.{UpTo, later_begins, newest_only}
use Rattle.bohm_hints.specs.declared.held.Held.{Held}
use Rattle.bohm_store.specs.declared.numbered_write.NumberedWrite.{NumberedWrite}
use Rattle.bohm_store.specs.Held.{held_at}
use Rattle.bohm_store.specs.Writes.{versions_by}
use Rattle.bohm_store.proofs.Linked.{single_at}
use Rattle.bohm_store.proofs.NumberedWrites.{by_more}

newest_pushed : (v : Version) (xs : List Version) (w : Version) → newest_only (v ∷ (xs ++ w ∷ [])) ≡ w ∷ []
newest_pushed v [] w = refl
newest_pushed v (x ∷ xs) w = newest_pushed x xs w

pub newest_push : (xs : List Version) (w : Version) → newest_only (xs ++ w ∷ []) ≡ w ∷ []
newest_push [] w = refl
newest_push (x ∷ xs) w = newest_pushed x xs w

newest_single : (vs : List Version) → later_begins vs ≡ [] → newest_only vs ≡ vs
newest_single [] h = refl
newest_single (v ∷ []) h = refl
newest_single (v ∷ w ∷ ws) h = absurd cc

-- a floor at or above all begins keeps only the newest version
pub kept_newest : (floor : ℕ) (vs : List Version) → UpTo floor vs → kept_versions floor vs ≡ newest_only vs
kept_newest floor [] h = refl
kept_newest floor (v ∷ []) h = refl
kept_newest floor (v ∷ w ∷ ws) h =
    let rest : UpTo floor (w ∷ ws) = All-tail (λ (x : Version). x.begin ≤ floor) v (w ∷ ws) h in
    let low : w.begin ≤ floor = All-head (λ (x : Version). x.begin ≤ floor) w ws rest in
    let is : nat_le w.begin floor ≡ true = grind (arith, nat_tests) in
    rw is (kept_newest floor (w ∷ ws) rest)

-- a further version, if there is one, replaces the newest version
replaced_by : (old ms mid new : List Version) (v : Version) (b : Bool) → mid ≡ newest_only (old ++ ms)
    → new ≡ (if b then v ∷ [] else mid) → new ≡ newest_only (old ++ (ms ++ (if b then v ∷ [] else [])))
replaced_by old ms mid new v true was is = is ∙ sym (newest_push (old ++ ms) v) ∙ ap newest_only (append_assoc old ms (v ∷ []))
replaced_by old ms mid new v false was is = is ∙ was ∙ ap (λ (xs : List Version). newest_only (old ++ xs)) (sym (append-nil ms))

-- without writes the newest version stays, and one more write replaces the version of its number
pub replaced_none : (now : List Held) (n : ℕ) → held_at now n ≡ newest_only (held_at now n ++ [])
replaced_none now n = sym (ap newest_only (append-nil (held_at now n)) ∙ newest_single (held_at now n) (single_at now n))

pub replaced_more : (old mid new : List Version) (ws : List NumberedWrite) (i : ℕ) (w : NumberedWrite) (n : ℕ) → i < length ws → w ≡ get_or ws i w
    → mid ≡ newest_only (old ++ versions_by (take i ws) n) → new ≡ (if (w.number == n) then w.version ∷ [] else mid)
    → new ≡ newest_only (old ++ versions_by (take (i + 1) ws) n)
replaced_more old mid new ws i w n lt at was is =
    replaced_by old (versions_by (take i ws) n) mid new w.version (w.number == n) was is
    ∙ ap (λ (vs : List Version). newest_only (old ++ vs)) (sym (by_more ws i w n lt at))
