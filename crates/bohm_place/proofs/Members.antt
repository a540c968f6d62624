-- A rising chain keeps exactly the begins that `IsKept` describes.
use Rattle.std.proofs.Common.{◌≡◌, ℕ, zero, suc, ◌<◌, ◌≤◌, Bool, true, false, List, [], ◌∷◌, length, get_or, refl, inl, inr, ⊎_elim, ◌⊎◌, arith, nat_le}
use Rattle.std.specs.Prelude.{Contains, ◌↔◌}
use Rattle.std.specs.List.{AllByRecursion}
use Rattle.std.proofs.lemmas.Bool.{cases_lt}
use Rattle.std.proofs.lemmas.Bool.Decides.{nat_tests}
use Rattle.std.proofs.lemmas.List.Elements.{All-from_recursion, recursion_from_All}
use Rattle.bohm_place.specs.Chains.{RisesFrom, kept, IsKept}

abbrev Mem : ℕ → List ℕ → Type 0
Mem b [] = ⊥
Mem b (c ∷ cs) = (c ≡ b) ⊎ Mem b cs

mem_of : (xs : List ℕ) (b k : ℕ) → k < length xs → get_or xs k b ≡ b → Mem b xs
mem_of [] b k lt e = absurd (omega arith)
mem_of (x ∷ xs) b zero lt e = inl e
mem_of (x ∷ xs) b (suc k) lt e = inr (mem_of xs b k (omega arith) e)

contains_of : (xs : List ℕ) (b : ℕ) → Mem b xs → Contains xs b
contains_of [] b m = absurd m
contains_of (x ∷ xs) b (inl e) = (0, omega arith, e)
contains_of (x ∷ xs) b (inr m) = let (k, lt, e) = contains_of xs b m in (suc k, omega arith, e)

-- no begin at or below the floor is above b
abbrev Tops : ℕ → ℕ → List ℕ → Type 0
Tops floor b bs = AllByRecursion (λ c. c ≤ floor → c ≤ b) bs

abbrev Stays : ℕ → List ℕ → ℕ → Type 0
Stays floor bs b = Mem b bs × ((floor < b) ⊎ ((b ≤ floor) × Tops floor b bs))

mem_above : (n b : ℕ) (bs : List ℕ) → RisesFrom n bs → Mem b bs → n < b
mem_above n b [] r m = absurd m
mem_above n b (c ∷ cs) r (inl e) = omega (arith, r.0)
mem_above n b (c ∷ cs) r (inr m) = let lt = mem_above c b cs r.1 m in omega (arith, r.0)

tops_past : (floor n b : ℕ) (bs : List ℕ) → floor ≤ n → RisesFrom n bs → Tops floor b bs
tops_past floor n b [] le r = tt
tops_past floor n b (c ∷ cs) le r = ((λ low. absurd (omega (arith, r.0))), tops_past floor c b cs (omega (arith, r.0)) r.1)

to_by : (floor x c b : ℕ) (cs : List ℕ) (t : Bool) → nat_le c floor ≡ t → x < c → Stays floor (x ∷ c ∷ cs) b
    → (Stays floor (c ∷ cs) b → Mem b (kept floor (c ∷ cs))) → Mem b (kept floor (x ∷ c ∷ cs))
to_by floor x c b cs true e lt (inl same, inl above) more = absurd (grind (arith, nat_tests))
to_by floor x c b cs true e lt (inl same, inr (low, tops)) more =
    absurd (let le : c ≤ floor = grind (arith, nat_tests) in let past = tops.1.0 le in omega arith)
to_by floor x c b cs true e lt (inr m, inl above) more = rw e (more (m, inl above))
to_by floor x c b cs true e lt (inr m, inr (low, tops)) more = rw e (more (m, inr (low, tops.1)))
to_by floor x c b cs false e lt (m, d) more = rw e m

to : (floor n b : ℕ) (bs : List ℕ) → RisesFrom n bs → Stays floor bs b → Mem b (kept floor bs)
to floor n b [] r s = absurd s.0
to floor n b (x ∷ []) r s = s.0
to floor n b (x ∷ c ∷ cs) r s = to_by floor x c b cs (nat_le c floor) refl r.1.0 s (to floor x b (c ∷ cs) r.1)

alone : (floor x b : ℕ) (cs : List ℕ) → x ≡ b → (x ≤ floor → Tops floor b cs) → Stays floor (x ∷ cs) b
alone floor x b cs same tops = (inl same, ⊎_elim (λ lt. inl (omega arith)) (λ le. inr (omega arith, ((λ low. omega arith), tops le))) (cases_lt floor x))

from_by : (floor x c b : ℕ) (cs : List ℕ) (t : Bool) → nat_le c floor ≡ t → x < c → RisesFrom c cs → Mem b (kept floor (x ∷ c ∷ cs))
    → (Mem b (kept floor (c ∷ cs)) → Stays floor (c ∷ cs) b) → Stays floor (x ∷ c ∷ cs) b
from_by floor x c b cs true e lt r m more =
    let s = more (rw e at m) in
    let above = mem_above x b (c ∷ cs) (lt, r) s.0 in
    (inr s.0, ⊎_elim inl (λ (low, tops). inr (low, ((λ h. omega arith), tops))) s.1)
from_by floor x c b cs false e lt r m more =
    let past : floor < c = grind (arith, nat_tests) in
    ⊎_elim
    (λ same. alone floor x b (c ∷ cs) same (λ le. tops_past floor floor b (c ∷ cs) (omega arith) (past, r)))
    (λ (there : Mem b (c ∷ cs)). (inr there, inl (mem_above floor b (c ∷ cs) (past, r) there)))
    (rw e at m)

from : (floor n b : ℕ) (bs : List ℕ) → RisesFrom n bs → Mem b (kept floor bs) → Stays floor bs b
from floor n b [] r m = absurd m
from floor n b (x ∷ []) r (inl same) = alone floor x b [] same (λ le. tt)
from floor n b (x ∷ []) r (inr m) = absurd m
from floor n b (x ∷ c ∷ cs) r m = from_by floor x c b cs (nat_le c floor) refl r.1.0 r.1.1 m (from floor x b (c ∷ cs) r.1)

pub kept_contains : (floor n b : ℕ) (bs : List ℕ) → RisesFrom n bs → IsKept floor bs b ↔ Contains (kept floor bs) b
kept_contains floor n b bs r = (
  λ s. contains_of (kept floor bs) b (to floor n b bs r
      (mem_of bs b s.0.0 s.0.1 s.0.2, ⊎_elim inl (λ (low, tops). inr (low, recursion_from_All (λ c. c ≤ floor → c ≤ b) bs tops)) s.1)),
  λ h. (let s = from floor n b bs r (mem_of (kept floor bs) b h.0 h.1 h.2) in
      (contains_of bs b s.0, ⊎_elim inl (λ (low, tops). inr (low, All-from_recursion (λ c. c ≤ floor → c ≤ b) bs tops)) s.1)),
)
