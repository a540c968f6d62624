-- Each arrow leads to a later position of the part, so both ends are in the part.
use Rattle.std.proofs.Common.{◌≡◌, ℕ, zero, suc, ◌<◌, ◌≤◌, List, [], ◌∷◌, All, Bool, true, false, cond, Option, Some, None, option_map, refl, arith}
use Rattle.std.specs.List.{filter_map, cons_option}
use Rattle.std.proofs.lemmas.List.Elements.{All-append, All-nil, All-cons}
use Rattle.bohm_types.specs.Txn.{Txn}
use Rattle.bohm_place.specs.declared.declared_set.DeclaredSet.TheVariants.{Reads, Writes}
use Rattle.bohm_explain.specs.declared.arrow.Arrow.{Arrow}
use Rattle.bohm_explain.specs.Heaviest.{IsInside}
use Rattle.bohm_explain.specs.Wanted.{writes_at, newest_before, arrow_of, arrows_below, arrows_at, is_sure_at, keys_at}

-- the arrow leads to a later position, one of the first n
abbrev pub IsForward : ℕ → Arrow → Type 0
IsForward n a = (a.from < a.to) × (a.to < n)

pub below : (txns : List Txn) (k : List ℕ) (p f : ℕ) → newest_before txns k p ≡ Some f → f < p
below txns k zero f is = absurd cc
below txns k (suc p) f is = by (writes_at txns k p) is (below txns k p f)
  where
    by : (b : Bool) → cond b (Some p) (newest_before txns k p) ≡ Some f → (newest_before txns k p ≡ Some f → f < p) → f < suc p
    by true e lower = let same : p ≡ f = cc in omega (arith, same)
    by false e lower = let lt : f < p = lower e in omega arith

module _ (txns : List Txn) (n p : ℕ) (inside : p < n) where
  one : (k : List ℕ) (o : Option ℕ) (rest : List Arrow) → newest_before txns k p ≡ o → All (IsForward n) rest
      → All (IsForward n) (cons_option (option_map (λ f. record { from = f; to = p; key = k }) o) rest)
  one k None rest is h = h
  one k (Some f) rest is h = All-cons (IsForward n) (record { from = f; to = p; key = k }) rest (below txns k p f is, inside) h

  pub for_keys : (ks : List (List ℕ)) → All (IsForward n) (filter_map (arrow_of txns p) ks)
  for_keys [] = All-nil (IsForward n)
  for_keys (k ∷ ks) = one k (newest_before txns k p) (filter_map (arrow_of txns p) ks) refl (for_keys ks)

  for_writes : (b : Bool) → All (IsForward n) (cond b [] (filter_map (arrow_of txns p) (keys_at Writes txns p)))
  for_writes true = All-nil (IsForward n)
  for_writes false = for_keys (keys_at Writes txns p)

  pub at_position : All (IsForward n) (arrows_at txns p)
  at_position = All-append (IsForward n) (filter_map (arrow_of txns p) (keys_at Reads txns p))
      (cond (is_sure_at txns p) [] (filter_map (arrow_of txns p) (keys_at Writes txns p))) (for_keys (keys_at Reads txns p)) (for_writes (is_sure_at txns p))

pub forward_below : (txns : List Txn) (n p : ℕ) → p ≤ n → All (IsForward n) (arrows_below txns p)
forward_below txns n zero le = All-nil (IsForward n)
forward_below txns n (suc p) le = All-append (IsForward n) (arrows_below txns p) (arrows_at txns p) (forward_below txns n p (omega arith))
    (at_position txns n p (omega arith))

pub inside_below : (txns : List Txn) (n p : ℕ) → p ≤ n → All (IsInside n) (arrows_below txns p)
inside_below txns n p le i d few =
    let (later, inside) = forward_below txns n p le i d few in
    (omega (arith, later, inside), inside)
