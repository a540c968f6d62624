-- Keys in ascending order differ from one another.
use Rattle.std.proofs.Common.{◌≡◌, ℕ, zero, suc, ◌<◌, true, false, List, [], ◌∷◌, length, take, get_or, refl, sym, subst, arith}
use Rattle.std.specs.Prelude.{◌||◌}
use Rattle.std.specs.Cmp.{tied_itself}
use Rattle.std.specs.Cmp.Lexicographic.{slice_cmp, nat_list_cmp_total}
use Rattle.std.specs.List.{list_any, AllByRecursion, IsDistinct}
use Rattle.std.specs.Ordering.{nat_cmp, is_lt}
use Rattle.std.specs.Str.{bytes_eq}
use Rattle.std.specs.declared.cmp.Ordering.{Ordering}
use Rattle.std.specs.declared.cmp.Ordering.TheVariants.{Less, Equal, Greater}
use Rattle.std.proofs.lemmas.Bool.{and_parts, false_from_ne_true}
use Rattle.std.proofs.lemmas.Option.{slice_get-get_or}
use Rattle.bohm_types.specs.Keys.{IsAmong, is_among, rising, rises_from}
use Rattle.bohm_txn.proofs.Bodies.{among_at}
use Rattle.bohm_log.proofs.ForCallers.{same_key, other_key}

pub among_more : (x k : List ℕ) (xs : List (List ℕ)) → bytes_eq x k ≡ false → IsAmong (x ∷ xs) k → IsAmong xs k
among_more x k xs e among = subst (λ b. (b || list_any (λ y. bytes_eq y k) xs) ≡ true) e among

pub among_first : (x k : List ℕ) (xs : List (List ℕ)) → bytes_eq x k ≡ true → IsAmong (x ∷ xs) k
among_first x k xs e = rw e refl

pub among_then : (x k : List ℕ) (xs : List (List ℕ)) → IsAmong xs k → IsAmong (x ∷ xs) k
among_then x k xs among =
    elim (bytes_eq x k) as (λ b. (b || list_any (λ y. bytes_eq y k) xs) ≡ true) [ true ↦ refl | false ↦ among ]

-- no key occurs twice
abbrev pub AllApart : List (List ℕ) → Type 0
AllApart [] = Unit {0}
AllApart (x ∷ xs) = (¬ IsAmong xs x) × AllApart xs

pub less : (o : Ordering) → is_lt o ≡ true → o ≡ Less
less Less e = refl
less Equal e = absurd cc
less Greater e = absurd cc

-- if k and then the keys ascend, k is below each of the keys
pub below_all : (k : List ℕ) (ks : List (List ℕ)) → rises_from k ks ≡ true → (q : List ℕ) → IsAmong ks q → slice_cmp nat_cmp k q ≡ Less
below_all k [] e q among = absurd cc
below_all k (n ∷ ns) e q among =
    let (first, rest) = and_parts (is_lt (slice_cmp nat_cmp k n)) (rises_from n ns) e in
    let here : slice_cmp nat_cmp k n ≡ Less = less (slice_cmp nat_cmp k n) first in
    elim (bytes_eq n q) as (λ b. bytes_eq n q ≡ b → slice_cmp nat_cmp k q ≡ Less) [
      | true ↦ λ h. subst (λ y. slice_cmp nat_cmp k y ≡ Less) (same_key n q h) here
      | false ↦ λ h. nat_list_cmp_total.trans k n q here (below_all n ns rest q (among_more n q ns h among))
    ] refl

not_less : (k : List ℕ) → ¬ (slice_cmp nat_cmp k k ≡ Less)
not_less k e = let tied : slice_cmp nat_cmp k k ≡ Equal = tied_itself nat_list_cmp_total k in cc

apart_from : (k : List ℕ) (ks : List (List ℕ)) → rises_from k ks ≡ true → AllApart (k ∷ ks)
apart_from k [] e = (λ among. cc, tt)
apart_from k (n ∷ ns) e = (
  λ among. not_less k (below_all k (n ∷ ns) e k among),
  apart_from n ns (and_parts (is_lt (slice_cmp nat_cmp k n)) (rises_from n ns) e).1,
)

pub rising_apart : (ks : List (List ℕ)) → rising ks ≡ true → AllApart ks
rising_apart [] e = tt
rising_apart (k ∷ ks) e = apart_from k ks e

differs : (k : List ℕ) (ks : List (List ℕ)) (x : List ℕ) → ¬ IsAmong ks k → IsAmong ks x → bytes_eq k x ≡ false
differs k ks x absent has = false_from_ne_true (bytes_eq k x) (λ e. absent (subst (λ (y : List ℕ). IsAmong ks y) (sym (same_key k x e)) has))

-- in a list without duplicates, the key at an index doesn't occur before the index
pub none_before : (ks : List (List ℕ)) (i : ℕ) (d : List ℕ) → i < length ks → AllApart ks → is_among (take i ks) (get_or ks i d) ≡ false
none_before [] i d inside apart = absurd (omega arith)
none_before (k ∷ ks) zero d inside apart = refl
none_before (k ∷ ks) (suc i) d inside apart =
    let there : IsAmong ks (get_or ks i d) = among_at ks i (get_or ks i d) (slice_get-get_or ks i d (omega arith)) in
    rw (differs k ks (get_or ks i d) apart.0 there, none_before ks i d (omega arith) apart.1) refl

pub apart_each : (x : List ℕ) (ks : List (List ℕ)) → ¬ IsAmong ks x → AllByRecursion (λ y. bytes_eq x y ≡ false) ks
apart_each x [] h = tt
apart_each x (k ∷ ks) h = (
  other_key k x (false_from_ne_true (bytes_eq k x) (λ e. h (among_first k x ks e))),
  apart_each x ks (λ among. h (among_then k x ks among)),
)

distinct_apart : (ks : List (List ℕ)) → AllApart ks → IsDistinct bytes_eq ks
unfolding IsDistinct
distinct_apart [] h = tt
distinct_apart (k ∷ ks) h = (apart_each k ks h.0, distinct_apart ks h.1)

pub rising_distinct : (ks : List (List ℕ)) → rising ks ≡ true → IsDistinct bytes_eq ks
rising_distinct ks h = distinct_apart ks (rising_apart ks h)
