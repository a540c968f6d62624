-- A sum is sure if and only if all its terms are literals and their total is in range.
use Rattle.std.proofs.Common.{◌≡◌, ℕ, ◌+◌, ◌^◌, Bool, true, false, List, [], ◌∷◌, Some, None, Ok, Err, refl, ap, sym, ◌∙◌, arith}
use Rattle.std.specs.Prelude.{ℤ, pos, negsuc, ◌-ℤ◌, ◌&&◌, nat_lt, nat_le, is_ok, if◌then◌else◌}
use Rattle.std.specs.List.{list_all}
use Rattle.std.proofs.lemmas.Bool.Decides.{nat_tests}
use Rattle.std.proofs.lemmas.Int.{ints}
use Rattle.bohm_types.specs.declared.cell.Cell.TheVariants.{Absent}
use Rattle.bohm_types.specs.Term.{Atom, Lit, Read, Local}
use Rattle.bohm_txn.specs.declared.outcome.Reason.TheVariants.{Range}
use Rattle.bohm_txn.specs.declared.sureness.Literals.{Literals}
use Rattle.bohm_txn.specs.Literals.{none_yet, with_literal, literals_from, total_fits}
use Rattle.bohm_txn.specs.Meaning.{signed, total_from, fits, in_range, sum_value}
use Rattle.bohm_txn.specs.Sure.{is_lit, is_sure_sum}

abbrev total : Literals → ℤ
total l = pos l.added -ℤ pos l.taken

signed-total : (l : Literals) (minus : Bool) (n : ℕ) → signed (total l) minus (pos n) ≡ total (with_literal l minus n)
signed-total l true n = omega (arith, ints)
signed-total l false n = omega (arith, ints)

found : (l r : Literals) (ts : List (Bool × Atom)) → literals_from l ts ≡ Some r
    → (list_all (λ t. is_lit t.1) ts ≡ true) × (total_from (λ k. Absent) [] (total l) ts ≡ Some (total r))
found l r [] e = let same : l ≡ r = cc in (refl, ap (λ x. Some (total x)) same)
found l r ((minus, Lit n) ∷ ts) e =
    let rest = found (with_literal l minus n) r ts e in
    (rest.0, ap (λ z. total_from (λ k. Absent) [] z ts) (signed-total l minus n) ∙ rest.1)
found l r ((minus, Read k) ∷ ts) e = absurd (let no : None ≡ Some r = e in cc)
found l r ((minus, Local x) ∷ ts) e = absurd (let no : None ≡ Some r = e in cc)

others : (l : Literals) (ts : List (Bool × Atom)) → literals_from l ts ≡ None → list_all (λ t. is_lit t.1) ts ≡ false
others l [] e = absurd (let no : Some l ≡ None = e in cc)
others l ((minus, Lit n) ∷ ts) e = others (with_literal l minus n) ts e
others l ((minus, Read k) ∷ ts) e = refl
others l ((minus, Local x) ∷ ts) e = refl

within : (a b : ℕ) (z : ℤ) → pos a -ℤ pos b ≡ z → fits z ≡ (nat_lt a (b + 2 ^ 63) && nat_le b (a + 2 ^ 63))
within a b (pos n) e = let same : a ≡ b + n = omega (arith, ints, e) in grind (arith, nat_tests)
within a b (negsuc n) e = let same : b ≡ a + n + 1 = omega (arith, ints, e) in grind (arith, nat_tests)

ok-in_range : (z : ℤ) → is_ok (in_range (Some z)) ≡ fits z
ok-in_range z = elim (fits z) as (λ b. is_ok (if b then Ok z else Err Range) ≡ b) [ true ↦ refl | false ↦ refl ]

pub sure_literals : (sum : List (Bool × Atom)) (l : Literals) → Some l ≡ literals_from none_yet sum → total_fits l ≡ is_sure_sum sum
sure_literals sum l e =
    let (literal, is) = found none_yet l sum (sym e) in
    sym (ap (λ b. b && is_ok (sum_value (λ k. Absent) [] sum)) literal ∙ ap (λ o. is_ok (in_range o)) is ∙ ok-in_range (total l)
    ∙ within l.added l.taken (total l) refl)

pub no_literals : (sum : List (Bool × Atom)) → None ≡ literals_from none_yet sum → false ≡ is_sure_sum sum
no_literals sum e = sym (ap (λ b. b && is_ok (sum_value (λ k. Absent) [] sum)) (others none_yet sum (sym e)))
