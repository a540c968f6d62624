-- How keys compare.
use Rattle.std.proofs.Common.{◌≡◌, ℕ, List, true, false, refl, sym, subst}
use Rattle.std.specs.declared.cmp.Ordering.{Ordering}
use Rattle.std.specs.declared.cmp.Ordering.TheVariants.{Less, Equal, Greater}
use Rattle.std.specs.Ordering.{nat_cmp, is_lt, ordering_reverse, eq_by_cmp}
use Rattle.std.specs.Str.{bytes_eq}
use Rattle.std.specs.Cmp.Lexicographic.{slice_cmp, nat_list_cmp_total, texts_ties}

abbrev key_cmp : List ℕ → List ℕ → Ordering
key_cmp = slice_cmp nat_cmp

turned : (o : Ordering) → is_lt o ≡ true → is_lt (ordering_reverse o) ≡ false
turned Less e = refl
turned Equal e = refl
turned Greater e = cc

pub no_fall : (a b : List ℕ) → is_lt (key_cmp a b) ≡ true → is_lt (key_cmp b a) ≡ false
no_fall a b e = subst (λ o. is_lt o ≡ false) (sym (nat_list_cmp_total.antisymm b a)) (turned (key_cmp a b) e)

pub same_at : (a b : List ℕ) (o : Ordering) → key_cmp a b ≡ o → bytes_eq a b ≡ eq_by_cmp (λ x y. o) a b
same_at a b o e = subst (λ r. bytes_eq a b ≡ eq_by_cmp (λ x y. r) a b) e (texts_ties a b)
