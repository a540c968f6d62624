-- Numbers of evaluations, one after another.
use Rattle.std.proofs.Common.{◌≡◌, ◌∙◌, ℕ, zero, suc, ◌+◌, ◌-◌, ◌^◌, length, ap, sym, arith, refl, zero-add}
use Rattle.std.specs.Prelude.{min}
use Rattle.bohm_board.specs.declared.knowledge.View.{View}
use Rattle.bohm_exec.specs.Counts.{AreCounted, counted_on}

on_again : (n k j : ℕ) → counted_on (counted_on n k) j ≡ counted_on n (k + j)
on_again n zero j = ap (counted_on n) (sym (zero-add j))
on_again n (suc k) zero = let same : suc k ≡ suc k + 0 = omega arith in ap (counted_on n) same
on_again n (suc k) (suc j) =
    let same : suc (k + suc j) ≡ suc k + suc j = omega arith in
    let both : min (min (n + suc k) (2 ^ 64 - 1) + suc j) (2 ^ 64 - 1) ≡ min (n + suc (k + suc j)) (2 ^ 64 - 1) = omega arith in
    both ∙ ap (counted_on n) same

pub counted_whole : (n : ℕ) → counted_on 0 n ≡ min n (2 ^ 64 - 1)
counted_whole zero = omega arith
counted_whole (suc n) = omega arith

pub counted_same : (n m : ℕ) (v w : View) → m ≡ n → w.finished ≡ v.finished → AreCounted n v m w
counted_same n m v w is same = record { more = 0; finished = omega (arith, ap length same); counted = is }

pub counted_then : (a b c : ℕ) (u v w : View) → AreCounted a u b v → AreCounted b v c w → AreCounted a u c w
counted_then a b c u v w first second = record {
  more = first.more + second.more;
  finished = omega (arith, first.finished, second.finished);
  counted = second.counted ∙ (ap (λ n. counted_on n second.more) first.counted ∙ on_again a first.more second.more);
}
