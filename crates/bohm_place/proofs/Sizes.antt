-- The sizes of batches, and their sums.
use Rattle.std.proofs.Common.{◌≡◌, ℕ, ◌+◌, ◌*◌, ◌/◌, ◌%◌, ◌<◌, ◌≤◌, List, [], ◌∷◌, ◌++◌, length, true, arith, replicate, ◌∙◌, ap, All}
use Rattle.std.specs.Prelude.{slice_index, slice_index_or, nat_le}
use Rattle.std.specs.List.{sum, list_all}
use Rattle.std.proofs.Math.Nat.{mod-lt}
use Rattle.std.proofs.Math.ListN.{get_or-append}
use Rattle.std.proofs.lemmas.Bool.{and_parts, and_from}
use Rattle.std.proofs.lemmas.Bool.Decides.{nat_tests}
use Rattle.std.proofs.lemmas.List.{length-replicate, get_or-replicate, length-append}
use Rattle.std.proofs.lemmas.List.Elements.{All-append, All-cons, All-replicate}
use Rattle.std.proofs.lemmas.List.Folds.{sum_by-replicate}
use Rattle.std.proofs.lemmas.List.Sums.{sum_by_more, sum_by_more_le, sum_by-cons, sum_by_push, AllPass-from_list_all, list_all-from_AllPass}
use Rattle.std.proofs.lemmas.Nat.{div-add-mod'}
use Rattle.bohm_place.specs.Cuttings.{ahead, is_size, are_sizes, IsEven}

pub ahead_next : (sizes : List ℕ) (i : ℕ) → i < length sizes → ahead sizes (i + 1) ≡ ahead sizes i + slice_index sizes i
ahead_next sizes i h = sum_by_more (λ x. x) sizes i 0 h

pub ahead_inside : (sizes : List ℕ) (i : ℕ) → i < length sizes → ahead sizes i + slice_index sizes i ≤ sum sizes
ahead_inside sizes i h = sum_by_more_le (λ x. x) sizes i 0 h

some_size : (n : ℕ) → is_size n ≡ true → 1 ≤ n
some_size n e = let part = (and_parts (nat_le 1 n) (nat_le n 4096) e).0 in grind (arith, nat_tests)

few_size : (n : ℕ) → is_size n ≡ true → n ≤ 4096
few_size n e = let part = (and_parts (nat_le 1 n) (nat_le n 4096) e).1 in grind (arith, nat_tests)

-- there are no more batches than transactions
batches_at_most : (sizes : List ℕ) → list_all is_size sizes ≡ true → length sizes ≤ sum sizes
batches_at_most [] e = omega arith
batches_at_most (n ∷ ns) e =
    let parts = and_parts (is_size n) (list_all is_size ns) e in
    omega (arith, some_size n parts.0, batches_at_most ns parts.1, sum_by-cons (λ x. x) n ns)

pub total_at_most : (sizes : List ℕ) → are_sizes sizes ≡ true → sum sizes ≤ 4294967295
total_at_most sizes e = let part = (and_parts (list_all is_size sizes) (nat_le (sum sizes) 4294967295) e).1 in grind (arith, nat_tests)

pub few_batches : (sizes : List ℕ) → are_sizes sizes ≡ true → length sizes ≤ 4294967295
few_batches sizes e = omega (arith, total_at_most sizes e, batches_at_most sizes (and_parts (list_all is_size sizes) (nat_le (sum sizes) 4294967295) e).0)

is_size_at : (sizes : List ℕ) → are_sizes sizes ≡ true → (i : ℕ) → i < length sizes → is_size (slice_index sizes i) ≡ true
is_size_at sizes e i h = AllPass-from_list_all is_size sizes (and_parts (list_all is_size sizes) (nat_le (sum sizes) 4294967295) e).0 i 0 h

pub size_at : (sizes : List ℕ) → are_sizes sizes ≡ true → (i : ℕ) → i < length sizes → (1 ≤ slice_index sizes i) × (slice_index sizes i ≤ 4096)
size_at sizes e i h = let one = is_size_at sizes e i h in (some_size (slice_index sizes i) one, few_size (slice_index sizes i) one)

-- ---- batches of equal size, and a last batch with the remaining transactions

even_full : (batch q : ℕ) → 1 ≤ batch → IsEven batch (replicate q batch)
even_full batch q some = record {
  each = All-replicate (λ n. (1 ≤ n) × (n ≤ batch)) q batch (some, omega arith);
  full = λ i h. get_or-replicate q i batch 0 (omega (arith, length-replicate q batch));
}

even_rest : (batch q r : ℕ) → 1 ≤ batch → 1 ≤ r → r ≤ batch → IsEven batch (replicate q batch ++ r ∷ [])
even_rest batch q r some left few =
    let P : ℕ → Type 0 = λ n. (1 ≤ n) × (n ≤ batch) in
    let last : All P (r ∷ []) = All-cons P r [] (left, few) (λ k d h. absurd (omega arith)) in
    record {
      each = All-append P (replicate q batch) (r ∷ []) (even_full batch q some).each last;
      full = λ i h.
          let below : i < length (replicate q batch) = omega (arith, length-append (replicate q batch) (r ∷ [])) in
          get_or-append (replicate q batch) (r ∷ []) 0 i below ∙ get_or-replicate q i batch 0 (omega (arith, below, length-replicate q batch));
    }

sum_full : (batch q : ℕ) → sum (replicate q batch) ≡ q * batch
sum_full batch q = sum_by-replicate (λ x. x) q batch

sum_rest : (batch q r : ℕ) → sum (replicate q batch ++ r ∷ []) ≡ q * batch + r
sum_rest batch q r = sum_by_push (λ x. x) (replicate q batch) r ∙ ap (λ n. n + r) (sum_full batch q)

-- the sizes are even, and their total is the length of the log
pub record IsCutEvenly (batch len : ℕ) (sizes : List ℕ) : Type 0 where
  pub even : IsEven batch sizes
  pub total : sum sizes ≡ len

pub cut_full : (batch len : ℕ) (sizes : List ℕ) → 1 ≤ batch → len % batch ≡ 0 → sizes ≡ replicate (len / batch) batch → IsCutEvenly batch len sizes
cut_full batch len sizes some none is =
    let total : sum (replicate (len / batch) batch) ≡ len = omega (arith, sum_full batch (len / batch), div-add-mod' len batch, none) in
    rw is (record { even = even_full batch (len / batch) some; total = total })

pub cut_rest : (batch len : ℕ) (sizes : List ℕ) → 1 ≤ batch → 0 < len % batch → sizes ≡ replicate (len / batch) batch ++ (len % batch) ∷ []
    → IsCutEvenly batch len sizes
cut_rest batch len sizes some left is =
    let below : len % batch < batch = mod-lt len some in
    let even = even_rest batch (len / batch) (len % batch) some left (omega (arith, below)) in
    let total = sum_rest batch (len / batch) (len % batch) ∙ div-add-mod' len batch in
    rw is (record { even = even; total = total })

-- even sizes are possible sizes if the size of a batch and the length of the log are within their limits
pub even_sizes : (batch len : ℕ) (sizes : List ℕ) → batch ≤ 4096 → len ≤ 4294967295 → IsCutEvenly batch len sizes → are_sizes sizes ≡ true
even_sizes batch len sizes few short cut =
    let total : sum sizes ≤ 4294967295 = omega (arith, cut.total) in
    let sized : (n : ℕ) → 1 ≤ n → n ≤ batch → is_size n ≡ true =
    λ n some most. and_from (nat_le 1 n) (nat_le n 4096) (grind (arith, nat_tests)) (grind (arith, nat_tests)) in
    and_from (list_all is_size sizes) (nat_le (sum sizes) 4294967295)
    (list_all-from_AllPass is_size sizes (λ k d h. sized (slice_index_or sizes k d) (cut.even.each k d h).0 (cut.even.each k d h).1))
    (grind (arith, nat_tests))
