-- A range that is longer by one filters to one more number, or to the same numbers.
use Rattle.std.proofs.Common.{◌≡◌, ℕ, zero, suc, ◌+◌, ◌-◌, ◌%◌, ◌∷◌, [], ◌++◌, List, Bool, cond, eqb, refl, ap, sym, ◌∙◌, arith, add-one, append-nil, ne_eqb}
use Rattle.std.specs.List.{filter, range_with_len}
use Rattle.std.proofs.lemmas.Bool.{eq-eqb}
use Rattle.std.proofs.lemmas.List.Elements.{filter-append}

range_more : (a n : ℕ) → range_with_len a (suc n) ≡ range_with_len a n ++ (a + n) ∷ []
range_more a zero = let same : a + 0 ≡ a = omega arith in rw same refl
range_more a (suc n) =
    let same : (a + 1) + n ≡ a + suc n = omega arith in
    ap (λ (xs : List ℕ). a ∷ xs) (range_more (a + 1) n ∙ ap (λ (z : ℕ). range_with_len (a + 1) n ++ z ∷ []) same)

abbrev pub in_stride : ℕ → ℕ → ℕ → ℕ → Bool
in_stride first workers worker t = eqb ((t - first) % workers) worker

strides : (first worker workers n : ℕ) → filter (in_stride first workers worker) (range_with_len first (n + 1)) ≡ filter (in_stride first workers worker)
    (range_with_len first n) ++ cond (eqb (n % workers) worker) ((first + n) ∷ []) []
strides first worker workers n =
    let back : (first + n) - first ≡ n = omega arith in
    rw add-one (ap (filter (in_stride first workers worker)) (range_more first n)
    ∙ (filter-append (in_stride first workers worker) (range_with_len first n) ((first + n) ∷ [])
    ∙ ap (λ (z : ℕ). filter (in_stride first workers worker) (range_with_len first n) ++ cond (eqb (z % workers) worker) ((first + n) ∷ []) []) back))

pub takes : (first worker workers n : ℕ) (xs : List ℕ) → n % workers ≡ worker → xs ≡ filter (in_stride first workers worker) (range_with_len first n)
    → xs ++ (first + n) ∷ [] ≡ filter (in_stride first workers worker) (range_with_len first (n + 1))
takes first worker workers n xs is e =
    let old : List ℕ = filter (in_stride first workers worker) (range_with_len first n) in
    ap (λ (ys : List ℕ). ys ++ (first + n) ∷ []) e
    ∙ sym (strides first worker workers n ∙ ap (λ (b : Bool). old ++ cond b ((first + n) ∷ []) []) (eq-eqb (n % workers) worker is))

pub passes : (first worker workers n : ℕ) (xs : List ℕ) → (n % workers ≡ worker → ⊥) → xs ≡ filter (in_stride first workers worker) (range_with_len first n)
    → xs ≡ filter (in_stride first workers worker) (range_with_len first (n + 1))
passes first worker workers n xs other e =
    let old : List ℕ = filter (in_stride first workers worker) (range_with_len first n) in
    e ∙ sym (strides first worker workers n ∙ (ap (λ (b : Bool). old ++ cond b ((first + n) ∷ []) []) (ne_eqb (n % workers) worker other) ∙ append-nil old))
