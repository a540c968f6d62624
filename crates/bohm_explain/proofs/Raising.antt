-- The longest chains of keys after one more arrow.
use Rattle.std.proofs.Common.{◌≡◌, ℕ, Bool, true, false, List, [], ◌∷◌, ◌++◌, max, length, refl, ap, arith, if◌then◌else◌, ◌⊎◌, inl, inr}
use Rattle.std.specs.List.{zip}
use Rattle.std.specs.Str.{bytes_eq}
use Rattle.bohm_explain.specs.declared.arrow.Arrow.{Arrow}
use Rattle.bohm_explain.specs.declared.tallies.Tally.{Tally}
use Rattle.bohm_explain.specs.Heats.{Chained, chain_in, chain_of}
use Rattle.bohm_explain.specs.Tallies.{raised}

raised_twice : (t : Tally) (m n : ℕ) → raised (raised t m) n ≡ raised t (max m n)
raised_twice t m n =
    let same : max (max t.chain m) n ≡ max t.chain (max m n) = omega arith in
    ap (λ (c : ℕ). record { writers = t.writers; readers = t.readers; chain = c }) same

raised_by : (k : List ℕ) (a : Arrow) (n : ℕ) (rest : Chained) (old new : Tally) (b : Bool) → bytes_eq a.key k ≡ b → new ≡ (if b then raised old n else old)
    → raised new (chain_in k rest) ≡ raised old (chain_in k ((a, n) ∷ rest))
raised_by k a n rest old new true e is = rw (is, e) (raised_twice old n (chain_in k rest))
raised_by k a n rest old new false e is = rw (is, e) refl

pub raised_arrow : (k : List ℕ) (a : Arrow) (n : ℕ) (rest : Chained) (old new : Tally) → new ≡ (if bytes_eq a.key k then raised old n else old)
    → raised new (chain_in k rest) ≡ raised old (chain_in k ((a, n) ∷ rest))
raised_arrow k a n rest old new is = raised_by k a n rest old new (bytes_eq a.key k) refl is

-- without arrows, or without numbers, no key has a chain
pub no_chain : (k : List ℕ) (arrows : List Arrow) (ns : List ℕ) → (length arrows ≡ 0) ⊎ (length ns ≡ 0) → chain_in k (zip arrows ns) ≡ 0
no_chain k [] ns e = refl
no_chain k (a ∷ more) [] e = refl
no_chain k (a ∷ more) (n ∷ ns) (inl e) = absurd (omega arith)
no_chain k (a ∷ more) (n ∷ ns) (inr e) = absurd (omega arith)

pub raised_none : (t : Tally) → raised t 0 ≡ t
raised_none t = let same : max t.chain 0 ≡ t.chain = omega arith in ap (λ (c : ℕ). record { writers = t.writers; readers = t.readers; chain = c }) same

-- ---- the longest chain after one more part

pub chain_push : (k : List ℕ) (batches : List Chained) (batch : Chained) → chain_of k (batches ++ batch ∷ []) ≡ max (chain_of k batches) (chain_in k batch)
chain_push k [] batch = let same : max (chain_in k batch) 0 ≡ max 0 (chain_in k batch) = omega arith in same
chain_push k (b ∷ bs) batch =
    let rest = chain_push k bs batch in
    rw rest (let same : max (chain_in k b) (max (chain_of k bs) (chain_in k batch)) ≡ max (max (chain_in k b) (chain_of k bs)) (chain_in k batch) =
    omega arith in same)
