-- A name has at most 32 bytes, none of them 0.
use Rattle.std.proofs.Common.{◌≡◌, ℕ, ◌+◌, ◌<◌, ◌≤◌, true, List, [], ◌∷◌, length, arith}
use Rattle.std.specs.Prelude.{◌&&◌, nat_le}
use Rattle.std.specs.List.{list_all, AllByRecursion}
use Rattle.std.specs.Char.{is_ascii_lowercase}
use Rattle.std.proofs.lemmas.Bool.{and_parts}
use Rattle.std.proofs.lemmas.Bool.Decides.{nat_tests}
use Rattle.bohm_types.specs.Name.{is_name, is_name_byte}
use Rattle.bohm_types.specs.Words.{IsFilled, IsShort}

some_byte : (c : ℕ) → is_name_byte c ≡ true → 0 < c
some_byte c e = grind (arith, nat_tests)

one_byte : (c : ℕ) → is_name_byte c ≡ true → c < 256
one_byte c e = grind (arith, nat_tests)

filled : (cs : List ℕ) → list_all is_name_byte cs ≡ true → AllByRecursion IsFilled cs
filled [] e = tt
filled (c ∷ cs) e =
    let p = and_parts (is_name_byte c) (list_all is_name_byte cs) e in
    (record { some = some_byte c p.0; byte = one_byte c p.0 }, filled cs p.1)

some_letter : (c : ℕ) → is_ascii_lowercase c ≡ true → 0 < c
some_letter c e = grind (arith, nat_tests)

one_letter : (c : ℕ) → is_ascii_lowercase c ≡ true → c < 256
one_letter c e = grind (arith, nat_tests)

few : (n : ℕ) → nat_le n 31 ≡ true → n + 1 ≤ 32
few n e = grind (arith, nat_tests)

pub short : (name : List ℕ) → is_name name ≡ true → IsShort name
short [] e = absurd cc
short (c ∷ cs) e =
    let p = and_parts (nat_le (length cs) 31 && is_ascii_lowercase c) (list_all is_name_byte cs) e in
    let q = and_parts (nat_le (length cs) 31) (is_ascii_lowercase c) p.0 in
    record {
      few = omega (arith, few (length cs) q.0);
      filled = (record { some = some_letter c q.1; byte = one_letter c q.1 }, filled cs p.1);
    }
