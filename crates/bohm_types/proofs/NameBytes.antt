-- The table of the bytes that a name may have.
use Rattle.std.proofs.Common.{◌≡◌, ℕ, zero, suc, ◌+◌, ◌<◌, ◌==◌, Bool, true, false, List, [], ◌∷◌, length, slice_index, refl, subst, arith}
use Rattle.std.specs.Prelude.{◌&&◌}
use Rattle.std.proofs.lemmas.Bool.{and_parts}
use Rattle.bohm_types.specs.Name.{is_name_byte}
use Rattle.bohm_types.specs.declared.key.TheConstants.{NAME_BYTES}

alike : Bool → Bool → Bool
alike true b = b
alike false true = false
alike false false = true

are_alike : (a b : Bool) → alike a b ≡ true → a ≡ b
unfolding alike
are_alike true true e = refl
are_alike true false e = absurd cc
are_alike false true e = absurd cc
are_alike false false e = refl

-- each entry of the table is its byte if a name may have that byte, and another one otherwise
agree : List ℕ → ℕ → Bool
agree [] byte = true
agree (entry ∷ entries) byte = alike (entry == byte) (is_name_byte byte) && agree entries (suc byte)

agrees_at : (entries : List ℕ) (byte i : ℕ) → agree entries byte ≡ true → i < length entries → (slice_index entries i == (byte + i)) ≡ is_name_byte (byte + i)
unfolding agree
agrees_at [] byte i e h = absurd (omega (arith, h))
agrees_at (entry ∷ entries) byte zero e h =
    let same : byte ≡ byte + 0 = omega arith in
    subst (λ n. (entry == n) ≡ is_name_byte n) same
    (are_alike (entry == byte) (is_name_byte byte) (and_parts (alike (entry == byte) (is_name_byte byte)) (agree entries (suc byte)) e).0)
agrees_at (entry ∷ entries) byte (suc i) e h =
    let same : suc byte + i ≡ byte + suc i = omega arith in
    subst (λ n. (slice_index entries i == n) ≡ is_name_byte n) same
    (agrees_at entries (suc byte) i (and_parts (alike (entry == byte) (is_name_byte byte)) (agree entries (suc byte)) e).1 (omega (arith, h)))

pub in_table : (byte : ℕ) → byte < 256 → (slice_index NAME_BYTES byte == byte) ≡ is_name_byte byte
unfolding agree alike
in_table byte h =
    let same : 0 + byte ≡ byte = omega arith in
    subst (λ n. (slice_index NAME_BYTES byte == n) ≡ is_name_byte n) same (agrees_at NAME_BYTES 0 byte refl h)
