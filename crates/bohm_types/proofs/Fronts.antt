-- The first bytes of eight bytes that were read as one number.
use Rattle.std.proofs.Common.{◌≡◌, ℕ, zero, suc, ◌-◌, ◌*◌, ◌/◌, ◌%◌, ◌^◌, ◌<◌, ◌≤◌, List, [], ◌∷◌, length, take, arith}
use Rattle.std.specs.Int.{w64, from_be_bytes}
use Rattle.bohm_types.specs.Words.{padded}
use Rattle.bohm_types.specs.Spreading.{AreBytes}

abbrev shifted : ℕ → ℕ → ℕ
shifted n block = block / 2 ^ (64 - 8 * n) * 2 ^ (64 - 8 * n) % 2 ^ 64

of_eight : (n a b c d e f g h : ℕ) (rest : List ℕ) → AreBytes (a ∷ b ∷ c ∷ d ∷ e ∷ f ∷ g ∷ h ∷ rest) → 0 < n → n < 8
    → shifted n (from_be_bytes w64 (a ∷ b ∷ c ∷ d ∷ e ∷ f ∷ g ∷ h ∷ [])) ≡ from_be_bytes w64 (padded 8 (take n (a ∷ b ∷ c ∷ d ∷ e ∷ f ∷ g ∷ h ∷ rest)))
of_eight zero a b c d e f g h rest bytes some few = absurd (omega (arith, some))
of_eight (suc zero) a b c d e f g h rest bytes some few = omega (arith, bytes 0, bytes 1, bytes 2, bytes 3, bytes 4, bytes 5, bytes 6, bytes 7)
of_eight (suc (suc zero)) a b c d e f g h rest bytes some few = omega (arith, bytes 0, bytes 1, bytes 2, bytes 3, bytes 4, bytes 5, bytes 6, bytes 7)
of_eight (suc (suc (suc zero))) a b c d e f g h rest bytes some few = omega (arith, bytes 0, bytes 1, bytes 2, bytes 3, bytes 4, bytes 5, bytes 6, bytes 7)
of_eight (suc (suc (suc (suc zero)))) a b c d e f g h rest bytes some few =
    omega (arith, bytes 0, bytes 1, bytes 2, bytes 3, bytes 4, bytes 5, bytes 6, bytes 7)
of_eight (suc (suc (suc (suc (suc zero))))) a b c d e f g h rest bytes some few =
    omega (arith, bytes 0, bytes 1, bytes 2, bytes 3, bytes 4, bytes 5, bytes 6, bytes 7)
of_eight (suc (suc (suc (suc (suc (suc zero)))))) a b c d e f g h rest bytes some few =
    omega (arith, bytes 0, bytes 1, bytes 2, bytes 3, bytes 4, bytes 5, bytes 6, bytes 7)
of_eight (suc (suc (suc (suc (suc (suc (suc zero))))))) a b c d e f g h rest bytes some few =
    omega (arith, bytes 0, bytes 1, bytes 2, bytes 3, bytes 4, bytes 5, bytes 6, bytes 7)
of_eight (suc (suc (suc (suc (suc (suc (suc (suc n)))))))) a b c d e f g h rest bytes some few = absurd (omega (arith, few))

-- shifting a number out and back in keeps its first n bytes and makes zeros of the bytes after them
pub of_text : (n : ℕ) (text : List ℕ) → AreBytes text → 8 ≤ length text → 0 < n → n < 8
    → shifted n (from_be_bytes w64 (padded 8 text)) ≡ from_be_bytes w64 (padded 8 (take n text))
of_text n [] bytes long some few = absurd (omega (arith, long))
of_text n (a ∷ []) bytes long some few = absurd (omega (arith, long))
of_text n (a ∷ b ∷ []) bytes long some few = absurd (omega (arith, long))
of_text n (a ∷ b ∷ c ∷ []) bytes long some few = absurd (omega (arith, long))
of_text n (a ∷ b ∷ c ∷ d ∷ []) bytes long some few = absurd (omega (arith, long))
of_text n (a ∷ b ∷ c ∷ d ∷ e ∷ []) bytes long some few = absurd (omega (arith, long))
of_text n (a ∷ b ∷ c ∷ d ∷ e ∷ f ∷ []) bytes long some few = absurd (omega (arith, long))
of_text n (a ∷ b ∷ c ∷ d ∷ e ∷ f ∷ g ∷ []) bytes long some few = absurd (omega (arith, long))
of_text n (a ∷ b ∷ c ∷ d ∷ e ∷ f ∷ g ∷ h ∷ rest) bytes long some few = of_eight n a b c d e f g h rest bytes some few
