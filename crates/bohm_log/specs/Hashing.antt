-- The hash of a key.
use Rattle.std.specs.Prelude.{ℕ, ◌*◌, ◌/◌, ◌-◌, ◌^◌, bit_and, bit_xor}

-- the two halves of the 128 bits of a product, joined by exclusive or
unfoldable pub folded : ℕ → ℕ → ℕ
folded a b = bit_xor (bit_and (a * b) (2 ^ 64 - 1)) (a * b / 2 ^ 64)
