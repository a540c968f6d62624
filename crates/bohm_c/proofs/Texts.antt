-- A text with a zero after it.
use Rattle.std.proofs.Common.{◌≡◌, ℕ, ◌+◌, ◌-◌, List, [], ◌∷◌, ◌++◌, length, take, arith, length-append}
use Rattle.std.proofs.Math.Seq.{take-append_seam}

pub without_zero : (text all : List ℕ) → all ≡ text ++ 0 ∷ [] → take (length all - 1) all ≡ text
without_zero text all is =
    let long : length (text ++ 0 ∷ []) ≡ length text + 1 = length-append text (0 ∷ []) in
    let short : length (text ++ 0 ∷ []) - 1 ≡ length text = omega (arith, long) in
    rw is (rw short (take-append_seam text (0 ∷ [])))
