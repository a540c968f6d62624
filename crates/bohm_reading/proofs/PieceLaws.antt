-- Buffers whose first bytes are filled.
use Rattle.std.proofs.Common.{◌≡◌, ℕ, ◌+◌, ◌≤◌, ◌++◌, List, length, take, ap, sym, ◌∙◌, arith, length-append}
use Rattle.std.proofs.Common.{append_assoc}
use Rattle.std.proofs.lemmas.List.{take-take, take-append-le, length-take, length-take-le}
use Rattle.std.proofs.Math.Seq.{take-append_seam, take-append-add}

-- bytes that were copied to the front of a buffer are its first bytes
pub copied : (begun given post more : List ℕ) (k : ℕ) → given ≡ begun → length begun ≤ k → take (length begun) (take k (given ++ post ++ more)) ≡ begun
copied begun given post more k same fits =
    take-take (length begun) k (given ++ post ++ more) fits
    ∙ (ap (λ (l : List ℕ). take (length begun) (l ++ post ++ more)) same
    ∙ (ap (take (length begun)) (append_assoc begun post more) ∙ take-append_seam begun (post ++ more)))

-- n bytes read after the first f bytes of a buffer follow these f bytes
pub read_in : (f n k : ℕ) (xs buf post more : List ℕ) → f ≤ length xs → n ≤ length buf → f + n ≤ k
    → take (f + n) (take k (take f xs ++ (buf ++ post) ++ more)) ≡ take f xs ++ take n buf
read_in f n k xs buf post more short few fits =
    let long : length (take f xs) ≡ f = length-take-le f xs short in
    let all : take f xs ++ (buf ++ post) ++ more ≡ take f xs ++ (buf ++ (post ++ more)) =
    append_assoc (take f xs) (buf ++ post) more ∙ ap (λ (l : List ℕ). take f xs ++ l) (append_assoc buf post more) in
    take-take (f + n) k (take f xs ++ (buf ++ post) ++ more) fits
    ∙ (ap (take (f + n)) all
    ∙ (ap (λ (m : ℕ). take (m + n) (take f xs ++ (buf ++ (post ++ more)))) (sym long)
    ∙ (take-append-add (take f xs) (buf ++ (post ++ more)) n
    ∙ ap (λ (l : List ℕ). take f xs ++ l) (take-append-le n buf (post ++ more) few))))

-- a buffer that begins with f + n filled bytes is at least that long
pub within_of : (f n : ℕ) (buffer xs buf : List ℕ) → f ≤ length xs → n ≤ length buf → take (f + n) buffer ≡ take f xs ++ take n buf → f + n ≤ length buffer
within_of f n buffer xs buf short few same =
    omega (arith, ap length same, length-take (f + n) buffer, length-append (take f xs) (take n buf), length-take-le f xs short, length-take-le n buf few)
