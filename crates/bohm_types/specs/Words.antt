-- A name in memory: four words, which have its bytes in big-endian order, padded with zeros.
use Rattle.std.specs.Prelude.{ℕ, zero, suc, ◌<◌, ◌≤◌, List, [], ◌∷◌, ◌++◌, length, take, drop}
use Rattle.std.specs.List.{AllByRecursion}
use Rattle.std.specs.Int.{w64, to_be_bytes, from_be_bytes}
use Rattle.bohm_types.specs.Limits.{longest_name}

-- the first n bytes of a name, padded with zeros
abbrev pub padded : ℕ → List ℕ → List ℕ
padded zero xs = []
padded (suc n) [] = 0 ∷ padded n []
padded (suc n) (x ∷ xs) = x ∷ padded n xs

-- the bytes before the first 0
abbrev pub before_zero : List ℕ → List ℕ
before_zero [] = []
before_zero (zero ∷ xs) = []
before_zero (suc n ∷ xs) = suc n ∷ before_zero xs

-- the first n words of some bytes
abbrev pub words : ℕ → List ℕ → List ℕ
words zero bs = []
words (suc n) bs = from_be_bytes w64 (take 8 bs) ∷ words n (drop 8 bs)

-- the bytes of some words
abbrev pub spread : List ℕ → List ℕ
spread [] = []
spread (w ∷ ws) = to_be_bytes w64 w ++ spread ws

-- the four words of a name
abbrev pub words_of : List ℕ → List ℕ
words_of name = words 4 (padded 32 name)

-- a byte that a name may have
pub record IsFilled (b : ℕ) : Type 0 where
  pub some : 0 < b
  pub byte : b < 256

-- not longer than a name may be, and no byte is 0
pub record IsShort (name : List ℕ) : Type 0 where
  pub few : length name ≤ longest_name
  pub filled : AllByRecursion IsFilled name
