-- The layout of a text, whatever its content.
use Rattle.std.specs.Prelude.{◌≡◌, ℕ, List, [], ◌∷◌, ◌++◌, Bool, true, ◌||◌, ◌==◌}
use Rattle.std.specs.List.{AllByRecursion}
use Rattle.std.specs.Char.{is_ascii_lowercase, is_ascii_digit}

-- a lower-case letter, a digit, or one of _ $ + - < = >
abbrev pub is_word_byte : ℕ → Bool
is_word_byte b = is_ascii_lowercase b || is_ascii_digit b || (b == 95) || (b == 36) || (b == 43) || (b == 45) || (b == 60) || (b == 61) || (b == 62)

-- a byte of a word, a space or a newline
abbrev pub IsTextByte : ℕ → Type 0
IsTextByte b = (is_word_byte b || (b == 32) || (b == 10)) ≡ true

-- of two adjacent bytes, a space is beside neither a space nor a newline
pub record IsApart (a b : ℕ) : Type 0 where
  pub after_space : a ≡ 32 → is_word_byte b ≡ true
  pub before_space : b ≡ 32 → is_word_byte a ≡ true

-- this holds of all adjacent bytes, where byte a precedes the others
abbrev pub AreApart : ℕ → List ℕ → Type 0
AreApart a [] = Unit {0}
AreApart a (b ∷ bs) = IsApart a b × AreApart b bs

-- it ends with a newline, spaces are only between two words of one line, and there are no other bytes
pub record IsTidy (text : List ℕ) : Type 0 where
  pub before_end : List ℕ
  pub ends : text ≡ before_end ++ 10 ∷ []
  pub apart : AreApart 10 text
  pub bytes : AllByRecursion IsTextByte text
