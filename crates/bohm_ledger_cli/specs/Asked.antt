-- What words before the file ask for.
use Rattle.std.specs.Prelude.{◌≡◌, ◌<◌, ◌≤◌, ◌^◌, ℕ, List, Option, Some, None}
use Rattle.std.specs.Str.Parse.{IsNumeral, digits_value, without_leading_plus}
use Rattle.bohm_ledger_cli.specs.declared.arguments.Wish.{Wish}
use Rattle.bohm_ledger_cli.specs.declared.arguments.Wish.TheVariants.{Serve, Print}

-- the word is this number, which is one of a transaction
pub record IsTransaction (word : List ℕ) (number : ℕ) : Type 0 where
  pub digits : IsNumeral 10 (without_leading_plus word)
  pub value : number ≡ digits_value 10 (without_leading_plus word)
  pub counted : 0 < number
  pub fits : number < 2 ^ 64

-- the first transaction of a log
abbrev pub IsFirst : Option (List ℕ) → ℕ → Type 0
IsFirst None number = number ≡ 1
IsFirst (Some word) number = IsTransaction word number

-- the last one, which isn't before the first
abbrev pub IsLast : Option (List ℕ) → ℕ → Option ℕ → Type 0
IsLast None first last = last ≡ None
IsLast (Some word) first None = ⊥
IsLast (Some word) first (Some last) = IsTransaction word last × (first ≤ last)

-- the wish is for the log that two words ask for
abbrev pub IsRange : Option (List ℕ) → Option (List ℕ) → Wish → Type 0
IsRange from to (Serve serving) = ⊥
IsRange from to (Print first last) = IsFirst from first × IsLast to first last
