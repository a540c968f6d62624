-- The rows of a ledger's tables.
use Rattle.std.specs.Prelude.{◌≡◌, ◌⊎◌, ℕ, ℤ, pos, List, [], ◌∷◌}
use Rattle.sqlite_value.specs.declared.value.Value.{Value}
use Rattle.sqlite_value.specs.declared.value.Value.TheVariants.{Null, Int, Text}
use Rattle.sqlite_value.specs.Order.{Row, column, bytes}
use Rattle.bohm_types.specs.declared.edition.Edition.{Edition}
use Rattle.bohm_types.specs.declared.edition.Edition.TheVariants.{One, Two}

-- the tables `ledger`, `batch`, `balance` and `request`
abbrev pub head_tree : ℕ
head_tree = 0

abbrev pub batch_tree : ℕ
batch_tree = 1

abbrev pub balance_tree : ℕ
balance_tree = 2

abbrev pub request_tree : ℕ
request_tree = 3

abbrev pub edition_number : Edition → ℕ
edition_number One = 1
edition_number Two = 2

-- the row of `ledger`, after its rowid: the format, the edition, and the last transaction that `balance` has
abbrev pub head_row : Edition → ℕ → Row
head_row edition checkpoint = Int (pos 1) ∷ Int (pos 1) ∷ Int (pos (edition_number edition)) ∷ Int (pos checkpoint) ∷ []

-- a row of `batch`: the batch's place, the number of its first transaction, and the text of its entries
abbrev pub batch_row : ℕ → ℕ → List ℕ → Row
batch_row place first text = Int (pos place) ∷ Null ∷ Int (pos first) ∷ Text text ∷ []

-- a row of `balance`: a key and its value
abbrev pub balance_row : List ℕ × ℤ → Row
balance_row e = Text e.0 ∷ Int e.1 ∷ []

-- a row of `request`: an id, the place of its batch, and the answer
abbrev pub request_row : ℕ → List ℕ × List ℕ → Row
request_row place e = Text e.0 ∷ Int (pos place) ∷ Text e.1 ∷ []

abbrev pub natural : Value → ℕ
natural (Int (pos n)) = n
natural _ = 0

-- what a row of `batch` says
abbrev pub place_of : Row → ℕ
place_of row = natural (column row 0)

abbrev pub first_of : Row → ℕ
first_of row = natural (column row 2)

abbrev pub text_of : Row → List ℕ
text_of row = bytes (column row 3)

-- the row is one of these
abbrev pub Has : Row → List Row → Type 0
Has row [] = ⊥
Has row (r ∷ rows) = (row ≡ r) ⊎ Has row rows

-- the same rows, in any order
pub record AreSame (xs ys : List Row) : Type 0 where
  pub there : (row : Row) → Has row xs → Has row ys
  pub back : (row : Row) → Has row ys → Has row xs

-- the rows are those of requests
abbrev pub AreRequests : List Row → Type 0
AreRequests rows = (row : Row) → Has row rows → (place : ℕ) × (e : List ℕ × List ℕ) × (row ≡ request_row place e)
