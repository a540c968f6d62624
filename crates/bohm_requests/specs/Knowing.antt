-- What is known of an entry's id.
use Rattle.std.specs.Prelude.{◌≡◌, ℕ, List, false, ⊤}
use Rattle.sqlite_value.specs.Order.{Row}
use Rattle.bohm_ledger.specs.Rows.{Has, request_row}
use Rattle.bohm_requests.specs.declared.taking.Known.{Known}
use Rattle.bohm_requests.specs.declared.taking.Known.TheVariants.{No, Same, Other}
use Rattle.bohm_requests.specs.declared.turn.Turn.{Turn}
use Rattle.bohm_requests.specs.declared.turn.Turn.TheVariants as turns
use Rattle.bohm_requests.specs.Taking.{is_stored}

-- an entry that is answered as it was is stored no second time
abbrev pub IsNoEntry : Known → Type 0
IsNoEntry (Same turn) = is_stored turn ≡ false
IsNoEntry No = ⊤
IsNoEntry Other = ⊤

-- a turn that answers as an earlier commit did says what one of these rows says
abbrev pub IsFrom : List Row → Turn → Type 0
IsFrom rows (turns.Known id answer) = (place : ℕ) × Has (request_row place (id.items, answer.items)) rows
IsFrom rows _ = ⊤

-- what is known of an id is what these rows of `request` say: an id of which nothing is known is in none of them
abbrev pub IsKnown : List Row → List ℕ → Known → Type 0
IsKnown rows id No = (place : ℕ) (answer : List ℕ) → ¬ Has (request_row place (id, answer)) rows
IsKnown rows id (Same turn) = IsFrom rows turn
IsKnown rows id Other = ⊤
