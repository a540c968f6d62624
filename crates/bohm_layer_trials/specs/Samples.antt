-- Conditions that tests assert of the pairs set aside.
use Rattle.std.specs.Prelude.{ℕ, List, Bool, ◌==◌}
use Rattle.std.specs.List.{list_any}
use Rattle.bohm_board.specs.declared.closed.Closed.{Closed}
use Rattle.bohm_board.specs.Batches.{IsIn}
use Rattle.bohm_board.specs.Closings.{batch_of_closed, IsUnfinished}
use Rattle.bohm_exec.specs.Asides.{Pairs, IsSetAside}

-- whether a pair has the position
abbrev pub has_position : Pairs → ℕ → Bool
has_position pairs t = list_any (λ p. p.0 == t) pairs

abbrev pub is_set_aside : List Pairs → ℕ → Bool
is_set_aside asides t = list_any (λ pairs. has_position pairs t) asides

-- each position without an outcome is in a pair
abbrev pub AreSetAside : Closed → List Pairs → Type 0
AreSetAside c asides = (t : ℕ) → IsIn (batch_of_closed c) t → IsUnfinished c t → IsSetAside asides t
