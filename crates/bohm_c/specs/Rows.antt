-- The rows of replies, and the values that they show.
use Rattle.std.specs.Prelude.{ℕ, ℤ, ◌+◌, List, [], ◌∷◌, length}
use Rattle.bohm_txn.specs.declared.outcome.Reason.{Reason}
use Rattle.bohm_txn.specs.declared.outcome.Reason.TheVariants.{Need, Fail, Absent, Range}
use Rattle.bohm_txn.specs.declared.outcome.Reply.{Reply}
use Rattle.bohm_txn.specs.declared.outcome.Reply.TheVariants.{Commit, Abort}
use Rattle.bohm_c.specs.declared.rows.BohmReply.{BohmReply}

abbrev pub outcome_of : Reason → ℕ
outcome_of Need = 1
outcome_of Fail = 2
outcome_of Absent = 3
outcome_of Range = 4

abbrev pub shows_of : Reply → List ℤ
shows_of (Commit shows) = shows
shows_of (Abort reason stmt) = []

-- the row of a reply, where this many values were shown before it
abbrev pub row_of : ℕ → Reply → BohmReply
row_of first (Commit shows) = record { outcome = 0; statement = 0; first = first; shown = length shows }
row_of first (Abort reason stmt) = record { outcome = outcome_of reason; statement = stmt; first = first; shown = 0 }

abbrev pub rows_from : ℕ → List Reply → List BohmReply
rows_from first [] = []
rows_from first (r ∷ rs) = row_of first r ∷ rows_from (first + length (shows_of r)) rs
