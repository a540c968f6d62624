-- The replies that rows and views represent.
use Rattle.std.specs.Prelude.{◌≡◌, ℤ, ◌≤◌, List, [], ◌∷◌, ◌++◌, length}
use Rattle.std.specs.List.{between}
use Rattle.bohm_txn.specs.declared.outcome.Reply.{Reply}
use Rattle.bohm_txn.specs.declared.outcome.Reply.TheVariants as replies_are
use Rattle.bohm_txn.specs.declared.replies.ReplyRow.{ReplyRow}
use Rattle.bohm_txn.specs.declared.replies.ReplyRow.TheVariants as rows_are
use Rattle.bohm_txn.specs.declared.replies.ReplyView.{ReplyView}
use Rattle.bohm_txn.specs.declared.replies.ReplyView.TheVariants as views_are

-- the reply of a row, over the values of all rows
abbrev pub reply_by : List ℤ → ReplyRow → Reply
reply_by values (rows_are.Commit start end) = replies_are.Commit (between start end values)
reply_by values (rows_are.Abort reason stmt) = replies_are.Abort reason stmt

-- its shown values are within the values
abbrev pub IsInside : List ℤ → ReplyRow → Type 0
IsInside values (rows_are.Commit start end) = (start ≤ end) × (end ≤ length values)
IsInside values (rows_are.Abort reason stmt) = Unit {0}

abbrev pub reply_shown : ReplyView → Reply
reply_shown (views_are.Commit shows) = replies_are.Commit shows.now
reply_shown (views_are.Abort reason stmt) = replies_are.Abort reason stmt

-- the shown values were appended, and the row that refers to them
pub record Adds (rows : List ReplyRow) (values shows : List ℤ) (new_rows : List ReplyRow) (new_values : List ℤ) : Type 0 where
  pub shown : new_values ≡ values ++ shows
  pub row : new_rows ≡ rows ++ rows_are.Commit (length values) (length new_values) ∷ []
