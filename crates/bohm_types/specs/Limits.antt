-- The limits of a log and of its batches. The code's constants have the same values.
use Rattle.std.specs.Prelude.{ℕ}

-- bytes of a name
abbrev pub longest_name : ℕ
longest_name = 32

-- bytes of a text
abbrev pub longest_text : ℕ
longest_text = 67108864

-- keys that a transaction reads, and that it writes
abbrev pub most_keys : ℕ
most_keys = 16

-- terms of a sum
abbrev pub most_terms : ℕ
most_terms = 16

-- statements of a transaction
abbrev pub most_stmts : ℕ
most_stmts = 64

-- values that a transaction shows
abbrev pub most_shows : ℕ
most_shows = 16

-- transactions of a log
abbrev pub most_txns : ℕ
most_txns = 1000000

-- transactions of a batch
abbrev pub largest_batch : ℕ
largest_batch = 4096

-- the greatest timestamp
abbrev pub last_timestamp : ℕ
last_timestamp = 4294967295
