-- The line of a place in a document's printed text. Lines count from 1, and indices from 0.
use Rattle.std.specs.Prelude.{ℕ, ◌+◌, List, [], ◌∷◌, take, length, nat_le, not, if◌then◌else◌, slice_get, unwrap_or, zero, suc}
use Rattle.std.specs.Option.{option_map}
use Rattle.std.specs.Ordering.{nat_cmp, is_lt}
use Rattle.std.specs.Cmp.Lexicographic.{slice_cmp}
use Rattle.bohm_types.specs.Keys.{rising, names_of}
use Rattle.bohm_types.specs.Txn.{Txn}
use Rattle.bohm_types.specs.Document.{Document}
use Rattle.bohm_text.specs.Print.{doc_lines}
use Rattle.bohm_txn.specs.declared.fault.CheckKind.{CheckKind}
use Rattle.bohm_txn.specs.declared.fault.CheckKind.TheVariants.{Order, Unread, Unwritten, Local, Limit}
use Rattle.bohm_types.specs.Limits.{most_keys, most_stmts, most_txns}

-- the `txn` line of the transaction with this index: the line after those of the document that ends before it
abbrev pub opening_line : Document → ℕ → ℕ
opening_line d i = length (doc_lines (record d { log = take i d.log })) + 1

-- ---- the store

-- how many keys ascend directly after this one
abbrev pub rise_from : List ℕ → List (List ℕ) → ℕ
rise_from k [] = 0
rise_from k (n ∷ ns) = if is_lt (slice_cmp nat_cmp k n) then suc (rise_from n ns) else 0

-- the index of the first key that isn't above the one before it, or else the number of keys
abbrev pub first_fall : List (List ℕ) → ℕ
first_fall [] = 0
first_fall (k ∷ ks) = suc (rise_from k ks)

-- the entries follow the head
abbrev pub whole_line : Document → CheckKind → ℕ
whole_line d Order = 2 + first_fall (names_of d.store)
whole_line d Unread = 0
whole_line d Unwritten = 0
whole_line d Local = 0
whole_line d Limit = opening_line d most_txns

-- ---- transactions, by the line of their opening

-- the first set whose keys aren't ascending: the reads follow the opening, and the writes follow the reads
abbrev pub unordered_line : Txn → ℕ → ℕ
unordered_line t opening = if rising t.reads then opening + 2 else opening + 1

-- the first count that is too large: too many keys are at their set's line, all else is at the opening
abbrev pub large_line : Txn → ℕ → ℕ
large_line t opening = if not (nat_le (length t.body) most_stmts) then opening
    else (if not (nat_le (length t.reads) most_keys) then opening + 1 else (if not (nat_le (length t.writes) most_keys) then opening + 2 else opening))

abbrev pub sets_line : Txn → ℕ → CheckKind → ℕ
sets_line t opening Order = unordered_line t opening
sets_line t opening Unread = 0
sets_line t opening Unwritten = 0
sets_line t opening Local = 0
sets_line t opening Limit = large_line t opening

-- the body follows the writes
abbrev pub line_in : Txn → ℕ → ℕ → CheckKind → ℕ
line_in t opening zero kind = sets_line t opening kind
line_in t opening (suc i) kind = opening + 3 + i

-- ---- all places

-- transaction 0 represents the document as a whole, and statement 0 a transaction's sets and counts
abbrev pub line_of : Document → ℕ → ℕ → CheckKind → ℕ
line_of d zero s kind = whole_line d kind
line_of d (suc i) s kind = unwrap_or (option_map (λ t. line_in t (opening_line d i) s kind) (slice_get d.log i)) 0
