-- The text of a log's figures.
use Rattle.std.specs.Prelude.{ℕ, ◌+◌, ◌-◌, ◌*◌, ◌==◌, Bool, List, [], ◌∷◌, length, map, take, flat_map, codes, decimal, nat_le, if◌then◌else◌}
use Rattle.std.specs.Prelude.{Option, Some, None}
use Rattle.std.specs.Int.{div_ceil}
use Rattle.std.specs.List.{find}
use Rattle.bohm_place.specs.Chains.{greatest}
use Rattle.bohm_read_ahead.specs.declared.checked_chunk.Sharing.{Sharing}
use Rattle.bohm_read_ahead.specs.declared.checked_chunk.Sharing.TheVariants.{OneWorker, NoTransactions, ShortBodies, Shared}
use Rattle.bohm_explain.specs.declared.figures.Totals.{Totals}
use Rattle.bohm_explain.specs.declared.heat.Heat.{Heat}
use Rattle.bohm_explain.specs.declared.parts.Part.{Part}
use Rattle.bohm_explain.specs.Figures.{alone, totals_of}
use Rattle.bohm_explain.specs.Pieces.{cell, hundredths, hundredths_cell, joined, left_cell}

-- ---- the parts

abbrev pub head_line : List ℕ
head_line = codes "   part      from     run  transactions      keys      sure     taken    depth     width       terms   heaviest     width\n"

abbrev pub word_for : Sharing → List ℕ
word_for OneWorker = codes "one"
word_for NoTransactions = codes "empty"
word_for ShortBodies = codes "short"
word_for Shared = codes "shared"

-- the widths bound what more workers can gain: the transactions over the depth, and their terms over the heaviest chain
unfoldable pub counts_text : Totals → List ℕ
counts_text t =
    joined (cell 14 (decimal t.transactions) ∷ cell 10 (decimal t.keys) ∷ cell 10 (decimal t.sure) ∷ cell 10 (decimal t.taken)
    ∷ cell 9 (decimal t.depth) ∷ hundredths_cell 10 (hundredths t.transactions t.depth) ∷ cell 12 (decimal t.terms)
    ∷ cell 11 (decimal t.heaviest) ∷ hundredths_cell 10 (hundredths t.terms t.heaviest) ∷ codes "\n" ∷ [])

unfoldable pub part_line : Part → List ℕ
part_line p = joined (cell 7 (decimal p.number) ∷ cell 10 (decimal p.first) ∷ cell 8 (word_for p.sharing) ∷ counts_text (alone p.figures) ∷ [])

-- the lines of all parts; a summary leaves them out
unfoldable pub part_rows : Bool → List Part → List ℕ
part_rows summary ps = if summary then [] else flat_map part_line ps

unfoldable pub table_text : Bool → List Part → List ℕ
table_text summary ps =
    joined (head_line ∷ part_rows summary ps ∷ left_cell 25 (codes "    all") ∷ counts_text (totals_of ps) ∷ [])

-- ---- the hottest keys

-- the columns end where those of the table's `sure`, `taken` and `depth` do
unfoldable pub heat_line : Heat → List ℕ
heat_line h =
    joined (left_cell 32 h.key ∷ cell 9 (decimal h.writers) ∷ cell 10 (decimal h.readers) ∷ cell 9 (decimal h.chain) ∷ codes "\n" ∷ [])

-- a line for each heat, below an empty line and a head; nothing if there are none
unfoldable pub heat_lines : List Heat → List ℕ
heat_lines hs =
    if length hs == 0 then []
    else joined (codes "\nhottest keys                      writers   readers    chain\n" ∷ flat_map heat_line hs ∷ [])

-- ---- the longest chain

abbrev pub spaced : ℕ → List ℕ
spaced n = 32 ∷ decimal n

-- how many aren't listed
abbrev pub more_text : ℕ → List ℕ
more_text n = if n == 0 then [] else joined (codes " and " ∷ decimal n ∷ codes " more" ∷ [])

-- the first hundred transactions, below an empty line; nothing if none waits
unfoldable pub chain_text : List ℕ → List ℕ
chain_text places =
    if nat_le (length places) 1 then []
    else joined (codes "\ntransactions on the longest chain:" ∷ flat_map spaced (take 100 places) ∷ more_text (length places - 100) ∷ codes "\n" ∷ [])

-- ---- the last line: what limits the log's speed. bench/README.md has the measured share of execution

-- the transactions on the longest chain of a part, or 0 if no version is wanted
abbrev pub longest : List Heat → ℕ
longest heats = greatest (map (λ h. h.chain) heats)

-- the first key on that chain, or none if no version is wanted
abbrev pub leading : List Heat → Option Heat
leading ranked = if longest ranked == 0 then None else find (λ h. h.chain == longest ranked) ranked

-- a quotient in hundredths, rounded up; 0 if the divisor is 0
abbrev pub hundredths_up : ℕ → ℕ → ℕ
hundredths_up n d = if d == 0 then 0 else div_ceil (n * 100) d

-- the greatest speedup of the execution over one worker, in hundredths: the terms over those of the heaviest chain
abbrev pub execution_limit : Totals → ℕ
execution_limit t = hundredths_up t.terms t.heaviest

-- the greatest speedup of a whole run, of which the execution by one worker takes an eighth; the rest of the run takes as long as before
abbrev pub run_limit : Totals → ℕ
run_limit t = hundredths_up (8 * t.terms) (7 * t.terms + t.heaviest)

unfoldable pub limit_words : Totals → List ℕ
limit_words t =
    if nat_le (execution_limit t) 100
    then codes "more executing workers can't help"
    else joined (codes "more executing workers can make the execution at most " ∷ hundredths_cell 0 (execution_limit t)
    ∷ codes " times as fast, and the whole run, of which it was an eighth as measured, at most "
    ∷ hundredths_cell 0 (run_limit t) ∷ codes " times" ∷ [])

unfoldable pub key_words : Totals → Heat → List ℕ
key_words t h =
    joined (codes "key " ∷ h.key ∷ codes ", written by " ∷ decimal h.writers ∷ codes " of " ∷ decimal t.transactions
    ∷ codes " transactions, is on the longest chain, of " ∷ decimal h.chain ∷ codes ": " ∷ limit_words t ∷ [])

-- if no key is on a chain, no transaction wants a version of its part
abbrev pub waiting_words : Totals → Option Heat → List ℕ
waiting_words t None = joined (codes "no transaction waits for another of its part: " ∷ limit_words t ∷ [])
waiting_words t (Some h) = key_words t h

unfoldable pub verdict_words : Totals → List Heat → List ℕ
verdict_words t ranked =
    if t.transactions == 0 then codes "the log has no transactions" else waiting_words t (leading ranked)

-- ---- all of it

abbrev pub plain_text : Bool → ℕ → List Part → List Heat → List ℕ → List ℕ
plain_text summary top ps ranked places =
    joined (table_text summary ps ∷ heat_lines (take top ranked) ∷ chain_text places ∷ codes "\n" ∷ verdict_words (totals_of ps) ranked ∷ codes "\n" ∷ [])
