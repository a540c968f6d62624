-- How loosely written lines become lines of an exact text.
use Rattle.std.specs.Prelude.{ℕ, List, [], ◌∷◌, ◌++◌, Bool, true, false, ◌||◌, if◌then◌else◌, codes, take, drop}
use Rattle.std.specs.Str.{bytes_eq}
use Rattle.bohm_text.specs.Cut.{split}
use Rattle.bohm_tidy.specs.declared.plain.Place.{Place}
use Rattle.bohm_tidy.specs.declared.plain.Place.TheVariants.{Between, Opened, Reading, Body}
use Rattle.bohm_tidy.specs.declared.plain.Plain.{Plain}
use Rattle.bohm_tidy.specs.Line.{exact_line}

-- the exact lines so far, which of their transactions lacked a line of reads or of writes, and which line comes next
pub record Written : Type 0 where
  pub place : Place
  pub text : List ℕ
  pub no_reads : List Bool
  pub no_writes : List Bool

abbrev pub written_of : Plain → Written
written_of p = record { place = p.place; text = p.text.items; no_reads = p.no_reads.items; no_writes = p.no_writes.items }

abbrev pub nothing : Written
nothing = record { place = Between; text = []; no_reads = []; no_writes = [] }

-- signs are separate words in a transaction
abbrev pub signs_at : Place → Bool
signs_at Between = false
signs_at Opened = true
signs_at Reading = true
signs_at Body = true

abbrev pub is_first : List ℕ → List (List ℕ) → Bool
is_first word [] = false
is_first word (w ∷ ws) = bytes_eq w word

-- whether the line's first word is this
abbrev pub begins : List ℕ → List ℕ → Bool
begins line word = is_first word (split 32 line)

abbrev pub place_after : Place → List ℕ → Place
place_after Between line = if bytes_eq line (codes "txn") then Opened else Between
place_after Opened line = Reading
place_after Reading line = Body
place_after Body line = if bytes_eq line (codes "end") then Between else Body

-- before a line of reads, or with an empty one added before any other line
abbrev pub has_reads : Bool → Written → Written
has_reads true w = record w { no_reads = w.no_reads ++ false ∷ [] }
has_reads false w = record w { place = Reading; text = w.text ++ codes "reads\n"; no_reads = w.no_reads ++ true ∷ [] }

abbrev pub reads_at : Place → List ℕ → Written → Written
reads_at Between line w = w
reads_at Opened line w = has_reads (begins line (codes "reads")) w
reads_at Reading line w = w
reads_at Body line w = w

abbrev pub has_writes : Bool → Written → Written
has_writes true w = record w { no_writes = w.no_writes ++ false ∷ [] }
has_writes false w = record w { place = Body; text = w.text ++ codes "writes\n"; no_writes = w.no_writes ++ true ∷ [] }

abbrev pub writes_at : Place → List ℕ → Written → Written
writes_at Between line w = w
writes_at Opened line w = w
writes_at Reading line w = has_writes (begins line (codes "writes")) w
writes_at Body line w = w

abbrev pub filled : List ℕ → Written → Written
filled line w = let v = reads_at w.place line w in writes_at v.place line v

abbrev pub with_line : List ℕ → Written → Written
with_line line w = record w { place = place_after w.place line; text = w.text ++ line ++ 10 ∷ [] }

-- with an exact line added, if it has words
unfoldable pub added : List ℕ → Written → Written
added [] w = w
added (b ∷ bs) w = with_line (b ∷ bs) (filled (b ∷ bs) w)

abbrev pub fed : Written → List ℕ → Written
fed w line = added (exact_line (signs_at w.place) line) w

abbrev pub fed_all : Written → List (List ℕ) → Written
fed_all w [] = w
fed_all w (line ∷ lines) = fed_all (fed w line) lines

-- without a byte order mark
abbrev pub without_mark : List ℕ → List ℕ
without_mark text = if bytes_eq (take 3 text) (239 ∷ 187 ∷ 191 ∷ []) then drop 3 text else text

-- the exact lines that a loose text is read as
abbrev pub written : List ℕ → Written
written text = fed_all nothing (split 10 (without_mark text))

-- ---- procedures

-- the line, or the other one if it is empty
abbrev pub or_else : List ℕ → List ℕ → List ℕ
or_else [] other = other
or_else (b ∷ bs) other = b ∷ bs

-- the exact line of the first line with words; empty if there is none
unfoldable pub first_words : List (List ℕ) → List ℕ
first_words [] = []
first_words (line ∷ lines) = or_else (exact_line false line) (first_words lines)

-- a procedure's head
abbrev pub is_head : List ℕ → Bool
is_head line = bytes_eq line (codes "procedure 1") || bytes_eq line (codes "procedure 2")

-- a loose text is a procedure's if its first words are a procedure's head
abbrev pub is_loose_procedure : List ℕ → Bool
is_loose_procedure text = is_head (first_words (split 10 (without_mark text)))
