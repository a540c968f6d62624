-- The unique text of a procedure, and the effect of its lines, one after another.
use Rattle.std.specs.Prelude.{◌≡◌, ℕ, List, [], ◌∷◌, ◌++◌, map, Bool, true, ◌&&◌, ◌||◌, not, Option, Some, None, if◌then◌else◌, codes}
use Rattle.std.specs.Str.{bytes_eq}
use Rattle.std.specs.List.{AllByRecursion, list_all}
use Rattle.bohm_types.specs.Name.{key_of}
use Rattle.bohm_types.specs.Keys.{is_among}
use Rattle.bohm_types.specs.Sound.{IsName, IsStmt}
use Rattle.bohm_types.specs.Stmt.{Stmt}
use Rattle.bohm_types.specs.declared.edition.Edition.{Edition}
use Rattle.bohm_types.specs.declared.edition.Edition.TheVariants.{One, Two}
use Rattle.bohm_types.specs.Procedure.{Procedure}
use Rattle.bohm_text.specs.Print.{Words, stmt_words, lines_text}
use Rattle.bohm_text.specs.Cut.{split}
use Rattle.bohm_text.specs.Reading.{◌>>=◌, keys_of, after, stmt_of}
use Rattle.bohm_text.specs.Stepping.{after_lines}

-- ---- print

abbrev pub procedure_words : Edition → Words
procedure_words One = codes "procedure" ∷ codes "1" ∷ []
procedure_words Two = codes "procedure" ∷ codes "2" ∷ []

abbrev pub key_words : List ℕ → Words
key_words k = codes "key" ∷ k ∷ []

abbrev pub value_words : List ℕ → Words
value_words x = codes "value" ∷ x ∷ []

-- the lines from the reads on, as in a log's transaction
abbrev pub tail_lines : Words → Words → List Stmt → List Words
tail_lines reads writes body = (codes "reads" ∷ reads) ∷ (codes "writes" ∷ writes) ∷ (map stmt_words body ++ (codes "end" ∷ []) ∷ [])

abbrev pub procedure_lines : Procedure → List Words
procedure_lines p = procedure_words p.edition ∷ (map key_words p.keys ++ (map value_words p.values ++ tail_lines p.reads p.writes p.body))

abbrev pub print_procedure : Procedure → List ℕ
print_procedure p = lines_text (procedure_lines p)

-- ---- the values of the type

-- the names are distinct, and none is among the names before them
abbrev pub all_new : Words → Words → Bool
all_new before [] = true
all_new before (k ∷ ks) = not (is_among before k) && all_new (before ++ k ∷ []) ks

abbrev pub is_declared : Words → Words → List ℕ → Bool
is_declared reads writes k = is_among reads k || is_among writes k

-- each key parameter is read or written
abbrev pub are_declared : Words → Words → Words → Bool
are_declared ks reads writes = list_all (is_declared reads writes) ks

pub record IsProcedure (p : Procedure) : Type 0 where
  pub keys : AllByRecursion IsName p.keys
  pub values : AllByRecursion IsName p.values
  -- the names of keys and values are distinct
  pub apart_keys : all_new [] p.keys ≡ true
  pub apart_values : all_new p.keys p.values ≡ true
  pub reads : AllByRecursion IsName p.reads
  pub writes : AllByRecursion IsName p.writes
  pub body : AllByRecursion IsStmt p.body
  pub declared : are_declared p.keys p.reads p.writes ≡ true

-- ---- lines

-- the part of a procedure that the lines so far spell
pub data Stage : Type 0 where
  Nothing : Stage
  Keys : Edition → Words → Stage
  Values : Edition → Words → Words → Stage
  Reading : Edition → Words → Words → Words → Stage
  Body : Edition → Words → Words → Words → Words → List Stmt → Stage
  Done : Procedure → Stage

unfoldable pub edition_of : List ℕ → Option Edition
edition_of line = if bytes_eq line (codes "procedure 1") then Some One else (if bytes_eq line (codes "procedure 2") then Some Two else None)

-- the only word, if it is a name
abbrev pub one_name : Words → Option (List ℕ)
one_name [] = None
one_name (w ∷ []) = key_of w
one_name (w ∷ v ∷ ws) = None

-- one more parameter, if its name is new
abbrev pub one_more : Words → Stage → List ℕ → Option Stage
one_more before next k = if is_among before k then None else Some next

abbrev pub reads_line : Edition → Words → Words → Words → Option Stage
reads_line e ks vs words = after (codes "reads") keys_of words >>= λ reads. Some (Reading e ks vs reads)

-- the body begins, if each key parameter is declared
abbrev pub begin_body : Edition → Words → Words → Words → Words → Option Stage
begin_body e ks vs reads writes = if are_declared ks reads writes then Some (Body e ks vs reads writes []) else None

abbrev pub value_line : Edition → Words → Words → Words → Option Stage
value_line e ks vs words = one_name words >>= λ x. one_more (ks ++ vs) (Values e ks (vs ++ x ∷ [])) x

abbrev pub key_line : Edition → Words → Words → Option Stage
key_line e ks words = one_name words >>= λ k. one_more ks (Keys e (ks ++ k ∷ [])) k

abbrev pub after_values : Edition → Words → Words → Words → Option Stage
after_values e ks vs [] = None
after_values e ks vs (w ∷ ws) = if bytes_eq w (codes "value") then value_line e ks vs ws else reads_line e ks vs (w ∷ ws)

abbrev pub after_keys : Edition → Words → Words → Option Stage
after_keys e ks [] = None
after_keys e ks (w ∷ ws) = if bytes_eq w (codes "key") then key_line e ks ws else after_values e ks [] (w ∷ ws)

unfoldable pub stage_after : Stage → List ℕ → Option Stage
stage_after Nothing line = edition_of line >>= λ e. Some (Keys e [])
stage_after (Keys e ks) line = after_keys e ks (split 32 line)
stage_after (Values e ks vs) line = after_values e ks vs (split 32 line)
stage_after (Reading e ks vs reads) line = after (codes "writes") keys_of (split 32 line) >>= λ writes. begin_body e ks vs reads writes
stage_after (Body e ks vs reads writes body) line =
    if bytes_eq line (codes "end") then Some (Done (record { edition = e; keys = ks; values = vs; reads = reads; writes = writes; body = body }))
    else (stmt_of (split 32 line) >>= λ s. Some (Body e ks vs reads writes (body ++ s ∷ [])))
stage_after (Done p) line = None

-- the effect of lines, from the stage before them
abbrev pub stages : Stage → List (List ℕ) → Option Stage
stages = after_lines stage_after
