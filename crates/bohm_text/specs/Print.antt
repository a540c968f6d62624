-- The unique text of a document, of replies and of a store: lines of words, a space between two words and a newline after each line.
use Rattle.std.specs.Prelude.{ℕ, ℤ, ◌≡◌, ◌+◌, List, [], ◌∷◌, ◌++◌, length, map, take, Bool, Option, Some, None, if◌then◌else◌, codes}
use Rattle.std.specs.List.{flat_map}
use Rattle.std.specs.Fmt.{decimal, signed_decimal}
use Rattle.bohm_types.specs.Term.{Atom, Lit, Read, Local}
use Rattle.bohm_types.specs.declared.cmp.Cmp.{Cmp}
use Rattle.bohm_types.specs.declared.cmp.Cmp.TheVariants.{Lt, Le, Eq, Ge, Gt}
use Rattle.bohm_types.specs.Stmt.{Cond, Stmt, Bind, Need, Has, Lacks, Put, Remove, Show, Fail}
use Rattle.bohm_types.specs.declared.edition.Edition.{Edition}
use Rattle.bohm_types.specs.declared.edition.Edition.TheVariants.{One, Two}
use Rattle.bohm_types.specs.Txn.{Txn}
use Rattle.bohm_types.specs.Document.{Document}
use Rattle.bohm_txn.specs.declared.outcome.Reason.{Reason}
use Rattle.bohm_txn.specs.declared.outcome.Reason.TheVariants as reasons
use Rattle.bohm_txn.specs.declared.outcome.Reply.{Reply}
use Rattle.bohm_txn.specs.declared.outcome.Reply.TheVariants.{Commit, Abort}

-- the words of a line
abbrev pub Words : Type 0
Words = List (List ℕ)

-- a text begins with another one
abbrev pub BeginsWith : List ℕ → List ℕ → Type 0
BeginsWith front text = take (length front) text ≡ front

-- ---- statements

abbrev pub local_word : List ℕ → List ℕ
local_word x = codes "$" ++ x

abbrev pub atom_word : Atom → List ℕ
atom_word (Lit n) = decimal n
atom_word (Read k) = k
atom_word (Local x) = local_word x

-- a sum's first term, its sign directly before the atom
abbrev pub first_word : Bool × Atom → List ℕ
first_word t = (if t.0 then codes "-" else []) ++ atom_word t.1

-- a further term, its sign a separate word
abbrev pub further_words : Bool × Atom → Words
further_words t = (if t.0 then codes "-" else codes "+") ∷ atom_word t.1 ∷ []

abbrev pub sum_words : List (Bool × Atom) → Words
sum_words [] = []
sum_words (t ∷ ts) = first_word t ∷ flat_map further_words ts

abbrev pub cmp_word : Cmp → List ℕ
cmp_word Lt = codes "<"
cmp_word Le = codes "<="
cmp_word Eq = codes "="
cmp_word Ge = codes ">="
cmp_word Gt = codes ">"

abbrev pub cond_words : Cond → Words
cond_words c = sum_words c.left ++ cmp_word c.cmp ∷ sum_words c.right

abbrev pub guard_words : Option Cond → Words
guard_words None = []
guard_words (Some c) = codes "when" ∷ cond_words c

abbrev pub stmt_words : Stmt → Words
stmt_words (Bind x sum) = codes "let" ∷ local_word x ∷ codes "=" ∷ sum_words sum
stmt_words (Need c) = codes "need" ∷ cond_words c
stmt_words (Has k) = codes "need" ∷ codes "has" ∷ k ∷ []
stmt_words (Lacks k) = codes "need" ∷ codes "no" ∷ k ∷ []
stmt_words (Put k sum guard) = codes "set" ∷ k ∷ codes "=" ∷ (sum_words sum ++ guard_words guard)
stmt_words (Remove k) = codes "drop" ∷ k ∷ []
stmt_words (Show sum) = codes "show" ∷ sum_words sum
stmt_words Fail = codes "fail" ∷ []

-- ---- documents

abbrev pub head_words : Edition → Words
head_words One = codes "log" ∷ codes "1" ∷ []
head_words Two = codes "log" ∷ codes "2" ∷ []

abbrev pub store_words : List ℕ × ℤ → Words
store_words entry = entry.0 ∷ signed_decimal entry.1 ∷ []

abbrev pub txn_lines : Txn → List Words
txn_lines t = (codes "txn" ∷ []) ∷ (codes "reads" ∷ t.reads) ∷ (codes "writes" ∷ t.writes) ∷ (map stmt_words t.body ++ (codes "end" ∷ []) ∷ [])

abbrev pub doc_lines : Document → List Words
doc_lines d = head_words d.edition ∷ (map store_words d.store ++ flat_map txn_lines d.log)

-- ---- texts

-- each word with a space before it
abbrev pub spaced : Words → List ℕ
spaced ws = flat_map (λ w. 32 ∷ w) ws

abbrev pub line_text : Words → List ℕ
line_text [] = []
line_text (w ∷ ws) = w ++ spaced ws

-- each line with a newline after it
abbrev pub text_of : List (List ℕ) → List ℕ
text_of lines = flat_map (λ line. line ++ 10 ∷ []) lines

abbrev pub lines_text : List Words → List ℕ
lines_text lines = text_of (map line_text lines)

abbrev pub print_doc : Document → List ℕ
print_doc d = lines_text (doc_lines d)

-- ---- answers

abbrev pub reason_word : Reason → List ℕ
reason_word reasons.Need = codes "need"
reason_word reasons.Fail = codes "fail"
reason_word reasons.Absent = codes "absent"
reason_word reasons.Range = codes "range"

-- the reply of transaction t
abbrev pub reply_words : ℕ → Reply → Words
reply_words t (Commit shows) = decimal t ∷ codes "commit" ∷ map signed_decimal shows
reply_words t (Abort reason stmt) = decimal t ∷ codes "abort" ∷ reason_word reason ∷ decimal stmt ∷ []

-- the replies of transaction t and of the transactions after it
abbrev pub reply_lines : ℕ → List Reply → List Words
reply_lines t [] = []
reply_lines t (r ∷ rs) = reply_words t r ∷ reply_lines (t + 1) rs

-- replies, numbered from a first number
abbrev pub print_numbered : ℕ → List Reply → List ℕ
print_numbered first replies = lines_text (reply_lines first replies)

abbrev pub print_replies : List Reply → List ℕ
print_replies replies = print_numbered 1 replies

abbrev pub print_store : List (List ℕ × ℤ) → List ℕ
print_store entries = lines_text ((codes "--" ∷ []) ∷ map store_words entries)

abbrev pub print_answer : List Reply → List (List ℕ × ℤ) → List ℕ
print_answer replies entries = print_replies replies ++ print_store entries
