-- What entries do on a machine, one after another, and what they are answered.
use Rattle.std.specs.Prelude.{◌≡◌, ℕ, ℤ, zero, suc, ◌+◌, ◌^◌, max, Bool, true, false, List, [], ◌∷◌, ◌++◌, Option, Some, None, IsSome, codes, length, ⊤}
use Rattle.bohm_types.specs.declared.edition.Edition.{Edition}
use Rattle.bohm_types.specs.Document.{Document}
use Rattle.bohm_types.specs.Procedure.{Procedure, instance}
use Rattle.bohm_types.specs.Txn.{Txn}
use Rattle.bohm_txn.specs.declared.outcome.Reply.{Reply}
use Rattle.bohm_txn.specs.Meaning.{Look, body}
use Rattle.bohm_txn.specs.Serial.{after, reply_of}
use Rattle.bohm_text.specs.Print.{Words, line_text, print_doc, reply_words, text_of}
use Rattle.bohm_entries.specs.Meaning.{Entry, Define, Call, Transaction, Definitions, defined, txns_of}
use Rattle.bohm_entries.specs.Batches.{Defined, are_plain, called_of, count, defined_after, defined_by, definitions_with, entries_of, entry_in, id_in, is_definition, log_of, txns_in, txns_with, weight}
use Rattle.bohm_entries.specs.Refusals.{IsEntry}
use Rattle.bohm_ledger.specs.Rules.{Rules, State}

-- what each key holds after these transactions, one after another
abbrev pub look_after : Look → List Txn → Look
look_after look [] = look
look_after look (t ∷ ts) = look_after (after look t) ts

-- what each key holds after these entries
abbrev pub look_by : Defined → Look → List (List (List ℕ)) → Look
look_by d look [] = look
look_by d look (e ∷ es) = look_by (defined_after d e) (look_after look (txns_in d e)) es

-- the definitions, what each key holds, and the number of the last transaction
abbrev pub state_of : Edition → Definitions → Look → ℕ → State Defined
state_of edition procedures look top = record { defs = record { edition = edition; procedures = procedures }; look = look; top = top }

-- after an entry that has so many transactions
abbrev pub step_with : State Defined → Option Entry → ℕ → State Defined
step_with s e size = state_of s.defs.edition (definitions_with s.defs.procedures e) (look_after s.look (txns_with s.defs.procedures e)) (s.top + size)

-- after the entry of these lines
abbrev pub step : State Defined → List (List ℕ) → State Defined
step s e = step_with s (entry_in s.defs e) (weight e)

-- the reply to a transaction that has this number
abbrev pub reply_line : ℕ → Look → Txn → List ℕ
reply_line number look t = line_text (reply_words number (reply_of (body look t)))

abbrev pub reply_lines : ℕ → Look → List Txn → List ℕ
reply_lines number look [] = []
reply_lines number look (t ∷ ts) = reply_line number look t

-- the answer to an entry: `defined NAME`, or its transaction's reply
abbrev pub answer_with : ℕ → Look → Definitions → Option Entry → List ℕ
answer_with number look ds None = []
answer_with number look ds (Some (Define name procedure)) = codes "defined " ++ name
answer_with number look ds (Some (Call name keys values)) = reply_lines number look (txns_of ds (Call name keys values))
answer_with number look ds (Some (Transaction t)) = reply_line number look t

abbrev pub answer_to : State Defined → List (List ℕ) → List ℕ
answer_to s e = answer_with (s.top + 1) s.look s.defs.procedures (entry_in s.defs e)

-- the entry was run, and this is the answer
pub record IsRun (was : State Defined) (entry : Option Entry) (size : ℕ) (now : State Defined) (text : List ℕ) : Type 0 where
  pub went : now ≡ step_with was entry size
  pub answer : text ≡ answer_with (was.top + 1) was.look was.defs.procedures entry

-- these words call the procedure with these arguments
pub record IsCallOf (ds : Definitions) (words : Words) (procedure : Procedure) (keys : List (List ℕ)) (values : List ℤ) : Type 0 where
  pub name : List ℕ
  pub spelled : called_of ds words ≡ Some (Call name keys values)
  pub known : defined ds name ≡ Some procedure

-- the log is the instance of the call of these words
pub record IsLogOf (ds : Definitions) (words : Words) (log : List Txn) : Type 0 where
  pub procedure : Procedure
  pub keys : List (List ℕ)
  pub values : List ℤ
  pub call : IsCallOf ds words procedure keys values
  pub only : log ≡ instance procedure keys values ∷ []

-- the text is that of a log of the only one of these transactions, with no store
pub record IsPrinted (text : List ℕ) (ts : List Txn) : Type 0 where
  pub document : Document
  pub one : length document.log ≡ 1
  pub log : document.log ≡ ts
  pub storeless : document.store ≡ []
  pub print : text ≡ print_doc document

-- the same, or no text where there is no transaction
abbrev pub ArePrinted : Option (List ℕ) → List Txn → Type 0
ArePrinted None ts = ts ≡ []
ArePrinted (Some text) ts = IsPrinted text ts

-- the answers to these entries
abbrev pub answers_by : State Defined → List (List (List ℕ)) → List (List ℕ)
answers_by s [] = []
answers_by s (e ∷ es) = answer_to s e ∷ answers_by (step s e) es

-- each entry spells one after the definitions before it
abbrev pub AreSpelled : Defined → List (List (List ℕ)) → Type 0
AreSpelled d [] = ⊤
AreSpelled d (e ∷ es) = IsSome (entry_in d e) × AreSpelled (defined_after d e) es

abbrev pub told_if : Bool → List ℕ → List (List ℕ)
told_if true answer = []
told_if false answer = answer ∷ []

-- the answers to those of these entries that aren't definitions
abbrev pub replies_by : State Defined → List (List (List ℕ)) → List (List ℕ)
replies_by s [] = []
replies_by s (e ∷ es) = told_if (is_definition e) (answer_to s e) ++ replies_by (step s e) es

-- the lines of replies, of which the first has this number
abbrev pub numbered : ℕ → List Reply → List (List ℕ)
numbered number [] = []
numbered number (r ∷ rs) = line_text (reply_words number r) ∷ numbered (number + 1) rs

-- an id, and the answer to its entry
abbrev pub request_with : Option (List ℕ) → List ℕ → List (List ℕ × List ℕ)
request_with None answer = []
request_with (Some id) answer = (id, answer) ∷ []

-- the ids of these entries, each with the answer
abbrev pub requests_by : State Defined → List (List (List ℕ)) → List (List ℕ × List ℕ)
requests_by s [] = []
requests_by s (e ∷ es) = request_with (id_in e) (answer_to s e) ++ requests_by (step s e) es

-- the text of these entries, each of its lines
abbrev pub entries_text : List (List (List ℕ)) → List ℕ
entries_text [] = []
entries_text (e ∷ es) = text_of e ++ entries_text es

-- each may be run after the ones before it
abbrev pub AreEntries : Defined → List (List (List ℕ)) → Type 0
AreEntries d [] = ⊤
AreEntries d (e ∷ es) = IsEntry d (text_of e) × AreEntries (defined_after d e) es

-- the text is one entry after another, each of which may be run after the ones before it
pub record IsBatch (d : Defined) (text : List ℕ) : Type 0 where
  pub each : AreEntries d (entries_of text)
  pub whole : entries_text (entries_of text) ≡ text

-- the room of a machine after so many transactions since the last checkpoint: right after it there is room for 2^31
abbrev pub room_after : ℕ → ℕ → ℕ
room_after zero room = max (2 ^ 31) room
room_after (suc n) room = room

-- the rules of a ledger whose batches are texts of entries
abbrev pub entry_rules : Rules Defined
entry_rules = record {
  start = λ edition. record { edition = edition; procedures = [] };
  define = λ d text. defined_by d (entries_of text);
  act = λ d look text. look_by d look (entries_of text);
  size = λ text. count (entries_of text);
  is_plain = λ text. are_plain (entries_of text);
  answers = λ s text. requests_by s (entries_of text);
}

-- the log of instances of these batches
abbrev pub log_of_batches : Defined → List (List ℕ) → List Txn
log_of_batches d [] = []
log_of_batches d (b ∷ bs) = log_of d (entries_of b) ++ log_of_batches (defined_by d (entries_of b)) bs
