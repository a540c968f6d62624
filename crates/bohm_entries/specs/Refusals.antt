-- Which texts are entries, and why any other text is refused.
use Rattle.std.specs.Prelude.{◌≡◌, ◌≢◌, ◌⊎◌, ℕ, ◌+◌, ◌<◌, ◌^◌, Bool, true, false, ◌&&◌, List, [], ◌∷◌, ◌++◌, Option, Some, None, IsSome, length, take, drop, nat_le}
use Rattle.std.specs.List.{list_all}
use Rattle.bohm_types.specs.declared.edition.Edition.{Edition}
use Rattle.bohm_types.specs.Document.{Document}
use Rattle.bohm_types.specs.Name.{is_name}
use Rattle.bohm_types.specs.Procedure.{Procedure}
use Rattle.bohm_types.specs.Sound.{IsDocument}
use Rattle.bohm_txn.specs.Faulty.{IsFirstFault, WellFormed}
use Rattle.bohm_txn.specs.declared.fault.CheckFault.{CheckFault}
use Rattle.bohm_text.specs.Cut.{split, whole_lines}
use Rattle.bohm_text.specs.Faults.{IsFirstBadLine, IsShort}
use Rattle.bohm_text.specs.Print.{Words, print_doc}
use Rattle.bohm_text.specs.ProcedureFaults as procedures
use Rattle.bohm_text.specs.ProcedureText.{IsProcedure, print_procedure}
use Rattle.bohm_text.specs.Reading.{keys_of}
use Rattle.bohm_text.specs.Windowing.{IsWhole}
use Rattle.bohm_procedures.specs.Accepting.{IsAccepted, IsRefusedBy}
use Rattle.bohm_entries.specs.declared.first_line.Kind.{Kind}
use Rattle.bohm_entries.specs.declared.first_line.Kind.TheVariants as kinds
use Rattle.bohm_entries.specs.declared.refusal.Refusal.{Refusal}
use Rattle.bohm_entries.specs.declared.refusal.Refusal.TheVariants as refusal_is
use Rattle.bohm_entries.specs.Batches.{Defined, behind_opening, entries_of, named, values_of}
use Rattle.bohm_entries.specs.FirstLines.{IsRest, line_words}
use Rattle.bohm_entries.specs.Ids.{is_id_byte}
use Rattle.bohm_entries.specs.Meaning.{Definitions, defined}

-- ---- the first line

-- 1 or more bytes of `!` to `~`
abbrev pub is_word : List ℕ → Bool
is_word word = nat_le 1 (length word) && list_all is_id_byte word

-- the first of the words is a name
abbrev pub begins_named : Words → Bool
begins_named [] = false
begins_named (word ∷ words) = is_name word

-- the words behind the kind and the id are as many as the kind allows, and begin with a name where it wants one; a call is one line
abbrev pub HasForm : Kind → Words → List ℕ → Type 0
HasForm kinds.Define words lines = IsSome (named words)
HasForm kinds.Call words lines = (begins_named words ≡ true) × (lines ≡ [])
HasForm kinds.Transaction words lines = words ≡ []

-- the first line of the text has the form of this kind's, with this id and these words behind it; the other lines follow
pub record IsHead (text : List ℕ) (kind : Kind) (id : Option (List ℕ)) (rest : Words) (lines : List ℕ) : Type 0 where
  pub line : List ℕ
  pub begins : text ≡ line ++ 10 ∷ lines
  pub first : whole_lines text ≡ line ∷ whole_lines lines
  pub words : split 32 line ≡ line_words kind id rest
  pub marked : IsRest id rest
  pub plain : list_all is_word (split 32 line) ≡ true
  pub form : HasForm kind rest lines

-- the bytes of a first line that spell its id, with a space and a mark
abbrev pub id_size : Option (List ℕ) → ℕ
id_size None = 0
id_size (Some id) = length id + 2

-- without its last newline and its id, the text has more than 2^20 bytes
abbrev pub IsLarge : List ℕ → Option (List ℕ) → Type 0
IsLarge text id = (2 ^ 20 + id_size id) + 1 < length text

-- the text is the lines of one entry, and nothing behind them
pub record IsOne (text : List ℕ) : Type 0 where
  pub whole : IsWhole text
  pub entry : entries_of text ≡ whole_lines text ∷ []

-- ---- a definition, by the lines behind the first one

-- the text is an accepted procedure's of this edition
pub record IsDefinition (edition : Edition) (text : List ℕ) : Type 0 where
  pub procedure : Procedure
  pub sound : IsProcedure procedure
  pub print : print_procedure procedure ≡ text
  pub same : procedure.edition ≡ edition
  pub accepted : IsAccepted procedure

-- the text is a procedure's of the other edition
pub record IsOfAnother (edition : Edition) (text : List ℕ) : Type 0 where
  pub procedure : Procedure
  pub sound : IsProcedure procedure
  pub print : print_procedure procedure ≡ text
  pub other : procedure.edition ≢ edition

abbrev pub RefusesDefinition : Edition → List ℕ → Refusal → Type 0
RefusesDefinition edition text (refusal_is.Line n) = procedures.IsFirstBadLine (whole_lines text) n ⊎ ((n ≡ 1) × IsOfAnother edition text)
RefusesDefinition edition text refusal_is.Short = procedures.IsShort text
RefusesDefinition edition text (refusal_is.Check f) = IsRefusedBy text f
RefusesDefinition edition text _ = ⊥

-- ---- a call, by the words behind the kind and the id

abbrev pub RefusesArguments : Words → ℕ → ℕ → Refusal → Type 0
RefusesArguments words keys values refusal_is.Arguments = length words ≢ keys + values
RefusesArguments words keys values refusal_is.Value = (length words ≡ keys + values) × (values_of (drop keys words) ≡ None)
RefusesArguments words keys values refusal_is.Key =
    (length words ≡ keys + values) × IsSome (values_of (drop keys words)) × (keys_of (take keys words) ≡ None)
RefusesArguments words keys values _ = ⊥

-- the name is defined, and these are arguments for its parameters, keys before values
pub record IsCalled (ds : Definitions) (name : List ℕ) (words : Words) : Type 0 where
  pub procedure : Procedure
  pub known : defined ds name ≡ Some procedure
  pub count : length words ≡ length procedure.keys + length procedure.values
  pub values : IsSome (values_of (drop (length procedure.keys) words))
  pub keys : IsSome (keys_of (take (length procedure.keys) words))

-- the name is defined, and these aren't arguments for its parameters
pub record IsMiscalled (ds : Definitions) (name : List ℕ) (words : Words) (refusal : Refusal) : Type 0 where
  pub procedure : Procedure
  pub known : defined ds name ≡ Some procedure
  pub why : RefusesArguments words (length procedure.keys) (length procedure.values) refusal

abbrev pub Calls : Definitions → Words → Type 0
Calls ds [] = ⊥
Calls ds (name ∷ words) = IsCalled ds name words

abbrev pub RefusesCall : Definitions → Words → Refusal → Type 0
RefusesCall ds [] refusal = ⊥
RefusesCall ds (name ∷ words) refusal_is.Procedure = defined ds name ≡ None
RefusesCall ds (name ∷ words) refusal = IsMiscalled ds name words refusal

-- ---- a transaction, by the lines behind `txn`

-- the text is a well-formed log's of one transaction
pub record IsTransaction (edition : Edition) (lines : List ℕ) : Type 0 where
  pub document : Document
  pub sound : IsDocument document
  pub print : print_doc document ≡ behind_opening edition lines
  pub one : length document.log ≡ 1
  pub well_formed : WellFormed document

-- the text is a log's of several transactions
pub record AreSeveral (edition : Edition) (lines : List ℕ) : Type 0 where
  pub document : Document
  pub sound : IsDocument document
  pub print : print_doc document ≡ behind_opening edition lines
  pub several : length document.log ≢ 1

-- the text is a log's of one transaction, which has this fault
pub record IsFaulty (edition : Edition) (lines : List ℕ) (fault : CheckFault) : Type 0 where
  pub document : Document
  pub sound : IsDocument document
  pub print : print_doc document ≡ behind_opening edition lines
  pub one : length document.log ≡ 1
  pub first : IsFirstFault document fault

abbrev pub RefusesTransaction : Edition → List ℕ → Refusal → Type 0
RefusesTransaction edition lines refusal_is.Shape = AreSeveral edition lines
RefusesTransaction edition lines (refusal_is.Line n) = IsFirstBadLine (whole_lines (behind_opening edition lines)) (n + 1)
RefusesTransaction edition lines refusal_is.Short = IsShort (behind_opening edition lines)
RefusesTransaction edition lines (refusal_is.Check f) = IsFaulty edition lines f
RefusesTransaction edition lines _ = ⊥

-- ---- an entry

-- what follows the kind and the id makes an entry after these definitions
abbrev pub Says : Defined → Kind → Words → List ℕ → Type 0
Says d kinds.Define rest lines = IsDefinition d.edition lines
Says d kinds.Call rest lines = Calls d.procedures rest
Says d kinds.Transaction rest lines = IsTransaction d.edition lines

abbrev pub RefusesKind : Defined → Kind → Words → List ℕ → Refusal → Type 0
RefusesKind d kinds.Define rest lines refusal = RefusesDefinition d.edition lines refusal
RefusesKind d kinds.Call rest lines refusal = RefusesCall d.procedures rest refusal
RefusesKind d kinds.Transaction rest lines refusal = RefusesTransaction d.edition lines refusal

-- the text is one entry that may be run after these definitions
pub record IsEntry (d : Defined) (text : List ℕ) : Type 0 where
  pub kind : Kind
  pub id : Option (List ℕ)
  pub rest : Words
  pub lines : List ℕ
  pub head : IsHead text kind id rest lines
  pub small : ¬ IsLarge text id
  pub says : Says d kind rest lines
  pub one : IsOne text

-- no line like an entry's first one is the first
abbrev pub IsHeadless : List ℕ → Type 0
IsHeadless text = (kind : Kind) (id : Option (List ℕ)) (rest : Words) (lines : List ℕ) → ¬ IsHead text kind id rest lines

-- the first line has its form, but there are more bytes than an entry may have
pub record IsTooLarge (text : List ℕ) : Type 0 where
  pub kind : Kind
  pub id : Option (List ℕ)
  pub rest : Words
  pub lines : List ℕ
  pub head : IsHead text kind id rest lines
  pub large : IsLarge text id

-- the first line has its form and the text its size, but what follows is refused
pub record IsRefusedBehind (d : Defined) (text : List ℕ) (refusal : Refusal) : Type 0 where
  pub kind : Kind
  pub id : Option (List ℕ)
  pub rest : Words
  pub lines : List ℕ
  pub head : IsHead text kind id rest lines
  pub small : ¬ IsLarge text id
  pub why : RefusesKind d kind rest lines refusal

-- the first refusal that applies to the text after these definitions. An id that another entry has is a matter of what is stored
abbrev pub Refuses : Defined → List ℕ → Refusal → Type 0
Refuses d text refusal_is.Shape = IsHeadless text ⊎ ((¬ IsOne text) ⊎ IsRefusedBehind d text refusal_is.Shape)
Refuses d text refusal_is.Large = IsTooLarge text
Refuses d text refusal_is.Id = ⊥
Refuses d text refusal = IsRefusedBehind d text refusal
