-- What the program reads and writes.
use Rattle.std.specs.Prelude.{◌≡◌, ◌⊎◌, ℕ, ◌<◌, ◌≤◌, List, [], length, true, false, Option}
use Rattle.std.specs.Io.KnownBytes.{Appends, Consumes}
use Rattle.bohm_answer.specs.Bytes.{ReadsAll, Sends}
use Rattle.bohm_answer.specs.declared.fault.RunFault.{RunFault}
use Rattle.bohm_answer.specs.declared.fault.RunFault.TheVariants.{Read, TooLong, Text, Check, Trimmed, Future, NoMemory, Write}
use Rattle.bohm_text.specs.declared.fault.TextFault.TheVariants as texts
use Rattle.bohm_tidy.specs.Plain.{is_loose_procedure}
use Rattle.bohm_tidy.specs.Tidied.{HasDouble, IsReadAs, IsTidied, IsProcedureText, RefusesLoose}
use Rattle.bohm_tidy.specs.declared.fault.TidyFault.{TidyFault}
use Rattle.bohm_tidy.specs.declared.fault.TidyFault.TheVariants as tidies
use Rattle.bohm_txn.specs.declared.fault.CheckFault.{CheckFault}
use Rattle.bohm_txn.specs.declared.fault.CheckKind.TheVariants.{Order}
use Rattle.bohm_types.specs.Limits.{longest_text}

-- the exact text of a loose log, or a procedure's text if the loose text's first words are a procedure's head; this doesn't say which procedure's
pub record IsExactOf (text exact : List ℕ) : Type 0 where
  pub log : is_loose_procedure text ≡ false → IsTidied text exact
  pub procedure : is_loose_procedure text ≡ true → IsProcedureText exact

-- the reader's whole input is a text with this exact text, which isn't too long
pub record ReadsLoose (unread unread' : Option (List ℕ)) (exact : List ℕ) : Type 0 where
  pub text : List ℕ
  pub read : ReadsAll unread unread' text
  pub tidied : IsExactOf text exact
  pub short : length exact ≤ longest_text

-- the reader's whole input has an exact text, and nothing was written
pub record ChecksLoose (unread unread' written written' : Option (List ℕ)) : Type 0 where
  pub exact : List ℕ
  pub loose : ReadsLoose unread unread' exact
  pub silent : Appends written written' []

-- only the exact text was written
pub record Tidies (unread unread' written written' : Option (List ℕ)) : Type 0 where
  pub exact : List ℕ
  pub loose : ReadsLoose unread unread' exact
  pub wrote : Appends written written' exact

-- the first bytes of the exact text were written
pub record StopsTidying (unread unread' written written' : Option (List ℕ)) (sent : ℕ) : Type 0 where
  pub exact : List ℕ
  pub loose : ReadsLoose unread unread' exact
  pub wrote : Sends written written' exact sent

-- ---- refusals

-- a store whose keys aren't in order
abbrev pub out_of_order : CheckFault
out_of_order = record { txn = 0; stmt = 0; kind = Order }

-- the refusal of a text that has no exact one
abbrev pub tidy_refusal : TidyFault → RunFault
tidy_refusal (tidies.Line n) = Text (texts.Line n)
tidy_refusal tidies.Short = Text texts.Short
tidy_refusal (tidies.Twice double) = Check out_of_order
tidy_refusal tidies.NoMemory = NoMemory

-- the text has an exact one, which is too long
pub record HasLongText (text : List ℕ) : Type 0 where
  pub exact : List ℕ
  pub tidied : IsExactOf text exact
  pub long : longest_text < length exact

-- why a text whose first words aren't a procedure's head has no exact text, or one that is too long
abbrev pub RefusesLooseLog : List ℕ → RunFault → Type 0
RefusesLooseLog text Read = ⊥
RefusesLooseLog text TooLong = HasLongText text
RefusesLooseLog text (Text (texts.Line n)) = RefusesLoose text (tidies.Line n)
RefusesLooseLog text (Text texts.Short) = RefusesLoose text tidies.Short
RefusesLooseLog text (Text texts.NoMemory) = ⊥
RefusesLooseLog text (Check fault) = HasDouble IsReadAs text × (fault ≡ out_of_order)
RefusesLooseLog text Trimmed = ⊥
RefusesLooseLog text Future = ⊥
RefusesLooseLog text NoMemory = Unit {0}
RefusesLooseLog text (Write sent) = ⊥

-- all that was read is such a text, or a procedure's, of which this says nothing
pub record ReadsUntidy (unread unread' : Option (List ℕ)) (fault : RunFault) : Type 0 where
  pub text : List ℕ
  pub read : ReadsAll unread unread' text
  pub refused : is_loose_procedure text ≡ false → RefusesLooseLog text fault

-- the reader had more bytes than a text may have
pub record ReadsTooMuch (unread unread' : Option (List ℕ)) : Type 0 where
  pub bytes : List ℕ
  pub long : longest_text < length bytes
  pub read : Consumes unread unread' bytes

-- what a refusal means where the exact text isn't checked
abbrev pub RefusesToTidy : Option (List ℕ) → Option (List ℕ) → RunFault → Type 0
RefusesToTidy unread unread' Read = Unit {0}
RefusesToTidy unread unread' TooLong = ReadsTooMuch unread unread' ⊎ ReadsUntidy unread unread' TooLong
RefusesToTidy unread unread' (Text fault) = ReadsUntidy unread unread' (Text fault)
RefusesToTidy unread unread' (Check fault) = ReadsUntidy unread unread' (Check fault)
RefusesToTidy unread unread' Trimmed = ReadsUntidy unread unread' Trimmed
RefusesToTidy unread unread' Future = ReadsUntidy unread unread' Future
RefusesToTidy unread unread' NoMemory = Unit {0}
RefusesToTidy unread unread' (Write sent) = Unit {0}
