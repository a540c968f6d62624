-- The line of each fault.
use Rattle.std.specs.Prelude.{◌≡◌, ℕ, List, [], ◌∷◌, ◌++◌, Option, codes}
use Rattle.std.specs.Fmt.{decimal}
use Rattle.std.specs.Io.KnownBytes.{Appends}
use Rattle.bohm_txn.specs.declared.fault.CheckFault.{CheckFault}
use Rattle.bohm_txn.specs.declared.fault.CheckKind.{CheckKind}
use Rattle.bohm_txn.specs.declared.fault.CheckKind.TheVariants.{Order, Unread, Unwritten, Local, Limit}
use Rattle.bohm_text.specs.declared.fault.TextFault.TheVariants as texts
use Rattle.bohm_answer.specs.declared.fault.RunFault.{RunFault}
use Rattle.bohm_answer.specs.declared.fault.RunFault.TheVariants.{Read, TooLong, Text, Check, Trimmed, Future, NoMemory, Write}

abbrev pub kind_word : CheckKind → List ℕ
kind_word Order = codes "order"
kind_word Unread = codes "unread"
kind_word Unwritten = codes "unwritten"
kind_word Local = codes "local"
kind_word Limit = codes "limit"

abbrev pub spaced_decimal : ℕ → List ℕ
spaced_decimal n = 32 ∷ decimal n

abbrev pub check_words : CheckFault → List ℕ
check_words f = codes "refused: check " ++ kind_word f.kind ++ spaced_decimal f.txn ++ spaced_decimal f.stmt

abbrev pub fault_words : RunFault → List ℕ
fault_words Read = codes "refused: read"
fault_words TooLong = codes "refused: too long"
fault_words (Text (texts.Line n)) = codes "refused: line" ++ spaced_decimal n
fault_words (Text texts.Short) = codes "refused: short"
fault_words (Text texts.NoMemory) = codes "refused: memory"
fault_words (Check f) = check_words f
fault_words Trimmed = codes "refused: trimmed"
fault_words Future = codes "refused: future"
fault_words NoMemory = codes "refused: memory"
fault_words (Write sent) = codes "refused: write" ++ spaced_decimal sent

-- the line with its newline byte
abbrev pub fault_line : RunFault → List ℕ
fault_line f = fault_words f ++ 10 ∷ []

-- a prefix of these bytes was appended to the contents of a writer
pub record AppendsFront (written written' : Option (List ℕ)) (bytes : List ℕ) : Type 0 where
  pub front : List ℕ
  pub rest : List ℕ
  pub whole : bytes ≡ front ++ rest
  pub wrote : Appends written written' front
