-- The lines that answer entries.
use Rattle.std.specs.Prelude.{ℕ, List, [], ◌∷◌, ◌++◌, Option, Some, None, codes}
use Rattle.bohm_text.specs.declared.fault.TextFault.TheVariants as texts
use Rattle.bohm_answer.specs.FaultLine.{fault_words}
use Rattle.bohm_answer.specs.declared.fault.RunFault.TheVariants as runs
use Rattle.bohm_entries.specs.declared.refusal.Refusal.{Refusal}
use Rattle.bohm_entries.specs.declared.refusal.Refusal.TheVariants.{Shape, Line, Short, Check, Procedure, Arguments, Value, Key, Id, Large}

-- why an entry is refused; the faults that a log has are told as a log's
abbrev pub refusal_words : Refusal → List ℕ
refusal_words Shape = codes "refused: shape"
refusal_words (Line n) = fault_words (runs.Text (texts.Line n))
refusal_words Short = fault_words (runs.Text texts.Short)
refusal_words (Check f) = fault_words (runs.Check f)
refusal_words Procedure = codes "refused: procedure"
refusal_words Arguments = codes "refused: arguments"
refusal_words Value = codes "refused: value"
refusal_words Key = codes "refused: key"
refusal_words Id = codes "refused: id"
refusal_words Large = codes "refused: large"

-- the line of an answer to an entry, with its id and without
abbrev pub answer_line : Option (List ℕ) → List ℕ → List ℕ
answer_line None text = text ++ 10 ∷ []
answer_line (Some id) text = 35 ∷ id ++ 32 ∷ text ++ 10 ∷ []
