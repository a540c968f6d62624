-- How a program ends.
use Rattle.std.specs.Prelude.{◌≡◌, ℕ, List, Option, Result, Ok, Err, string_bytes}
use Rattle.std.specs.Io.KnownBytes.{Appends, Keeps}
use Rattle.bohm_answer.specs.Bytes.{IsWriteFault}
use Rattle.bohm_answer.specs.FaultLine.{fault_line}
use Rattle.bohm_answer.specs.declared.fault.RunFault.TheVariants as run
use Rattle.bohm_command.specs.declared.fault.ArgumentFault.{ArgumentFault}
use Rattle.bohm_command.specs.declared.fault.ArgumentFault.TheVariants.{Bad, Help, Version, NoMemory}
use Rattle.bohm_command.specs.declared.ending.NoAnswer.{NoAnswer}
use Rattle.bohm_command.specs.declared.ending.NoAnswer.TheVariants.{BadArguments, Run, Refused}

-- 0 after an answer or help, 1 after a refused run, 2 after bad arguments
abbrev pub status_of : {A : Type 0} → Result A NoAnswer → ℕ
status_of (Ok answered) = 0
status_of (Err (BadArguments text)) = 2
status_of (Err (Run fault)) = 1
status_of (Err (Refused line)) = 1

-- how a program ends that was asked for this text, and what was written to standard output
abbrev pub Prints : {A : Type 0} → List ℕ → Option (List ℕ) → Option (List ℕ) → Result A NoAnswer → Type 0
Prints text out out' (Ok answered) = Appends out out' text
Prints text out out' (Err (Run fault)) = IsWriteFault out out' text fault
Prints text out out' (Err (BadArguments other)) = ⊥
Prints text out out' (Err (Refused line)) = ⊥

-- how a program whose arguments made no request ends, and what was written to standard output
abbrev pub Ends : {A : Type 0} → ArgumentFault → Option (List ℕ) → Option (List ℕ) → Result A NoAnswer → Type 0
Ends (Help text) out out' result = Prints (string_bytes text) out out' result
Ends (Version text) out out' result = Prints (string_bytes text) out out' result
Ends (Bad text) out out' result = Keeps out out' × (result ≡ Err (BadArguments text))
Ends NoMemory out out' result = Keeps out out' × (result ≡ Err (Run run.NoMemory))

-- the text that is written to standard error
abbrev pub text_of : NoAnswer → List ℕ
text_of (BadArguments text) = string_bytes text
text_of (Run fault) = fault_line fault
text_of (Refused line) = line.now
