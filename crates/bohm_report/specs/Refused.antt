-- The fault of a run on a text that the check refuses.
use Rattle.std.specs.Prelude.{ℕ, List, Option, None}
use Rattle.bohm_answer.specs.Bytes.{ReadsAll}
use Rattle.bohm_answer.specs.Refusing.{refusal_of}
use Rattle.bohm_run.specs.Headline.{Refuses}
use Rattle.bohm_settings.specs.Given.{Given}
use Rattle.bohm_answer.specs.declared.fault.RunFault.{RunFault}
use Rattle.bohm_answer.specs.declared.fault.RunFault.TheVariants as run
use Rattle.bohm_report.specs.declared.refusal.Refusal.{Refusal}
use Rattle.bohm_report.specs.declared.refusal.Refusal.TheVariants.{Text, Check, NoMemory}

abbrev pub fault_of : Refusal → RunFault
fault_of (Text fault) = refusal_of fault
fault_of (Check fault) = run.Check fault
fault_of NoMemory = run.NoMemory

-- whoever reads this text to its end refuses it so, with any settings
abbrev pub RunRefuses : List ℕ → RunFault → Type 0
RunRefuses text fault = (given : Given) (unread unread' : Option (List ℕ)) → ReadsAll unread unread' text → Refuses given unread unread' None None fault
