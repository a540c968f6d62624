-- A refusal before anything is written is a refusal of the explanation.
use Rattle.std.proofs.Common.{List, ℕ}
use Rattle.std.specs.Prelude.{Option}
use Rattle.bohm_answer.specs.Refusing.{IsBeforeWriting}
use Rattle.bohm_answer.specs.declared.fault.RunFault.{RunFault}
use Rattle.bohm_answer.specs.declared.fault.RunFault.TheVariants.{Read, TooLong, Text, Check, Trimmed, Future, NoMemory, Write}
use Rattle.bohm_report.specs.Procedures.{RefusesLogOrProcedure}
use Rattle.bohm_explain_cli.specs.declared.arguments.Wish.{Wish}
use Rattle.bohm_explain_cli.specs.Explaining.{RefusesText}
use Rattle.bohm_explain_cli.specs.declared.fault.ExplainFault.TheVariants.{Run}

pub before_writing : (wish : Wish) (unread unread' written written' : Option (List ℕ)) (fault : RunFault) → IsBeforeWriting fault
    → RefusesLogOrProcedure unread unread' fault → RefusesText wish unread unread' written written' (Run fault)
before_writing wish unread unread' written written' Read before refuses = refuses
before_writing wish unread unread' written written' TooLong before refuses = refuses
before_writing wish unread unread' written written' (Text fault) before refuses = refuses
before_writing wish unread unread' written written' (Check fault) before refuses = refuses
before_writing wish unread unread' written written' Trimmed before refuses = refuses
before_writing wish unread unread' written written' Future before refuses = refuses
before_writing wish unread unread' written written' NoMemory before refuses = refuses
before_writing wish unread unread' written written' (Write sent) before refuses = absurd before
