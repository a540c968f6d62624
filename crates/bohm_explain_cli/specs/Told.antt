-- How the program ends after a fault.
use Rattle.std.specs.Prelude.{◌≡◌, codes}
use Rattle.bohm_command.specs.declared.ending.NoAnswer.{NoAnswer}
use Rattle.bohm_command.specs.declared.ending.NoAnswer.TheVariants as ending
use Rattle.bohm_explain_cli.specs.declared.fault.ExplainFault.{ExplainFault}
use Rattle.bohm_explain_cli.specs.declared.fault.ExplainFault.TheVariants.{Run, NoPart}

-- as a run that is refused with this fault; a part that the log lacks has its own line, with the same status
abbrev pub IsToldAs : ExplainFault → NoAnswer → Type 0
IsToldAs (Run fault) reason = reason ≡ ending.Run fault
IsToldAs NoPart (ending.Refused line) = line.now ≡ codes "refused: no such part\n"
IsToldAs NoPart (ending.Run fault) = ⊥
IsToldAs NoPart (ending.BadArguments text) = ⊥
