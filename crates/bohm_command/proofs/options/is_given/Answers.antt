use Rattle.std.proofs.Common.{◌∙◌}
use Rattle.bohm_command.proofs.Flags.{flag_read}
use Rattle.bohm_command.proofs.options.is_given.Goals as goal

pub returns : goal.returns
returns c = c.unwrap_or.ensures ∙ flag_read _ _ _ c.get_one.ensures.none c.get_one.ensures.value
