use Rattle.bohm_command.proofs.no_options.command.Goals as goal

pub returns : goal.returns
returns c = rw (c.after_help.ensures, c.about.ensures) c.new.ensures.app
