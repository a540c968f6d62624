-- The program's options, as clap represents them.
use Rattle.std.specs.Prelude.{[], ◌∷◌, codes}
use Rattle.clap.specs.Simple.{new_shape}
use Rattle.clap.specs.Words.{App, Rule, Text, new_rule}
use Rattle.bohm_command.specs.Options.{flag_rule, number_rule}
use Rattle.bohm_types.specs.declared.limits.TheConstants.{LARGEST_BATCH}
use Rattle.bohm_ledger_cli.specs.declared.options.TheConstants.{LONGEST_WAIT}

-- the argument of this name that is a word
abbrev pub word_rule : Text → Rule
word_rule name = record (new_rule name) { value_names = 1 }

-- the command
abbrev pub bohm_ledger : App
bohm_ledger = record {
  top = record (new_shape (codes "bohm-ledger")) {
    rules =
        number_rule (codes "edition") 1 2
        ∷ number_rule (codes "batch") 1 LARGEST_BATCH
        ∷ number_rule (codes "wait") 0 LONGEST_WAIT
        ∷ flag_rule (codes "log")
        ∷ word_rule (codes "first")
        ∷ word_rule (codes "second")
        ∷ word_rule (codes "third")
        ∷ [];
  };
  subs = [];
}
