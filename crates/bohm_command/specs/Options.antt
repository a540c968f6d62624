-- Options that take a number, flags, and a file's name, as clap represents them.
use Rattle.std.specs.Prelude.{ℕ, Bool, false, true, List, [], ◌∷◌, Option, Some, pos, option_map, codes}
use Rattle.std.specs.Option.{option_map_or}
use Rattle.std.specs.Str.{bytes_eq}
use Rattle.std.specs.Str.Parse.{digits_value, without_leading_plus}
use Rattle.clap.specs.Simple.{new_shape}
use Rattle.clap.specs.Words.{App, Row, Rule, Text, first_of, new_rule, one_of}
use Rattle.clap.specs.declared.builder.action.ArgAction.TheVariants.{SetTrue}
use Rattle.clap.specs.declared.builder.value_parser.ValueParser.TheVariants as parser

-- the option of this name takes one number from `least` to `most`
abbrev pub number_rule : Text → ℕ → ℕ → Rule
number_rule name least most = record (new_rule name) {
  long = Some name;
  parser = Some (parser.Signed (pos least) (pos most));
  value_names = 1;
}

-- the number of the option of this name in the matched rows, if it is there
abbrev pub number_in : List Row → Text → Option ℕ
number_in rows name = option_map (λ text. digits_value 10 (without_leading_plus text)) (one_of name rows)

-- the flag of this name
abbrev pub flag_rule : Text → Rule
flag_rule name = record (new_rule name) { long = Some name; action = Some SetTrue }

-- whether the flag of this name is in the matched rows
abbrev pub flag_in : List Row → Text → Bool
flag_in rows name = option_map_or (λ text. bytes_eq text (codes "true")) (one_of name rows) false

-- the argument that names a file
abbrev pub file_rule : Rule
file_rule = record (new_rule (codes "file")) { value_names = 1 }

-- a program of this name that takes the name of a file, and prints its version
abbrev pub with_file : Text → App
with_file name = record { top = record (new_shape name) { rules = file_rule ∷ []; has_version = true }; subs = [] }

-- the name of the file in the matched rows, if it is there
abbrev pub file_in : List Row → Option Text
file_in rows = first_of (codes "file") rows
