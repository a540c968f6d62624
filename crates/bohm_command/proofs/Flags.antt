-- `get_one` of a flag says whether the flag was matched.
use Rattle.std.proofs.Common.{◌≡◌, ◌≢◌, ◌∙◌, Bool, true, false, Option, Some, None, codes, refl, sym, ap}
use Rattle.std.specs.Option.{option_map_or}
use Rattle.std.specs.Str.{bytes_eq}
use Rattle.std.specs.Str.Parse.{ParsesBool}
use Rattle.std.specs.Prelude.{unwrap_or}
use Rattle.std.specs.declared.str.ParseBoolError.{ParseBoolError}
use Rattle.std.proofs.lemmas.Slice.Eq.{bytes_eq-Decides}
use Rattle.clap.specs.Matches.{ReadsOne, found_of, one_text}
use Rattle.clap.specs.Walk.{Text, rows_of}
use Rattle.clap.specs.declared.parser.matches.ArgMatches.{ArgMatches}
use Rattle.clap.proofs.WalkLemmas.{one_text-rows}
use Rattle.bohm_command.specs.Options.{flag_in}

-- whether the text is `true`
abbrev says_so : Text → Bool
says_so text = bytes_eq text (codes "true")

apart : (text : Text) → text ≢ codes "true" → (b : Bool) → says_so text ≡ b → b ≡ false
apart text other true is = absurd (other ((bytes_eq-Decides text (codes "true")).0 is))
apart text other false is = refl

of_text : (text : Text) (read : Option Bool) → ReadsOne {T = Bool} {E = ParseBoolError} ParsesBool text read → unwrap_or read false ≡ says_so text
of_text text (Some true) is = sym (ap says_so is)
of_text text (Some false) is = sym (ap says_so is)
of_text text None (e, is) = sym (apart text is.0 (says_so text) refl)

module _ (m : ArgMatches) (name : Text) (read : Option Bool) where
  pub flag_read : (one_text (found_of m) name ≡ None → read ≡ None)
      → ((text : Text) → one_text (found_of m) name ≡ Some text → ReadsOne {T = Bool} {E = ParseBoolError} ParsesBool text read)
      → unwrap_or read false ≡ flag_in (rows_of (found_of m)) name
  flag_read none value = by (one_text (found_of m) name) refl ∙ ap (λ o. option_map_or says_so o false) (one_text-rows (found_of m) name)
    where
      by : (o : Option Text) → one_text (found_of m) name ≡ o → unwrap_or read false ≡ option_map_or says_so (one_text (found_of m) name) false
      by None e = rw e (ap (λ r. unwrap_or r false) (none e))
      by (Some text) e = rw e (of_text text read (value text e))
