use Rattle.std.proofs.Common.{◌≡◌, true, Some, length, refl, ap, ◌∙◌}
use Rattle.std.specs.Str.{bytes_eq}
use Rattle.std.proofs.lemmas.Option.{slice_get_read}
use Rattle.std.proofs.lemmas.Slice.Eq.{bytes_eq-Decides}
use Rattle.bohm_log.proofs.name_hints.at_number.Goals as goal

pub returns-then-eq : goal.returns-then-eq
returns-then-eq c =
    let names = c.args.names.now in
    let number = c.args.number in
    let there = c.in_ok-there.there.now in
    let lookup = c.in_ok-there.ensures.lookup in
    let same : bytes_eq there c.args.name.now ≡ true = cc in
    slice_get_read names (length names) number there refl lookup.3.0 lookup.1
    ∙ ap Some ((bytes_eq-Decides there c.args.name.now).0 same)
