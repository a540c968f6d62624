use Rattle.std.proofs.Common.{Some, slice_index_or, length, refl, ap, sym, ◌∙◌}
use Rattle.std.proofs.lemmas.Option.{slice_get_read}
use Rattle.std.proofs.lemmas.Slice.Eq.{bytes_eq-Decides}
use Rattle.bohm_types.proofs.name_cache.NameCache.place_of_word.Goals as goal

pub returns-then-is_word-clause-place : goal.returns-then-is_word-clause-place
returns-then-is_word-clause-place c =
    let names = c.args.names.now in
    let place = slice_index_or c.args.self.now.places c.short_hash.result 0 in
    let there = c.in_ok-there.there.now in
    let lookup = c.in_ok-there.ensures.lookup in
    slice_get_read names (length names) place there refl lookup.3.0 lookup.1
    ∙ ap Some ((bytes_eq-Decides there c.args.word.now).0 (sym c.is_word.ensures.same ∙ c.if-is_word.true))
