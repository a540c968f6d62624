use Rattle.std.proofs.Common.{◌≡◌, ◌∙◌, true, Some, length, refl, sym, ap, arith}
use Rattle.std.specs.List.{slice_get}
use Rattle.std.specs.Option.{option_map}
use Rattle.std.specs.Str.{bytes_eq}
use Rattle.std.proofs.lemmas.Option.{slice_get-map, slice_get_read}
use Rattle.bohm_txn.proofs.ForCallers.{same_key}
use Rattle.bohm_board.specs.Bases.{keys_of}
use Rattle.bohm_board.proofs.DeclaredPlaces.{steady_there}
use Rattle.bohm_board.proofs.EntrySearch.{Entry}
use Rattle.bohm_board.proofs.base.cell_of.Goals as goal

pub returns-then-eq : goal.returns-then-eq
returns-then-eq c =
    let xs = c.args.entries.now in
    let i = c.loop-other.other-index in
    let k = c.args.key.now in
    let x : Entry = c.loop-other-item.result in
    let equal : bytes_eq x.0 k ≡ true = cc in
    let at : slice_get xs i ≡ Some x = slice_get_read xs (length xs) i x refl (omega arith) c.loop-other-item.is in
    let key : slice_get (keys_of xs) i ≡ Some k =
    slice_get-map (λ (e : Entry). e.0) xs i ∙ ap (option_map (λ (e : Entry). e.0)) at ∙ ap (λ y. Some y) (same_key x.0 k equal) in
    sym (steady_there xs i k x c.requires at key)
