use Rattle.std.proofs.Common.{◌≡◌, ◌<◌, [], length, get_or, Some, arith, sym, ap, ◌∙◌}
use Rattle.std.specs.List.{slice_get}
use Rattle.std.specs.Option.{option_map}
use Rattle.std.proofs.lemmas.Option.{same_Some, slice_get-get_or, slice_get_within}
use Rattle.bohm_place.specs.declared.access.Access.{Access}
use Rattle.bohm_place.specs.Plans.{keys_in}
use Rattle.bohm_board.specs.Batches.{accesses_in, base_of, key_in}
use Rattle.bohm_exec.proofs.Based.{base_put, found_stays, within_there}
use Rattle.bohm_board.proofs.ForCallers.{keys_paired}
use Rattle.bohm_exec.proofs.evaluation.add_base.Goals as goal
use Rattle.bohm_exec.proofs.evaluation.add_base.Goals.{in-Before, in-Within}

pub cell_before-requires-clause-source : goal.cell_before-requires-clause-source
cell_before-requires-clause-source c = ap (option_map (λ (a : Access). a.source)) c.access.ensures ∙ ap (λ o. Some o) c.in-Before.is

pub loop-index-preserved : goal.loop-index-preserved
loop-index-preserved c =
    let b = c.args.batch.now in
    let set = c.args.set in
    let accesses = accesses_in set b c.args.t in
    let n = c.loop-index.index in
    let a = c.access.result in
    let cells = c.loop-index.cells in
    let inv = c.loop-index.invariant in
    let at = c.access.ensures in
    let inside : n < length cells = omega (arith, c.requires.paired, c.loop-index.auto.cells) in
    elim c.match-access.branch [
      | in-Before w ↦ record {
        found = rw w.cells-is (found_stays b accesses cells n a w.cell_before.result inv.found at w.in-Before.is);
        cells = λ x is.
            let keys = keys_in set x in
            let k = get_or keys n [] in
            let low : n < length keys = omega (arith, keys_paired b set c.args.t x is, c.requires.paired, c.loop-index.auto.cells) in
            let key : slice_get keys n ≡ Some k = slice_get-get_or keys n [] low in
            let named : key_in set b c.args.t n ≡ Some k = rw is key in
            let cell = same_Some w.cell_before.result (base_of b k) (sym w.cell_before.ensures ∙ ap (option_map (base_of b)) named) in
            rw w.cells-is (base_put b keys accesses cells n k a w.cell_before.result inside (inv.cells x is) key at w.in-Before.is cell);
      }
      | in-Within w ↦ record {
        found = rw w.cells-is inv.found;
        cells = λ x is.
            let keys = keys_in set x in
            let k = get_or keys n [] in
            let low : n < length keys = omega (arith, keys_paired b set c.args.t x is, c.requires.paired, c.loop-index.auto.cells) in
            rw w.cells-is (within_there b keys accesses cells n k a w.in-Within.field-0 inv.found (inv.cells x is)
            (slice_get-get_or keys n [] low) at w.in-Within.is);
      }
    ]

pub returns : goal.returns
returns c = λ x is.
    let b = c.args.batch.now in
    let keys = keys_in c.args.set x in
    let even = keys_paired b c.args.set c.args.t x is in
    record {
      paired = omega (arith, even, c.requires.paired, c.loop-index.auto.cells);
      each = λ j k a cell at_key at here. let within = slice_get_within keys j k at_key in
          c.loop-index.invariant.cells x is j k a cell (omega arith) at_key at here;
    }
