use Rattle.std.proofs.Common.{◌≡◌, map, sym, ap, ◌∙◌}
use Rattle.std.specs.List.{zip}
use Rattle.std.proofs.lemmas.Result.{on_ok_weaker}
use Rattle.bohm_txn.specs.Serial.{after}
use Rattle.bohm_txn.specs.Stores.{cell_in, put_all}
use Rattle.bohm_serial.proofs.Steps.{put_all-cells}
use Rattle.bohm_serial.proofs.executor.execute.Goals as goal

pub returns-clause-store : goal.returns-clause-store
returns-clause-store c =
    let store = c.args.store.now in
    let txn = c.args.txn.now in
    let reads : map (cell_in store) txn.reads ≡ c.as_slice.result.now =
    sym (c.as_slice.ensures.value ∙ (c.in_ok-look_up.ensures ∙ ap (map (cell_in store)) c.reads-reads.ensures)) in
    let earlier : map (cell_in store) txn.writes ≡ c.as_slice-2.result.now =
    sym (c.as_slice-2.ensures.value ∙ (c.in_ok-look_up-2.ensures ∙ ap (map (cell_in store)) c.writes-writes.ensures)) in
    let cells : c.cells.result.now ≡ map (after (cell_in store) txn) txn.writes =
    c.cells.ensures ∙ sym (c.eval-outcome.ensures.cells (cell_in store) reads earlier) in
    on_ok_weaker c.push.result
    (λ _. c.in_ok-put_cells.ensures ∙ ((λ i. put_all store (zip (c.writes-writes.ensures i) (cells i))) ∙ put_all-cells store txn c.requires))
    c.push.ensures.ok
