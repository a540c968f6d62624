use Rattle.std.proofs.Common.{◌∙◌, sym}
use Rattle.bohm_c.proofs.Opening.{on_rows}
use Rattle.bohm_c.proofs.store_rows.open_rows.Goals as goal

pub returns-then-is_store_rising-clause-ok : goal.returns-then-is_store_rising-clause-ok
returns-then-is_store_rising-clause-ok c =
    on_rows c.args.rows.now c.in_ok-entries.entries.items c.as_slice-store.result.now c.args.top c.in_ok-on_store.field-0
    c.in_ok-entries.ensures.ok c.as_slice-store.ensures.value c.in_ok-entries.ensures.named
    (sym c.is_store_rising.ensures ∙ c.if-is_store_rising.true) c.in_ok-on_store.ensures
