use Rattle.std.proofs.Common.{◌≡◌, Some, ◌∙◌, sym, ap, length, refl}
use Rattle.std.specs.List.{slice_get}
use Rattle.std.specs.FinMap as finite
use Rattle.std.proofs.lemmas.Option.{slice_get_read}
use Rattle.bohm_txn.specs.Stores.{Store}
use Rattle.bohm_txn.proofs.ForCallers.{store_of-insert, store_of-take}
use Rattle.bohm_serial.proofs.store.Store.new.Goals as goal

pub loop-key-preserved : goal.loop-key-preserved
loop-key-preserved c =
    let entry = c.loop-key-item.result in
    let here : slice_get c.args.entries.now c.loop-key.key-index ≡ Some entry =
    slice_get_read c.args.entries.now (length c.args.entries.now) c.loop-key.key-index entry refl c.loop-key-test.true c.loop-key-item.is in
    store_of-insert c.loop-key.values.entries c.insert.new.self.entries entry.0 entry.1 c.in_ok-insert.ensures.updates.0
    ∙ ap (λ (s : Store). finite.insert s entry.0 entry.1) c.loop-key.invariant
    ∙ sym (store_of-take c.args.entries.now c.loop-key.key-index entry c.requires.rising here)
