use Rattle.std.proofs.Common.{◌≡◌, ap, sym, ◌∙◌, None, Some}
use Rattle.std.specs.Map.{lookup}
use Rattle.std.specs.Str.{bytes_eq}
use Rattle.bohm_txn.specs.Stores.{cell_of}
use Rattle.bohm_txn.proofs.ForCallers.{get-store_of}
use Rattle.bohm_serial.proofs.store.Store.get.Goals as goal

pub returns-in-None : goal.returns-in-None
returns-in-None c =
    let found : lookup (bytes_eq c.args.key.now) c.self.inside.values.entries ≡ None = sym c.get.ensures.value ∙ (sym c.copied-found.ensures ∙ c.in-None.is) in
    rw (← c.self.view_is) (sym (ap cell_of (get-store_of c.self.inside.values.entries c.args.key.now ∙ found)))

pub returns-in-Some : goal.returns-in-Some
returns-in-Some c =
    let found : lookup (bytes_eq c.args.key.now) c.self.inside.values.entries ≡ Some c.in-Some.value =
    sym c.get.ensures.value ∙ (sym c.copied-found.ensures ∙ c.in-Some.is) in
    rw (← c.self.view_is) (sym (ap cell_of (get-store_of c.self.inside.values.entries c.args.key.now ∙ found)))
