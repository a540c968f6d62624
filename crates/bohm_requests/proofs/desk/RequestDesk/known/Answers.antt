use Rattle.std.proofs.Common.{arith}
use Rattle.sqlite_trees.specs.View.{IsClean}
use Rattle.bohm_requests.proofs.desk.RequestDesk.known.Goals as goal

pub returns-in_default-2-clause-known : goal.returns-in_default-2-clause-known
returns-in_default-2-clause-known g c clean bs ready =
    rw c.in_default-2.is at (c.in_ok-stored.ensures.found clean bs ready)

pub returns-clause-known : goal.returns-clause-known
returns-clause-known g c clean bs ready =
    let before : IsClean (g.S.Store.view c.request.new.self.store) = omega (arith, clean, c.has_entry.ensures.clean) in
    let found = rw c.in-Some-2.is at (c.in_ok-stored.ensures.found before bs ready) in
    (c.in-Some-2.stored.place, rw c.in_ok-from_slice-2.ensures.items found)
