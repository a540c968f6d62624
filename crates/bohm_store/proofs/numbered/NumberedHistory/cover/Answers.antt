use Rattle.std.proofs.Common.{◌≡◌, ◌≤◌, ◌-◌, length, sym, arith}
use Rattle.bohm_store.proofs.Linked.{numbered_same, padded}
use Rattle.bohm_store.proofs.numbered.NumberedHistory.cover.Goals as goal

pub invariant_of-self : goal.invariant_of-self
invariant_of-self c =
    let old = c.self.inside.newest.items in
    let new = c.resize.new.self.items in
    let len : length old ≡ c.self.inside.newest.len = sym c.self.inside.newest.ok.0 in
    let short : length old ≤ c.args.count = omega (arith, c.len.ensures) in
    numbered_same c.self.inside.floor c.self.inside.top old new c.self.inside.older.items c.self.invariant
    (padded old new c.args.count (c.args.count - c.self.inside.newest.len) short c.in_ok-resize.ensures.items)
