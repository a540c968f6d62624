use Rattle.std.proofs.Common.{ap, length, arith}
use Rattle.bohm_store.specs.Numbered.{versions_at}
use Rattle.bohm_store.proofs.Entries.{keys_named}
use Rattle.bohm_store.proofs.history.History.version_count.Goals as goal

pub count-requires : goal.count-requires
count-requires c = omega (arith, ap length c.table.ensures.names, c.self.invariant)

pub returns-clause-count : goal.returns-clause-count
returns-clause-count c = rw (← c.self.view_is) (rw c.table.ensures.names at c.count.ensures)

pub returns-clause-distinct : goal.returns-clause-distinct
returns-clause-distinct c = rw (← c.self.view_is, keys_named (versions_at c.self.inside.numbered) 0 c.self.inside.names) c.table.ensures.apart
