use Rattle.std.proofs.Common.{arith}
use Rattle.std.specs.Map.{keys_of}
use Rattle.bohm_board.specs.declared.batch.Batch.{Batch}
use Rattle.bohm_board.specs.Batches.{txns_of}
use Rattle.bohm_store.specs.Writes.{AreNextShares, AreNextWrites}
use Rattle.bohm_store.proofs.Same.{kept_same, next_same}
use Rattle.bohm_store.proofs.history.History.install.Goals.{After-deref}
use Rattle.bohm_store.proofs.history.History.install.Goals as goal

pub number_shares-requires : goal.number_shares-requires
number_shares-requires c = let (b, are) = c.requires.shares in (b, are.parts)

-- the numbered writes are those of the batch
next_writes : (c : After-deref) (b : Batch) → AreNextShares c.args.self.now b c.args.count c.args.shares.now
    → AreNextWrites (keys_of c.number_shares.new.self.chains) c.number_shares.new.self b c.args.count c.deref.result.now
next_writes c b are = rw c.deref.ensures.value (record {
  next = next_same _ _ b c.number_shares.ensures.same are.next;
  many = are.many;
  writes = c.in_ok-writes.ensures.writes b are.parts;
})

pub add_kept-requires : goal.add_kept-requires
add_kept-requires c =
    let (b, are) = c.requires.shares in
    record {
      writes = (b, next_writes (goal.at.add_kept-requires c).After-deref b are);
      floor = omega (arith, c.requires.floor, c.number_shares.ensures.same.top);
    }

pub returns-clause-ok : goal.returns-clause-ok
returns-clause-ok c b are =
    kept_same c.args.self.now c.number_shares.new.self c.add_kept.new.self (txns_of b) c.args.floor c.number_shares.ensures.same
    (c.in_ok-add_kept.ensures.ok b (next_writes (goal.at.returns-clause-ok c).After-deref b are))
