use Rattle.std.proofs.Common.{arith}
use Rattle.bohm_store.specs.Numbered.{version_of}
use Rattle.bohm_store.proofs.Entries.{put_back}
use Rattle.bohm_store.proofs.listing.put_back.Goals as goal

pub returns-then-place-newest : goal.returns-then-place-newest
returns-then-place-newest c n lt = put_back c.args.newest.now c.args.one.number n c.held_from-held.result (version_of c.args.one)
    (omega arith) c.held_from-held.ensures
