use Rattle.std.proofs.Common.{List, ℕ, map, take}
use Rattle.bohm_store.specs.declared.listed_writes.FreshKey.{FreshKey}
use Rattle.bohm_store.proofs.Advanced.{numbers_longer, numbers_next}
use Rattle.bohm_store.proofs.Names.{placed_at}
use Rattle.bohm_store.proofs.Shares.{fresh_more}
use Rattle.bohm_store.proofs.share_numbers.number_fresh.Goals as goal
use Rattle.bohm_log.proofs.ForCallers.{Begins-trans}

pub loop-one-preserved : goal.loop-one-preserved
loop-one-preserved c =
    let at = c.loop-one in
    let was = at.invariant in
    let names = c.id.new.self in
    let one : FreshKey = c.one-item.result in
    let n = c.in-Ok.number in
    let keys : List (List ℕ) = map (λ (f : FreshKey). f.key) (take at.one-index c.args.fresh.now) in
    let (inside, is) = placed_at names one.key n c.in-Ok.ensures.named in
    let more = fresh_more c.args.fresh.now at.one-index one c.loop-one-test.true c.one-item.is in
    rw (c.in_ok-push-in-Ok.ensures.items, more) (record {
      longer = Begins-trans c.args.names.now at.names names was.longer c.id.ensures.kept;
      numbers = numbers_next names at.numbers.items keys n one.key inside is
          (numbers_longer at.names names at.numbers.items keys c.id.ensures.kept was.numbers);
    })
