use Rattle.bohm_durable.proofs.Deduped.{still_among}
use Rattle.bohm_durable.proofs.applying.sort_keys.Goals as goal

pub returns : goal.returns
returns c = record {
  kept = λ k among. still_among c.args.keys.now.items c.sort_unstable.new.self.items c.dedup.new.self.items
      c.sort_unstable.ensures.permutation c.dedup.ensures.filtered k among;
}
