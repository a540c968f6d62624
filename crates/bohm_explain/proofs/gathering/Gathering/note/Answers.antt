use Rattle.std.specs.List.{zip}
use Rattle.bohm_explain.proofs.Noting.{listed_arrows, tallied_more}
use Rattle.bohm_explain.proofs.gathering.Gathering.note.Goals as goal

pub raise_all-requires : goal.raise_all-requires
raise_all-requires c = record {
  there = listed_arrows c.args.txns.now c.args.arrows.now c.args.self.now.tallies c.count_all.new.tallies c.requires.arrows
      c.in_ok-count_all.ensures.listed;
}

pub returns : goal.returns
returns c log batches all = tallied_more log c.args.txns.now batches (zip c.args.arrows.now c.args.through.now) c.args.self.now.tallies
    c.count_all.new.tallies c.raise_all.new.tallies all c.in_ok-count_all.ensures.counts c.in_ok-count_all.ensures.listed c.raise_all.ensures.chains
    c.raise_all.ensures.listed
