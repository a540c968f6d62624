use Rattle.std.proofs.Common.{◌≡◌, rules}
use Rattle.std.specs.Ordering.{is_lt}
use Rattle.std.proofs.lemmas.List.Sorted.{answers_always}
use Rattle.bohm_explain.specs.Ranking.{rank_cmp}
use Rattle.bohm_explain.proofs.Ranks.{weakly, strictly, moved_apart}
use Rattle.bohm_explain.proofs.ranking.rank.Goals as goal

pub returns : goal.returns
returns c =
    let xs = c.args.heats.items in
    let ys = c.sort_unstable_by.new.self.items in
    record {
      same = c.sort_unstable_by.ensures.permutation;
      hottest_first = strictly ys
          (c.sort_unstable_by.ensures.sorted (λ x y. is_lt (rank_cmp x y)) weakly
          (answers_always _ (λ a r. is_lt r ≡ is_lt (rank_cmp a.0.now a.1.0.now)) _ (λ f a r g q. search rules)))
          (moved_apart xs ys c.sort_unstable_by.ensures.permutation c.requires.distinct);
    }
