use Rattle.std.proofs.Common.{rules, ◌∙◌}
use Rattle.bohm_apply.specs.Runs.{cutting_behind}
use Rattle.bohm_apply.proofs.Walks.{walk_rests}
use Rattle.bohm_apply.proofs.applying.apply_on.Goals as goal

pub walk-requires-clause-plans : goal.walk-requires-clause-plans
walk-requires-clause-plans g c κs within = record {
  cutting = search rules;
  position = search rules;
  workers = c.in-Ok.ensures.some;
  earlier = c.in-Ok.ensures.unplanned _;
  unsent = c.in-Ok.ensures.unsent;
}

pub returns-then-is_err : goal.returns-then-is_err
returns-then-is_err g c = walk_rests c.args.history (cutting_behind c.args.history c.args.txns.now c.args.cuts.now) c.args.keep c.reserve-reserved.new.self
    (c.reserve-reserved.ensures ∙ c.new-replies.ensures) c.requires.total

pub returns-in-Err : goal.returns-in-Err
returns-in-Err g c = walk_rests c.args.history (cutting_behind c.args.history c.args.txns.now c.args.cuts.now) c.args.keep c.reserve-reserved.new.self
    (c.reserve-reserved.ensures ∙ c.new-replies.ensures) c.requires.total
