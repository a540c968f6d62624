use Rattle.std.proofs.Common.{rules, ◌≡◌, true}
use Rattle.bohm_layer_trials.specs.Samples.{is_set_aside}
use Rattle.bohm_layer_trials.proofs.Tested.{tested_aside}
use Rattle.bohm_layer_trials.proofs.boards.assert_aside.Goals as goal

pub returns : goal.returns
returns g c =
    let aside : is_set_aside c.args.asides.now c.args.t ≡ true = search rules in
    tested_aside c.args.asides.now c.args.t aside
