use Rattle.std.proofs.Common.{◌≤◌, ap, arith, length}
use Rattle.bohm_log.specs.Drafting.{parts_of}
use Rattle.bohm_log.proofs.Counting.{cut_grows}
use Rattle.bohm_log.proofs.Growth.{length-begins}
use Rattle.bohm_log.proofs.draft_columns.DraftColumns.cut_back.Goals as goal

pub returns-clause-grows : goal.returns-clause-grows
returns-clause-grows g c = λ before grow compact.
    let names : length before.others ≤ c.saturating_add.result =
    omega (arith, compact.others, ap length grow.terms, ap length grow.rows, length-begins before.others c.args.self.now.others grow.grows.others) in
    let literals : length before.large ≤ c.len-terms.result = omega (arith, compact.large, ap length grow.terms) in
    cut_grows before (parts_of c.args.self.now) _ _ _ _ c.truncate.ensures c.truncate-2.ensures.items grow names literals
