use Rattle.std.proofs.Common.{◌∙◌, sym}
use Rattle.bohm_txn.proofs.first_fault.stmt_fault.Goals as goal

pub returns-then-not-rebinds : goal.returns-then-not-rebinds
returns-then-not-rebinds c = λ e. sym (c.is_plain.ensures c.if-is_plain.true e c.args.before.now c.requires.before c.requires.noted
    (sym c.rebinds.ensures ∙ c.if-not-rebinds.true))
