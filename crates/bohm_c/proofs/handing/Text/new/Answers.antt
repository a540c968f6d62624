use Rattle.bohm_c.proofs.Texts.{without_zero}
use Rattle.bohm_c.proofs.handing.Text.new.Goals as goal

pub returns : goal.returns
returns c = without_zero c.args.bytes.items _ c.in_ok-push.ensures.items
