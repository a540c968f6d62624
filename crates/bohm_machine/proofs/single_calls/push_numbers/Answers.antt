use Rattle.std.proofs.Common.{arith}
use Rattle.bohm_log.proofs.ForCallers.{Begins-trans}
use Rattle.bohm_machine.proofs.Numbers.{next_key, pushed_named}
use Rattle.bohm_machine.proofs.single_calls.push_numbers.Goals as goal

pub loop-i-preserved : goal.loop-i-preserved
loop-i-preserved c =
    let at = c.loop-i in
    let next = c.in_ok-number.ensures in
    let later = c.number_for.new.names in
    let added = c.in_ok-push.ensures.items in
    record {
      grows = Begins-trans c.args.names.now at.names later at.invariant.grows next.grows;
      named = pushed_named at.names later at.numbers.items next.grows at.invariant.named c.in_ok-number.number c.push.new.self.items added next.within;
      keys = λ ps are. next_key ps c.args.names.now at.names later c.as_slice-declared.result.now c.args.arguments.now at.numbers.items c.push.new.self.items
          c.as_slice-parameters.result.now at.i c.in_ok-number.number c.index-declared-i.result at.invariant.grows c.requires.named next.grows
          at.invariant.named added (omega arith) c.index-declared-i.is are next.key (at.invariant.keys ps are);
    }
