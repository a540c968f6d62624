-- One more key has its number.
use Rattle.std.proofs.Common.{◌≡◌, [], take, arith}
use Rattle.bohm_log.proofs.ForCallers.{Begins-itself, Begins-trans}
use Rattle.bohm_store.proofs.Advanced.{no_numbers, numbers_longer, numbers_more}
use Rattle.bohm_store.proofs.Names.{placed_at}
use Rattle.bohm_store.proofs.call_keys.number_first.Goals as goal

pub loop-i-init : goal.loop-i-init
loop-i-init c = rw c.clear.ensures.items (record { longer = Begins-itself c.args.names.now; numbers = no_numbers c.args.names.now })

pub loop-i-preserved : goal.loop-i-preserved
loop-i-preserved c =
    let at = c.loop-i in
    let was = at.invariant in
    let names = c.number_of.new.names in
    let keys = c.args.keys.now in
    let n = c.in_ok-number.number in
    let k = c.key.result.now in
    let longer = c.number_of.ensures.longer in
    let (inside, is) = placed_at names k n c.in_ok-number.ensures.named in
    rw c.in_ok-push.ensures.items (record {
      longer = Begins-trans c.args.names.now at.names names was.longer longer;
      numbers = numbers_more names at.numbers.items keys at.i n k c.key.ensures inside is
          (numbers_longer at.names names at.numbers.items (take at.i keys) longer was.numbers);
    })
