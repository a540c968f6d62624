use Rattle.std.proofs.Common.{◌≡◌, ◌≤◌, ◌%◌, ◌==◌, false, length, length-append, refl, sym, ◌∙◌, arith}
use Rattle.std.proofs.lemmas.Bool.Decides.{nat_tests}
use Rattle.bohm_place.specs.Shares.{HasPartsOf}
use Rattle.bohm_place.specs.declared.by_key.PartsJob.{PartsJob}
use Rattle.bohm_place.proofs.Lists.{each_pushed}
use Rattle.bohm_place.proofs.deal.deal.Goals as goal

pub loop-number-preserved : goal.loop-number-preserved
loop-number-preserved c =
    let n = c.args.workers in
    let at = c.loop-number.number in
    let jobs = c.loop-number.jobs.items in
    let all = c.args.parts.now in
    let was = c.loop-number.invariant in
    let own = c.in_ok-own.own in
    let len : length jobs ≡ at = was.count in
    let taken : HasPartsOf n at all own.items = λ p low mine.
    (let here : at ≤ p % n = grind (arith, nat_tests) in c.in_ok-own.ensures.taken p (omega arith) mine ∙ was.left p low here) in
    rw c.in_ok-push.ensures.items (record {
      count = length-append jobs _ ∙ omega (arith, len);
      workers = λ w d low. each_pushed (λ v (j : PartsJob). (j.worker.number ≡ v) × (j.worker.count ≡ n)) jobs _ (λ v e l. was.workers v e (omega arith))
          (sym len, refl) w d (omega arith);
      own = λ w d low. each_pushed (λ v (j : PartsJob). HasPartsOf n v all j.parts.items) jobs _ (λ v e l. was.own v e (omega arith)) (rw len taken) w d
          (omega arith);
      parts = λ w d low. each_pushed (λ v (j : PartsJob). length j.parts.items ≡ length all) jobs _ (λ v e l. was.parts v e (omega arith))
          (omega (arith, c.in_ok-own.ensures.count)) w d (omega arith);
      left = λ p low high. (let other : ((p % n) == at) ≡ false = grind (arith, nat_tests) in
          c.in_ok-own.ensures.others p (omega arith) other ∙ was.left p low (omega arith));
    })
