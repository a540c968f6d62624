use Rattle.std.proofs.Common.{arith, ◌≡◌, ◌++◌, length, take, drop}
use Rattle.std.proofs.lemmas.Grind.{common_steps}
use Rattle.bohm_place.proofs.by_key.plan_in_parts.Goals as goal

pub returns : goal.returns
returns g c =
    let left = c.find_all.new.parts in
    let kept : length left ≡ length c.args.job.parts.items = grind (arith, common_steps) in
    let whole : take c.args.job.parts.len (left ++ drop (length left) c.args.job.parts.items) ≡ left = grind (arith, common_steps) in
    record {
      found = rw c.as_mut_slice.ensures.value at c.in_ok-found.ensures.found;
      chains = λ k. (let h = c.in_ok-found.ensures.placed k in rw whole (rw c.as_mut_slice.ensures.value at h));
      others = λ i k apart. (let h = c.in_ok-found.ensures.others i k apart in rw whole (rw c.as_mut_slice.ensures.value at h));
      parts = rw whole kept;
    }
