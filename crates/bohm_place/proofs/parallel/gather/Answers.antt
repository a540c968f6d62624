use Rattle.std.proofs.Common.{◌≡◌, [], ◌+◌, ◌<◌, ◌%◌, List, All, Ok, Result, length, ◌∙◌, refl, arith, length-append, nat_lt, slice_index_or}
use Rattle.std.proofs.lemmas.List.{get_or-set_other, length-set}
use Rattle.std.proofs.lemmas.List.Elements.{All-push}
use Rattle.bohm_types.specs.declared.memory.NoMemory.{NoMemory}
use Rattle.bohm_place.specs.declared.placeholder.Placeholder.{Placeholder}
use Rattle.bohm_place.specs.declared.by_number.FoundByNumber.{FoundByNumber}
use Rattle.bohm_place.specs.Shares.{keys_of, found_by, ahead_of}
use Rattle.bohm_place.specs.Numbered.{IsFoundByNumber}
use Rattle.bohm_place.proofs.Found.{found_first, found_joined, length-found_by}
use Rattle.bohm_place.proofs.parallel.gather.Goals.{then-number-eq0, else-number-eq0}
use Rattle.bohm_place.proofs.parallel.gather.Goals.{In_ok-more}
use Rattle.bohm_place.proofs.parallel.gather.Given as given
use Rattle.bohm_place.proofs.parallel.gather.Goals as goal

-- this worker's result satisfies `IsFoundByNumber`
right_more : (g : given.Over) (c : In_ok-more g)
    → IsFoundByNumber (keys_of (g.P.Partition.part_of c.args.partition.now) c.len-count.result c.loop-number.number)
    c.args.batch.first c.args.batch.txns.now c.in_ok-more.field-0.found.items c.in_ok-more.field-0.newest
right_more g c =
    let there : Result FoundByNumber NoMemory = c.index_mut.result.now in
    let is : slice_index_or c.loop-number.each.items c.loop-number.number there ≡ Ok c.in_ok-more.field-0 =
    cc (c.index_mut.ensures.value, c.replace.ensures.value, c.in_ok-more.was) in
    let told = c.loop-number.invariant.each c.loop-number.number there (omega arith) (omega arith) in
    rw is at told

pub join-requires : goal.join-requires
join-requires g c =
    let part = g.P.Partition.part_of c.args.partition.now in
    let n = c.len-count.result in
    let w = c.loop-number.number in
    let txns = c.args.batch.txns.now in
    let source = ahead_of c.args.batch.first in
    let right = right_more g (goal.at.join-requires g c).In_ok-more in
    let more : 0 < w = omega arith in
    rw (c.as_mut_slice.ensures.value, c.deref.ensures.value, c.loop-number.invariant.found more, right.found)
    (length-found_by (λ k. nat_lt (part k % n) w) (keys_of part n w) source [] txns)

pub loop-number-preserved : goal.loop-number-preserved
loop-number-preserved g c =
    let part = g.P.Partition.part_of c.args.partition.now in
    let n = c.len-count.result in
    let w = c.loop-number.number in
    let txns = c.args.batch.txns.now in
    let was = c.loop-number.invariant in
    let items = c.loop-number.each.items in
    let more_found = c.in_ok-more.field-0 in
    let source = ahead_of c.args.batch.first in
    let right = right_more g (goal.at.loop-number-preserved g c).In_ok-more in
    let found : 0 < w + 1 → c.if-number-eq0.found.items ≡ found_by (λ k. nat_lt (part k % n) (w + 1)) source [] txns =
    λ above. elim c.if-number-eq0.branch [
      | then-number-eq0 b ↦ rw b.found-is (right.found ∙ found_first part n source txns w b.if-number-eq0.true)
      | else-number-eq0 b ↦
          let more : 0 < w = omega arith in
          rw b.found-is (found_joined part n source txns w c.loop-number.found.len c.loop-number.found.items b.join.new.found (omega arith) (was.found more)
          (rw (b.join.ensures, b.as_mut_slice.ensures.value, b.deref.ensures.value, right.found) refl))
    ] in
    record {
      count = length-set items w c.replace.new.dest ∙ was.count;
      each = λ v e low below. rw (get_or-set_other items w v c.replace.new.dest e (λ x. omega arith)) (was.each v e (omega arith) below);
      arrays = rw c.in_ok-push.ensures.items (length-append c.loop-number.arrays.items _ ∙ omega (arith, was.arrays));
      below = rw c.in_ok-push.ensures.items (All-push (λ (a : List Placeholder). All (λ v. v.begin < c.args.batch.first + length txns) a)
          c.loop-number.arrays.items more_found.newest was.below right.below);
      found = found;
    }
