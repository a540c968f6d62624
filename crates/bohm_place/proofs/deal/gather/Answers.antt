use Rattle.std.proofs.Common.{arith, ◌≡◌, ◌+◌, ◌<◌, ◌%◌, ◌∙◌, refl, [], slice_index_or, nat_lt, Ok, Result}
use Rattle.bohm_types.specs.declared.memory.NoMemory.{NoMemory}
use Rattle.std.proofs.lemmas.List.{get_or-set_other, length-set}
use Rattle.bohm_place.specs.Chains.{placeholders_in}
use Rattle.bohm_place.specs.Shares.{placeholders_made, found_by, newest_ahead, keys_of, IsFoundInAll}
use Rattle.bohm_place.specs.declared.by_key.FoundInParts.{FoundInParts}
use Rattle.bohm_place.proofs.Found.{foreign, found_first, found_joined, gathered, length-found_by}
use Rattle.bohm_place.proofs.deal.gather.Goals.{then-number-eq0, else-number-eq0}
use Rattle.bohm_place.proofs.deal.gather.Goals.{In_ok-more}
use Rattle.bohm_place.proofs.deal.gather.Given as given
use Rattle.bohm_place.proofs.deal.gather.Goals as goal

-- this worker's result satisfies `IsFoundInAll`
right_more : (g : given.Over) (c : In_ok-more g) → IsFoundInAll (g.P.Partition.part_of c.args.partition.now) c.len-count.result c.loop-number.number
    c.args.batch.first c.args.batch.txns.now c.args.given.value.items c.in_ok-more.field-0.found.items c.in_ok-more.field-0.parts.items
right_more g c =
    let there : Result FoundInParts NoMemory = c.index_mut.result.now in
    let is : slice_index_or c.loop-number.each.items c.loop-number.number there ≡ Ok c.in_ok-more.field-0 =
    cc (c.index_mut.ensures.value, c.replace.ensures.value, c.in_ok-more.was) in
    let told = c.loop-number.invariant.each c.loop-number.number there (omega arith) (omega arith) in
    rw is at told

pub join-requires : goal.join-requires
join-requires g c =
    let part = g.P.Partition.part_of c.args.partition.now in
    let n = c.len-count.result in
    let w = c.loop-number.number in
    let txns = c.args.batch.txns.now in
    let given = c.args.given.value.items in
    let source = newest_ahead c.args.batch.first (placeholders_in part given) in
    let right = right_more g (goal.at.join-requires g c).In_ok-more in
    let some : 0 < w = omega arith in
    rw (c.as_mut_slice-else-number-eq0.ensures.value, c.deref.ensures.value, c.loop-number.invariant.found some, right.found)
    (length-found_by (λ k. nat_lt (part k % n) w) (keys_of part n w) source [] txns)

pub loop-number-preserved : goal.loop-number-preserved
loop-number-preserved g c =
    let part = g.P.Partition.part_of c.args.partition.now in
    let n = c.len-count.result in
    let w = c.loop-number.number in
    let txns = c.args.batch.txns.now in
    let given = c.args.given.value.items in
    let was = c.loop-number.invariant in
    let items = c.loop-number.each.items in
    let more = c.in_ok-more.field-0 in
    let source = newest_ahead c.args.batch.first (placeholders_in part given) in
    let right = right_more g (goal.at.loop-number-preserved g c).In_ok-more in
    let found : 0 < w + 1 → c.if-number-eq0.found.items ≡ found_by (λ k. nat_lt (part k % n) (w + 1)) source [] txns =
    λ above. elim c.if-number-eq0.branch [
      | then-number-eq0 b ↦ rw b.found-is (right.found ∙ found_first part n source txns w b.if-number-eq0.true)
      | else-number-eq0 b ↦
          let some : 0 < w = omega arith in
          rw b.found-is (found_joined part n source txns w c.loop-number.found.len c.loop-number.found.items b.join.new.found (omega arith) (was.found some)
          (rw (b.join.ensures, b.as_mut_slice-else-number-eq0.ensures.value, b.deref.ensures.value, right.found) refl))
    ] in
    record {
      count = length-set items w c.replace.new.dest ∙ was.count;
      each = λ v e low below. rw (get_or-set_other items w v c.replace.new.dest e (λ x. omega arith)) (was.each v e (omega arith) below);
      chains = gathered part n w c.loop-number.parts c.swap_parts.new.a more.parts.items given (placeholders_made c.args.batch.first txns)
          (rw c.as_mut_slice.ensures.value at c.swap_parts.ensures.a)
          (λ k. omega (arith, c.requires.law k))
          right.chains
          was.chains;
      others = λ i k low below apart. foreign part n w c.loop-number.parts c.swap_parts.new.a more.parts.items given (placeholders_made c.args.batch.first txns)
          (rw c.as_mut_slice.ensures.value at c.swap_parts.ensures.a)
          i k (omega (arith, low))
          (λ mine. right.others i k low mine apart)
          (λ before. was.others i k low before apart)
          below;
      found = found;
    }
