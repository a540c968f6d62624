use Rattle.std.proofs.Common.{◌≡◌, map, take}
use Rattle.std.proofs.lemmas.List.{take_all}
use Rattle.bohm_store.proofs.Opened.{first_held, opened, opened_count, opened_versions}
use Rattle.bohm_store.proofs.numbered.NumberedHistory.open.Goals as goal

pub invariant_of-result : goal.invariant_of-result
invariant_of-result c =
    let es = c.args.entries.now in
    let whole : take c.loop-value.value-index es ≡ es = take_all c.loop-value.value-index es c.loop-value-test.false in
    let is : c.loop-value.newest.items ≡ map first_held es = rw whole at c.loop-value.invariant in
    rw c.new.ensures.items (opened c.args.ts es c.loop-value.newest.items is)

pub returns-clause-versions : goal.returns-clause-versions
returns-clause-versions c k =
    let es = c.args.entries.now in
    let whole : take c.loop-value.value-index es ≡ es = take_all c.loop-value.value-index es c.loop-value-test.false in
    let is : c.loop-value.newest.items ≡ map first_held es = rw whole at c.loop-value.invariant in
    rw c.new.ensures.items (opened_versions es c.loop-value.newest.items k is)

pub returns-clause-count : goal.returns-clause-count
returns-clause-count c =
    let es = c.args.entries.now in
    let whole : take c.loop-value.value-index es ≡ es = take_all c.loop-value.value-index es c.loop-value-test.false in
    let is : c.loop-value.newest.items ≡ map first_held es = rw whole at c.loop-value.invariant in
    rw c.new.ensures.items (opened_count es c.loop-value.newest.items is)
