use Rattle.std.proofs.Common.{sym, ◌∙◌}
use Rattle.bohm_txn.proofs.Chunked.{end_none, end_some, store_some, some_not, limit_fault, is_none}
use Rattle.bohm_txn.proofs.incremental.check_end.Goals as goal

pub returns-then-is_some-clause-none : goal.returns-then-is_some-clause-none
returns-then-is_some-clause-none c = λ none d store counted checked. absurd (some_not c.args.in_store (sym c.is_some.ensures ∙ c.if-is_some.true) none)

pub returns-then-is_some-clause-some : goal.returns-then-is_some-clause-some
returns-then-is_some-clause-some c = store_some c.args.count c.args.in_store c.args.found

pub returns-then-is_some-clause-kept : goal.returns-then-is_some-clause-kept
returns-then-is_some-clause-kept c = λ none. absurd (some_not c.args.in_store (sym c.is_some.ensures ∙ c.if-is_some.true) none)

pub returns-then-count-gt-MOST_TXNS-clause-some : goal.returns-then-count-gt-MOST_TXNS-clause-some
returns-then-count-gt-MOST_TXNS-clause-some c =
    λ d store counted checked. rw c.whole_fault.ensures (limit_fault c.args.count d c.args.in_store
    (is_none c.args.in_store (sym c.is_some.ensures ∙ c.if-is_some.false)) store counted c.if-count-gt-MOST_TXNS.true)

pub returns-else-count-gt-MOST_TXNS-clause-none : goal.returns-else-count-gt-MOST_TXNS-clause-none
returns-else-count-gt-MOST_TXNS-clause-none c = λ none d store counted checked.
    end_none d c.args.count c.args.found counted c.if-count-gt-MOST_TXNS.false checked none

pub returns-else-count-gt-MOST_TXNS-clause-some : goal.returns-else-count-gt-MOST_TXNS-clause-some
returns-else-count-gt-MOST_TXNS-clause-some c = end_some c.args.count c.args.in_store c.args.found c.if-count-gt-MOST_TXNS.false
