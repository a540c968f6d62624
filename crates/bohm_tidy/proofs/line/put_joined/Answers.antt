use Rattle.std.proofs.Common.{ℕ, List, ◌++◌, ap, length, ◌∙◌}
use Rattle.bohm_tidy.proofs.ByWords.{joined_end, joined_more, joined_skip, none_left}
use Rattle.bohm_tidy.proofs.line.put_joined.Goals as goal
use Rattle.bohm_text.proofs.ForCallers.{some_left}

pub each-preserved-then-is_empty : goal.each-preserved-then-is_empty
each-preserved-then-is_empty c = joined_skip c.args.signs c.each.gap c.in-Some.word.now c.next.new.self c.each.words c.each.out.items _ c.in-Some.ensures
    (none_left (length c.in-Some.word.now) c.if-is_empty.ensures) c.each.invariant

pub each-preserved : goal.each-preserved
each-preserved c = rw c.next_gap-gap.ensures (joined_more c.args.signs c.each.gap c.in-Some.word.now c.next.new.self c.each.words c.each.out.items _ _
    c.in-Some.ensures (some_left (length c.in-Some.word.now) c.if-is_empty.ensures) c.in_ok-put_word.ensures c.each.invariant)

pub returns : goal.returns
returns c = joined_end c.args.signs c.each.gap c.each.words c.each.out.items _ _ c.in_default.ensures.0
    (c.in_ok-extend_from_slice.ensures.items ∙ ap (λ (ys : List ℕ). c.each.out.items ++ ys) c.sign_alone.ensures) c.each.invariant
