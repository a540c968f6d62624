use Rattle.std.proofs.Common.{◌∙◌, ◌++◌}
use Rattle.bohm_text.specs.Print.{print_store}
use Rattle.bohm_run.proofs.AnswerLaws.{answer_text}
use Rattle.bohm_run.proofs.answering.answer.Goals as goal

pub returns : goal.returns
returns c = λ keep unread unread' run.
    answer_text keep unread unread' c.args.state run c.args.ts c.in_ok-store.store.items _ c.requires.kept c.requires.there c.in_ok-store.ensures.past
    c.in_ok-store.ensures.entries
    (c.in_ok-put_store.ensures.ok ∙ (λ i. c.into_bytes-bytes.ensures i ++ print_store (c.as_slice.ensures.value i)))
