use Rattle.std.proofs.Common.{subst}
use Rattle.bohm_types.specs.Document.{Document}
use Rattle.bohm_machine.specs.Segments.{IsRefused as IsUntakenBy}
use Rattle.bohm_c.proofs.Alike.{same_answer, one_line_each, read_unrefused, same_read}
use Rattle.bohm_c.proofs.agreeing.one_status.Goals as goal

pub returns-clause-answer : goal.returns-clause-answer
returns-clause-answer c = same_answer

pub returns-clause-refusal : goal.returns-clause-refusal
returns-clause-refusal c = one_line_each

pub returns-clause-untaken : goal.returns-clause-untaken
returns-clause-untaken c = λ m n text e f top h k.
    let same = same_read text k.document h.document k.read h.read in
    c.one_refusal.ensures.refusal m n h.document e f top h.untaken (subst (λ (d : Document). IsUntakenBy n d f) same k.untaken)

pub returns-clause-read : goal.returns-clause-read
returns-clause-read c = λ was now text a b h k. read_unrefused text b h.document h.read k

pub returns-clause-formed : goal.returns-clause-formed
returns-clause-formed c = λ m text a f h k. read_unrefused text a h.document h.read k

pub returns-clause-taken : goal.returns-clause-taken
returns-clause-taken c = λ was now m text a f top h k.
    let same = same_read text k.document h.document k.read h.read in
    c.one_refusal.ensures.either was.machine m h.document f top h.run.run.taken (subst (λ (d : Document). IsUntakenBy m d f) same k.untaken)
