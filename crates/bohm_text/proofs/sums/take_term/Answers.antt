use Rattle.bohm_text.proofs.TermLoops.{read_taken}
use Rattle.bohm_text.proofs.sums.take_term.Goals as goal

pub returns-then-branch : goal.returns-then-branch
returns-then-branch c =
    read_taken c.args.minus c.args.word.now c.args.draft.now c.read_again.new.self (c.in_ok-read_again.ensures.name c.if-branch.true)
    (c.in_ok-read_again.ensures.added c.if-branch.true)
