use Rattle.std.proofs.Common.{◌≡◌, true, false}
use Rattle.bohm_log.specs.Seeing.{atom_shown, term_shown}
use Rattle.bohm_check.specs.Names.{reads_in}
use Rattle.bohm_check.proofs.Lists.{one_fails, one_passes}
use Rattle.bohm_check.proofs.names.are_read_in.Goals as goal

pub returns-then-not-is_read_in : goal.returns-then-not-is_read_in
returns-then-not-is_read_in c =
    let fails : reads_in c.args.names.now (atom_shown c.term.result.atom) ≡ false = cc in
    one_fails (λ term. reads_in c.args.names.now term.1) c.args.sum.now c.loop-index.index c.loop-index.invariant
    (term_shown c.term.result) c.term.ensures fails

pub loop-index-preserved : goal.loop-index-preserved
loop-index-preserved c =
    let holds : reads_in c.args.names.now (atom_shown c.term.result.atom) ≡ true = cc in
    one_passes (λ term. reads_in c.args.names.now term.1) c.args.sum.now c.loop-index.index c.loop-index.invariant
    (term_shown c.term.result) c.term.ensures holds
