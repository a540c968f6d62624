use Rattle.std.proofs.Common.{Bool}
use Rattle.bohm_log.specs.Seeing.{term_shown}
use Rattle.bohm_types.specs.Parts.{key_read}
use Rattle.bohm_types.specs.Term.{Atom}
use Rattle.bohm_tidy.specs.Settled.{the_key}
use Rattle.bohm_tidy.proofs.Lists.{gather_more}
use Rattle.bohm_tidy.proofs.body_keys.add_sum.Goals as goal

pub loop-index-preserved : goal.loop-index-preserved
loop-index-preserved c = gather_more (λ (t : Bool × Atom). the_key (key_read t.1)) c.args.sum.now c.loop-index.index
    (term_shown c.term.result) _ _ _ c.term.ensures c.in_ok-add_atom.ensures c.loop-index.invariant
