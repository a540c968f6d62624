use Rattle.bohm_c.proofs.agreeing.apply_rest.Goals as goal

pub returns : goal.returns
returns c was text a ordered stopped left is = c.rest_is_done.ensures was c.args.session.now c.apply.new.self text c.args.rest.now a _ ordered stopped left (c.apply.ensures.done is)
