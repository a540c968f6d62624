use Rattle.bohm_explain.proofs.costs.put_json.Goals as goal

pub returns : goal.returns
returns c = rw (c.word_for.ensures, c.truth.ensures) at c.put.ensures
