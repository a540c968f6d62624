use Rattle.bohm_explain.proofs.costs.put_table.Goals as goal

pub returns : goal.returns
returns c = rw (c.word_for.ensures, c.pays_words.ensures) at c.put.ensures
