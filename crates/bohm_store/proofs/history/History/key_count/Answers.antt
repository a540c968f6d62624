use Rattle.std.proofs.Common.{sym, ◌∙◌}
use Rattle.bohm_store.specs.Numbered.{versions_at}
use Rattle.bohm_store.proofs.Names.{length-named}
use Rattle.bohm_store.proofs.history.History.key_count.Goals as goal

pub returns : goal.returns
returns c = rw (← c.self.view_is) (c.len.ensures ∙ sym (length-named (versions_at c.self.inside.numbered) 0 c.self.inside.names))
