use Rattle.std.proofs.Common.{ap, Ok}
use Rattle.bohm_store.proofs.history.History.value_at.Goals as goal

pub returns-clause-within : goal.returns-clause-within
returns-clause-within c = λ low high. rw (← c.self.view_is) (ap Ok c.cell_of.ensures.cell)

pub returns-clause-newest : goal.returns-clause-newest
returns-clause-newest c = rw (← c.self.view_is) c.cell_of.ensures.newest
