use Rattle.std.proofs.lemmas.Result.{on_ok_weaker}
use Rattle.bohm_log.proofs.Settling.{settled_itself}
use Rattle.bohm_log.proofs.call_places.SetPlaces.settle.Goals as goal

pub returns-in-Rising-clause-ok : goal.returns-in-Rising-clause-ok
returns-in-Rising-clause-ok c =
    on_ok_weaker _ (settled_itself _ _ _ c.in-Rising.is (c.order_of-self.ensures.rising c.in-Rising.is)) c.count_places.ensures.ok
