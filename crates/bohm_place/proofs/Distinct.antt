-- Rising keys are distinct.
use Rattle.std.proofs.Common.{◌≡◌, ℕ, true, List, [], ◌∷◌}
use Rattle.std.proofs.lemmas.Bool.{both_ways, false_from_ne_true}
use Rattle.bohm_types.specs.Keys.{is_among, rising}
use Rattle.bohm_txn.proofs.ForCallers.{AllApart, rising_apart}
use Rattle.bohm_place.specs.Shares.{AreDistinct}

AreDistinct-apart : (ks : List (List ℕ)) → AllApart ks → AreDistinct ks
AreDistinct-apart [] h = tt
AreDistinct-apart (k ∷ ks) h = (false_from_ne_true (is_among ks k) h.0, AreDistinct-apart ks h.1)

pub apart-AreDistinct : (ks : List (List ℕ)) → AreDistinct ks → AllApart ks
apart-AreDistinct [] h = tt
apart-AreDistinct (k ∷ ks) h = (both_ways (is_among ks k) h.0, apart-AreDistinct ks h.1)

pub AreDistinct-rising : (ks : List (List ℕ)) → rising ks ≡ true → AreDistinct ks
AreDistinct-rising ks h = AreDistinct-apart ks (rising_apart ks h)
