-- The contract view of a cut log.
use Rattle.bohm_place.specs.declared.cut_log.CutLog.{CutLog}
use Rattle.bohm_place.specs.Cuttings.{Cutting}

abbrev pub cutting_of : CutLog → Cutting
cutting_of l = record { first = l.first; log = l.txns.now; sizes = l.cuts.now }
