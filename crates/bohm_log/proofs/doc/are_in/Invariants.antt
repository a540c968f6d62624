use Rattle.std.proofs.Common.{◌≡◌, drop}
use Rattle.std.specs.List.{list_all}
use Rattle.bohm_types.specs.Document.{in_edition}
use Rattle.bohm_log.proofs.doc.are_in.Given as goal

abbrev pub invariant-loop-index : goal.invariant-loop-index
invariant-loop-index l = list_all (in_edition l.edition) (drop l.index l.log) ≡ list_all (in_edition l.edition) l.log
