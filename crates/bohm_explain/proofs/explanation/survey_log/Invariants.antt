use Rattle.std.proofs.Common.{◌≡◌, ◌+◌, ◌<◌, ◌≤◌, All, length, take}
use Rattle.bohm_place.specs.Cuttings.{ahead}
use Rattle.bohm_place.specs.CutLogs.{cutting_of}
use Rattle.bohm_explain.specs.Parts.{parts_below}
use Rattle.bohm_explain.specs.Printed.{chained_below}
use Rattle.bohm_explain.specs.Tallies.{IsGathered}
use Rattle.bohm_explain.proofs.LongestLaws.{IsLongestBelow}
use Rattle.bohm_explain.proofs.explanation.survey_log.Given as goal

abbrev pub invariant-loop-index : goal.invariant-loop-index
invariant-loop-index l = record {
  start : l.start ≡ ahead (cutting_of l.log).sizes l.index;
  inside : l.start ≤ length (cutting_of l.log).log;
  parts : l.parts.items ≡ parts_below (cutting_of l.log) l.ways l.index;
  few : length l.parts.items ≤ l.start;
  newest : All (λ v. v.begin < l.start + 1) l.newest;
  keys : IsGathered (take l.start (cutting_of l.log).log) (chained_below (cutting_of l.log) l.index) l.keys;
  longest : IsLongestBelow (cutting_of l.log) l.index l.longest.items;
}
