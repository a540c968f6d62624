use Rattle.std.proofs.Common.{◌≡◌, take}
use Rattle.std.specs.List.{AllByRecursion}
use Rattle.bohm_types.specs.Sound.{IsNumber}
use Rattle.bohm_shapes.proofs.running.begin.Given as goal

abbrev pub invariant-loop-value : goal.invariant-loop-value
invariant-loop-value l = record {
  numbers : AllByRecursion IsNumber (take l.value-index l.values);
  bound : l.work.locals.0 ≡ take l.value-index l.values;
  room : l.work.locals.1 ≡ l.initial.work.locals.1;
  seen : l.work.seen ≡ l.initial.work.seen;
  cells : l.work.cells ≡ l.initial.work.cells;
  shows : l.work.shows ≡ l.initial.work.shows;
}
