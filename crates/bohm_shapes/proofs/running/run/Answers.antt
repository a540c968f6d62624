-- The bindings of the values come first.
use Rattle.std.proofs.Common.{◌≡◌, ℕ, ◌+◌, ◌≤◌, length, ap, sym, ◌∙◌, subst, rules, arith}
use Rattle.bohm_txn.specs.Tables.{start, tables_from}
use Rattle.bohm_shapes.specs.Calls.{txn_of}
use Rattle.bohm_shapes.specs.Filled.{steps_filled}
use Rattle.bohm_shapes.specs.Running.{StepsIn, bound_to, tables_of}
use Rattle.bohm_shapes.proofs.LetLaw.{lets_run, with_locals}
use Rattle.bohm_shapes.proofs.running.run.Goals as goal

pub loop-row-init : goal.loop-row-init
loop-row-init c =
    let call = c.args.call.now in
    let begun = c.begin.ensures in
    let usable = c.requires.call.usable in
    let names = call.shape.now.locals.items in
    let cells = c.args.work.now.cells.0 in
    let few : length call.values.now ≤ length names = omega (arith, c.requires.call.bound, usable.named) in
    let first = lets_run (txn_of call) (start cells cells) 1 names call.values.now (steps_filled call.shape.now call.keys.now) begun.numbers few in
    let keys = call.keys.now in
    let steps = call.shape.now.steps.items in
    let bound : call.shape.now.values ≡ length c.begin.new.work.locals.0 = sym (ap length begun.locals ∙ c.requires.call.bound) in
    let tables : tables_of names c.begin.new.work ≡ with_locals (start cells cells) (bound_to names call.values.now) =
    λ i. record { locals = bound_to names (begun.locals i); seen = begun.seen i; cells = begun.cells i; shows = begun.shows i } in
    record {
      fits = record {
        apart_keys = c.requires.call.apart;
        seen = ap length begun.seen ∙ c.requires.cells;
        cells = ap length begun.cells ∙ c.requires.cells;
        apart = usable.apart;
        locals = omega (arith, ap length begun.locals, few);
      };
      within =
          subst (λ (n : ℕ). StepsIn names (length keys) n steps) bound
          (subst (λ (k : ℕ). StepsIn names k call.shape.now.values steps) (sym c.requires.call.paired) usable.within);
      number = search rules;
      locals = omega (arith, ap length begun.locals);
      shows = omega (arith, ap length begun.shows);
      room = begun.room;
      so_far = (λ i. tables_from (txn_of call) (tables i) (length call.values.now + 1) (steps_filled call.shape.now keys)) ∙ sym first;
    }
