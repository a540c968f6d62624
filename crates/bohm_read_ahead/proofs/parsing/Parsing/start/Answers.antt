use Rattle.std.proofs.Common.{◌++◌, List, ℕ, ap, drop, subst, sym, ◌∙◌}
use Rattle.std.proofs.lemmas.List.{take-append-drop}
use Rattle.bohm_text.specs.Windows.{IsWindow}
use Rattle.bohm_reading.specs.declared.window.Window.{Window}
use Rattle.bohm_read_ahead.specs.Parsing.{IsChecked}
use Rattle.bohm_read_ahead.proofs.parsing.Parsing.start.Goals as goal

pub returns-in_default-clause-parsing : goal.returns-in_default-clause-parsing
returns-in_default-clause-parsing g c =
    let same = c.run.ensures.parsed.window in
    let text = c.args.task.window.text.items in
    let begins : IsWindow text = record {
      behind = drop 4 text;
      begins = sym (take-append-drop 4 text) ∙ ap (λ (front : List ℕ). front ++ drop 4 text) c.args.task.begins;
    } in (
      subst (λ (w : Window). IsWindow w.text.items) (sym same) begins,
      subst (λ (w : Window). IsChecked c.args.task.edition w c.run.result) (sym same)
          c.run.ensures,
    )
