use Rattle.std.proofs.Common.{inr, subst, arith, Err}
use Rattle.bohm_text.specs.declared.fault.WindowFault.{WindowFault}
use Rattle.bohm_text.specs.Windowing.{ReadsWindow, IsOpenWindow}
use Rattle.bohm_reading.proofs.InOrderLaws.{open_short}
use Rattle.bohm_reading.proofs.reading.refusal.Goals as goal

pub returns-in-Open-2 : goal.returns-in-Open-2
returns-in-Open-2 c = λ short.
    let window = c.args.window.now.text.items in
    let opened : IsOpenWindow c.args.edition window c.in-Open-2.n =
    subst (λ (f : WindowFault). ReadsWindow c.args.edition window (Err f)) c.in-Open-2.is c.requires in
    inr (
      c.if-window.false,
      record {
        lines = c.in-Open-2.n;
        same = omega (
          arith,
          short,
          open_short c.args.edition window c.args.fault c.in-Open-2.n c.requires c.in-Open-2.is,
          c.saturating_add-in-Open-2.ensures,
          c.saturating_add-in-Open-2-2.ensures,
        );
        opened = opened;
      },
    )
