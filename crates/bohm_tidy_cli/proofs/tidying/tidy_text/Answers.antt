use Rattle.std.proofs.Common.{◌≡◌, ◌∙◌, List, ℕ, subst}
use Rattle.std.specs.Io.KnownBytes.{Appends}
use Rattle.std.proofs.lemmas.Result.{on_ok_weaker}
use Rattle.bohm_tidy_cli.specs.Tidying.{IsExactOf}
use Rattle.bohm_tidy_cli.proofs.tidying.tidy_text.Goals as goal

-- without options the output is the exact text
pub returns-clause-ok : goal.returns-clause-ok
returns-clause-ok g c =
    let read = c.in_ok-text.ensures in
    let tidied = subst (λ (text : List ℕ). IsExactOf text c.in_ok-exact.exact.items) c.as_slice.ensures.value c.in_ok-exact.ensures.tidied in
    on_ok_weaker c.write_all.result (λ wrote check keep. record {
      exact = c.in_ok-exact.exact.items;
      loose = record {
        text = c.in_ok-text.text.items;
        read = record { read = read.bytes; at_end = read.end; short = read.short };
        tidied = tidied;
        short = c.in_ok-exact.ensures.short;
      };
      wrote =
          subst (λ (bytes : List ℕ). Appends (g.W.Write.contents c.args.writer.now) (g.W.Write.contents c.write_all.new.writer) bytes)
          (c.as_slice-3.ensures.value ∙ c.in_ok-output.ensures.exact check keep) wrote;
    }) c.write_all.ensures.ok

-- a check reads the same, and writes nothing
pub returns-clause-checked : goal.returns-clause-checked
returns-clause-checked g c =
    let read = c.in_ok-text.ensures in
    let tidied = subst (λ (text : List ℕ). IsExactOf text c.in_ok-exact.exact.items) c.as_slice.ensures.value c.in_ok-exact.ensures.tidied in
    on_ok_weaker c.write_all.result (λ wrote check. record {
      exact = c.in_ok-exact.exact.items;
      loose = record {
        text = c.in_ok-text.text.items;
        read = record { read = read.bytes; at_end = read.end; short = read.short };
        tidied = tidied;
        short = c.in_ok-exact.ensures.short;
      };
      silent =
          subst (λ (bytes : List ℕ). Appends (g.W.Write.contents c.args.writer.now) (g.W.Write.contents c.write_all.new.writer) bytes)
          (c.as_slice-3.ensures.value ∙ c.in_ok-output.ensures.nothing check) wrote;
    }) c.write_all.ensures.ok
