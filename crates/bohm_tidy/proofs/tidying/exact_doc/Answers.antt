use Rattle.std.proofs.Common.{Err, ap}
use Rattle.bohm_tidy.proofs.Exact.{no_text}
use Rattle.bohm_tidy.proofs.tidying.exact_doc.Goals as goal

pub returns-in-Err-Line : goal.returns-in-Err-Line
returns-in-Err-Line c = no_text c.args.text.now _ (c.in-Err-Line.ensures.line _ (ap (λ e. Err e) c.in-Err-Line.field-0-is))

pub returns-in-Err-Short : goal.returns-in-Err-Short
returns-in-Err-Short c = let short = c.in-Err-Short.ensures.short (ap (λ e. Err e) c.in-Err-Short.field-0-is) in short.none
