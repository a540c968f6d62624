-- The lines that summarize a valid log and an accepted procedure.
use Rattle.std.specs.Prelude.{ℕ, List, [], ◌++◌, ◌==◌, codes, decimal, if◌then◌else◌}
use Rattle.bohm_types.specs.declared.edition.Edition.{Edition}
use Rattle.bohm_types.specs.declared.edition.Edition.TheVariants.{One, Two}
use Rattle.bohm_check.specs.declared.summary.Summary.{Summary}
use Rattle.bohm_check.specs.declared.procedure_report.ProcedureSummary.{ProcedureSummary}

abbrev pub edition_words : Edition → List ℕ
edition_words One = codes "log 1, "
edition_words Two = codes "log 2, "

abbrev pub summary_line : Summary → List ℕ
summary_line s =
    edition_words s.edition ++ decimal s.keys ++ codes " keys, " ++ decimal s.transactions ++ codes " transactions, " ++ decimal s.distinct
    ++ codes " distinct keys, " ++ decimal s.sure ++ codes " sure\n"

abbrev pub head_words : Edition → List ℕ
head_words One = codes "procedure 1"
head_words Two = codes "procedure 2"

-- `, 1 key` or `, 2 keys`
abbrev pub things : ℕ → List ℕ → List ℕ
things number thing = codes ", " ++ decimal number ++ codes " " ++ thing ++ (if number == 1 then [] else codes "s")

abbrev pub procedure_line : ProcedureSummary → List ℕ
procedure_line s =
    head_words s.edition ++ things s.keys (codes "key") ++ things s.values (codes "value") ++ things s.statements (codes "statement") ++ codes "\n"
