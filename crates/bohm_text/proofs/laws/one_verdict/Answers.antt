use Rattle.bohm_text.proofs.Verdicts.{one_line, bad_not_short, document_not_bad}
use Rattle.bohm_text.proofs.laws.one_verdict.Goals as goal

pub returns-clause-line : goal.returns-clause-line
returns-clause-line c = one_line

pub returns-clause-short : goal.returns-clause-short
returns-clause-short c = bad_not_short

pub returns-clause-document : goal.returns-clause-document
returns-clause-document c = document_not_bad
