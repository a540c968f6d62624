use Rattle.bohm_text.specs.Windowing.{document_of_first}
use Rattle.bohm_reading.proofs.ForCallers.{ready}
use Rattle.bohm_explain.proofs.windows.window_counts.Goals as goal

pub windows-init : goal.windows-init
windows-init c = ready _ (document_of_first c.in-Ok.read.0) c.in-Ok.read.1 c.in-Ok.ensures.ok.is
