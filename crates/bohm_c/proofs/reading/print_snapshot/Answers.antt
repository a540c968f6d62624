use Rattle.bohm_c.proofs.Snapshots.{snapshot_formed}
use Rattle.bohm_c.proofs.reading.print_snapshot.Goals as goal

pub returns-clause-formed : goal.returns-clause-formed
returns-clause-formed c = snapshot_formed c.args.store.items c.requires

pub returns-in_err-print_doc-clause-formed : goal.returns-in_err-print_doc-clause-formed
returns-in_err-print_doc-clause-formed c = snapshot_formed c.args.store.items c.requires
