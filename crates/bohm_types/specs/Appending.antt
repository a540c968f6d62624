-- Documents to which transactions are appended.
use Rattle.std.specs.Prelude.{[], ◌∷◌, ◌++◌}
use Rattle.bohm_types.specs.declared.edition.Edition.{Edition}
use Rattle.bohm_types.specs.Document.{Document}
use Rattle.bohm_types.specs.Txn.{Txn}

-- an empty store and no transactions
abbrev pub empty_document : Edition → Document
empty_document e = record { edition = e; store = []; log = [] }

-- the document with one more transaction at the end
abbrev pub with_txn : Document → Txn → Document
with_txn d t = record d { log = d.log ++ t ∷ [] }
