-- A document: an edition, the starting store and the log.
use Rattle.std.specs.Prelude.{ℕ, ℤ, List, Bool, true, false, Option, Some, None, if◌then◌else◌}
use Rattle.std.specs.List.{list_all}
use Rattle.bohm_types.specs.declared.edition.Edition.{Edition}
use Rattle.bohm_types.specs.declared.edition.Edition.TheVariants.{One, Two}
use Rattle.bohm_types.specs.Txn.{Txn}

pub record Document : Type 0 where
  pub edition : Edition
  pub store : List (List ℕ × ℤ)
  pub log : List Txn

abbrev pub same_edition : Edition → Edition → Bool
same_edition One One = true
same_edition One Two = false
same_edition Two One = false
same_edition Two Two = true

abbrev pub in_edition : Edition → Txn → Bool
in_edition e t = same_edition t.edition e

abbrev pub document_of : Edition → List (List ℕ × ℤ) → List Txn → Option Document
document_of e store log = if list_all (in_edition e) log then Some (record { edition = e; store = store; log = log }) else None
