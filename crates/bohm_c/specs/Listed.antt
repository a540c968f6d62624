-- What a list of calls is to its C callers.
use Rattle.std.specs.Prelude.{◌≡◌, ℕ, List, [], ◌∷◌, ◌++◌}
use Rattle.bohm_types.specs.Appending.{empty_document}
use Rattle.bohm_types.specs.Document.{Document}
use Rattle.bohm_types.specs.declared.edition.Edition.{Edition}
use Rattle.bohm_types.specs.declared.edition.Edition.TheVariants.{One, Two}
use Rattle.bohm_log.specs.Columns.{AllNamed}
use Rattle.bohm_log.specs.Parts.{names_at}

-- the document of its calls' instances, and the keys that its handles name, indexed by handle number
pub record Listed : Type 0 where
  pub calls : Document
  pub names : List (List ℕ)

-- the list with no calls and no handles
abbrev pub empty_list : Edition → Listed
empty_list edition = record { calls = empty_document edition; names = [] }

-- the editions' numbers
abbrev pub edition_number : Edition → ℕ
edition_number One = 1
edition_number Two = 2

-- a list with no calls and no handles, for the edition with this number
pub record IsNew (number : ℕ) (list : Listed) : Type 0 where
  pub edition : Edition
  pub numbered : edition_number edition ≡ number
  pub empty : list ≡ empty_list edition

-- the list without its calls, with its handles
abbrev pub cleared : Listed → Listed
cleared list = record { calls = empty_document list.calls.edition; names = list.names }

-- the list with one more handle
abbrev pub with_name : Listed → List ℕ → Listed
with_name list name = record { calls = list.calls; names = list.names ++ name ∷ [] }

-- these are all handles of the list
abbrev pub Knows : Listed → List ℕ → Type 0
Knows list handles = AllNamed list.names handles

-- the keys that these handles name
abbrev pub named_by : Listed → List ℕ → List (List ℕ)
named_by list handles = names_at list.names handles
