-- The first lines of documents.
use Rattle.std.specs.Prelude.{◌≡◌, ℕ, List, ◌++◌, map}
use Rattle.bohm_types.specs.Document.{Document}
use Rattle.bohm_types.specs.Sound.{IsDocument}
use Rattle.bohm_text.specs.Print.{line_text, doc_lines}

-- a document's lines
abbrev pub text_lines : Document → List (List ℕ)
text_lines d = map line_text (doc_lines d)

-- some document's text has these as its first lines
pub record Front (lines : List (List ℕ)) : Type 0 where
  pub document : Document
  pub sound : IsDocument document
  pub more : List (List ℕ)
  pub begins : text_lines document ≡ lines ++ more
