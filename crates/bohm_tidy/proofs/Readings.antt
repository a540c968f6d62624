-- If a text is read as a document, the text printed from the settled document is the tidied text.
use Rattle.std.proofs.Common.{◌≡◌, ℕ, Bool, List, [], None, refl, ap, sym, ◌∙◌, inl, inr}
use Rattle.std.specs.List.{IsDistinct}
use Rattle.std.specs.Str.{bytes_eq}
use Rattle.bohm_types.specs.Document.{Document}
use Rattle.bohm_types.specs.Keys.{names_of}
use Rattle.bohm_types.specs.Sound.{IsDocument}
use Rattle.bohm_text.specs.Print.{print_doc}
use Rattle.bohm_tidy.specs.Plain.{Written, written}
use Rattle.bohm_tidy.specs.Settled.{settled}
use Rattle.bohm_tidy.specs.Tidied.{HasDouble, IsByLines, IsExactDoc, IsReadAs, IsTidied, IsTidiedByLines, IsUnsettled, RefusesLines, RefusesLoose}
use Rattle.bohm_tidy.specs.declared.fault.TidyFault.{TidyFault}
use Rattle.bohm_tidy.specs.declared.fault.TidyFault.TheVariants.{Line, Short, Twice, NoMemory}

pub exactly : (text exact : List ℕ) (d : Document) → IsDocument d → print_doc d ≡ text → IsDistinct bytes_eq (names_of d.store)
    → exact ≡ print_doc (settled [] [] d) → IsTidied text exact
exactly text exact d sound prints distinct printed = record {
  loose = record { document = d; no_reads = []; no_writes = [] };
  reading = record { sound = sound; distinct = distinct; read = inl (record { prints = prints; no_reads = refl; no_writes = refl }) };
  is = printed;
}

-- the text tidied by its lines, if the document was read from the text's exact lines
pub read_by_lines : (text exact plain : List ℕ) (rs ws : List Bool) (w : Written) (d : Document) → w ≡ written text → w.text ≡ plain → w.no_reads ≡ rs
    → w.no_writes ≡ ws → print_doc d ≡ plain → IsDocument d → IsDistinct bytes_eq (names_of d.store) → exact ≡ print_doc (settled rs ws d)
    → IsTidiedByLines text exact
read_by_lines text exact plain rs ws w d made text_is reads_is writes_is prints sound distinct printed = record {
  loose = record { document = d; no_reads = rs; no_writes = ws };
  sound = sound;
  distinct = distinct;
  read = record {
    prints = prints ∙ sym text_is ∙ ap (λ (v : Written). v.text) made;
    no_reads = sym reads_is ∙ ap (λ (v : Written). v.no_reads) made;
    no_writes = sym writes_is ∙ ap (λ (v : Written). v.no_writes) made;
  };
  is = printed;
}

-- ---- a store that names a key twice

double_exactly : (text : List ℕ) (d : Document) → IsDocument d → print_doc d ≡ text → ¬ IsDistinct bytes_eq (names_of d.store) → HasDouble IsReadAs text
double_exactly text d sound prints double = record {
  loose = record { document = d; no_reads = []; no_writes = [] };
  sound = sound;
  double = double;
  read = inl (record { prints = prints; no_reads = refl; no_writes = refl });
}

pub double_by_lines : (text plain : List ℕ) (w : Written) (d : Document) → w ≡ written text → w.text ≡ plain → print_doc d ≡ plain → IsDocument d
    → ¬ IsDistinct bytes_eq (names_of d.store) → HasDouble IsByLines text
double_by_lines text plain w d made text_is prints sound double = record {
  loose = record { document = d; no_reads = w.no_reads; no_writes = w.no_writes };
  sound = sound;
  double = double;
  read = record {
    prints = prints ∙ sym text_is ∙ ap (λ (v : Written). v.text) made;
    no_reads = ap (λ (v : Written). v.no_reads) made;
    no_writes = ap (λ (v : Written). v.no_writes) made;
  };
}

-- why a document's text has no exact text
pub of_exact : (text : List ℕ) (d : Document) (fault : TidyFault) → IsDocument d → print_doc d ≡ text → IsUnsettled d fault → RefusesLoose text fault
of_exact text d (Line n) sound prints is = absurd is
of_exact text d Short sound prints is = absurd is
of_exact text d (Twice places) sound prints double = double_exactly text d sound prints double
of_exact text d NoMemory sound prints is = tt

-- why a text that isn't exact has no exact text
pub not_exact : (text : List ℕ) (fault : TidyFault) → IsExactDoc text None → RefusesLines text fault → RefusesLoose text fault
not_exact text (Line n) none refuses = (none, refuses.0, refuses.1)
not_exact text Short none refuses = (none, refuses)
not_exact text (Twice d) none double = record {
  loose = double.loose;
  sound = double.sound;
  double = double.double;
  read = inr (none, double.read);
}
not_exact text NoMemory none refuses = tt
