-- Tidying writes exact texts whose keys ascend, and leaves such texts unchanged.
use Rattle.std.proofs.Common.{◌≡◌, ℕ, Bool, List, [], ap, sym, ⊎_elim, ◌∙◌}
use Rattle.std.specs.Prelude.{None}
use Rattle.bohm_types.specs.Document.{Document}
use Rattle.bohm_types.specs.Sound.{IsDocument}
use Rattle.bohm_text.specs.Print.{print_doc}
use Rattle.bohm_tidy.specs.Settled.{settled}
use Rattle.bohm_tidy.specs.Tidied.{Loose, IsExactDoc, IsExact, IsByLines, IsTidied, IsTidyText, settled_text}
use Rattle.bohm_tidy.proofs.Sound.{settled_sound, settled_rises, settled_stays}

pub is_text : (text exact : List ℕ) → IsTidied text exact → IsTidyText exact
is_text text exact t = record {
  document = settled t.loose.no_reads t.loose.no_writes t.loose.document;
  sound = settled_sound t.loose.no_reads t.loose.no_writes t.loose.document t.reading.sound;
  rises = settled_rises t.loose.no_reads t.loose.no_writes t.loose.document;
  prints = t.is;
}

abbrev OneText : Type 0
OneText = (d e : Document) → IsDocument d → IsDocument e → print_doc d ≡ print_doc e → d ≡ e

read_exactly : OneText → (text : List ℕ) (l : Loose) → IsDocument l.document → (tidy : IsTidyText text) → IsExact text l → settled_text l ≡ text
read_exactly one text l sound tidy exact =
    let same : l.document ≡ tidy.document = one l.document tidy.document sound tidy.sound (exact.prints ∙ tidy.prints) in
    ap (λ (rs : List Bool). print_doc (settled rs l.no_writes l.document)) exact.no_reads
    ∙ ap (λ (ws : List Bool). print_doc (settled [] ws l.document)) exact.no_writes
    ∙ ap (λ (d : Document). print_doc (settled [] [] d)) same
    ∙ ap print_doc (settled_stays tidy.document tidy.rises)
    ∙ sym tidy.prints

pub stays : OneText → (text exact : List ℕ) → IsTidyText text → IsTidied text exact → exact ≡ text
stays one text exact tidy t =
    t.is ∙ ⊎_elim
    (λ (x : IsExact text t.loose). read_exactly one text t.loose t.reading.sound tidy x)
    (λ (x : IsExactDoc text None × IsByLines text t.loose). absurd (x.0 tidy.document tidy.sound (sym tidy.prints)))
    t.reading.read

pub once : OneText → (text exact again : List ℕ) → IsTidied text exact → IsTidied exact again → again ≡ exact
once one text exact again t u = stays one exact again (is_text text exact t) u
