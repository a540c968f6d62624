-- The first window of a text, and the text after the window.
use Rattle.std.proofs.Common.{◌≡◌, inl, inr, ℕ, ◌+◌, ◌≤◌, true, false, List, [], ◌++◌}
use Rattle.std.proofs.Common.{length, ap, sym, subst, ◌∙◌, arith, append_assoc, length-append}
use Rattle.std.specs.Prelude.{Option}
use Rattle.std.specs.Io.KnownBytes.{Consumes, IsAtEnd}
use Rattle.std.proofs.KnownBytes.{Consumes-trans}
use Rattle.bohm_types.specs.Document.{Document}
use Rattle.bohm_types.specs.Txn.{Txn}
use Rattle.bohm_text.specs.Print.{print_doc}
use Rattle.bohm_text.specs.Cut.{whole_lines}
use Rattle.bohm_text.specs.Windows.{with_log}
use Rattle.bohm_text.specs.Windowing.{IsTextOf, document_of_first}
use Rattle.bohm_text.specs.declared.windows.FirstWindow.{FirstWindow}
use Rattle.bohm_text.proofs.ForCallers.{longer}
use Rattle.bohm_reading.specs.declared.fault.ReadingFault.{ReadingFault}
use Rattle.bohm_reading.specs.declared.fault.ReadingFault.TheVariants.{Read, TooLong, Line, Short, NoMemory}
use Rattle.bohm_reading.specs.declared.source.Piece.{Piece}
use Rattle.bohm_reading.specs.declared.reading.Source.{Source}
use Rattle.bohm_reading.specs.Pieces.{IsPiece}
use Rattle.bohm_reading.specs.InOrder.{RefusesText}
use Rattle.bohm_reading.specs.Reading.{Drains, ReadsOn, RefusesAll, RefusesOn}
use Rattle.bohm_reading.specs.Reading.{FirstRefused, ReadsTextOf, ReadsBeginning, RefusesReading}

refused_as : (u v : Option (List ℕ)) (text : List ℕ) → Consumes u v text → IsAtEnd v → length text ≤ 67108864 → (fault : ReadingFault)
    → RefusesText text fault → RefusesReading u v fault
refused_as u v text read at_end short Read is = tt
refused_as u v text read at_end short NoMemory is = tt
refused_as u v text read at_end short TooLong is = absurd is
refused_as u v text read at_end short (Line n) is = record { text = text; read = read; at_end = at_end; short = short; is = is }
refused_as u v text read at_end short Short is = record { text = text; read = read; at_end = at_end; short = short; is = is }

module _ (u v : Option (List ℕ)) (begun : List ℕ) (none : begun ≡ []) (p : Piece) (is : IsPiece u v begun 0 p) where
  whole : p.text.items ++ p.rest.items ≡ is.more
  whole = is.same ∙ ap (λ (b : List ℕ). b ++ is.more) none

  behind : (ahead : List ℕ) → p.text.items ++ (p.rest.items ++ ahead) ≡ is.more ++ ahead
  behind ahead = sym (append_assoc p.text.items p.rest.items ahead) ∙ ap (λ (t : List ℕ). t ++ ahead) whole

  pub first_last : (fault : ReadingFault) → FirstRefused p.text.items p.ended fault → p.ended ≡ true → RefusesReading u v fault
  first_last fault refused ended =
      let last = is.last ended in
      refused_as u v is.more is.read last.at_end (omega (arith, is.total, is.short)) fault
      (subst (λ (t : List ℕ). RefusesText t fault) whole (refused p.rest.items (λ e. absurd cc) (λ e. last.none)))

  pub first_drained : (y : Option (List ℕ)) (fault result : ReadingFault) → FirstRefused p.text.items p.ended fault → p.ended ≡ false
      → Drains v y p.total fault result → RefusesReading u y result
  first_drained y fault result refused going (inl h) =
      let inner = is.inner going in
      let told : RefusesText (is.more ++ h.1.more) fault = subst (λ (t : List ℕ). RefusesText t fault) (behind h.1.more)
      (refused (p.rest.items ++ h.1.more) (λ e. (inner.whole, longer p.rest.items h.1.more inner.next)) (λ e. absurd cc)) in
      subst (RefusesReading u y) (sym h.0) (refused_as u y (is.more ++ h.1.more) (Consumes-trans u v y is.more h.1.more is.read h.1.read) h.1.at_end
      (omega (arith, length-append is.more h.1.more, is.total, h.1.short)) fault told)
  first_drained y fault result refused going (inr (inl h)) = rw h tt
  first_drained y fault result refused going (inr (inr h)) = rw h.0 record {
    more = is.more ++ h.1.more;
    long = omega (arith, h.1.long, is.total, length-append is.more h.1.more);
    read = Consumes-trans u v y is.more h.1.more is.read h.1.read;
  }

  -- if the first window is a document's text, reading begins with this document
  pub beginning : (first : FirstWindow) (lines : ℕ) (s : Source) → IsTextOf p.text.items lines (document_of_first first) → s.rest.items ≡ p.rest.items
      → s.total ≡ p.total → s.lines ≡ lines → s.ended ≡ p.ended → ReadsBeginning u v first s
  beginning first lines s h rest total count ended = record {
    more = is.more;
    read = is.read;
    same = rw (rest, h.print) whole;
    is = record {
      sound = h.sound;
      lines = count ∙ (h.lines ∙ ap (λ (t : List ℕ). length (whole_lines t)) (sym h.print));
      total = omega (
        arith,
        total,
        is.total,
        ap length whole,
        length-append p.text.items p.rest.items,
        ap length rest,
        ap length h.print,
        length-append (print_doc (document_of_first first)) s.rest.items,
      );
      short = omega (arith, total, is.short);
      order = λ more none. tt;
      next = λ e. rw rest (is.inner (sym ended ∙ e)).next;
      last = λ e. let end = is.last (sym ended ∙ e) in record { none = rest ∙ end.none; at_end = end.at_end };
    };
  }

-- ---- the text after the first window

module _ (u v y : Option (List ℕ)) (first : FirstWindow) (s : Source) (begun : ReadsBeginning u v first s) where
  abbrev d : Document
  d = document_of_first first

  all_behind : (more : List ℕ) → print_doc d ++ (s.rest.items ++ more) ≡ begun.more ++ more
  all_behind more = sym (append_assoc (print_doc d) s.rest.items more) ∙ ap (λ (t : List ℕ). t ++ more) begun.same

  later : (fault : ReadingFault) → RefusesAll v y d s.rest.items fault → RefusesReading u y fault
  later fault h = refused_as u y (begun.more ++ h.more) (Consumes-trans u v y begun.more h.more begun.read h.read) h.at_end
      (omega (arith, ap length (all_behind h.more), h.short)) fault (subst (λ (t : List ℕ). RefusesText t fault) (all_behind h.more) h.is)

  pub later_refused : (fault : ReadingFault) → RefusesOn v y d s.rest.items (length (print_doc d ++ s.rest.items)) fault → RefusesReading u y fault
  later_refused Read h = tt
  later_refused NoMemory h = tt
  later_refused TooLong h = record {
    more = begun.more ++ h.more;
    long = omega (arith, h.long, ap length begun.same, length-append begun.more h.more);
    read = Consumes-trans u v y begun.more h.more begun.read h.read;
  }
  later_refused (Line n) h = later (Line n) h
  later_refused Short h = later Short h

  pub later_read : (log : List Txn) → ReadsOn v y d s.rest.items log → ReadsTextOf u y (with_log d log)
  later_read log h =
      let same : print_doc (with_log d log) ≡ begun.more ++ h.more = h.print ∙ all_behind h.more in
      record {
        sound = h.sound;
        read = subst (Consumes u y) (sym same) (Consumes-trans u v y begun.more h.more begun.read h.read);
        at_end = h.at_end;
        short = omega (arith, ap length h.print, h.short);
      }
