-- Reading windows from a reader.
use Rattle.std.proofs.Common.{◌≡◌, inl, inr, ℕ, ◌+◌, ◌<◌, ◌≤◌, Bool, true, false, List, [], ◌∷◌, ◌++◌, length}
use Rattle.std.proofs.Common.{take, drop, refl, ap, sym, subst, ◌∙◌, arith, append_assoc, append-nil, length-append}
use Rattle.std.specs.Prelude.{codes, Option}
use Rattle.std.specs.Io.KnownBytes.{Consumes, IsAtEnd}
use Rattle.std.proofs.lemmas.Grind.{flat_map-append}
use Rattle.std.proofs.lemmas.List.{take-append-le, take-append-drop}
use Rattle.std.proofs.KnownBytes.{Consumes-nil, Consumes-trans}
use Rattle.bohm_text.specs.Windows.{IsWindow}
use Rattle.bohm_text.specs.Windowing.{IsWhole}
use Rattle.bohm_text.proofs.ForCallers.{longer, lines_short, chunk_placed}
use Rattle.bohm_reading.specs.declared.source.Piece.{Piece}
use Rattle.bohm_reading.specs.declared.window.Window.{Window}
use Rattle.bohm_reading.specs.Pieces.{IsPiece}
use Rattle.bohm_types.specs.declared.edition.Edition.{Edition}
use Rattle.bohm_types.specs.Document.{Document}
use Rattle.bohm_types.specs.Txn.{Txn}
use Rattle.bohm_text.specs.declared.windows.Chunk.{Chunk}
use Rattle.bohm_text.specs.Cut.{whole_lines}
use Rattle.bohm_text.specs.Print.{print_doc}
use Rattle.bohm_text.specs.Windows.{with_log}
use Rattle.bohm_text.specs.Windowing.{IsChunkOf, IsTextOf}
use Rattle.bohm_reading.specs.declared.fault.ReadingFault.{ReadingFault}
use Rattle.bohm_reading.specs.declared.fault.ReadingFault.TheVariants.{Read, TooLong, Line, Short, NoMemory}
use Rattle.bohm_reading.specs.InOrder.{bytes_of, AreInOrder, logs_of, RefusesText, RefusesWindow}
use Rattle.bohm_reading.proofs.InOrderLaws.{told}
use Rattle.bohm_reading.specs.Reading.{IsTooLong, IsReading, IsReady, IsSourceFault, Drains, left_of, ReadsOn, RefusesAll, RefusesOn, IsReadOn}
use Rattle.bohm_reading.specs.declared.reading.Source.{Source}

-- ---- one more window

window_front : (text rest tail : List ℕ) → text ++ rest ≡ codes "txn" ++ 10 ∷ tail → 4 ≤ length text → IsWindow text
window_front text rest tail same some =
    let four : take 4 text ≡ codes "txn" ++ 10 ∷ [] = sym (take-append-le 4 text rest some) ∙ ap (take 4) same in
    record { behind = drop 4 text; begins = sym (take-append-drop 4 text) ∙ ap (λ (r : List ℕ). r ++ drop 4 text) four }

piece_begins : (u v : Option (List ℕ)) (begun : List ℕ) (before : ℕ) (p : Piece) → IsWindow begun → IsPiece u v begun before p → IsWindow p.text.items
piece_begins u v begun before p w h = by_end p.ended refl
  where
    by_end : (e : Bool) → p.ended ≡ e → IsWindow p.text.items
    by_end false e =
        let inner = h.inner e in
        window_front p.text.items p.rest.items (longer begun h.more w).behind (h.same ∙ (longer begun h.more w).begins) inner.some
    by_end true e =
        let none = (h.last e).none in
        subst IsWindow (sym h.same ∙ (ap (λ (r : List ℕ). p.text.items ++ r) none ∙ append-nil p.text.items)) (longer begun h.more w)

order_push : (ws : List Window) (w : Window) (tail ahead : List ℕ) → w.text.items ++ ahead ≡ tail → AreInOrder ws tail → IsWindow w.text.items
    → (w.last ≡ false → IsWhole w.text.items × IsWindow ahead) → (w.last ≡ true → ahead ≡ []) → AreInOrder (ws ++ w ∷ []) ahead
order_push [] w tail ahead same order begins inner last = (begins, inner, last, tt)
order_push (v ∷ vs) w tail ahead same order begins inner last =
    let behind : bytes_of vs ++ tail ≡ bytes_of (vs ++ w ∷ []) ++ ahead = ap (λ (r : List ℕ). bytes_of vs ++ r) (sym same)
    ∙ (sym (append_assoc (bytes_of vs) w.text.items ahead) ∙ ap (λ (r : List ℕ). r ++ ahead) (bytes_more vs w)) in (
      order.0,
      (λ e. let h = order.1 e in (h.0, subst IsWindow behind h.1)),
      (λ e. sym behind ∙ order.2 e),
      order_push vs w tail ahead same order.3 begins inner last,
    )
  where
    bytes_more : (vs : List Window) (w : Window) → bytes_of vs ++ w.text.items ≡ bytes_of (vs ++ w ∷ [])
    bytes_more vs w = sym (flat_map-append (λ (x : Window). x.text.items) vs (w ∷ []) ∙ ap (λ (b : List ℕ). bytes_of vs ++ b) (append-nil w.text.items))

bytes_push : (vs : List Window) (w : Window) → bytes_of (vs ++ w ∷ []) ≡ bytes_of vs ++ w.text.items
bytes_push vs w = flat_map-append (λ (x : Window). x.text.items) vs (w ∷ []) ∙ ap (λ (b : List ℕ). bytes_of vs ++ b) (append-nil w.text.items)

-- ---- from one window to the next

same_log : (d : Document) → with_log d [] ≡ d
same_log d = ap (λ (log : List Txn). record d { log = log }) (append-nil d.log)

pub on_none : (u : Option (List ℕ)) (d : Document) (s : Source) → IsReading u d [] s → IsReadOn u u d s.rest.items [] [] s
on_none u d s is = record {
  more = [];
  read = Consumes-nil u;
  is = subst (λ (e : Document). IsReading u e [] s) (sym (same_log d)) is;
  same = ap (λ (e : Document). print_doc e ++ s.rest.items) (same_log d) ∙ ap (λ (r : List ℕ). print_doc d ++ r) (sym (append-nil s.rest.items));
}

pub ready : (u : Option (List ℕ)) (d : Document) (s : Source) → IsReading u d [] s → IsReady s
ready u d s is = record { next = is.next; short = is.short }

-- the window w is the piece p, read from the source `was`, and leaves the source `now`
module _ (v x : Option (List ℕ)) (was now : Source) (p : Piece) (is : IsPiece v x was.rest.items was.total p) (w : Window) (text : w.text.items ≡ p.text.items)
    (last : w.last ≡ p.ended) (rest : now.rest.items ≡ p.rest.items) (total : now.total ≡ p.total) (ended : now.ended ≡ p.ended) where
  all_read : (ahead : List Window) → bytes_of (ahead ++ w ∷ []) ++ now.rest.items ≡ (bytes_of ahead ++ was.rest.items) ++ is.more
  all_read ahead =
      let one : w.text.items ++ now.rest.items ≡ was.rest.items ++ is.more = rw (text, rest) is.same in
      ap (λ (b : List ℕ). b ++ now.rest.items) (bytes_push ahead w)
      ∙ (append_assoc (bytes_of ahead) w.text.items now.rest.items
      ∙ (ap (λ (r : List ℕ). bytes_of ahead ++ r) one ∙ sym (append_assoc (bytes_of ahead) was.rest.items is.more)))

  pub window_begins : IsWindow was.rest.items → IsWindow w.text.items
  window_begins next = rw text (piece_begins v x was.rest.items was.total p next is)

  pub ready_next : IsReady now
  ready_next = record {
    next = λ e. rw rest (is.inner (sym ended ∙ e)).next;
    short = omega (arith, total, is.short);
  }

  pub left_next : (ahead : List Window) → left_of (ahead ++ w ∷ []) now ≡ left_of ahead was
  left_next ahead =
      omega (arith, total, is.total, is.short, ap length (all_read ahead), length-append (bytes_of ahead ++ was.rest.items) is.more)

  module _ (lines : now.lines ≡ was.lines) (going : was.ended ≡ false) (u : Option (List ℕ)) (d : Document) (first : List ℕ) (chunks : List Chunk)
      (ahead : List Window) (so_far : IsReadOn u v d first chunks ahead was) where
    abbrev doc : Document
    doc = with_log d (logs_of chunks)

    order_next : (more : List ℕ) → (now.ended ≡ true → more ≡ []) → AreInOrder (ahead ++ w ∷ []) (now.rest.items ++ more)
    order_next more none =
        let same : w.text.items ++ (now.rest.items ++ more) ≡ was.rest.items ++ (is.more ++ more) = rw (text, rest)
        (sym (append_assoc p.text.items p.rest.items more) ∙ (ap (λ (r : List ℕ). r ++ more) is.same ∙ append_assoc was.rest.items is.more more)) in
        order_push ahead w (was.rest.items ++ (is.more ++ more)) (now.rest.items ++ more) same (so_far.is.order (is.more ++ more) (λ e. absurd cc))
        (window_begins (so_far.is.next going))
        (λ e. let inner = is.inner (sym last ∙ e) in (rw text inner.whole, rw rest (longer p.rest.items more inner.next)))
        (λ e. let end = is.last (sym last ∙ e) in rw (rest, end.none, none (ended ∙ (sym last ∙ e))) refl)

    pub on_next : IsReadOn u x d first chunks (ahead ++ w ∷ []) now
    on_next = record {
      more = so_far.more ++ is.more;
      read = Consumes-trans u v x so_far.more is.more so_far.read is.read;
      is = record {
        sound = so_far.is.sound;
        lines = lines ∙ so_far.is.lines;
        total = omega (
          arith,
          total,
          is.total,
          so_far.is.total,
          ap length (all_read ahead),
          length-append (print_doc doc) (bytes_of (ahead ++ w ∷ []) ++ now.rest.items),
          length-append (print_doc doc) (bytes_of ahead ++ was.rest.items),
          length-append (bytes_of ahead ++ was.rest.items) is.more,
        );
        short = omega (arith, total, is.short);
        order = order_next;
        next = λ e. rw rest (is.inner (sym ended ∙ e)).next;
        last = λ e. let end = is.last (sym ended ∙ e) in record { none = rest ∙ end.none; at_end = end.at_end };
      };
      same = ap (λ (r : List ℕ). print_doc doc ++ r) (all_read ahead)
          ∙ (sym (append_assoc (print_doc doc) (bytes_of ahead ++ was.rest.items) is.more)
          ∙ (ap (λ (r : List ℕ). r ++ is.more) so_far.same ∙ simp append_assoc));
    }

-- ---- texts that are too long

on_long : (u v x : Option (List ℕ)) (d : Document) (first : List ℕ) (chunks : List Chunk) (ahead : List Window) (s : Source)
    → IsReadOn u v d first chunks ahead s → IsTooLong v x s.total → IsTooLong u x (length (print_doc d ++ first))
on_long u v x d first chunks ahead s so_far long = record {
  more = so_far.more ++ long.more;
  long = omega (
    arith,
    long.long,
    so_far.is.total,
    ap length so_far.same,
    length-append (print_doc d) (first ++ so_far.more),
    length-append (print_doc d) first,
    length-append first so_far.more,
    length-append so_far.more long.more,
  );
  read = Consumes-trans u v x so_far.more long.more so_far.read long.read;
}

-- ---- taking the first of the windows ahead

module _ (u v : Option (List ℕ)) (d : Document) (first : List ℕ) (chunks : List Chunk) (w : Window) (ahead : List Window) (was : Source)
    (so_far : IsReadOn u v d first chunks (w ∷ ahead) was) where
  abbrev before : Document
  before = with_log d (logs_of chunks)

  text_so_far : IsTextOf (print_doc before) was.lines before
  text_so_far = record { sound = so_far.is.sound; print = refl; lines = so_far.is.lines }

  -- the lines before the window and the bytes of the window are together at most 67108864
  pub room : was.lines + length w.text.items ≤ 67108864
  room = omega (
    arith,
    so_far.is.lines,
    lines_short (print_doc before),
    so_far.is.total,
    so_far.is.short,
    length-append (print_doc before) (bytes_of (w ∷ ahead) ++ was.rest.items),
    length-append (bytes_of (w ∷ ahead)) was.rest.items,
    length-append w.text.items (bytes_of ahead),
  )

  pub on_taken : (e : Edition) (chunk : Chunk) (now : Source) → d.edition ≡ e → IsChunkOf e w.text.items chunk → now.lines ≡ was.lines + chunk.lines
      → now.rest.items ≡ was.rest.items → now.total ≡ was.total → now.ended ≡ was.ended → IsReadOn u v d first (chunks ++ chunk ∷ []) ahead now
  on_taken e chunk now edition is lines rest total ended =
      let placed : IsTextOf (print_doc before ++ w.text.items) (was.lines + chunk.lines) (with_log before chunk.log) =
      chunk_placed (print_doc before) was.lines before w.text.items chunk text_so_far
      (subst (λ (f : Edition). IsChunkOf f w.text.items chunk) (sym edition) is) in
      let log : logs_of (chunks ++ chunk ∷ []) ≡ logs_of chunks ++ chunk.log = flat_map-append (λ (k : Chunk). k.log) chunks (chunk ∷ [])
      ∙ ap (λ (l : List Txn). logs_of chunks ++ l) (append-nil chunk.log) in
      let next : with_log before chunk.log ≡ with_log d (logs_of (chunks ++ chunk ∷ [])) = ap (λ (l : List Txn). record d { log = l })
      (append_assoc d.log (logs_of chunks) chunk.log ∙ ap (λ (l : List Txn). d.log ++ l) (sym log)) in
      let there : IsTextOf (print_doc before ++ w.text.items) (was.lines + chunk.lines) (with_log d (logs_of (chunks ++ chunk ∷ []))) =
      subst (IsTextOf (print_doc before ++ w.text.items) (was.lines + chunk.lines)) next placed in
      let same : print_doc (with_log d (logs_of (chunks ++ chunk ∷ []))) ++ (bytes_of ahead ++ now.rest.items)
      ≡ print_doc before ++ (bytes_of (w ∷ ahead) ++ was.rest.items) = rw (there.print, rest)
      (append_assoc (print_doc before) w.text.items (bytes_of ahead ++ was.rest.items)
      ∙ ap (λ (r : List ℕ). print_doc before ++ r) (sym (append_assoc w.text.items (bytes_of ahead) was.rest.items))) in
      record {
        more = so_far.more;
        read = so_far.read;
        is = record {
          sound = there.sound;
          lines = lines ∙ (there.lines ∙ ap (λ (t : List ℕ). length (whole_lines t)) (sym there.print));
          total = total ∙ (so_far.is.total ∙ ap length (sym same));
          short = omega (arith, total, so_far.is.short);
          order = λ more none. rw rest (so_far.is.order more (λ e. none (ended ∙ e))).3;
          next = λ e. rw rest (so_far.is.next (sym ended ∙ e));
          last = λ e. rw rest (so_far.is.last (sym ended ∙ e));
        };
        same = same ∙ so_far.same;
      }

  -- the whole text: the text so far, the window, and the bytes read after the window
  all_same : (more : List ℕ) → print_doc before ++ (w.text.items ++ (bytes_of ahead ++ (was.rest.items ++ more)))
      ≡ print_doc d ++ (first ++ (so_far.more ++ more))
  all_same more =
      let one : w.text.items ++ (bytes_of ahead ++ (was.rest.items ++ more)) ≡ ((w.text.items ++ bytes_of ahead) ++ was.rest.items) ++ more =
      simp append_assoc in
      ap (λ (r : List ℕ). print_doc before ++ r) one
      ∙ (sym (append_assoc (print_doc before) (bytes_of (w ∷ ahead) ++ was.rest.items) more)
      ∙ (ap (λ (r : List ℕ). r ++ more) so_far.same ∙ simp append_assoc))

  on_fault : (e : Edition) (fault : ReadingFault) (y : Option (List ℕ)) (more : List ℕ) → d.edition ≡ e
      → RefusesWindow e w.text.items w.last was.lines fault → Consumes v y more → IsAtEnd y → was.total + length more ≤ 67108864
      → (was.ended ≡ true → more ≡ []) → RefusesOn u y d first (length (print_doc d ++ first)) fault
  on_fault e fault y more same refused read at_end short none =
      let text : RefusesText (print_doc d ++ (first ++ (so_far.more ++ more))) fault = subst (λ (t : List ℕ). RefusesText t fault) (all_same more)
      (told w ahead (was.rest.items ++ more) (print_doc before) was.lines before text_so_far (so_far.is.order more none) fault
      (subst (λ (f : Edition). RefusesWindow f w.text.items w.last was.lines fault) (sym same) refused)) in
      let all : RefusesAll u y d first fault = record {
        more = so_far.more ++ more;
        read = Consumes-trans u v y so_far.more more so_far.read read;
        at_end = at_end;
        short = omega (
          arith,
          ap length so_far.same,
          so_far.is.total,
          short,
          length-append (print_doc d) (first ++ so_far.more),
          length-append first so_far.more,
          length-append (print_doc d) (first ++ (so_far.more ++ more)),
          length-append first (so_far.more ++ more),
          length-append so_far.more more,
        );
        is = text;
      } in
      by_fault fault all text
    where
      by_fault : (f : ReadingFault) → RefusesAll u y d first f → RefusesText (print_doc d ++ (first ++ (so_far.more ++ more))) f
          → RefusesOn u y d first (length (print_doc d ++ first)) f
      by_fault Read all told = absurd told
      by_fault TooLong all told = absurd told
      by_fault NoMemory all told = tt
      by_fault (Line n) all told = all
      by_fault Short all told = all

  -- a refused window refuses the text if the source has ended
  pub refused_last : (e : Edition) (fault : ReadingFault) → d.edition ≡ e → RefusesWindow e w.text.items w.last was.lines fault → was.ended ≡ true
      → RefusesOn u v d first (length (print_doc d ++ first)) fault
  refused_last e fault same refused ended =
      on_fault e fault v [] same refused (Consumes-nil v) (so_far.is.last ended).at_end (omega (arith, so_far.is.short)) (λ t. refl)

  -- a refused window refuses the text if the rest of the source was drained
  pub drained : (e : Edition) (fault result : ReadingFault) (y : Option (List ℕ)) → d.edition ≡ e → RefusesWindow e w.text.items w.last was.lines fault
      → was.ended ≡ false → Drains v y was.total fault result → RefusesOn u y d first (length (print_doc d ++ first)) result
  drained e fault result y same refused going (inl h) = subst (λ (f : ReadingFault). RefusesOn u y d first (length (print_doc d ++ first)) f) (sym h.0)
      (on_fault e fault y h.1.more same refused h.1.read h.1.at_end h.1.short (λ t. absurd cc))
  drained e fault result y same refused going (inr (inl h)) = rw h tt
  drained e fault result y same refused going (inr (inr h)) = rw h.0 (on_long u v y d first chunks (w ∷ ahead) was so_far h.1)

-- ---- the end and the faults of a source

pub on_end : (u v : Option (List ℕ)) (d : Document) (first : List ℕ) (chunks : List Chunk) (s : Source) → IsReadOn u v d first chunks [] s → s.ended ≡ true
    → ReadsOn u v d first (logs_of chunks)
on_end u v d first chunks s so_far ended =
    let last = so_far.is.last ended in
    let print : print_doc (with_log d (logs_of chunks)) ≡ print_doc d ++ (first ++ so_far.more) = sym (append-nil (print_doc (with_log d (logs_of chunks))))
    ∙ (ap (λ (r : List ℕ). print_doc (with_log d (logs_of chunks)) ++ r) (sym last.none) ∙ so_far.same) in
    record {
      more = so_far.more;
      read = so_far.read;
      at_end = last.at_end;
      sound = so_far.is.sound;
      print = print;
      short = omega (arith, ap length print, so_far.is.total, so_far.is.short, length-append (print_doc (with_log d (logs_of chunks))) s.rest.items);
    }

pub source_refused : (u v x : Option (List ℕ)) (d : Document) (first : List ℕ) (chunks : List Chunk) (ahead : List Window) (s : Source)
    → IsReadOn u v d first chunks ahead s → (fault : ReadingFault) → IsSourceFault fault
    → (fault ≡ TooLong → (more : List ℕ) × (67108864 < s.total + length more) × Consumes v x more)
    → RefusesOn u x d first (length (print_doc d ++ first)) fault
source_refused u v x d first chunks ahead s so_far Read is long = tt
source_refused u v x d first chunks ahead s so_far NoMemory is long = tt
source_refused u v x d first chunks ahead s so_far TooLong is long =
    let h = long refl in on_long u v x d first chunks ahead s so_far (record { more = h.0; long = h.1; read = h.2 })
source_refused u v x d first chunks ahead s so_far (Line n) is long = absurd is
source_refused u v x d first chunks ahead s so_far Short is long = absurd is
