-- Windows that are read ahead, and their chunks.
use Rattle.std.proofs.Common.{◌≡◌, inr, ℕ, ◌<◌, ◌++◌, List, [], ◌∷◌, length}
use Rattle.std.proofs.Common.{refl, ap, sym, subst, ◌∙◌, arith, length-append}
use Rattle.std.specs.Prelude.{Option}
use Rattle.std.proofs.lemmas.List.{map-append}
use Rattle.bohm_types.specs.Document.{Document}
use Rattle.bohm_types.specs.declared.edition.Edition.{Edition}
use Rattle.bohm_text.specs.Windows.{IsWindow}
use Rattle.bohm_text.specs.declared.windows.Chunk.{Chunk}
use Rattle.bohm_reading.specs.declared.fault.ReadingFault.{ReadingFault}
use Rattle.bohm_reading.specs.declared.window.Window.{Window}
use Rattle.bohm_reading.specs.Reading.{IsReadOn, ReadsNext, RefusesNext, RefusesTaking, TakesWindow, left_of}
use Rattle.bohm_read_ahead.specs.declared.checked_chunk.CheckedChunk.{CheckedChunk}
use Rattle.bohm_read_ahead.specs.declared.reading_state.ReadingState.{ReadingState}
use Rattle.bohm_read_ahead.specs.declared.parsing.Parsing.{Parsing}
use Rattle.bohm_read_ahead.specs.declared.parsing.Parsing.TheVariants.{There, Here}
use Rattle.bohm_read_ahead.specs.Parsing.{AreParsing, IsParsing, window_of, windows_of}
use Rattle.bohm_read_ahead.specs.Preparing.{IsCheckedBehind}
use Rattle.bohm_read_ahead.specs.Reading.{IsGoing, IsTaken, ReadsAhead, ReadsChunk, RefusesChunk, left}

parsing_more : (e : Edition) (all : List Parsing) (a : Parsing) → AreParsing e all → IsParsing e a → AreParsing e (all ++ a ∷ [])
parsing_more e [] a are one = (one, tt)
parsing_more e (b ∷ all) a are one = (are.0, parsing_more e all a are.1 one)

begins : (e : Edition) (p : Parsing) → IsParsing e p → IsWindow (window_of p).text.items
begins e (There taker) is = is.0
begins e (Here checked) is = is.0

-- ---- more windows are read ahead

pub none_ahead : (v : Option (List ℕ)) (r : ReadingState) → IsGoing r → ReadsAhead v v r r
none_ahead v r going = record {
  edition = refl;
  count = refl;
  going = going;
  left = refl;
  more = λ more. more;
  reads = λ u d first chunks taken. taken;
}

module _ (v x : Option (List ℕ)) (was mid : ReadingState) (so_far : ReadsAhead v x was mid) (y : Option (List ℕ)) where
  pub one_ahead : (now : ReadingState) (w : Window) (a : Parsing) → ReadsNext x y mid.source now.source w → window_of a ≡ w
      → IsParsing mid.edition a → now.ahead.items ≡ mid.ahead.items ++ a ∷ [] → now.edition ≡ mid.edition → now.count ≡ mid.count
      → ReadsAhead v y was now
  one_ahead now w a read same one items edition count =
      let windows : windows_of now.ahead.items ≡ windows_of mid.ahead.items ++ w ∷ [] = ap windows_of items
      ∙ (map-append window_of mid.ahead.items (a ∷ []) ∙ ap (λ (b : Window). windows_of mid.ahead.items ++ b ∷ []) same) in
      record {
        edition = edition ∙ so_far.edition;
        count = count ∙ so_far.count;
        going = record {
          ready = read.ready;
          parsing = rw (edition, items) (parsing_more mid.edition mid.ahead.items a so_far.going.parsing one);
        };
        left = ap (λ (ws : List Window). left_of ws now.source) windows ∙ (read.left (windows_of mid.ahead.items) ∙ so_far.left);
        more = λ more. inr (omega (arith, ap length items, length-append mid.ahead.items (a ∷ [])));
        reads = λ u d first chunks taken. rw windows (read.reads u d first chunks (windows_of mid.ahead.items) (so_far.reads u d first chunks taken));
      }

  pub refused_ahead : (fault : ReadingFault) → RefusesNext x y mid.source fault → RefusesChunk v y was fault
  refused_ahead fault h = λ u d first chunks edition taken. h u d first chunks (windows_of mid.ahead.items) (so_far.reads u d first chunks taken)

-- ---- the first of the windows ahead is taken

module _ (v x : Option (List ℕ)) (was mid : ReadingState) (so_far : ReadsAhead v x was mid) (a : Parsing) (rest : List Parsing)
    (items : mid.ahead.items ≡ a ∷ rest) (w : Window) (same_window : w ≡ window_of a) where
  pub first_parsing : IsParsing mid.edition a × AreParsing mid.edition rest
  first_parsing = let h = so_far.going.parsing in rw items at h

  -- the chunks are followed by the first window ahead, the other windows ahead, and the rest of the source
  there : (u : Option (List ℕ)) (d : Document) (first : List ℕ) (chunks : List Chunk) → IsTaken u v d first chunks was
      → IsReadOn u x d first chunks (w ∷ windows_of rest) mid.source
  there u d first chunks taken =
      let h = so_far.reads u d first chunks taken in
      subst (λ (ws : List Window). IsReadOn u x d first chunks ws mid.source)
      (ap windows_of items ∙ ap (λ (b : Window). b ∷ windows_of rest) (sym same_window)) h

  pub refused_first : (y : Option (List ℕ)) (fault : ReadingFault) → RefusesTaking mid.edition w x y mid.source fault → RefusesChunk v y was fault
  refused_first y fault h = λ u d first chunks edition taken. h u d first chunks (windows_of rest) (edition ∙ sym so_far.edition)
      (there u d first chunks taken)

  -- the first window ahead was taken, and no bytes were read
  module _ (then : ReadingState) (chunk : Chunk) (took : TakesWindow mid.edition w mid.source then.source chunk) (others : then.ahead.items ≡ rest)
      (edition : then.edition ≡ mid.edition) (count : then.count ≡ mid.count) (z : Option (List ℕ)) (unread : z ≡ x) where
    then_there : (u : Option (List ℕ)) (d : Document) (first : List ℕ) (chunks : List Chunk) → d.edition ≡ was.edition → IsTaken u v d first chunks was
        → IsTaken u z d first (chunks ++ chunk ∷ []) then
    then_there u d first chunks same taken = rw (others, unread) (took.reads u x d first chunks (windows_of rest) (same ∙ sym so_far.edition)
        (there u d first chunks taken))

    pub refused_later : (y : Option (List ℕ)) (fault : ReadingFault) → RefusesChunk z y then fault → RefusesChunk v y was fault
    refused_later y fault h = λ u d first chunks same taken. h u d first (chunks ++ chunk ∷ []) (same ∙ sym (edition ∙ so_far.edition))
        (then_there u d first chunks same taken)

    module _ (y : Option (List ℕ)) (end : ReadingState) (later : ReadsAhead z y then end) where
      pub one_chunk : (now : ReadingState) (checked : CheckedChunk) → now ≡ record end { count = now.count } → checked.log ≡ chunk.log
          → IsCheckedBehind end.count now.count checked → ReadsChunk v y was now checked
      one_chunk now checked same log place =
          let editions : now.edition ≡ end.edition = ap (λ (r : ReadingState). r.edition) same in
          let source : now.source ≡ end.source = ap (λ (r : ReadingState). r.source) same in
          let ahead : now.ahead ≡ end.ahead = ap (λ (r : ReadingState). r.ahead) same in
          record {
            edition = editions ∙ (later.edition ∙ (edition ∙ so_far.edition));
            going = record { ready = rw source later.going.ready; parsing = rw (editions, ahead) later.going.parsing };
            less = smaller;
            place = subst (λ (n : ℕ). IsCheckedBehind n now.count checked) (later.count ∙ (count ∙ so_far.count)) place;
            chunk = chunk;
            same = log;
            reads = λ u d first chunks same taken. rw (source, ahead)
                (later.reads u d first (chunks ++ chunk ∷ []) (then_there u d first chunks same taken));
          }
        where
          same_left : left now ≡ left then
          same_left = ap left same ∙ later.left

          smaller : left now < left was
          smaller = omega (
            arith,
            same_left,
            so_far.left,
            ap (λ (all : List Parsing). left_of (windows_of all) mid.source) items,
            ap (λ (all : List Parsing). left_of (windows_of all) then.source) others,
            ap (λ (b : Window). left_of (b ∷ windows_of rest) mid.source) same_window,
            ap (λ (b : Window). length b.text.items) same_window,
            took.left (windows_of rest),
            ap length (begins mid.edition a first_parsing.0).begins,
          )
