-- Transactions that are read straight from their text.
use Rattle.std.proofs.Common.{◌≡◌, ℕ, ◌+◌, ◌-◌, ◌<◌, ◌≤◌, Bool, true, false, List, [], ◌∷◌, ◌++◌, map, length, take, drop, Some, None}
use Rattle.std.proofs.Common.{refl, ap, sym, subst, ◌∙◌, arith}
use Rattle.std.proofs.Common.{append_assoc, length-append}
use Rattle.std.proofs.Math.Seq.{drop-append_seam}
use Rattle.std.specs.Prelude.{Option, codes, if◌then◌else◌}
use Rattle.std.specs.Option.{option_map}
use Rattle.std.specs.List.{flat_map, AllByRecursion}
use Rattle.std.proofs.lemmas.Grind.{flat_map-append}
use Rattle.std.proofs.lemmas.List.{append-nil, map-append, take-append-drop, take_all, length-drop, length-map}
use Rattle.bohm_types.specs.Document.{Document}
use Rattle.bohm_types.specs.Name.{key_of}
use Rattle.bohm_types.specs.Term.{Atom}
use Rattle.bohm_types.specs.Txn.{Txn}
use Rattle.bohm_types.specs.Stmt.{Stmt, Bind, Need, Put, Show}
use Rattle.bohm_types.specs.declared.cmp.Cmp.{Cmp}
use Rattle.bohm_types.specs.declared.edition.Edition.{Edition}
use Rattle.bohm_types.specs.Sound.{IsTxn}
use Rattle.bohm_log.specs.Drafting.{Drafted, IsBare, IsBetween, fresh, need_of, put_of, with_read, with_stmt, with_sum, with_write}
use Rattle.bohm_text.specs.Cut.{split, whole_lines}
use Rattle.bohm_text.specs.Print.{Words, atom_word, cmp_word, cond_words, first_word, further_words, guard_words, line_text, lines_text, spaced, stmt_words}
use Rattle.bohm_text.specs.Print.{sum_words, text_of, txn_lines}
use Rattle.bohm_text.specs.Reading.{◌>>=◌, further_of, stmt_of}
use Rattle.bohm_text.specs.Step.{Progress, Between, progress_at, step, steps}
use Rattle.bohm_text.specs.declared.reader.Place.{Place}
use Rattle.bohm_text.specs.declared.reader.Place.TheVariants as places
use Rattle.bohm_text.specs.Windows.{segment, with_log}
use Rattle.bohm_text.specs.Taking.{with_cond, with_one, with_terms}
use Rattle.bohm_text.specs.Transactions.{AssignedRead, FirstRead, TermRead, SumRead, CondRead, StmtRead, StmtsRead, BodyRead, declared}
use Rattle.bohm_text.specs.Transactions.{further_sign, word_sign}
use Rattle.bohm_text.specs.Pieces.{PieceRead}
use Rattle.bohm_text.proofs.Cutting.{IsWithout}
use Rattle.bohm_text.proofs.Printed.{spaced_append, lines_append}
use Rattle.bohm_text.proofs.StepAgain.{txn_steps}
use Rattle.bohm_text.proofs.Stepping.{IsReadTo, length-le-text_of, lines-append, read_lines}
use Rattle.bohm_text.proofs.StepTakes.{split_takes}
use Rattle.bohm_text.proofs.Takes.{stmt_takes}
use Rattle.bohm_text.proofs.TermLoops.{took}
use Rattle.bohm_text.proofs.TextLaws.{lines_lack}
use Rattle.bohm_text.proofs.WindowLaws.{text_lines_on}
use Rattle.bohm_text.proofs.WordTakes.{further_takes, key_takes, map_some}

-- the text behind its first n bytes, as a slice
abbrev pub behind : ℕ → List ℕ → List ℕ
behind n text = take (length text - n) (drop n text)

pub behind_drop : (n : ℕ) (text : List ℕ) → behind n text ≡ drop n text
behind_drop n text = take_all (length text - n) (drop n text) (omega (arith, length-drop n text))

-- a text's first word and the rest
pub parted : (n : ℕ) (text word : List ℕ) → word ≡ take n text → text ≡ word ++ behind n text
parted n text word first =
    sym (ap (λ (w : List ℕ). w ++ behind n text) first ∙ ap (λ (r : List ℕ). take n text ++ r) (behind_drop n text) ∙ take-append-drop n text)

-- after a space and a word less is left
pub shorter : (n : ℕ) (rest front : List ℕ) → rest ≡ 32 ∷ front → length (behind n front) < length rest
shorter n rest front e = omega (arith, ap length e, ap length (behind_drop n front), length-drop n front)

-- a text's end
pub end_of_text : (text front rest : List ℕ) → text ≡ front ++ rest → drop (length text - length rest) text ≡ rest
end_of_text text front rest e =
    let n : length text - length rest ≡ length front = omega (arith, ap length e, length-append front rest) in
    ap (λ (t : List ℕ). drop (length text - length rest) t) e ∙ ap (λ (m : ℕ). drop m (front ++ rest)) n ∙ drop-append_seam front rest

pub end_within : (text front rest : List ℕ) → text ≡ front ++ rest → length rest ≤ length text
end_within text front rest e = omega (arith, ap length e, length-append front rest)

-- ---- keys

-- one more key, after a space
pub one_more_key : (text rest front others : List ℕ) (keys : Words) (key : List ℕ) → text ≡ spaced keys ++ rest → rest ≡ 32 ∷ front → front ≡ key ++ others
    → text ≡ spaced (keys ++ key ∷ []) ++ others
one_more_key text rest front others keys key so_far space word =
    so_far ∙ ap (λ (r : List ℕ). spaced keys ++ r) (space ∙ ap (λ (r : List ℕ). 32 ∷ r) word)
    ∙ sym (ap (λ (ks : List ℕ). ks ++ others) (spaced_append keys (key ∷ [])) ∙ append_assoc (spaced keys) (spaced (key ∷ [])) others
    ∙ ap (λ (r : List ℕ). spaced keys ++ r) (ap (λ (k : List ℕ). 32 ∷ k ++ others) (append-nil key)))

-- a draft without keys
pub nothing_read : (text : List ℕ) (d : Drafted) → d ≡ fresh d.txn.edition → text ≡ spaced d.txn.reads ++ text
nothing_read text d made = ap (λ (x : Drafted). spaced x.txn.reads ++ text) (sym made)

pub nothing_written : (text : List ℕ) (d : Drafted) → d ≡ declared d.txn.edition d.txn.reads [] → text ≡ spaced d.txn.writes ++ text
nothing_written text d made = ap (λ (x : Drafted). spaced x.txn.writes ++ text) (sym made)

pub nothing_made : (d : Drafted) → d ≡ fresh d.txn.edition → d ≡ declared d.txn.edition d.txn.reads []
nothing_made d made = made ∙ ap (λ (x : Drafted). declared d.txn.edition x.txn.reads []) (sym made)

pub nothing_made_written : (d : Drafted) → d ≡ declared d.txn.edition d.txn.reads [] → d ≡ declared d.txn.edition d.txn.reads d.txn.writes
nothing_made_written d made = made ∙ ap (λ (x : Drafted). declared d.txn.edition d.txn.reads x.txn.writes) (sym made)

pub bare : (d : Drafted) (e : Edition) (reads writes : Words) → d ≡ declared e reads writes → IsBare d
bare d e reads writes made = subst IsBare (sym made) (record { body = refl; done = refl; latest = refl })

module _ (text rest front word : List ℕ) (n : ℕ) (d now : Drafted) (e : Edition) (key : List ℕ) (space : rest ≡ 32 ∷ front)
    (first : word ≡ take n front) (named : key_of word ≡ Some key) where
  key_first : front ≡ key ++ behind n front
  key_first = parted n front word first ∙ ap (λ (w : List ℕ). w ++ behind n front) (key_takes word key named).0

  pub read_more_keys : now ≡ with_read d key → text ≡ spaced d.txn.reads ++ rest → text ≡ spaced now.txn.reads ++ behind n front
  read_more_keys added so_far =
      one_more_key text rest front (behind n front) d.txn.reads key so_far space key_first
      ∙ ap (λ (x : Drafted). spaced x.txn.reads ++ behind n front) (sym added)

  pub read_made : now ≡ with_read d key → d ≡ declared e d.txn.reads [] → now ≡ declared e now.txn.reads []
  read_made added made =
      added ∙ ap (λ (x : Drafted). with_read x key) made ∙ ap (λ (x : Drafted). declared e x.txn.reads []) (sym added)

pub written_more : (text rest front word : List ℕ) (n : ℕ) (d now : Drafted) → rest ≡ 32 ∷ front → word ≡ take n front → now ≡ with_write d word
    → text ≡ spaced d.txn.writes ++ rest → text ≡ spaced now.txn.writes ++ behind n front
written_more text rest front word n d now space first added so_far =
    one_more_key text rest front (behind n front) d.txn.writes word so_far space (parted n front word first)
    ∙ ap (λ (x : Drafted). spaced x.txn.writes ++ behind n front) (sym added)

pub written_made : (d now : Drafted) (e : Edition) (reads : Words) (word : List ℕ) → now ≡ with_write d word → d ≡ declared e reads d.txn.writes
    → now ≡ declared e reads now.txn.writes
written_made d now e reads word added made =
    added ∙ ap (λ (x : Drafted). with_write x word) made ∙ ap (λ (x : Drafted). declared e reads x.txn.writes) (sym added)

-- ---- sums

-- a first term, read after its sign
pub signed_read : (minus : Bool) (text atom rest : List ℕ) (before now : Drafted) → text ≡ word_sign minus ++ atom → TermRead minus atom rest before now
    → FirstRead text rest before now
signed_read minus text atom rest before now sign read = record {
  term = read.term;
  added = read.added;
  bytes = sign ∙ ap (λ (a : List ℕ). word_sign minus ++ a) read.bytes ∙ sym (append_assoc (word_sign minus) (atom_word read.term.1) rest)
      ∙ ap (λ (m : Bool). (word_sign m ++ atom_word read.term.1) ++ rest) (sym read.sign);
}

-- a further term, read by its word
pub term_read : (minus : Bool) (text word others : List ℕ) (before now : Drafted) → text ≡ word ++ others
    → option_map (with_one before) (further_of minus word) ≡ Some now → TermRead minus text others before now
term_read minus text word others before now bytes read =
    let it = took before now (further_of minus word) read in
    let is = further_takes minus word it.0 it.1 in
    record { term = it.0; sign = is.0; added = it.2; bytes = bytes ∙ ap (λ (w : List ℕ). w ++ others) is.1 }

-- the first term begins a sum
pub sum_begun : (text first rest : List ℕ) (before now : Drafted) → text ≡ 32 ∷ first → FirstRead first rest before now → SumRead text rest before now
sum_begun text first rest before now space read = record {
  first = read.term;
  others = [];
  added = read.added;
  bytes = space ∙ ap (λ (r : List ℕ). 32 ∷ r) (read.bytes ∙ ap (λ (w : List ℕ). w ++ rest) (sym (append-nil (first_word read.term))));
}

-- the rest of a text behind a sum, by the sum's length
pub sum_behind : (text rest : List ℕ) (before now : Drafted) → SumRead text rest before now
    → SumRead text (drop (length text - length rest) text) before now
sum_behind text rest before now read =
    subst (λ (r : List ℕ). SumRead text r before now)
    (sym (end_of_text text (spaced (sum_words (read.first ∷ read.others))) rest read.bytes)) read

pub sum_within : (text rest : List ℕ) (before now : Drafted) → SumRead text rest before now → length rest ≤ length text
sum_within text rest before now read = end_within text (spaced (sum_words (read.first ∷ read.others))) rest read.bytes

pub sum_sliced : (size : ℕ) (text : List ℕ) (before now : Drafted) → SumRead text (drop size text) before now
    → SumRead text (behind size text) before now
sum_sliced size text before now read = subst (λ (r : List ℕ). SumRead text r before now) (sym (behind_drop size text)) read

further_text : (t : Bool × Atom) → spaced (further_words t) ≡ further_sign t.0 ++ atom_word t.1
further_text t = elim (t.0) as (λ (m : Bool). spaced ((if m then codes "-" else codes "+") ∷ atom_word t.1 ∷ []) ≡ further_sign m ++ atom_word t.1) [
  | true ↦ ap (λ (w : List ℕ). codes " - " ++ w) (append-nil (atom_word t.1))
  | false ↦ ap (λ (w : List ℕ). codes " + " ++ w) (append-nil (atom_word t.1))
]

sum_longer : (first : Bool × Atom) (others : List (Bool × Atom)) (t : Bool × Atom)
    → spaced (sum_words (first ∷ (others ++ t ∷ []))) ≡ spaced (sum_words (first ∷ others)) ++ spaced (further_words t)
sum_longer first others t =
    ap (λ (ws : Words). spaced (first_word first ∷ ws)) (flat_map-append further_words others (t ∷ [])
    ∙ ap (λ (ws : Words). flat_map further_words others ++ ws) (append-nil (further_words t)))
    ∙ spaced_append (first_word first ∷ flat_map further_words others) (further_words t)

-- after a further term less is left
pub smaller_term : (minus : Bool) (rest term left : List ℕ) (before now : Drafted) → rest ≡ further_sign minus ++ term → TermRead minus term left before now
    → length left < length rest
smaller_term true rest term left before now e read = omega (arith, ap length e, ap length read.bytes, length-append (atom_word read.term.1) left)
smaller_term false rest term left before now e read = omega (arith, ap length e, ap length read.bytes, length-append (atom_word read.term.1) left)

-- a further term continues a sum
pub sum_more : (text rest term left : List ℕ) (before mid now : Drafted) (minus : Bool) → SumRead text rest before mid → rest ≡ further_sign minus ++ term
    → TermRead minus term left mid now → SumRead text left before now
sum_more text rest term left before mid now minus sum sign read =
    let t = read.term in
    let word : rest ≡ spaced (further_words t) ++ left =
    sign ∙ ap (λ (r : List ℕ). further_sign minus ++ r) read.bytes ∙ sym (append_assoc (further_sign minus) (atom_word t.1) left)
    ∙ ap (λ (m : Bool). (further_sign m ++ atom_word t.1) ++ left) (sym read.sign) ∙ ap (λ (w : List ℕ). w ++ left) (sym (further_text t)) in
    record {
      first = sum.first;
      others = sum.others ++ t ∷ [];
      added = read.added ∙ ap (λ (d : Drafted). with_one d t) sum.added
          ∙ ap (λ (ts : List (Bool × Atom)). record before { latest = ts }) (append_assoc before.latest (sum.first ∷ sum.others) (t ∷ []));
      bytes = sum.bytes ∙ ap (λ (r : List ℕ). spaced (sum_words (sum.first ∷ sum.others)) ++ r) word
          ∙ sym (append_assoc (spaced (sum_words (sum.first ∷ sum.others))) (spaced (further_words t)) left)
          ∙ ap (λ (w : List ℕ). w ++ left) (sym (sum_longer sum.first sum.others t));
    }

-- ---- conditions

pub cond_read : (cmp : Cmp) (text left right rest : List ℕ) (before mid next now : Drafted) → SumRead text left before mid → left ≡ 32 ∷ cmp_word cmp ++ right
    → next ≡ with_sum mid → SumRead right rest next now → CondRead cmp text rest before now
cond_read cmp text left right rest before mid next now one compared summed other =
    let a : List (Bool × Atom) = one.first ∷ one.others in
    let b : List (Bool × Atom) = other.first ∷ other.others in
    record {
      cond = record { left = a; cmp = cmp; right = b };
      compared = refl;
      added = other.added ∙ ap (λ (d : Drafted). with_terms d b) (summed ∙ ap with_sum one.added);
      bytes = one.bytes ∙ ap (λ (r : List ℕ). spaced (sum_words a) ++ r) (compared ∙ ap (λ (r : List ℕ). 32 ∷ cmp_word cmp ++ r) other.bytes
          ∙ ap (λ (r : List ℕ). 32 ∷ r) (sym (append_assoc (cmp_word cmp) (spaced (sum_words b)) rest)))
          ∙ sym (append_assoc (spaced (sum_words a)) (spaced (cmp_word cmp ∷ sum_words b)) rest)
          ∙ ap (λ (w : List ℕ). w ++ rest) (sym (spaced_append (sum_words a) (cmp_word cmp ∷ sum_words b)));
    }

-- ---- statements

-- the statement of a line
pub line_read : (text line rest : List ℕ) (before now : Drafted) → text ≡ line ++ 10 ∷ rest
    → option_map (with_stmt before) (stmt_of (split 32 line)) ≡ Some now → StmtRead text rest before now
line_read text line rest before now bytes read =
    let it = map_some (with_stmt before) (stmt_of (split 32 line)) now read in
    record {
      stmt = it.0;
      added = sym it.2;
      bytes = bytes ∙ ap (λ (w : List ℕ). w ++ 10 ∷ rest) (sym (split_takes line) ∙ ap line_text (stmt_takes (split 32 line) it.0 it.1));
    }

-- a draft between statements, with nothing else
abbrev closed : Drafted → Drafted
closed d = record { txn = d.txn; done = []; latest = [] }

is_closed : (d : Drafted) → IsBetween d → d ≡ closed d
is_closed d between =
    ap (λ (x : List (List (Bool × Atom))). record { txn = d.txn; done = x; latest = d.latest }) between.done
    ∙ ap (λ (x : List (Bool × Atom)). record { txn = d.txn; done = []; latest = x }) between.latest

pub need_read : (cmp : Cmp) (text rest left : List ℕ) (before mid now : Drafted) → IsBetween before → CondRead cmp text rest before mid
    → now ≡ with_stmt mid (need_of mid cmp) → rest ≡ 10 ∷ left → StmtRead (codes "need" ++ text) left before now
need_read cmp text rest left before mid now between read made ended =
    let c = read.cond in
    let is : mid ≡ with_cond (closed before) c = read.added ∙ ap (λ (d : Drafted). with_cond d c) (is_closed before between) in
    record {
      stmt = Need c;
      added = made ∙ ap (λ (d : Drafted). with_stmt d (need_of d cmp)) is
          ∙ ap (λ (x : Cmp). with_stmt before (Need (record { left = c.left; cmp = x; right = c.right }))) (sym read.compared);
      bytes = ap (λ (x : List ℕ). codes "need" ++ x) (read.bytes ∙ ap (λ (x : List ℕ). spaced (cond_words c) ++ x) ended);
    }

pub put_read : (key text rest left : List ℕ) (before mid now : Drafted) → IsBetween before → SumRead text rest before mid
    → now ≡ with_stmt mid (put_of mid key None) → rest ≡ 10 ∷ left → AssignedRead key text left before now
put_read key text rest left before mid now between read made ended =
    let sum : List (Bool × Atom) = read.first ∷ read.others in
    let is : mid ≡ with_terms (closed before) sum = read.added ∙ ap (λ (d : Drafted). with_terms d sum) (is_closed before between) in
    record {
      sum = sum;
      guard = None;
      added = made ∙ ap (λ (d : Drafted). with_stmt d (put_of d key None)) is;
      bytes = read.bytes ∙ ap (λ (x : List ℕ). spaced (sum_words sum) ++ x) ended
          ∙ ap (λ (ws : Words). spaced ws ++ 10 ∷ left) (sym (append-nil (sum_words sum)));
    }

pub guarded_read : (key text rest word guard end left : List ℕ) (before mid next last now : Drafted) (cmp : Cmp) → IsBetween before
    → SumRead text rest before mid → rest ≡ 32 ∷ word → word ≡ codes "when" ++ guard → next ≡ with_sum mid → CondRead cmp guard end next last
    → now ≡ with_stmt last (put_of last key (Some cmp)) → end ≡ 10 ∷ left → AssignedRead key text left before now
guarded_read key text rest word guard end left before mid next last now cmp between read space when summed cond made ended =
    let sum : List (Bool × Atom) = read.first ∷ read.others in
    let c = cond.cond in
    let is : last ≡ with_cond (with_sum (with_terms (closed before) sum)) c = cond.added
    ∙ ap (λ (d : Drafted). with_cond d c) (summed ∙ ap with_sum (read.added ∙ ap (λ (d : Drafted). with_terms d sum) (is_closed before between))) in
    record {
      sum = sum;
      guard = Some c;
      added = made ∙ ap (λ (d : Drafted). with_stmt d (put_of d key (Some cmp))) is
          ∙ ap (λ (x : Cmp). with_stmt before (Put key sum (Some (record { left = c.left; cmp = x; right = c.right })))) (sym cond.compared);
      bytes = read.bytes ∙ ap (λ (x : List ℕ). spaced (sum_words sum) ++ x) (space
          ∙ ap (λ (x : List ℕ). 32 ∷ x) (when ∙ ap (λ (x : List ℕ). codes "when" ++ x) (cond.bytes ∙ ap (λ (x : List ℕ). spaced (cond_words c) ++ x) ended)))
          ∙ sym (append_assoc (spaced (sum_words sum)) (spaced (codes "when" ∷ cond_words c)) (10 ∷ left))
          ∙ ap (λ (x : List ℕ). x ++ 10 ∷ left) (sym (spaced_append (sum_words sum) (codes "when" ∷ cond_words c)));
    }

-- a statement that sets a key
pub set_read : (text word key tail rest : List ℕ) (n : ℕ) (before now : Drafted) → word ≡ take n text → key_of word ≡ Some key
    → behind n text ≡ codes " =" ++ tail → AssignedRead key tail rest before now → StmtRead (codes "set " ++ text) rest before now
set_read text word key tail rest n before now first named equals read = record {
  stmt = Put key read.sum read.guard;
  added = read.added;
  bytes =
      let whole : text ≡ key ++ (codes " =" ++ (spaced (sum_words read.sum ++ guard_words read.guard) ++ 10 ∷ rest)) =
      parted n text word first ∙ ap (λ (w : List ℕ). w ++ behind n text) (key_takes word key named).0
      ∙ ap (λ (x : List ℕ). key ++ x) (equals ∙ ap (λ (x : List ℕ). codes " =" ++ x) read.bytes) in
      ap (λ (x : List ℕ). codes "set " ++ x) (whole
      ∙ sym (append_assoc key (codes " =" ++ spaced (sum_words read.sum ++ guard_words read.guard)) (10 ∷ rest)));
}

pub show_read : (text rest left : List ℕ) (before mid now : Drafted) → IsBetween before → SumRead text rest before mid
    → now ≡ with_stmt mid (Show mid.latest) → rest ≡ 10 ∷ left → StmtRead (codes "show" ++ text) left before now
show_read text rest left before mid now between read made ended =
    let sum : List (Bool × Atom) = read.first ∷ read.others in
    let is : mid ≡ with_terms (closed before) sum = read.added ∙ ap (λ (d : Drafted). with_terms d sum) (is_closed before between) in
    record {
      stmt = Show sum;
      added = made ∙ ap (λ (d : Drafted). with_stmt d (Show d.latest)) is;
      bytes = ap (λ (x : List ℕ). codes "show" ++ x) (read.bytes ∙ ap (λ (x : List ℕ). spaced (sum_words sum) ++ x) ended);
    }

pub bind_read : (text word name tail rest left : List ℕ) (n : ℕ) (before mid now : Drafted) → IsBetween before → word ≡ take n text → key_of word ≡ Some name
    → behind n text ≡ codes " =" ++ tail → SumRead tail rest before mid → now ≡ with_stmt mid (Bind name mid.latest) → rest ≡ 10 ∷ left
    → StmtRead (codes "let $" ++ text) left before now
bind_read text word name tail rest left n before mid now between first named equals read made ended =
    let sum : List (Bool × Atom) = read.first ∷ read.others in
    let is : mid ≡ with_terms (closed before) sum = read.added ∙ ap (λ (d : Drafted). with_terms d sum) (is_closed before between) in
    let whole : text ≡ name ++ (codes " =" ++ (spaced (sum_words sum) ++ 10 ∷ left)) =
    parted n text word first ∙ ap (λ (w : List ℕ). w ++ behind n text) (key_takes word name named).0
    ∙ ap (λ (x : List ℕ). name ++ x) (equals ∙ ap (λ (x : List ℕ). codes " =" ++ x) (read.bytes ∙ ap (λ (x : List ℕ). spaced (sum_words sum) ++ x) ended)) in
    record {
      stmt = Bind name sum;
      added = made ∙ ap (λ (d : Drafted). with_stmt d (Bind name d.latest)) is;
      bytes = ap (λ (x : List ℕ). codes "let $" ++ x) (whole ∙ sym (append_assoc name (codes " =" ++ spaced (sum_words sum)) (10 ∷ left)));
    }

-- after a statement less is left
pub smaller_stmt : (rest left : List ℕ) (before now : Drafted) → StmtRead rest left before now → length left < length rest
smaller_stmt rest left before now read = omega (arith, ap length read.bytes, length-append (line_text (stmt_words read.stmt)) (10 ∷ left))

pub stmt_between : (rest left : List ℕ) (before now : Drafted) → StmtRead rest left before now → IsBetween now
stmt_between rest left before now read = subst IsBetween (sym read.added) (record { done = refl; latest = refl })

pub body_between : (rest left : List ℕ) (before now : Drafted) → BodyRead rest left before now → IsBetween now
body_between rest left before now read = subst IsBetween (sym read.added) (record { done = refl; latest = refl })

pub keys_between : (d : Drafted) (e : Edition) (reads writes : Words) → d ≡ declared e reads writes → IsBetween d
keys_between d e reads writes made = subst IsBetween (sym made) (record { done = refl; latest = refl })

-- no statement yet
pub none_read : (text : List ℕ) (d : Drafted) → IsBetween d → StmtsRead text text d d
none_read text d between = record {
  stmts = [];
  added = sym (ap (λ (b : List Stmt). record { txn = record d.txn { body = b }; done = []; latest = [] }) (append-nil d.txn.body)
      ∙ ap (λ (x : List (List (Bool × Atom))). record { txn = d.txn; done = x; latest = [] }) (sym between.done)
      ∙ ap (λ (x : List (Bool × Atom)). record { txn = d.txn; done = d.done; latest = x }) (sym between.latest));
  bytes = refl;
}

lines_one : (ws : Words) (rest : List ℕ) → lines_text (ws ∷ []) ++ rest ≡ line_text ws ++ 10 ∷ rest
lines_one ws rest = ap (λ (x : List ℕ). x ++ rest) (append-nil (line_text ws ++ 10 ∷ [])) ∙ append_assoc (line_text ws) (10 ∷ []) rest

-- one more statement
pub stmts_more : (text rest others : List ℕ) (before mid now : Drafted) → StmtsRead text rest before mid → StmtRead rest others mid now
    → StmtsRead text others before now
stmts_more text rest others before mid now so_far read = record {
  stmts = so_far.stmts ++ read.stmt ∷ [];
  added = read.added ∙ ap (λ (d : Drafted). with_stmt d read.stmt) so_far.added
      ∙ ap (λ (b : List Stmt). record { txn = record before.txn { body = b }; done = []; latest = [] })
      (append_assoc before.txn.body so_far.stmts (read.stmt ∷ []));
  bytes = so_far.bytes ∙ ap (λ (r : List ℕ). lines_text (map stmt_words so_far.stmts) ++ r) (read.bytes ∙ sym (lines_one (stmt_words read.stmt) others))
      ∙ sym (append_assoc (lines_text (map stmt_words so_far.stmts)) (lines_text (stmt_words read.stmt ∷ [])) others)
      ∙ ap (λ (x : List ℕ). x ++ others) (sym (lines_append (map stmt_words so_far.stmts) (stmt_words read.stmt ∷ []))
      ∙ ap lines_text (sym (map-append stmt_words so_far.stmts (read.stmt ∷ []))));
}

-- the end of the transaction
pub body_ended : (text rest left : List ℕ) (before now : Drafted) → StmtsRead text rest before now → rest ≡ codes "end\n" ++ left
    → BodyRead text left before now
body_ended text rest left before now so_far ended = record {
  stmts = so_far.stmts;
  added = so_far.added;
  bytes = so_far.bytes ∙ ap (λ (r : List ℕ). lines_text (map stmt_words so_far.stmts) ++ r) ended
      ∙ sym (append_assoc (lines_text (map stmt_words so_far.stmts)) (codes "end\n") left)
      ∙ ap (λ (x : List ℕ). x ++ left) (sym (lines_append (map stmt_words so_far.stmts) ((codes "end" ∷ []) ∷ [])));
}

-- ---- pieces

-- what was read is no longer than the text
pub piece_short : (text rest : List ℕ) (count : ℕ) (p q : Progress) → PieceRead text rest count p q → count + length rest ≤ length text
piece_short text rest count p q read =
    omega (arith, read.counted, length-le-text_of read.piece, ap length read.bytes, length-append (text_of read.piece) rest)

-- a reader that read up to a piece has read up to its end
pub piece_more : (start : Progress) (whole text rest : List ℕ) (so_far count : ℕ) (p q : Progress) → IsReadTo step start whole so_far text p
    → PieceRead text rest count p q → IsReadTo step start whole (so_far + count) rest q
piece_more start whole text rest so_far count p q before read =
    subst (λ (n : ℕ). IsReadTo step start whole (so_far + n) rest q) read.counted (read_lines before read.piece rest read.lines read.bytes q read.read)

-- two pieces, one after the other, are a piece
pub pieces_joined : (text mid rest : List ℕ) (a b : ℕ) (p q r : Progress) → PieceRead text mid a p q → PieceRead mid rest b q r
    → PieceRead text rest (a + b) p r
pieces_joined text mid rest a b p q r one two = record {
  piece = one.piece ++ two.piece;
  counted = omega (arith, length-append one.piece two.piece, one.counted, two.counted);
  some = omega (arith, one.some);
  lines = one.lines ∙ ap (λ (ls : List (List ℕ)). one.piece ++ ls) two.lines ∙ sym (append_assoc one.piece two.piece (whole_lines rest));
  bytes = one.bytes ∙ ap (λ (t : List ℕ). text_of one.piece ++ t) two.bytes ∙ sym (append_assoc (text_of one.piece) (text_of two.piece) rest)
      ∙ ap (λ (t : List ℕ). t ++ rest) (sym (flat_map-append (λ (line : List ℕ). line ++ 10 ∷ []) one.piece two.piece));
  read = lines-append step p one.piece two.piece ∙ ap (λ (o : Option Progress). o >>= λ s. steps s two.piece) one.read ∙ two.read;
}

-- a line is a piece
pub line_piece : (text line others : List ℕ) (p q : Progress) → whole_lines text ≡ line ∷ whole_lines others → text ≡ line ++ 10 ∷ others
    → (steps p (line ∷ []) ≡ Some q) → PieceRead text others 1 p q
line_piece text line others p q lines bytes read = record {
  piece = line ∷ [];
  counted = refl;
  some = omega arith;
  lines = lines;
  bytes = bytes ∙ sym (ap (λ (x : List ℕ). x ++ others) (append-nil (line ++ 10 ∷ [])) ∙ append_assoc line (10 ∷ []) others);
  read = read;
}

lines_free : (t : Txn) → IsTxn t.edition t → AllByRecursion (IsWithout 10) (map line_text (txn_lines t))
lines_free t sound =
    subst (λ (ls : List Words). AllByRecursion (IsWithout 10) (map line_text ls)) (append-nil (txn_lines t))
    (lines_lack (segment t.edition (t ∷ [])) (record { store = tt; log = (sound, tt) })).1

-- a printed transaction is a piece
pub txn_piece : (text rest : List ℕ) (count : ℕ) (d : Document) (t : Txn) → IsTxn d.edition t → text ≡ lines_text (txn_lines t) ++ rest
    → count ≡ length (txn_lines t) → PieceRead text rest count (Between d) (Between (with_log d (t ∷ [])))
txn_piece text rest count d t sound bytes counted = record {
  piece = map line_text (txn_lines t);
  counted = length-map (txn_lines t) line_text ∙ sym counted;
  some = subst (λ (n : ℕ). 0 < n) (sym counted) (omega arith);
  lines = ap whole_lines bytes ∙ text_lines_on (map line_text (txn_lines t)) rest (lines_free t (subst (λ (e : Edition). IsTxn e t) (sym sound.same) sound));
  bytes = bytes;
  read = sym (ap (steps (Between d)) (append-nil (map line_text (txn_lines t)))) ∙ txn_steps d t [] sound;
}

-- a reader's progress after it took a transaction
pub reader_piece : (text rest : List ℕ) (count : ℕ) (p : Place) (d : Document) (reads writes : Words) (body : List Stmt) (log : List Txn) (t : Txn)
    → p ≡ places.Between → log ≡ d.log ++ t ∷ [] → t.edition ≡ d.edition → IsTxn t.edition t → text ≡ lines_text (txn_lines t) ++ rest
    → count ≡ length (txn_lines t)
    → PieceRead text rest count (progress_at p d reads writes body) (progress_at p (record d { log = log }) t.reads t.writes t.body)
reader_piece text rest count p d reads writes body log t place longer edition sound bytes counted =
    subst (λ (q : Place). PieceRead text rest count (progress_at q d reads writes body) (progress_at q (record d { log = log }) t.reads t.writes t.body))
    (sym place) (subst (λ (l : List Txn). PieceRead text rest count (Between d) (Between (record d { log = l }))) (sym longer)
    (txn_piece text rest count d t (subst (λ (e : Edition). IsTxn e t) edition sound) bytes counted))
