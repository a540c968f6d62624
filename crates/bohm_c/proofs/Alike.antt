-- What two machines answer to one text, and a segment in two parts.
use Rattle.std.proofs.Common.{◌≡◌, ℕ, ◌+◌, ◌-◌, ◌<◌, ◌≤◌, List, [], ◌++◌, length, take, drop, refl, ap, sym, subst, ◌∙◌, ◌⊎◌, arith, ⊎_elim}
use Rattle.std.proofs.Common.{length-append, length-take, append_assoc, take-append-drop}
use Rattle.std.specs.List.{sum}
use Rattle.std.proofs.lemmas.Bool.{cases_lt}
use Rattle.std.proofs.lemmas.List.{take_all}
use Rattle.bohm_types.specs.Document.{Document}
use Rattle.bohm_types.specs.Limits.{longest_text, largest_batch}
use Rattle.bohm_types.specs.Sound.{IsDocument}
use Rattle.bohm_types.specs.Txn.{Txn}
use Rattle.bohm_txn.specs.Faulty.{WellFormed, IsFirstFault}
use Rattle.bohm_txn.specs.Meaning.{Look}
use Rattle.bohm_txn.specs.Serial.{state, replies}
use Rattle.bohm_txn.specs.declared.fault.CheckFault.{CheckFault}
use Rattle.bohm_txn.specs.declared.outcome.Reply.{Reply}
use Rattle.bohm_txn.proofs.ForCallers.{one_first_fault, none_well_formed}
use Rattle.bohm_text.specs.Cut.{whole_lines}
use Rattle.bohm_text.specs.Faults.{IsFirstBadLine, IsShort}
use Rattle.bohm_text.specs.Print.{print_doc, print_numbered}
use Rattle.bohm_text.specs.declared.fault.TextFault.TheVariants as texts
use Rattle.bohm_text.proofs.ForCallers.{one_text, one_line, bad_not_short, document_not_bad, numbered-append}
use Rattle.bohm_answer.specs.FaultLine.{fault_line}
use Rattle.bohm_answer.specs.declared.fault.RunFault.{RunFault}
use Rattle.bohm_answer.specs.declared.fault.RunFault.TheVariants.{Read, TooLong, Text, Check, Trimmed, Future, NoMemory, Write}
use Rattle.bohm_place.specs.Cuttings.{ahead}
use Rattle.bohm_store.specs.Versions.{Timeline}
use Rattle.bohm_machine.specs.Machines.{GoesOn, HasRun, floor_of, now_of, past_of, top_of}
use Rattle.bohm_machine.specs.Segments.{AreWholeBatches, RunsOn, IsTaken, IsRefused as IsUntakenBy}
use Rattle.bohm_machine.specs.declared.fault.SegmentFault.{SegmentFault}
use Rattle.bohm_machine.specs.declared.fault.SegmentFault.TheVariants as faults
use Rattle.bohm_c.specs.Agreeing.{AreAlike, IsOfTheText, IsRest}
use Rattle.bohm_c.specs.Keeping.{IsDone, IsStopped, IsRun, IsRunWhole, IsRunPartly, IsUntaken}
use Rattle.bohm_c.specs.Reading.{IsRead, IsFaulty, HasFault, IsRefusal}
use Rattle.bohm_c.specs.declared.session.Session.{Session}

-- ---- what a text is

data Verdict : Type 0 where
  Long : Verdict
  Bad : (line : ℕ) → Verdict
  Cut : Verdict
  Faulty : (fault : CheckFault) → Verdict
  Formed : (document : Document) → Verdict

IsVerdict : List ℕ → Verdict → Type 0
IsVerdict text Long = longest_text < length text
IsVerdict text (Bad n) = (length text ≤ longest_text) × IsFirstBadLine (whole_lines text) n
IsVerdict text Cut = (length text ≤ longest_text) × IsShort text
IsVerdict text (Faulty f) = IsFaulty text f
IsVerdict text (Formed d) = IsRead text d

same_document : (text : List ℕ) (d e : Document) → IsDocument d → IsDocument e → print_doc d ≡ text → print_doc e ≡ text → d ≡ e
same_document text d e sound also is too = one_text d e sound also (is ∙ sym too)

no_bad_line : (text : List ℕ) (d : Document) (n : ℕ) → IsDocument d → print_doc d ≡ text → IsFirstBadLine (whole_lines text) n → ⊥
no_bad_line text d n sound is bad =
    document_not_bad d n sound (subst (λ (t : List ℕ). IsFirstBadLine (whole_lines t) n) (sym is) bad)

-- a faulty document isn't well formed
not_formed : (text : List ℕ) (f : CheckFault) (d : Document) → IsFaulty text f → IsRead text d → ⊥
not_formed text f d h k =
    let same = same_document text h.document d h.sound k.sound h.printed k.printed in
    none_well_formed d f k.well_formed (subst (λ (e : Document). IsFirstFault e f) same h.first)

one_fault : (text : List ℕ) (f g : CheckFault) → IsFaulty text f → IsFaulty text g → f ≡ g
one_fault text f g h k =
    let same = same_document text h.document k.document h.sound k.sound h.printed k.printed in
    one_first_fault k.document f g (subst (λ (e : Document). IsFirstFault e f) same h.first) k.first

one_verdict : (text : List ℕ) (v w : Verdict) → IsVerdict text v → IsVerdict text w → v ≡ w
unfolding IsVerdict
one_verdict text Long Long h k = refl
one_verdict text Long (Bad m) h k = absurd (omega (arith, h, k.0))
one_verdict text Long Cut h k = absurd (omega (arith, h, k.0))
one_verdict text Long (Faulty g) h k = absurd (omega (arith, h, k.short))
one_verdict text Long (Formed e) h k = absurd (omega (arith, h, k.short))
one_verdict text (Bad n) Long h k = absurd (omega (arith, h.0, k))
one_verdict text (Bad n) (Bad m) h k = ap Bad (one_line text n m h.1 k.1)
one_verdict text (Bad n) Cut h k = absurd (bad_not_short text n h.1 k.1)
one_verdict text (Bad n) (Faulty g) h k = absurd (no_bad_line text k.document n k.sound k.printed h.1)
one_verdict text (Bad n) (Formed e) h k = absurd (no_bad_line text e n k.sound k.printed h.1)
one_verdict text Cut Long h k = absurd (omega (arith, h.0, k))
one_verdict text Cut (Bad m) h k = absurd (bad_not_short text m k.1 h.1)
one_verdict text Cut Cut h k = refl
one_verdict text Cut (Faulty g) h k = absurd (h.1.none k.document k.sound k.printed)
one_verdict text Cut (Formed e) h k = absurd (h.1.none e k.sound k.printed)
one_verdict text (Faulty f) Long h k = absurd (omega (arith, h.short, k))
one_verdict text (Faulty f) (Bad m) h k = absurd (no_bad_line text h.document m h.sound h.printed k.1)
one_verdict text (Faulty f) Cut h k = absurd (k.1.none h.document h.sound h.printed)
one_verdict text (Faulty f) (Faulty g) h k = ap Faulty (one_fault text f g h k)
one_verdict text (Faulty f) (Formed e) h k = absurd (not_formed text f e h k)
one_verdict text (Formed d) Long h k = absurd (omega (arith, h.short, k))
one_verdict text (Formed d) (Bad m) h k = absurd (no_bad_line text d m h.sound h.printed k.1)
one_verdict text (Formed d) Cut h k = absurd (k.1.none d h.sound h.printed)
one_verdict text (Formed d) (Faulty g) h k = absurd (not_formed text g d k h)
one_verdict text (Formed d) (Formed e) h k = ap Formed (same_document text d e h.sound k.sound h.printed k.printed)

-- ---- the line of a refusal

-- the refusal that a verdict gives, or none
line_of : Verdict → List ℕ
line_of Long = fault_line TooLong
line_of (Bad n) = fault_line (Text (texts.Line n))
line_of Cut = fault_line (Text texts.Short)
line_of (Faulty f) = fault_line (Check f)
line_of (Formed d) = []

IsBad : Verdict → Type 0
IsBad Long = Unit {0}
IsBad (Bad n) = Unit {0}
IsBad Cut = Unit {0}
IsBad (Faulty f) = Unit {0}
IsBad (Formed d) = ⊥

record Judged (text line : List ℕ) : Type 0 where
  verdict : Verdict
  is : IsVerdict text verdict
  bad : IsBad verdict
  says : line ≡ line_of verdict

judged : (text line : List ℕ) (f : RunFault) → HasFault text f → line ≡ fault_line f → Judged text line
unfolding IsVerdict line_of IsBad
judged text line Read h says = absurd h
judged text line TooLong h says = record { verdict = Long; is = h; bad = tt; says = says }
judged text line (Text (texts.Line n)) h says = record { verdict = Bad n; is = h; bad = tt; says = says }
judged text line (Text texts.Short) h says = record { verdict = Cut; is = h; bad = tt; says = says }
judged text line (Text texts.NoMemory) h says = absurd h
judged text line (Check f) h says = record { verdict = Faulty f; is = h; bad = tt; says = says }
judged text line Trimmed h says = absurd h
judged text line Future h says = absurd h
judged text line NoMemory h says = absurd h
judged text line (Write sent) h says = absurd h

pub one_line_each : (text a b : List ℕ) → IsRefusal text a → IsRefusal text b → a ≡ b
one_line_each text a b h k =
    let first = judged text a h.fault h.faulty h.says in
    let second = judged text b k.fault k.faulty k.says in
    first.says ∙ ap line_of (one_verdict text first.verdict second.verdict first.is second.is) ∙ sym second.says

not_formed_at : (v : Verdict) (d : Document) → IsBad v → v ≡ Formed d → ⊥
unfolding IsBad
not_formed_at v d bad e = subst IsBad e bad

pub read_unrefused : (text line : List ℕ) (d : Document) → IsRead text d → IsRefusal text line → ⊥
unfolding IsVerdict
read_unrefused text line d h k =
    let bad = judged text line k.fault k.faulty k.says in
    not_formed_at bad.verdict d bad.bad (one_verdict text bad.verdict (Formed d) bad.is h)

pub same_read : (text : List ℕ) (d e : Document) → IsRead text d → IsRead text e → d ≡ e
same_read text d e h k = same_document text d e h.sound k.sound h.printed k.printed

-- ---- answers

-- the whole segment ran
whole_run : (was now : Session) (d : Document) (answer : List ℕ) → (r : IsRunWhole was now d answer) → GoesOn was.machine now.machine d.log r.answered
whole_run was now d answer r = subst (λ (txns : List Txn). GoesOn was.machine now.machine txns r.answered)
    (take_all (length r.answered) d.log (omega (arith, r.whole))) r.run.goes_on

-- what is held after transactions, as a function of what was held before them
left_by : (was now : Timeline) (txns : List Txn) (answered : List Reply) → GoesOn was now txns answered → now_of now ≡ state (now_of was) txns (length txns)
left_by was now txns answered g =
    let end : top_of now - top_of was ≡ length txns = omega (arith, g.top) in
    g.later (top_of now) (omega (arith, g.top)) (omega arith) ∙ ap (state (now_of was) txns) end

pub same_answer : (one other after1 after2 : Session) (text a b : List ℕ) → AreAlike one other → IsDone one after1 text a → IsDone other after2 text b
    → (a ≡ b) × AreAlike after1 after2
same_answer one other after1 after2 text a b alike h k =
    let same = same_read text h.document k.document h.read k.read in
    let g = whole_run one after1 h.document a h.run in
    let l = whole_run other after2 k.document b k.run in
    let log : h.document.log ≡ k.document.log = ap (λ (d : Document). d.log) same in
    let len = ap (λ (txns : List Txn). length txns) log in
    let replied : h.run.answered ≡ k.run.answered =
    g.replies ∙ (λ i. replies (alike.holds i) (log i)) ∙ sym l.replies in (
      h.run.says ∙ (λ i. print_numbered (alike.top i + 1) (replied i)) ∙ sym k.run.says,
      record {
        top = omega (arith, g.top, l.top, alike.top, len);
        holds = left_by one.machine after1.machine h.document.log h.run.answered g
            ∙ (λ i. state (alike.holds i) (log i) (length (log i)))
            ∙ sym (left_by other.machine after2.machine k.document.log k.run.answered l);
      },
    )

-- ---- a segment in two parts

all_ahead : (sizes : List ℕ) → sum sizes ≡ ahead sizes (length sizes)
all_ahead sizes = ap (λ (ns : List ℕ). sum ns) (sym (take_all (length sizes) sizes (omega arith)))

whole_batches : (log : List Txn) (batch n : ℕ) → AreWholeBatches log batch n → AreWholeBatches log batch (length log)
whole_batches log batch n w = record {
  sizes = w.sizes;
  even = w.even;
  total = w.total;
  end = (length w.sizes, sym w.total ∙ all_ahead w.sizes);
}

module _ (completes : (was mid now : Timeline) (n : ℕ) (log : List Txn) (a b : List Reply) → floor_of was ≤ top_of was → GoesOn was mid (take n log) a
    → GoesOn mid now (drop n log) b → GoesOn was now log (a ++ b)) where
  pub rest_done : (was mid now : Session) (text rest a b : List ℕ) → floor_of was.machine ≤ top_of was.machine → (stopped : IsStopped was mid text a)
      → IsRest was mid stopped.document rest → IsDone mid now rest b → IsDone was now text (a ++ b)
  rest_done was mid now text rest a b ordered s left done =
      let log = s.document.log in
      let xs = s.run.answered in
      let ys = done.run.answered in
      let n = length xs in
      let first = s.run.run.goes_on in
      let taken : length (take n log) ≡ n = omega (arith, length-take n log, s.run.part) in
      let gone : top_of mid.machine - top_of was.machine ≡ n = omega (arith, first.top, taken) in
      let tail : done.document.log ≡ drop n log =
      ap (λ (d : Document). d.log) (same_read rest done.document left.document done.read left.read) ∙ left.log ∙ ap (λ (m : ℕ). drop m log) gone in
      let ran = whole_run mid now done.document b done.run in
      let second = subst (λ (txns : List Txn). GoesOn mid.machine now.machine txns ys) tail ran in
      let both = completes was.machine mid.machine now.machine n log xs ys ordered first second in
      let parts : take n log ++ drop n log ≡ log = take-append-drop n log in
      let many : length (xs ++ ys) ≡ length log =
      omega (
        arith,
        length-append xs ys,
        done.run.whole,
        ap (λ (txns : List Txn). length txns) tail,
        s.run.part,
        ap (λ (txns : List Txn). length txns) parts,
        length-append (take n log) (drop n log),
        taken,
      ) in
      let whole : take (length (xs ++ ys)) log ≡ log = take_all (length (xs ++ ys)) log (omega (arith, many)) in
      let on : RunsOn mid.machine now.machine (drop n log) ys =
      subst (λ (txns : List Txn). RunsOn mid.machine now.machine txns ys)
      (take_all (length ys) done.document.log (omega (arith, done.run.whole)) ∙ tail) done.run.run.runs_on in
      let before = s.run.run.runs_on in
      let runs : RunsOn was.machine now.machine log (xs ++ ys) = record {
        run = λ look start old h. subst (λ (l : List Txn). HasRun look start l now.machine)
            (append_assoc old (take n log) (drop n log) ∙ ap (λ (l : List Txn). old ++ l) parts)
            (on.run look start (old ++ take n log) (before.run look start old h));
        replies = λ look start old h.
            sym (append_assoc (replies look old) xs ys)
            ∙ ap (λ (r : List Reply). r ++ ys) (before.replies look start old h)
            ∙ on.replies look start (old ++ take n log) (before.run look start old h)
            ∙ ap (replies look) (append_assoc old (take n log) (drop n log) ∙ ap (λ (l : List Txn). old ++ l) parts);
      } in
      let batched : AreWholeBatches log largest_batch (length log) = ⊎_elim
      (λ (some : 0 < n). whole_batches log largest_batch n (s.run.run.batches some))
      (λ (none : n ≤ 0).
      let zero : n ≡ 0 = omega (arith, none) in
      let same : done.document.log ≡ log = tail ∙ ap (λ (m : ℕ). drop m log) zero in
      let some : 0 < length ys = omega (arith, done.run.whole, ap (λ (txns : List Txn). length txns) same, s.run.part) in
      subst (λ (l : List Txn). AreWholeBatches l largest_batch (length l)) same
      (whole_batches done.document.log largest_batch (length ys) (done.run.run.batches some)))
      (cases_lt 0 n) in
      record {
        document = s.document;
        read = s.read;
        run = record {
          answered = xs ++ ys;
          run = record {
            waited = s.run.run.waited;
            taken = s.run.run.taken;
            goes_on = subst (λ (txns : List Txn). GoesOn was.machine now.machine txns (xs ++ ys)) (sym whole) both;
            runs_on = subst (λ (txns : List Txn). RunsOn was.machine now.machine txns (xs ++ ys)) (sym whole) runs;
            batches = λ some. subst (λ (m : ℕ). AreWholeBatches log largest_batch m) (sym many) batched;
            names = done.run.run.names ∙ s.run.run.names;
          };
          whole = many;
          says = (λ i. s.run.says i ++ done.run.says i)
              ∙ ap (λ (m : ℕ). print_numbered (top_of was.machine + 1) xs ++ print_numbered m ys) (omega (arith, first.top, taken))
              ∙ sym (numbered-append (top_of was.machine + 1) xs ys);
          handed = done.run.handed;
        };
      }

-- ---- statuses

pub data Told : Type 0 where
  Ran : Told
  Refused : Told
  HasStore : Told
  Timestamps : Told

abbrev pub number : Told → ℕ
number Ran = 0
number Refused = 1
number HasStore = 5
number Timestamps = 6

told_by : (status : ℕ) → IsOfTheText status → (x : Told) × (status ≡ number x)
told_by status is = ⊎_elim (λ (e : status ≡ 0). (Ran, e))
    (λ (r : (status ≡ 1) ⊎ (status ≡ 5) ⊎ (status ≡ 6)). ⊎_elim (λ (e : status ≡ 1). (Refused, e))
    (λ (q : (status ≡ 5) ⊎ (status ≡ 6)). ⊎_elim (λ (e : status ≡ 5). (HasStore, e)) (λ (e : status ≡ 6). (Timestamps, e)) q) r) is

-- what a status says of the text
abbrev pub Says : Session → Session → List ℕ → List ℕ → Told → Type 0
Says was now text out Ran = IsDone was now text out
Says was now text out Refused = IsRefusal text out
Says was now text out HasStore = IsUntaken was.machine text faults.Store
Says was now text out Timestamps = IsUntaken was.machine text faults.Timestamps

two_faults : faults.Store ≡ faults.Timestamps → ⊥
two_faults e = cc

module _ (one other one' other' : Session) (text a b : List ℕ) (alike : AreAlike one other)
    (untaken : (m n : Timeline) (text : List ℕ) (e f : SegmentFault) → top_of m ≡ top_of n → IsUntaken m text e → IsUntaken n text f → e ≡ f)
    (formed : (m : Timeline) (text a : List ℕ) (f : SegmentFault) → IsUntaken m text f → IsRefusal text a → ⊥)
    (read : (was now : Session) (text a b : List ℕ) → IsDone was now text a → IsRefusal text b → ⊥)
    (taken : (was now : Session) (m : Timeline) (text a : List ℕ) (f : SegmentFault) → top_of was.machine ≡ top_of m → IsDone was now text a
    → IsUntaken m text f → ⊥) where
  one_said : (x y : Told) → Says one one' text a x → Says other other' text b y → x ≡ y
  one_said Ran Ran h k = refl
  one_said Ran Refused h k = absurd (read one one' text a b h k)
  one_said Ran HasStore h k = absurd (taken one one' other.machine text a faults.Store alike.top h k)
  one_said Ran Timestamps h k = absurd (taken one one' other.machine text a faults.Timestamps alike.top h k)
  one_said Refused Ran h k = absurd (read other other' text b a k h)
  one_said Refused Refused h k = refl
  one_said Refused HasStore h k = absurd (formed other.machine text a faults.Store k h)
  one_said Refused Timestamps h k = absurd (formed other.machine text a faults.Timestamps k h)
  one_said HasStore Ran h k = absurd (taken other other' one.machine text b faults.Store (sym alike.top) k h)
  one_said HasStore Refused h k = absurd (formed one.machine text b faults.Store h k)
  one_said HasStore HasStore h k = refl
  one_said HasStore Timestamps h k = absurd (two_faults (untaken one.machine other.machine text faults.Store faults.Timestamps alike.top h k))
  one_said Timestamps Ran h k = absurd (taken other other' one.machine text b faults.Timestamps (sym alike.top) k h)
  one_said Timestamps Refused h k = absurd (formed one.machine text b faults.Timestamps h k)
  one_said Timestamps HasStore h k = absurd (two_faults (sym (untaken one.machine other.machine text faults.Timestamps faults.Store alike.top h k)))
  one_said Timestamps Timestamps h k = refl

  pub one_status : (s t : ℕ) → IsOfTheText s → IsOfTheText t → ((x : Told) → s ≡ number x → Says one one' text a x)
      → ((y : Told) → t ≡ number y → Says other other' text b y) → s ≡ t
  one_status s t is also met met' =
      let (x, e) = told_by s is in
      let (y, f) = told_by t also in
      e ∙ ap number (one_said x y (met x e) (met' y f)) ∙ sym f
