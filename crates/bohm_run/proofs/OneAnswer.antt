-- What was read determines the answer or the refusal.
use Rattle.std.proofs.Common.{◌≡◌, ℕ, ◌-◌, ◌<◌, ◌≤◌, List, [], ◌++◌, length, length-append, None, Some, refl, sym, ap, subst, ◌∙◌, arith, append-nil}
use Rattle.std.specs.Prelude.{Option, unwrap_or}
use Rattle.std.specs.Io.KnownBytes.{Appends, Consumes}
use Rattle.bohm_types.specs.Document.{Document}
use Rattle.bohm_types.specs.Limits.{longest_text}
use Rattle.bohm_types.specs.Sound.{IsDocument}
use Rattle.bohm_txn.specs.Faulty.{IsFirstFault, WellFormed}
use Rattle.bohm_txn.specs.declared.fault.CheckFault.{CheckFault}
use Rattle.bohm_txn.proofs.ForCallers.{one_first_fault, none_well_formed}
use Rattle.bohm_text.specs.Cut.{whole_lines}
use Rattle.bohm_text.specs.Faults.{IsFirstBadLine, IsShort}
use Rattle.bohm_text.specs.Print.{print_doc}
use Rattle.bohm_text.specs.declared.fault.TextFault.TheVariants as texts
use Rattle.bohm_text.proofs.ForCallers.{one_text, one_line, bad_not_short, document_not_bad}
use Rattle.bohm_settings.specs.Given.{Given}
use Rattle.bohm_answer.specs.Bytes.{ReadsAll}
use Rattle.bohm_answer.specs.declared.fault.RunFault.{RunFault}
use Rattle.bohm_answer.specs.declared.fault.RunFault.TheVariants.{Read, TooLong, Text, Check, Trimmed, Future, NoMemory, Write}
use Rattle.bohm_run.specs.Agreeing.{AskTheSame, IsOfTheLog, WriteTheSame}
use Rattle.bohm_run.specs.Headline.{Answers, Refuses, ReadsTooMuch, answer_of, time_of}

-- ---- what a text is

data Verdict : Type 0 where
  Long : Verdict
  Bad : (line : ℕ) → Verdict
  Cut : Verdict
  Of : (document : Document) → Verdict

IsVerdict : List ℕ → Verdict → Type 0
IsVerdict text Long = longest_text < length text
IsVerdict text (Bad n) = (length text ≤ longest_text) × IsFirstBadLine (whole_lines text) n
IsVerdict text Cut = (length text ≤ longest_text) × IsShort text
IsVerdict text (Of d) = (length text ≤ longest_text) × IsDocument d × (print_doc d ≡ text)

no_bad_line : (text : List ℕ) (d : Document) (n : ℕ) → IsDocument d → print_doc d ≡ text → IsFirstBadLine (whole_lines text) n → ⊥
no_bad_line text d n sound is bad =
    document_not_bad d n sound (subst (λ (t : List ℕ). IsFirstBadLine (whole_lines t) n) (sym is) bad)

one_verdict : (text : List ℕ) (v w : Verdict) → IsVerdict text v → IsVerdict text w → v ≡ w
unfolding IsVerdict
one_verdict text Long Long h k = refl
one_verdict text Long (Bad m) h k = absurd (omega (arith, h, k.0))
one_verdict text Long Cut h k = absurd (omega (arith, h, k.0))
one_verdict text Long (Of e) h k = absurd (omega (arith, h, k.0))
one_verdict text (Bad n) Long h k = absurd (omega (arith, h.0, k))
one_verdict text (Bad n) (Bad m) h k = ap Bad (one_line text n m h.1 k.1)
one_verdict text (Bad n) Cut h k = absurd (bad_not_short text n h.1 k.1)
one_verdict text (Bad n) (Of e) h k = absurd (no_bad_line text e n k.1 k.2 h.1)
one_verdict text Cut Long h k = absurd (omega (arith, h.0, k))
one_verdict text Cut (Bad m) h k = absurd (bad_not_short text m k.1 h.1)
one_verdict text Cut Cut h k = refl
one_verdict text Cut (Of e) h k = absurd (h.1.none e k.1 k.2)
one_verdict text (Of d) Long h k = absurd (omega (arith, h.0, k))
one_verdict text (Of d) (Bad m) h k = absurd (no_bad_line text d m h.1 h.2 k.1)
one_verdict text (Of d) Cut h k = absurd (k.1.none d h.1 h.2)
one_verdict text (Of d) (Of e) h k = ap Of (one_text d e h.1 k.1 (h.2 ∙ sym k.2))

-- ---- what a document gives

data Ending : Type 0 where
  Faulty : (fault : CheckFault) → Ending
  Low : Ending
  High : Ending
  Fine : Ending

IsEnding : Given → Document → Ending → Type 0
IsEnding given d (Faulty f) = IsFirstFault d f
IsEnding given d Low = WellFormed d × (time_of given d < length d.log - given.keep)
IsEnding given d High = WellFormed d × (length d.log < time_of given d)
IsEnding given d Fine = WellFormed d × (length d.log - given.keep ≤ time_of given d) × (time_of given d ≤ length d.log)

one_ending : (given : Given) (d : Document) (a b : Ending) → IsEnding given d a → IsEnding given d b → a ≡ b
unfolding IsEnding
one_ending given d (Faulty f) (Faulty g) h k = ap Faulty (one_first_fault d f g h k)
one_ending given d (Faulty f) Low h k = absurd (none_well_formed d f k.0 h)
one_ending given d (Faulty f) High h k = absurd (none_well_formed d f k.0 h)
one_ending given d (Faulty f) Fine h k = absurd (none_well_formed d f k.0 h)
one_ending given d Low (Faulty g) h k = absurd (none_well_formed d g h.0 k)
one_ending given d Low Low h k = refl
one_ending given d Low High h k = absurd (omega (arith, h.1, k.1))
one_ending given d Low Fine h k = absurd (omega (arith, h.1, k.1))
one_ending given d High (Faulty g) h k = absurd (none_well_formed d g h.0 k)
one_ending given d High Low h k = absurd (omega (arith, h.1, k.1))
one_ending given d High High h k = refl
one_ending given d High Fine h k = absurd (omega (arith, h.1, k.2))
one_ending given d Fine (Faulty g) h k = absurd (none_well_formed d g h.0 k)
one_ending given d Fine Low h k = absurd (omega (arith, h.1, k.1))
one_ending given d Fine High h k = absurd (omega (arith, h.2, k.1))
one_ending given d Fine Fine h k = refl

-- ---- how a run ends

-- the refusal, or none
told : Verdict → Ending → Option RunFault
told Long e = Some TooLong
told (Bad n) e = Some (Text (texts.Line n))
told Cut e = Some (Text texts.Short)
told (Of d) (Faulty f) = Some (Check f)
told (Of d) Low = Some Trimmed
told (Of d) High = Some Future
told (Of d) Fine = None

-- a document has an ending; for other texts it doesn't matter
Ends : Given → Verdict → Ending → Type 0
Ends given Long e = Unit {0}
Ends given (Bad n) e = Unit {0}
Ends given Cut e = Unit {0}
Ends given (Of d) e = IsEnding given d e

record Judged (given : Given) (text : List ℕ) (refusal : Option RunFault) : Type 0 where
  verdict : Verdict
  ending : Ending
  is : IsVerdict text verdict
  ends : Ends given verdict ending
  told : told verdict ending ≡ refusal

one_told : (given : Given) (v : Verdict) (a b : Ending) → Ends given v a → Ends given v b → told v a ≡ told v b
unfolding told Ends
one_told given Long a b h k = refl
one_told given (Bad n) a b h k = refl
one_told given Cut a b h k = refl
one_told given (Of d) a b h k = ap (told (Of d)) (one_ending given d a b h k)

-- what a document ends with depends on the kept and the requested timestamps alone
asked : (one other : Given) (d : Document) (e : Ending) → AskTheSame one other → IsEnding other d e → IsEnding one d e
unfolding IsEnding
asked one other d (Faulty f) same h = h
asked one other d Low same h = rw (same.keep, same.at) h
asked one other d High same h = rw same.at h
asked one other d Fine same h = rw (same.keep, same.at) h

asked_of : (one other : Given) (v : Verdict) (e : Ending) → AskTheSame one other → Ends other v e → Ends one v e
unfolding Ends
asked_of one other Long e same h = tt
asked_of one other (Bad n) e same h = tt
asked_of one other Cut e same h = tt
asked_of one other (Of d) e same h = asked one other d e same h

one_judgement : (one other : Given) (text : List ℕ) (r s : Option RunFault) → AskTheSame one other → Judged one text r → Judged other text s → r ≡ s
one_judgement one other text r s same h k =
    let verdict : k.verdict ≡ h.verdict = one_verdict text k.verdict h.verdict k.is h.is in
    let ends : Ends one h.verdict k.ending = subst (λ (v : Verdict). Ends one v k.ending) verdict (asked_of one other k.verdict k.ending same k.ends) in
    sym h.told ∙ one_told one h.verdict h.ending k.ending h.ends ends ∙ sym (ap (λ (v : Verdict). told v k.ending) verdict) ∙ k.told

-- ---- what was read

all_read : (text t : List ℕ) (u : Option (List ℕ)) → ReadsAll (Some text) u t → text ≡ t
all_read text t None h = absurd h.read
all_read text t (Some rest) h = h.read ∙ ap (λ (r : List ℕ). t ++ r) h.at_end ∙ append-nil t

short_read : (text t : List ℕ) (u : Option (List ℕ)) → ReadsAll (Some text) u t → length text ≤ longest_text
short_read text t u h = subst (λ (s : List ℕ). length s ≤ longest_text) (sym (all_read text t u h)) h.short

much_read : (text : List ℕ) (u : Option (List ℕ)) → ReadsTooMuch (Some text) u → longest_text < length text
much_read text None h = absurd h.read
much_read text (Some rest) h = omega (arith, h.long, ap length h.read, length-append h.bytes rest)

answered : (given : Given) (text : List ℕ) (u w w' : Option (List ℕ)) → Answers given (Some text) u w w' → Judged given text None
unfolding IsVerdict told Ends IsEnding
answered given text u w w' h =
    let d = h.document in
    let read = h.read.read in
    record {
      verdict = Of d;
      ending = Fine;
      is = (short_read text (print_doc d) u read, h.read.sound, sym (all_read text (print_doc d) u read));
      ends = (h.read.well_formed, h.readable.kept, h.readable.there);
      told = refl;
    }

refused : (given : Given) (text : List ℕ) (u w w' : Option (List ℕ)) (e : RunFault) → IsOfTheLog e → Refuses given (Some text) u w w' e
    → Judged given text (Some e)
unfolding IsVerdict told Ends IsEnding
refused given text u w w' Read of h = absurd of
refused given text u w w' TooLong of h = record { verdict = Long; ending = Fine; is = much_read text u h; ends = tt; told = refl }
refused given text u w w' (Text (texts.Line n)) of h = record {
  verdict = Bad n;
  ending = Fine;
  is = (short_read text h.text u h.read, subst (λ (t : List ℕ). IsFirstBadLine (whole_lines t) n) (sym (all_read text h.text u h.read)) h.is);
  ends = tt;
  told = refl;
}
refused given text u w w' (Text texts.Short) of h = record {
  verdict = Cut;
  ending = Fine;
  is = (short_read text h.text u h.read, subst IsShort (sym (all_read text h.text u h.read)) h.is);
  ends = tt;
  told = refl;
}
refused given text u w w' (Text texts.NoMemory) of h = absurd h
refused given text u w w' (Check f) of h = record {
  verdict = Of h.document;
  ending = Faulty f;
  is = (short_read text (print_doc h.document) u h.read, h.sound, sym (all_read text (print_doc h.document) u h.read));
  ends = h.is;
  told = refl;
}
refused given text u w w' Trimmed of h = record {
  verdict = Of h.document;
  ending = Low;
  is = (short_read text (print_doc h.document) u h.read.read, h.read.sound, sym (all_read text (print_doc h.document) u h.read.read));
  ends = (h.read.well_formed, h.is);
  told = refl;
}
refused given text u w w' Future of h = record {
  verdict = Of h.document;
  ending = High;
  is = (short_read text (print_doc h.document) u h.read.read, h.read.sound, sym (all_read text (print_doc h.document) u h.read.read));
  ends = (h.read.well_formed, h.is);
  told = refl;
}
refused given text u w w' NoMemory of h = absurd of
refused given text u w w' (Write sent) of h = absurd of

-- ---- the laws

pub one_refusal : (one other : Given) (text : List ℕ) (u v w w' x x' : Option (List ℕ)) (e f : RunFault) → AskTheSame one other → IsOfTheLog e
    → IsOfTheLog f → Refuses one (Some text) u w w' e → Refuses other (Some text) v x x' f → e ≡ f
one_refusal one other text u v w w' x x' e f same of of' h k =
    let both : Some e ≡ Some f = one_judgement one other text (Some e) (Some f) same (refused one text u w w' e of h) (refused other text v x x' f of' k) in
    cc

pub never_both : (one other : Given) (text : List ℕ) (u v w w' x x' : Option (List ℕ)) (f : RunFault) → AskTheSame one other → IsOfTheLog f
    → Answers one (Some text) u w w' → Refuses other (Some text) v x x' f → ⊥
never_both one other text u v w w' x x' f same of h k =
    let both : None ≡ Some f = one_judgement one other text None (Some f) same (answered one text u w w' h) (refused other text v x x' f of k) in
    cc

pub one_answer : (one other : Given) (text : List ℕ) (u v w w' x x' : Option (List ℕ)) → AskTheSame one other → Answers one (Some text) u w w'
    → Answers other (Some text) v x x' → WriteTheSame w w' x x'
one_answer one other text u v w w' x x' same h k =
    let texts : print_doc k.document ≡ print_doc h.document =
    sym (all_read text (print_doc k.document) v k.read.read) ∙ all_read text (print_doc h.document) u h.read.read in
    let document : k.document ≡ h.document = one_text k.document h.document k.read.sound h.read.sound texts in
    let time : time_of other h.document ≡ time_of one h.document = ap (λ (at : Option ℕ). unwrap_or at (length h.document.log)) (sym same.at) in
    let answers : answer_of k.document (time_of other k.document) ≡ answer_of h.document (time_of one h.document) =
    ap (λ (d : Document). answer_of d (time_of other d)) document ∙ ap (answer_of h.document) time in
    record {
      answer = answer_of h.document (time_of one h.document);
      first = h.wrote;
      second = subst (Appends x x') answers k.wrote;
    }
