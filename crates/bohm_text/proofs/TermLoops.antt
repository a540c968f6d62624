-- Adding the terms of a sum to a draft, one after another.
use Rattle.std.proofs.Common.{◌≡◌, ℕ, Bool, true, List, [], ◌∷◌, Some, None, Ok, Err, inl, inr, refl, ap, sym, subst, ◌∙◌, append_assoc}
use Rattle.std.specs.Prelude.{Option, Result, ◌⊎◌}
use Rattle.std.specs.Option.{option_map}
use Rattle.std.specs.Result.{IsErrAnd}
use Rattle.std.proofs.lemmas.List.{append-nil}
use Rattle.std.proofs.lemmas.Option.{same_Some}
use Rattle.bohm_types.specs.declared.cmp.Cmp.{Cmp}
use Rattle.bohm_types.specs.Name.{is_name}
use Rattle.bohm_types.specs.Term.{Atom, Read}
use Rattle.bohm_log.specs.Drafting.{Drafted, with_term}
use Rattle.bohm_text.specs.declared.fault.ReadFault.{ReadFault}
use Rattle.bohm_text.specs.declared.fault.ReadFault.TheVariants.{Bad, NoMemory}
use Rattle.bohm_text.specs.declared.stops.Stop.{Stop}
use Rattle.bohm_text.specs.declared.stops.Stop.TheVariants as stops
use Rattle.bohm_text.specs.Print.{Words}
use Rattle.bohm_text.specs.Reading.{◌>>=◌, Fails, first_of, sign_of, further_of, Ending, End, When}
use Rattle.bohm_text.specs.Reading.{Compared, ending, Terms, longer, terms_of, sum_from, at_end, last_sum}
use Rattle.bohm_text.specs.Signs.{behind_sign, end_of, sign_ahead}
use Rattle.bohm_text.proofs.Again.{further_again}
use Rattle.bohm_text.specs.Taking.{TakesTerms, taken, with_one, with_terms}

-- ---- one term

-- a name is read as a term that reads this key
pub read_taken : (minus : Bool) (word : List ℕ) (d now : Drafted) → is_name word ≡ true → now ≡ with_term d minus (Read word)
    → option_map (with_one d) (further_of minus word) ≡ Some now
read_taken minus word d now e made = rw (further_again minus (Read word) refl e, made) refl

-- the term that the draft took is the term that was read
pub took : (d now : Drafted) (read : Option (Bool × Atom)) → option_map (with_one d) read ≡ Some now
    → (term : Bool × Atom) × (read ≡ Some term) × (now ≡ with_one d term)
took d now None e = absurd cc
took d now (Some term) e = (term, refl, sym (same_Some (with_one d term) now e))

-- a fault of reading terms, passed on, is a right result of taking the terms
pub fails_up : (r : Result Stop ReadFault) (fault : ReadFault) (read : Option Terms) (rest : Words) (before now : Drafted)
    → IsErrAnd r (λ other. other ≡ fault) → Fails fault read → TakesTerms r read rest before now
fails_up (Ok stop) fault read rest before now is e = absurd is
fails_up (Err other) fault read rest before now is e = subst (λ (f : ReadFault). Fails f read) (sym is) e

-- ---- a further term, or the end of a sum

pub terms_of-sign : (words w1 w2 : Words) (sign word : List ℕ) (minus : Bool) (term : Bool × Atom) → words ≡ sign ∷ w1 → w1 ≡ word ∷ w2
    → sign_of sign ≡ Some minus → further_of minus word ≡ Some term → terms_of words ≡ longer term (terms_of w2)
unfolding terms_of
terms_of-sign words w1 w2 sign word minus term e1 e2 s t = rw (e1, e2, s, t) refl

pub terms_of-bad : (words w1 w2 : Words) (sign word : List ℕ) (minus : Bool) → words ≡ sign ∷ w1 → w1 ≡ word ∷ w2 → sign_of sign ≡ Some minus
    → further_of minus word ≡ None → terms_of words ≡ None
unfolding terms_of
terms_of-bad words w1 w2 sign word minus e1 e2 s t = rw (e1, e2, s, t) refl

-- if the words don't begin with a sign and another word, the sum ends there
pub terms_of-stop : (words : Words) → sign_ahead words ≡ None → terms_of words ≡ end_of words
unfolding terms_of
terms_of-stop [] h = refl
terms_of-stop (sign ∷ []) h = refl
terms_of-stop (sign ∷ word ∷ words) h = rw h refl

-- if a sign was found, the words are this sign and the words after the sign
pub sign_taken : (words w1 : Words) (minus : Bool) → Some minus ≡ sign_ahead words → w1 ≡ behind_sign (Some minus) words
    → (sign : List ℕ) × (words ≡ sign ∷ w1) × (sign_of sign ≡ Some minus)
sign_taken [] w1 minus h e = absurd cc
sign_taken (sign ∷ []) w1 minus h e = absurd cc
sign_taken (sign ∷ word ∷ words) w1 minus h e = (sign, ap (λ (ws : Words). sign ∷ ws) (sym e), sym h)

-- ---- adding terms

taken-none : (d : Drafted) (read : Option Terms) → taken d read ≡ None → read ≡ None
taken-none d None e = refl
taken-none d (Some p) e = absurd cc

taken-longer : (d : Drafted) (minus : Bool) (atom : Atom) (read : Option Terms) → taken d (longer (minus, atom) read) ≡ taken (with_term d minus atom) read
taken-longer d minus atom None = refl
taken-longer d minus atom (Some p) = ap (λ (ts : List (Bool × Atom)). Some (record d { latest = ts }, p.1))
    (sym (append_assoc d.latest ((minus, atom) ∷ []) p.0))

nothing_more : (d : Drafted) → with_terms d [] ≡ d
nothing_more d = ap (λ (ts : List (Bool × Atom)). record d { latest = ts }) (append-nil d.latest)

module _ (before now : Drafted) (old words : Words) (so_far : taken now (terms_of words) ≡ taken before (terms_of old)) where
  pub take_more : (w2 : Words) (minus : Bool) (atom : Atom) → terms_of words ≡ longer (minus, atom) (terms_of w2)
      → taken (with_term now minus atom) (terms_of w2) ≡ taken before (terms_of old)
  take_more w2 minus atom e = sym (taken-longer now minus atom (terms_of w2)) ∙ (sym (ap (taken now) e) ∙ so_far)

  pub take_none : terms_of words ≡ None → terms_of old ≡ None
  take_none e = taken-none before (terms_of old) (sym so_far ∙ ap (taken now) e)

  pub take_fails : (fault : ReadFault) (w1 w2 : Words) (sign word : List ℕ) (minus : Bool) → words ≡ sign ∷ w1 → w1 ≡ word ∷ w2 → Some minus ≡ sign_of sign
      → Fails fault (further_of minus word) → Fails fault (terms_of old)
  take_fails Bad w1 w2 sign word minus e1 e2 s t = take_none (terms_of-bad words w1 w2 sign word minus e1 e2 (sym s) t)
  take_fails NoMemory w1 w2 sign word minus e1 e2 s t = tt

  pub take_stop : (w1 : Words) (stop : Stop) → sign_ahead words ≡ None → end_of words ≡ Some ([], ending stop w1)
      → taken before (terms_of old) ≡ Some (now, ending stop w1)
  take_stop w1 stop none e =
      let one : terms_of words ≡ Some ([], ending stop w1) = terms_of-stop words none ∙ e in
      sym so_far ∙ (ap (taken now) one ∙ ap (λ (d : Drafted). Some (d, ending stop w1)) (nothing_more now))

  pub take_stop_bad : sign_ahead words ≡ None → end_of words ≡ None → terms_of old ≡ None
  take_stop_bad none e = take_none (terms_of-stop words none ∙ e)

-- ---- whole sums

pub sum_empty : (words : Words) → words ≡ [] → sum_from words ≡ None
unfolding sum_from
sum_empty words e = rw e refl

pub sum_bad_first : (words w1 : Words) (word : List ℕ) → words ≡ word ∷ w1 → first_of word ≡ None → sum_from words ≡ None
unfolding sum_from
sum_bad_first words w1 word e first = rw (e, first) refl

sum_goes_on : (words w1 : Words) (word : List ℕ) (term : Bool × Atom) → words ≡ word ∷ w1 → first_of word ≡ Some term
    → sum_from words ≡ longer term (terms_of w1)
unfolding sum_from
sum_goes_on words w1 word term e first = rw (e, first) refl

pub sum_fails : (fault : ReadFault) (words w1 : Words) (word : List ℕ) → words ≡ word ∷ w1 → Fails fault (first_of word) → Fails fault (sum_from words)
sum_fails Bad words w1 word e first = sum_bad_first words w1 word e first
sum_fails NoMemory words w1 word e first = tt

longer-none : (term : Bool × Atom) (read : Option Terms) → read ≡ None → longer term read ≡ None
longer-none term read e = rw e refl

pub sum_taken : (r : Result Stop ReadFault) (d now : Drafted) (minus : Bool) (atom : Atom) (words w1 rest : Words) (word : List ℕ) → words ≡ word ∷ w1
    → first_of word ≡ Some (minus, atom)
    → TakesTerms r (terms_of w1) rest (with_term d minus atom) now → TakesTerms r (sum_from words) rest d now
sum_taken (Ok stop) d now minus atom words w1 rest word e first h =
    ap (taken d) (sum_goes_on words w1 word (minus, atom) e first) ∙ (taken-longer d minus atom (terms_of w1) ∙ h)
sum_taken (Err Bad) d now minus atom words w1 rest word e first h = sum_goes_on words w1 word (minus, atom) e first ∙ longer-none (minus, atom) (terms_of w1) h
sum_taken (Err NoMemory) d now minus atom words w1 rest word e first h = tt

-- ---- the last sum of a line

taken_same : (d now : Drafted) (sum : List (Bool × Atom)) (end other : Ending) → taken d (Some (sum, end)) ≡ Some (now, other)
    → (with_terms d sum ≡ now) × (end ≡ other)
taken_same d now sum end other e =
    let p : Drafted × Ending = (with_terms d sum, end) in
    let q : Drafted × Ending = (now, other) in
    let same : p ≡ q = same_Some p q e in
    (ap (λ (x : Drafted × Ending). x.0) same, ap (λ (x : Drafted × Ending). x.1) same)

ended : (d now : Drafted) (read : Option Terms) → taken d read ≡ Some (now, End) → option_map (with_terms d) (read >>= at_end) ≡ Some now
ended d now None e = absurd cc
ended d now (Some (sum, End)) e = ap Some (taken_same d now sum End End e).0
ended d now (Some (sum, When words)) e = let other = (taken_same d now sum (When words) End e).1 in absurd cc
ended d now (Some (sum, Compared cmp words)) e = let other = (taken_same d now sum (Compared cmp words) End e).1 in absurd cc

goes_on : (d now : Drafted) (read : Option Terms) (end : Ending) → taken d read ≡ Some (now, end) → (end ≡ End → ⊥) → (read >>= at_end) ≡ None
goes_on d now None end e other = absurd cc
goes_on d now (Some (sum, End)) end e other = absurd (other (sym (taken_same d now sum End end e).1))
goes_on d now (Some (sum, When words)) end e other = refl
goes_on d now (Some (sum, Compared cmp words)) end e other = refl

pub last_taken : (d now : Drafted) (words : Words) → taken d (sum_from words) ≡ Some (now, End) → option_map (with_terms d) (last_sum words) ≡ Some now
unfolding last_sum
last_taken d now words e = ended d now (sum_from words) e

pub last_not_ended : (stop : Stop) (d now : Drafted) (words rest : Words) → taken d (sum_from words) ≡ Some (now, ending stop rest)
    → (stop ≡ stops.When) ⊎ ((cmp : Cmp) × (stop ≡ stops.Compared cmp)) → last_sum words ≡ None
unfolding last_sum
last_not_ended stop d now words rest e (inl when) =
    goes_on d now (sum_from words) (ending stop rest) e (λ end. let s : ending stop rest ≡ When rest = rw when refl in absurd cc)
last_not_ended stop d now words rest e (inr (cmp, compared)) =
    goes_on d now (sum_from words) (ending stop rest) e (λ end. let s : ending stop rest ≡ Compared cmp rest = rw compared refl in absurd cc)

pub last_fails : (fault : ReadFault) (words : Words) → Fails fault (sum_from words) → Fails fault (last_sum words)
unfolding last_sum
last_fails Bad words e = rw e refl
last_fails NoMemory words e = tt
