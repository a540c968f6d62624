-- Bytes that are written in parts, of which the writer may take only a first part.
use Rattle.std.proofs.Common.{List, ℕ, ◌+◌, ◌-◌, ◌++◌, length, take, drop, Result, Ok, Err, Some, None, OnOk, OnErr}
use Rattle.std.proofs.Common.{sym, ap, ◌≡◌, ◌∙◌, append_assoc, arith, length-drop}
use Rattle.std.specs.Prelude.{Option}
use Rattle.std.proofs.lemmas.List.{take_all, take-append-drop}
use Rattle.std.proofs.Math.Seq.{take-add}
use Rattle.std.specs.Io.KnownBytes.{Appends}
use Rattle.std.proofs.KnownBytes.{Appends-trans}
use Rattle.bohm_answer.specs.Bytes.{Sends}
use Rattle.bohm_answer.specs.FaultLine.{AppendsFront}

pub wider : (a b : Option (List ℕ)) (x y : List ℕ) → AppendsFront a b x → AppendsFront a b (x ++ y)
wider a b x y h = record { front = h.front; rest = h.rest ++ y; whole = ap (λ (w : List ℕ). w ++ y) h.whole ∙ append_assoc h.front h.rest y; wrote = h.wrote }

pub behind : (a b c : Option (List ℕ)) (x y : List ℕ) → Appends a b x → AppendsFront b c y → AppendsFront a c (x ++ y)
behind a b c x y first h = record {
  front = x ++ h.front;
  rest = h.rest;
  whole = ap (λ (w : List ℕ). x ++ w) h.whole ∙ sym (append_assoc x h.front h.rest);
  wrote = Appends-trans a b c x h.front first h.wrote;
}

module _ {A E : Type 0} (a b c : Option (List ℕ)) (x y : List ℕ) (first : Appends a b x) where
  pub then_ok : (r : Result A E) → OnOk r (Appends b c y) → OnOk r (Appends a c (x ++ y))
  then_ok (Ok v) h = Appends-trans a b c x y first h
  then_ok (Err e) h = tt

  pub then_err : (r : Result A E) → OnErr r (AppendsFront b c y) → OnErr r (AppendsFront a c (x ++ y))
  then_err (Ok v) h = tt
  then_err (Err e) h = behind a b c x y first h

-- writing more of the bytes that are left
pub appends_more : (old mid new : Option (List ℕ)) (sent n : ℕ) (bytes : List ℕ) → Appends old mid (take sent bytes)
    → Appends mid new (take n (take (length bytes - sent) (drop sent bytes))) → Appends old new (take (sent + n) bytes)
appends_more None mid new sent n bytes before now = tt
appends_more (Some xs) None new sent n bytes before now = absurd before
appends_more (Some xs) (Some ys) None sent n bytes before now = now
appends_more (Some xs) (Some ys) (Some zs) sent n bytes before now =
    let rest : take (length bytes - sent) (drop sent bytes) ≡ drop sent bytes =
    take_all (length bytes - sent) (drop sent bytes) (omega (arith, length-drop sent bytes)) in
    now ∙ (ap (λ (w : List ℕ). w ++ take n (take (length bytes - sent) (drop sent bytes))) before
    ∙ rw (rest, take-add sent n bytes) (append_assoc xs (take sent bytes) (take n (drop sent bytes))))

pub sent_front : (a b : Option (List ℕ)) (bytes : List ℕ) (sent : ℕ) → Sends a b bytes sent → AppendsFront a b bytes
sent_front a b bytes sent h = record {
  front = take sent bytes;
  rest = drop sent bytes;
  whole = sym (take-append-drop {A = ℕ} sent bytes);
  wrote = h.wrote;
}
