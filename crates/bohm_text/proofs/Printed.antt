-- A list that is printed element by element.
use Rattle.std.proofs.Common.{◌≡◌, ℕ, ◌+◌, ◌≤◌, List, [], ◌∷◌, map, length, ◌++◌, Some, ap, sym, ◌∙◌, slice_get, drop, append_assoc, arith}
use Rattle.std.proofs.lemmas.Grind.{flat_map-append}
use Rattle.std.proofs.lemmas.List.{length-take, map-append, take-append-drop, take-append-le}
use Rattle.std.proofs.Math.Seq.{take-length}
use Rattle.bohm_text.specs.Print.{BeginsWith, Words, line_text, lines_text, spaced}
use Rattle.bohm_log.proofs.ForCallers.{drop_at}

-- after element i is printed, the text of the elements from index i + 1 on is left to print
pub print_more : {A : Type 0} (text : List A → List ℕ) (xs : List A) (i : ℕ) (x : A) (out piece longer whole : List ℕ) → slice_get xs i ≡ Some x
    → text (x ∷ drop (i + 1) xs) ≡ piece ++ text (drop (i + 1) xs) → longer ≡ out ++ piece → out ++ text (drop i xs) ≡ whole
    → longer ++ text (drop (i + 1) xs) ≡ whole
print_more text xs i x out piece longer whole at first printed so_far =
    let rest : text (drop i xs) ≡ piece ++ text (drop (i + 1) xs) = ap text (drop_at xs i x at) ∙ first in
    rw printed (append_assoc out piece (text (drop (i + 1) xs)) ∙ (ap (λ (ys : List ℕ). out ++ ys) (sym rest) ∙ so_far))

pub spaced_append : (xs ys : Words) → spaced (xs ++ ys) ≡ spaced xs ++ spaced ys
spaced_append xs ys = flat_map-append (λ (w : List ℕ). 32 ∷ w) xs ys

pub lines_append : (xs ys : List Words) → lines_text (xs ++ ys) ≡ lines_text xs ++ lines_text ys
lines_append xs ys = rw (map-append line_text xs ys) (flat_map-append (λ (line : List ℕ). line ++ 10 ∷ []) (map line_text xs) (map line_text ys))

-- a text that begins with another one still does after more is appended
pub begins_more : (front text longer more : List ℕ) → BeginsWith front text → longer ≡ text ++ more → BeginsWith front longer
begins_more front text longer more h e =
    let fits : length front ≤ length text = omega (arith, length-take (length front) text, ap length h) in
    rw e (take-append-le (length front) text more fits ∙ h)

-- a text that begins with a longer one begins with the shorter one
pub begins_behind : (front more longer text : List ℕ) → longer ≡ front ++ more → BeginsWith longer text → BeginsWith front text
begins_behind front more longer text e h =
    let split : text ≡ front ++ (more ++ drop (length longer) text) =
    sym (take-append-drop (length longer) text) ∙ ap (λ (t : List ℕ). t ++ drop (length longer) text) (h ∙ e)
    ∙ append_assoc front more (drop (length longer) text) in
    begins_more front front text (more ++ drop (length longer) text) (take-length front) split

pub begins_twice : (front more most longer text : List ℕ) → longer ≡ front ++ more ++ most → BeginsWith longer text → BeginsWith front text
begins_twice front more most longer text e h = begins_behind front (more ++ most) longer text (e ∙ append_assoc front more most) h
