-- The replies of a batch, from those of ranges of its transactions.
use Rattle.std.proofs.Common.{◌≡◌, ◌∙◌, ℕ, ◌+◌, ◌*◌, ◌<◌, ◌≤◌, List, ◌++◌, ◌∷◌, length, take, drop, get_or, ap, sym, subst, arith, length-append}
use Rattle.std.proofs.Math.Nat.{mul-le-mul_right}
use Rattle.std.proofs.Math.Seq.{take-add}
use Rattle.std.proofs.lemmas.List.{length-take-le}
use Rattle.bohm_txn.specs.declared.outcome.Reply.{Reply}
use Rattle.bohm_txn.proofs.ForCallers.{length-replies}
use Rattle.bohm_board.specs.Batches.{base_of, first_of, txns_of}
use Rattle.bohm_exec.specs.declared.finished.Finished.{Finished}
use Rattle.bohm_exec.specs.Answers.{batch_of_finished}
use Rattle.bohm_apply.specs.Replies.{Appended, replies_of}
use Rattle.bohm_apply.specs.Settling.{IsShareFrom}
use Rattle.bohm_apply.proofs.Swept.{at_length}

-- of `many` ranges of `size` elements, the last of which isn't empty, the one at index n starts at an element
starts_inside : (n many size len : ℕ) → n < many → many * size < len + size → n * size < len
starts_inside n many size len low last =
    let next : (n + 1) * size ≤ many * size = mul-le-mul_right size (omega (arith, low)) in
    let one : (n + 1) * size ≡ n * size + size = grind arith in
    omega (arith, next, one, last)

-- the replies of n + 1 ranges are those of n ranges, and then those of the next one
next_range : (r : List Reply) (n size : ℕ) → take ((n + 1) * size) r ≡ take (n * size) r ++ take size (drop (n * size) r)
next_range r n size =
    let one : (n + 1) * size ≡ n * size + size = grind arith in
    ap (λ (m : ℕ). take m r) one ∙ take-add (n * size) size r

-- ---- one range after another

-- the element behind `ys` is the one at their number
pub comes_next : {X : Type 0} (ys : List X) (x : X) (rest all : List X) → ys ++ x ∷ rest ≡ all → (length ys < length all) × (get_or all (length ys) x ≡ x)
comes_next ys x rest all whole = (
  omega (arith, ap length whole, length-append ys (x ∷ rest)),
  ap (λ xs. get_or xs (length ys) x) (sym whole) ∙ at_length ys x rest x,
)

-- what joins replies that were appended one after another
abbrev pub Joins : {A : Type 0} → Appended A → Type 0
Joins {A} appended = (first : ℕ) (a b c : A) (xs ys : List Reply) → appended first a xs b → appended (first + length xs) b ys c
    → appended first a (xs ++ ys) c

-- a sink's replies, which were appended to one without replies, are appended to another one
abbrev pub Moves : {A : Type 0} → (A → Type 0) → Appended A → A → A → A → Type 0
Moves {A} bare appended more mid new = (first : ℕ) (start : A) (replies : List Reply) → bare start → appended first start replies more
    → appended first mid replies new

-- of `many` ranges, n were appended, and now the one at index n
pub one_more_range : {A : Type 0} (bare : A → Type 0) (appended : Appended A) → Joins appended → (f : Finished) (old mid new more : A) (n many size : ℕ)
    → Moves bare appended more mid new → n < many → many * size < length (txns_of (batch_of_finished f)) + size
    → IsShareFrom bare appended f (n * size) size more
    → appended (first_of (batch_of_finished f)) old (take (n * size) (replies_of f)) mid
    → appended (first_of (batch_of_finished f)) old (take ((n + 1) * size) (replies_of f)) new
one_more_range {A} bare appended joins f old mid new more n many size moves low last (start, is_bare, made) before =
    let b = batch_of_finished f in
    let r = replies_of f in
    let u = first_of b in
    let own : List Reply = take size (drop (n * size) r) in
    let inside : n * size < length (txns_of b) = starts_inside n many size (length (txns_of b)) low last in
    let long : length (take (n * size) r) ≡ n * size = length-take-le (n * size) r (omega (arith, inside, length-replies (base_of b) (txns_of b))) in
    let number : u + n * size ≡ u + length (take (n * size) r) = omega (arith, long) in
    let moved : appended (u + n * size) mid own new = moves (u + n * size) start own is_bare made in
    subst (λ (rs : List Reply). appended u old rs new) (sym (next_range r n size))
    (joins u old mid new (take (n * size) r) own before (subst (λ (k : ℕ). appended k mid own new) number moved))
