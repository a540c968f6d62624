-- Requests that are taken one after another.
use Rattle.std.proofs.Common.{◌≡◌, ℕ, List, [], ◌∷◌, ◌++◌, refl, ap, sym, ◌∙◌, subst, append_assoc, length, length-append, drop, ◌-◌, ◌≤◌, arith}
use Rattle.std.proofs.lemmas.List.{append-nil}
use Rattle.bohm_requests.specs.declared.turn.Turn.{Turn}
use Rattle.bohm_requests.specs.Taking.{AreTaken, IsTaken, TakesFrom, added_by, joined}

joined_more : (rs : List (List ℕ)) (r : List ℕ) → joined (rs ++ r ∷ []) ≡ joined rs ++ r
joined_more [] r = append-nil r
joined_more (q ∷ rs) r = ap (λ (t : List ℕ). q ++ t) (joined_more rs r) ∙ sym (append_assoc q (joined rs) r)

taken_more : (rs : List (List ℕ)) (r : List ℕ) (ts : List Turn) (t : Turn) (batch : List ℕ) → AreTaken rs ts batch
    → AreTaken (rs ++ r ∷ []) (ts ++ t ∷ []) (batch ++ added_by t r)
taken_more [] r [] t batch none = ([], ap (λ (b : List ℕ). b ++ added_by t r) none ∙ sym (append-nil (added_by t r)), refl)
taken_more (q ∷ rs) r (u ∷ ts) t batch some = (
  some.0 ++ added_by t r,
  ap (λ (b : List ℕ). b ++ added_by t r) some.1 ∙ append_assoc (added_by u q) some.0 (added_by t r),
  taken_more rs r ts t some.0 some.2,
)
taken_more [] r (u ∷ ts) t batch cc = absurd cc
taken_more (q ∷ rs) r [] t batch cc = absurd cc

pub none_taken : (text : List ℕ) (ts : List Turn) (batch : List ℕ) → ts ≡ [] → batch ≡ [] → TakesFrom text text ts batch
none_taken text ts batch no_turn no_text = ([], refl, subst (λ us. AreTaken [] us batch) (sym no_turn) no_text)

pub one_taken : (text left others request : List ℕ) (ts us : List Turn) (batch more : List ℕ) → TakesFrom text left ts batch → left ≡ request ++ others
    → IsTaken request ts batch us more → TakesFrom text others us more
one_taken text left others request ts us batch more before cut taken = (
  before.0 ++ request ∷ [],
  before.1 ∙ (ap (λ (t : List ℕ). joined before.0 ++ t) cut ∙ (sym (append_assoc (joined before.0) request others)
      ∙ ap (λ (t : List ℕ). t ++ others) (sym (joined_more before.0 request)))),
  subst (λ (vs : List Turn). AreTaken (before.0 ++ request ∷ []) vs more) (sym taken.1)
      (subst (AreTaken (before.0 ++ request ∷ []) (ts ++ taken.0 ∷ [])) (sym taken.2) (taken_more before.0 request ts taken.0 batch before.2)),
)

dropped : (front left : List ℕ) → drop (length front) (front ++ left) ≡ left
dropped [] left = refl
dropped (b ∷ front) left = dropped front left

-- what is left, by its length
pub left_behind : (text left : List ℕ) (ts : List Turn) (batch : List ℕ) (n : ℕ) → TakesFrom text left ts batch → n ≡ length text - length left
    → TakesFrom text (drop n text) ts batch
left_behind text left ts batch n taken all =
    let size : n ≡ length (joined taken.0) = omega (arith, all, ap length taken.1, length-append (joined taken.0) left) in
    let is : drop n text ≡ left = (λ i. drop (size i) (taken.1 i)) ∙ dropped (joined taken.0) left in
    subst (λ (rest : List ℕ). TakesFrom text rest ts batch) (sym is) taken

pub not_longer : (text left : List ℕ) (ts : List Turn) (batch : List ℕ) → TakesFrom text left ts batch → length left ≤ length text
not_longer text left ts batch taken = omega (arith, ap length taken.1, length-append (joined taken.0) left)
