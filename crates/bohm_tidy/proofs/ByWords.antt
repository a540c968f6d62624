-- A line that is written word by word, and a text that is read line by line.
use Rattle.std.proofs.Common.{◌≡◌, ℕ, suc, true, ◌+◌, ◌-◌, ◌<◌, Bool, List, []}
use Rattle.std.proofs.Common.{◌∷◌, ◌++◌, length, take, drop, Some, None, refl, ap, sym, subst, ◌∙◌, append_assoc, arith}
use Rattle.std.specs.Prelude.{◌==◌}
use Rattle.std.specs.List.{position_from}
use Rattle.std.proofs.lemmas.Bool.{eqb-true}
use Rattle.std.proofs.lemmas.List.{append-nil}
use Rattle.bohm_text.specs.Cut.{split}
use Rattle.bohm_text.proofs.ForCallers.{IsCutAt, cut_from}
use Rattle.bohm_tidy.specs.declared.line.Gap.{Gap}
use Rattle.bohm_tidy.specs.Plain.{Written, added, fed, fed_all, filled, with_line}
use Rattle.bohm_tidy.specs.Line.{cut_text, shown, apart, next_gap, joined, sign_alone, word_text}

pub apart_more : (signs : Bool) (before : ℕ) (bs : List ℕ) (i b : ℕ) (out longer whole : List ℕ) → drop i bs ≡ b ∷ drop (i + 1) bs → longer
    ≡ out ++ (cut_text signs before b ++ shown b ∷ []) → out ++ apart signs before (drop i bs) ≡ whole → longer ++ apart signs b (drop (i + 1) bs) ≡ whole
unfolding apart
apart_more signs before bs i b out longer whole at more so_far =
    ap (λ (ys : List ℕ). ys ++ apart signs b (drop (i + 1) bs)) more
    ∙ append_assoc out (cut_text signs before b ++ shown b ∷ []) (apart signs b (drop (i + 1) bs))
    ∙ ap (λ (ys : List ℕ). out ++ apart signs before ys) (sym at)
    ∙ so_far

pub none_left : (n : ℕ) → true ≡ (n == 0) → n ≡ 0
none_left n e = eqb-true n 0 (sym e)

joined_word : (signs : Bool) (gap : Gap) (w : List ℕ) (ws : List (List ℕ)) → 0 < length w
    → joined signs gap (w ∷ ws) ≡ word_text gap signs w ++ joined signs (next_gap gap signs w) ws
unfolding joined
joined_word signs gap [] ws some = absurd (omega (arith, some))
joined_word signs gap (b ∷ bs) ws some = refl

joined_none : (signs : Bool) (gap : Gap) (w : List ℕ) (ws : List (List ℕ)) → length w ≡ 0 → joined signs gap (w ∷ ws) ≡ joined signs gap ws
unfolding joined
joined_none signs gap [] ws none = refl
joined_none signs gap (b ∷ bs) ws none = absurd (omega (arith, none))

pub joined_more : (signs : Bool) (gap : Gap) (w : List ℕ) (ws old : List (List ℕ)) (out longer whole : List ℕ) → old ≡ w ∷ ws → 0 < length w
    → longer ≡ out ++ word_text gap signs w → out ++ joined signs gap old ≡ whole → longer ++ joined signs (next_gap gap signs w) ws ≡ whole
joined_more signs gap w ws old out longer whole at some more so_far =
    let rest : List ℕ = joined signs (next_gap gap signs w) ws in
    ap (λ (ys : List ℕ). ys ++ rest) more
    ∙ append_assoc out (word_text gap signs w) rest
    ∙ ap (λ (ys : List ℕ). out ++ ys) (sym (joined_word signs gap w ws some) ∙ ap (joined signs gap) (sym at))
    ∙ so_far

pub joined_skip : (signs : Bool) (gap : Gap) (w : List ℕ) (ws old : List (List ℕ)) (out whole : List ℕ) → old ≡ w ∷ ws → length w ≡ 0
    → out ++ joined signs gap old ≡ whole → out ++ joined signs gap ws ≡ whole
joined_skip signs gap w ws old out whole at none so_far =
    ap (λ (ys : List ℕ). out ++ ys) (sym (joined_none signs gap w ws none) ∙ ap (joined signs gap) (sym at)) ∙ so_far

pub joined_end : (signs : Bool) (gap : Gap) (old : List (List ℕ)) (out longer whole : List ℕ) → old ≡ [] → longer ≡ out ++ sign_alone gap
    → out ++ joined signs gap old ≡ whole → longer ≡ whole
unfolding joined
joined_end signs gap old out longer whole at more so_far = more ∙ ap (λ (ws : List (List ℕ)). out ++ joined signs gap ws) (sym at) ∙ so_far

-- ---- the lines of a text

pub line_none : (bs : List ℕ) → position_from (λ b. b == 10) 0 bs ≡ None → split 10 bs ≡ bs ∷ []
line_none bs e = subst (λ r. IsCutAt 10 bs 0 r) e (cut_from 10 0 bs)

pub line_some : (bs : List ℕ) (k : ℕ) → position_from (λ b. b == 10) 0 bs ≡ Some k → split 10 bs ≡ take k bs ∷ split 10 (drop (k + 1) bs)
line_some bs k e =
    let h = subst (λ r. IsCutAt 10 bs 0 r) e (cut_from 10 0 bs) in
    let same : k - 0 ≡ k = omega arith in
    let next : k + 1 ≡ suc (k - 0) = omega arith in
    rw next (subst (λ j. split 10 bs ≡ take j bs ∷ split 10 (drop (suc (k - 0)) bs)) same h.1)

pub fed_more : (v w : Written) (rest line more : List ℕ) (whole : Written) → split 10 rest ≡ line ∷ split 10 more → v ≡ fed w line
    → fed_all w (split 10 rest) ≡ whole → fed_all v (split 10 more) ≡ whole
fed_more v w rest line more whole cut now so_far = ap (λ (u : Written). fed_all u (split 10 more)) now ∙ ap (fed_all w) (sym cut) ∙ so_far

pub fed_last : (v w : Written) (rest : List ℕ) (whole : Written) → split 10 rest ≡ rest ∷ [] → v ≡ fed w rest → fed_all w (split 10 rest) ≡ whole → v ≡ whole
fed_last v w rest whole cut now so_far = now ∙ ap (fed_all w) (sym cut) ∙ so_far

-- ---- an exact line that is added

pub added_none : (line : List ℕ) (w : Written) → length line ≡ 0 → added line w ≡ w
unfolding added
added_none [] w none = refl
added_none (b ∷ bs) w none = absurd (omega (arith, none))

pub added_some : (line : List ℕ) (w : Written) → 0 < length line → added line w ≡ with_line line (filled line w)
unfolding added
added_some [] w some = absurd (omega (arith, some))
added_some (b ∷ bs) w some = refl
