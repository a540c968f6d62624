use Rattle.std.proofs.Common.{◌≡◌, ◌∙◌, ℕ, ◌-◌, ◌++◌, List, [], ◌∷◌, codes, false, flat_map, length, min, take, ap, nat_le, arith}
use Rattle.std.proofs.lemmas.Bool.{lt-leb}
use Rattle.std.proofs.lemmas.List.{take_min}
use Rattle.std.proofs.lemmas.Result.{IfOk-weaker}
use Rattle.bohm_explain.specs.Table.{chain_text, more_text, spaced}
use Rattle.bohm_explain.proofs.Appended.{more}
use Rattle.bohm_explain.proofs.table.put_chain.Goals as goal

pub returns : goal.returns
unfolding chain_text
returns c =
    let places = c.args.places.now in
    let start = c.args.out.now.items in
    let head = codes "\ntransactions on the longest chain:" in
    let long : nat_le (length places) 1 ≡ false = lt-leb (length places) 1 c.if-places-le1.false in
    let few : c.min.result ≡ min 100 (length places) = omega (arith, c.min.ensures) in
    let left : c.saturating_sub.result ≡ length places - 100 = omega (arith, c.saturating_sub.ensures) in
    let first = ap (λ (n : ℕ). take n places) few ∙ take_min 100 places in
    let listed = more start _ _ (head ∷ []) (flat_map spaced (take 100 places)) c.in_ok-put.ensures
    (c.in_ok-put_places.ensures ∙ ap (λ (ps : List ℕ). c.put.new.out.items ++ flat_map spaced ps) first) in
    let others = more start _ _ (head ∷ flat_map spaced (take 100 places) ∷ []) (more_text (length places - 100)) listed
    (c.in_ok-put_more.ensures ∙ ap (λ (n : ℕ). c.put_places.new.out.items ++ more_text n) left) in
    IfOk-weaker c.put-2.result _ _ (λ x is. rw long (more start _ _ (head ∷ flat_map spaced (take 100 places) ∷ more_text (length places - 100) ∷ [])
    (codes "\n") others is)) c.put-2.ensures
