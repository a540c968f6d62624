use Rattle.std.proofs.Common.{◌≡◌, ◌∙◌, ◌/◌, ◌%◌, ◌++◌, ℕ, List, replicate, ap, ap₂, append_assoc, arith}
use Rattle.std.proofs.lemmas.List.{take_all}
use Rattle.std.proofs.lemmas.Result.{on_ok_weaker}
use Rattle.bohm_explain.specs.Parts.{rest_of}
use Rattle.bohm_explain.proofs.parts.put_even.Goals as goal

pub returns : goal.returns
returns c =
    let old = c.args.sizes.now.items in
    let size = c.args.size in
    let count = c.args.count in
    let full : c.resize.new.self.items ≡ old ++ replicate (count / size) size =
    c.in_ok-resize.ensures.items ∙ ap₂ (λ (l : List ℕ) (n : ℕ). l ++ replicate n size) (take_all _ old (omega (arith, c.len.ensures, c.args.sizes.now.ok.0)))
    (omega (arith, c.len.ensures, c.args.sizes.now.ok.0)) in
    on_ok_weaker c.put_rest.result (λ is. is ∙ ap (λ (l : List ℕ). l ++ rest_of (count % size)) full
    ∙ append_assoc old (replicate (count / size) size) (rest_of (count % size))) c.put_rest.ensures
