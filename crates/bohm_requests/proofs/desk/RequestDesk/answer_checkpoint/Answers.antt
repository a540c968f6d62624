use Rattle.std.proofs.Common.{◌≡◌, List, ℕ, ◌++◌, [], ◌∷◌, refl, ap, sym, ◌∙◌, append_assoc, codes}
use Rattle.bohm_requests.specs.Lines.{numbered_words}
use Rattle.bohm_requests.proofs.desk.RequestDesk.answer_checkpoint.Goals as goal

pub returns-clause-line : goal.returns-clause-line
returns-clause-line g c =
    let words : List ℕ = numbered_words (codes "checkpoint") c.checkpoint.new.self.ledger.machine.top in
    let line : c.as_slice.result.now ≡ words ++ 10 ∷ [] = c.as_slice.ensures.value
    ∙ (c.in_ok-put_number.ensures ∙ rw (c.new-line.ensures.items, c.top.ensures) refl) in
    c.in_ok-extend_from_slice.ensures.items ∙ (ap (λ (t : List ℕ). c.args.out.now.items ++ t) line
    ∙ sym (append_assoc c.args.out.now.items words (10 ∷ [])))
