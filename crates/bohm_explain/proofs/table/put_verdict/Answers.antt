use Rattle.std.proofs.Common.{◌≡◌, ◌∙◌, [], ◌∷◌, ◌++◌, None, ap, arith, codes, false, sym}
use Rattle.std.specs.Prelude.{Option, ◌==◌}
use Rattle.std.proofs.lemmas.Result.{IfOk-weaker}
use Rattle.bohm_explain.specs.declared.heat.Heat.{Heat}
use Rattle.bohm_explain.specs.Table.{leading, limit_words, verdict_words, waiting_words}
use Rattle.bohm_explain.proofs.Appended.{more}
use Rattle.bohm_explain.proofs.table.put_verdict.Goals as goal

pub returns-in_ok-put-in-None : goal.returns-in_ok-put-in-None
unfolding verdict_words
returns-in_ok-put-in-None c =
    let t = c.args.totals in
    let start = c.args.out.now.items in
    let some : (t.transactions == 0) ≡ false = grind (arith, c.if-totals-eq0.false) in
    let none : leading c.args.ranked.now ≡ None = sym c.leading.ensures ∙ c.in-None.is in
    IfOk-weaker c.put_limit.result _ _ (λ x is. rw some (more start _ _ (codes "no transaction waits for another of its part: " ∷ []) (limit_words t)
    c.in_ok-put-in-None.ensures is ∙ ap (λ (o : Option Heat). start ++ waiting_words t o) (sym none))) c.put_limit.ensures
