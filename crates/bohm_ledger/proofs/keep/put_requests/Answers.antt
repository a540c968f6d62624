use Rattle.std.proofs.Common.{◌≡◌, ap, sym, ◌∙◌, take, ◌+◌, ◌++◌, [], ◌∷◌, rules, arith}
use Rattle.std.proofs.lemmas.List.{take_more}
use Rattle.sqlite_trees.specs.View.{IsClean}
use Rattle.bohm_ledger.specs.Rows.{request_tree}
use Rattle.bohm_ledger.specs.Steps.{with_requests}
use Rattle.bohm_ledger.proofs.Storing as lemma
use Rattle.bohm_ledger.proofs.keep.put_requests.Goals as goal

pub loop-answer-preserved : goal.loop-answer-preserved
loop-answer-preserved g c = record {
  sets = λ clean.
      let before : IsClean (g.S.Store.view c.loop-answer.store) = omega (arith, c.put_request.ensures.quiet.clean) in
      let answers = c.args.answers.now in
      let at = c.loop-answer.answer-index in
      let rows = (g.S.Store.view c.args.store.now).trees request_tree in
      let next : take (at + 1) answers ≡ take at answers ++ c.answer-item.result ∷ [] = take_more answers at c.answer-item.result (omega arith)
      ∙ ap (λ y. take at answers ++ y ∷ []) (sym c.answer-item.is) in
      lemma.sets_more _ _ _ request_tree _ _ _ (c.loop-answer.invariant.sets before) (c.in_ok-put_request.ensures.ok clean)
      (lemma.requests_more c.args.place (take at answers) _ rows ∙ ap (λ es. with_requests c.args.place es rows) (sym next));
  kept = search rules;
  schema = search rules;
  quiet = search rules;
}
