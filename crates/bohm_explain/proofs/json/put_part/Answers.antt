use Rattle.std.proofs.Common.{◌≡◌, ◌∙◌, ℕ, List, [], ◌∷◌, ◌++◌, ap, codes, decimal}
use Rattle.std.proofs.lemmas.Result.{IfOk-weaker}
use Rattle.bohm_explain.specs.declared.figures.Totals.{Totals}
use Rattle.bohm_explain.specs.Figures.{alone}
use Rattle.bohm_explain.specs.Json.{figures_json, part_json}
use Rattle.bohm_explain.specs.Pieces.{joined}
use Rattle.bohm_explain.specs.Table.{word_for}
use Rattle.bohm_explain.proofs.Appended.{more}
use Rattle.bohm_explain.proofs.json.put_part.Goals as goal

pub returns : goal.returns
unfolding part_json
returns c =
    let p = c.args.part.now in
    let start = c.args.out.now.items in
    let figures = figures_json (alone p.figures) in
    let texts : List (List ℕ) = codes "\n{\"from\":" ∷ decimal p.first ∷ codes ",\"run\":\"" ∷ word_for p.sharing ∷ codes "\",\"figures\":" ∷ [] in
    let opened : c.put.new.out.items ≡ start ++ joined texts = rw (c.from.ensures, c.word_for.ensures) at c.in_ok-put.ensures in
    let counted = more start _ _ texts figures opened
    (c.in_ok-put_figures.ensures ∙ ap (λ (t : Totals). c.put.new.out.items ++ figures_json t) c.from-2.ensures) in
    IfOk-weaker c.put-2.result _ _ (λ x is. more start _ _ (texts ++ figures ∷ []) (codes "}") counted is) c.put-2.ensures
