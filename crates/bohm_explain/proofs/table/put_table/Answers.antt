use Rattle.std.proofs.Common.{◌∙◌, List, [], ◌∷◌, ◌++◌, ℕ, ap, append-nil, codes}
use Rattle.std.proofs.lemmas.Result.{IfOk-weaker}
use Rattle.bohm_explain.specs.declared.figures.Totals.{Totals}
use Rattle.bohm_explain.specs.Figures.{totals_of}
use Rattle.bohm_explain.specs.Pieces.{left_cell}
use Rattle.bohm_explain.specs.Table.{counts_text, head_line, part_rows, table_text}
use Rattle.bohm_explain.proofs.Appended.{more}
use Rattle.bohm_explain.proofs.table.put_table.Goals as goal

pub returns : goal.returns
unfolding table_text
returns c =
    let ps = c.args.parts.now in
    let start = c.args.out.now.items in
    let rows = part_rows c.args.summary ps in
    let all = left_cell 25 (codes "    all") in
    let to_rows = more start _ _ (head_line ∷ []) rows c.in_ok-put.ensures c.in_ok-put_parts.ensures in
    let to_all = more start _ _ (head_line ∷ rows ∷ []) all to_rows
    (c.in_ok-put-2.ensures ∙ ap (λ (w : List ℕ). c.put_parts.new.out.items ++ w) (append-nil all)) in
    IfOk-weaker c.put_counts.result _ _ (λ x is. more start _ _ (head_line ∷ rows ∷ all ∷ []) (counts_text (totals_of ps)) to_all
    (is ∙ ap (λ (t : Totals). c.put-2.new.out.items ++ counts_text t) c.of.ensures)) c.put_counts.ensures
