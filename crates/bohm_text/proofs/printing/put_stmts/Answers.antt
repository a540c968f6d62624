use Rattle.std.proofs.Common.{◌≡◌, ◌++◌, ◌∷◌, [], map, refl, ◌∙◌, append_assoc}
use Rattle.bohm_text.specs.Print.{line_text, lines_text, stmt_words}
use Rattle.bohm_text.proofs.Printed.{begins_more, print_more}
use Rattle.bohm_text.proofs.printing.put_stmts.Goals as goal

pub loop-index-preserved : goal.loop-index-preserved
loop-index-preserved c =
    let line : c.push.new.self.items ≡ c.loop-index.out.items ++ (line_text (stmt_words c.stmt.result) ++ 10 ∷ []) =
    c.in_ok-push.ensures.items ∙ rw c.in_ok-put_stmt.ensures.ok (append_assoc c.loop-index.out.items (line_text (stmt_words c.stmt.result)) (10 ∷ [])) in
    record {
      begins = begins_more c.args.out.now.items c.loop-index.out.items c.push.new.self.items _ c.loop-index.invariant.begins line;
      text = print_more (λ body. lines_text (map stmt_words body)) c.args.txn.now.body c.loop-index.index c.stmt.result _
          (line_text (stmt_words c.stmt.result) ++ 10 ∷ []) _ _ c.stmt.ensures refl line c.loop-index.invariant.text;
    }
