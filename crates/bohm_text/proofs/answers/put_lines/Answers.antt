use Rattle.std.proofs.Common.{◌≡◌, ℕ, ◌+◌, List, [], ◌∷◌, ◌++◌, drop, ap, sym, ◌∙◌, arith, append_assoc, append-nil}
use Rattle.bohm_txn.specs.declared.outcome.Reply.{Reply}
use Rattle.bohm_txn.specs.ReplyRows.{reply_shown}
use Rattle.bohm_txn.proofs.ForCallers.{drop_at}
use Rattle.bohm_text.specs.Print.{line_text, lines_text, print_numbered, reply_lines, reply_words}
use Rattle.bohm_text.proofs.Printed.{begins_more}
use Rattle.bohm_text.proofs.answers.put_lines.Goals as goal

pub loop-index-preserved : goal.loop-index-preserved
loop-index-preserved c =
    let i = c.loop-index.index in
    let t = c.args.first + i in
    let rs = c.args.replies.now in
    let x = reply_shown c.get.result in
    let out = c.loop-index.out.items in
    let line : List ℕ = line_text (reply_words t x) ++ 10 ∷ [] in
    let count : c.args.first + (i + 1) ≡ t + 1 = omega arith in
    let one : print_numbered t (x ∷ []) ≡ line = append-nil line in
    let longer : c.put_reply.new.out.items ≡ out ++ line = c.in_ok-put_reply.ensures.ok
    ∙ ap (λ (r : Reply). out ++ print_numbered t (r ∷ [])) c.parts-outcome.ensures ∙ ap (λ (text : List ℕ). out ++ text) one in
    let rest : lines_text (reply_lines t (drop i rs)) ≡ line ++ lines_text (reply_lines (t + 1) (drop (i + 1) rs)) =
    ap (λ (list : List Reply). lines_text (reply_lines t list)) (drop_at rs i x c.get.ensures) in
    record {
      begins = begins_more c.args.out.now.items out c.put_reply.new.out.items line c.loop-index.invariant.begins longer;
      text = rw (longer, count) (append_assoc out line (lines_text (reply_lines (t + 1) (drop (i + 1) rs)))
          ∙ ap (λ (text : List ℕ). out ++ text) (sym rest) ∙ c.loop-index.invariant.text);
    }
