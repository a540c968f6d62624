use Rattle.std.proofs.Common.{◌≡◌, ◌++◌, Bool, List, ℕ, ap, length, sym, ◌∙◌}
use Rattle.std.specs.Prelude.{◌==◌}
use Rattle.bohm_tidy.specs.Line.{exact_line}
use Rattle.bohm_tidy.specs.Plain.{Written, added, signs_at, with_line, written_of}
use Rattle.bohm_tidy.proofs.ByWords.{added_none, added_some, none_left}
use Rattle.bohm_tidy.proofs.plain.Plain.feed.Goals as goal
use Rattle.bohm_text.proofs.ForCallers.{some_left}

pub returns-then-is_empty : goal.returns-then-is_empty
returns-then-is_empty c =
    let before : Written = written_of c.args.self.now in
    let line : List ℕ = c.put_line.new.out.items in
    let made : line ≡ exact_line (signs_at c.args.self.now.place) c.args.line.now =
    c.in_ok-put_line.ensures ∙ ap (λ (ys : List ℕ). ys ++ exact_line c.signs_at.result c.args.line.now) c.clear.ensures.items
    ∙ ap (λ (s : Bool). exact_line s c.args.line.now) c.signs_at.ensures in
    sym (ap (λ (l : List ℕ). added l before) (sym made)
    ∙ added_none line before (none_left (length line) (c.if-is_empty.ensures ∙ ap (λ (bs : List ℕ). length bs == 0) c.as_slice.ensures.value)))

pub returns : goal.returns
returns c =
    let before : Written = written_of c.args.self.now in
    let line : List ℕ = c.put_line.new.out.items in
    let made : line ≡ exact_line (signs_at c.args.self.now.place) c.args.line.now =
    c.in_ok-put_line.ensures ∙ ap (λ (ys : List ℕ). ys ++ exact_line c.signs_at.result c.args.line.now) c.clear.ensures.items
    ∙ ap (λ (s : Bool). exact_line s c.args.line.now) c.signs_at.ensures in
    c.in_ok-put.ensures
    ∙ ap (λ (l : List ℕ). with_line l (written_of c.fill.new.self)) c.in_ok-fill.ensures.line
    ∙ ap (λ (w : Written). with_line line w) c.in_ok-fill.ensures.filled
    ∙ sym (added_some line before (some_left (length line) (c.if-is_empty.ensures ∙ ap (λ (bs : List ℕ). length bs == 0) c.as_slice.ensures.value)))
    ∙ ap (λ (l : List ℕ). added l before) made
