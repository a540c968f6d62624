use Rattle.std.proofs.Common.{ℕ, ◌+◌, ◌∷◌, length, refl, ap, sym, subst, ◌∙◌, arith, length-append}
use Rattle.std.proofs.lemmas.Bool.{eqb-true}
use Rattle.bohm_text.specs.Step.{Nothing, Between, document_in, progress_of, step}
use Rattle.bohm_text.specs.Windows.{headed}
use Rattle.bohm_text.proofs.Lines.{between_place}
use Rattle.bohm_text.proofs.Stepping.{IsReadTo, line_fault, some_left, all_read, left_open, rest_left, whole_text, count_all}
use Rattle.bohm_text.proofs.WholeTxns.{piece_more, piece_short}
use Rattle.bohm_text.proofs.Headed.{read_head, lines_behind}
use Rattle.bohm_text.proofs.parsing.read_lines.Goals as goal
use Rattle.bohm_text.proofs.parsing.read_lines.Goals.{in_default-place-via-in-Between+else-is_empty, in_default-place-via-in_default-place}

pub lines-init : goal.lines-init
lines-init c = record {
  so_far = rw c.new-reader.ensures.begun (read_head c.args.edition c.args.text.now);
  ready = c.new-reader.ensures.ready;
  short = omega arith;
}

pub returns-in-Err-Bad : goal.returns-in-Err-Bad
returns-in-Err-Bad c = (
  line_fault c.lines.invariant.so_far c.in-Some.line.now c.in-Some.others.now c.in-Some.ensures.lines
      (rw c.in-Err-Bad.field-0-is at c.in-Err-Bad.ensures.fault),
  omega (arith, c.lines.invariant.short, ap length c.in-Some.ensures.bytes, length-append c.in-Some.line.now (10 ∷ c.in-Some.others.now)),
)

pub lines-preserved : goal.lines-preserved
lines-preserved c = record {
  so_far = subst (λ (n : ℕ). IsReadTo step Nothing (headed c.args.edition c.args.text.now) n c.in-Ok.behind.now (progress_of c.read_piece.new.self))
      (omega arith)
      (piece_more Nothing (headed c.args.edition c.args.text.now) c.lines.rest.now c.in-Ok.behind.now (c.lines.count + 1) c.in-Ok.lines
      (progress_of c.lines.reader) (progress_of c.read_piece.new.self) c.lines.invariant.so_far c.in-Ok.ensures.read);
  ready = c.in-Ok.ensures.ready;
  short = omega (
    arith,
    c.lines.invariant.short,
    piece_short c.lines.rest.now c.in-Ok.behind.now c.in-Ok.lines (progress_of c.lines.reader)
        (progress_of c.read_piece.new.self) c.in-Ok.ensures.read,
  );
}

pub returns-in-Between : goal.returns-in-Between
returns-in-Between c = (
  (
    all_read c.lines.invariant.so_far c.in_default.ensures.none ∙ rw c.in-Between.is refl,
    whole_text c.lines.invariant.so_far c.in_default.ensures.none (eqb-true (length c.lines.rest.now) 0 (sym c.if-is_empty.ensures)),
  ),
  lines_behind c.args.edition c.args.text.now c.lines.count (count_all c.lines.invariant.so_far c.in_default.ensures.none),
)

pub returns-in_default-place : goal.returns-in_default-place
returns-in_default-place c = (
  elim c.in_default-place.branch [
    | in_default-place-via-in-Between+else-is_empty w ↦ rest_left c.lines.invariant.so_far c.in_default.ensures.none Between
        (some_left (length c.lines.rest.now) w.if-is_empty.ensures)
    | in_default-place-via-in_default-place w ↦ left_open c.lines.invariant.so_far c.in_default.ensures.none Between
        (λ d e. w.in_default-place.not-Between (between_place c.lines.reader.place (document_in c.lines.reader) d
        c.lines.reader.draft.txn.reads c.lines.reader.draft.txn.writes c.lines.reader.draft.txn.body e))
  ],
  lines_behind c.args.edition c.args.text.now c.lines.count (count_all c.lines.invariant.so_far c.in_default.ensures.none),
)
