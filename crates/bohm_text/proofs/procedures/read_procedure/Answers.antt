use Rattle.std.proofs.Common.{length, sym, ◌∙◌, []}
use Rattle.bohm_text.specs.ProcedureText.{Nothing, Keys, Done, stage_after}
use Rattle.bohm_text.specs.ProcedureReading.{stage_of}
use Rattle.bohm_text.proofs.ProcedureLines.{stage-head, stage-head_bad, done_place}
use Rattle.bohm_text.proofs.Stepping.{read_none, line_fault, read_more, some_left, left_open, rest_left}
use Rattle.bohm_text.proofs.procedures.read_procedure.Goals as goal
use Rattle.bohm_text.proofs.procedures.read_procedure.Goals.{in_default-place-via-in-Done+else-is_empty, in_default-place-via-in_default-place}

pub returns-in_default-read_edition : goal.returns-in_default-read_edition
returns-in_default-read_edition c =
    line_fault (read_none stage_after Nothing c.args.text.now) c.in-Some.head.now c.in-Some.others.now
    c.in-Some.ensures.lines (stage-head_bad c.in-Some.head.now (sym c.read_edition.ensures ∙ c.in_default-read_edition.is))

pub lines-init : goal.lines-init
lines-init c =
    record {
      so_far = rw c.new-reader.ensures.begun
          (read_more (read_none stage_after Nothing c.args.text.now) c.in-Some.head.now c.in-Some.others.now
          c.in-Some.ensures.lines c.in-Some.ensures.bytes (Keys c.in-Some-read_edition.edition [])
          (stage-head c.in-Some.head.now c.in-Some-read_edition.edition (sym c.read_edition.ensures ∙ c.in-Some-read_edition.is)));
      ready = c.new-reader.ensures.ready;
    }

pub returns-in-Err-Bad : goal.returns-in-Err-Bad
returns-in-Err-Bad c =
    line_fault c.lines.invariant.so_far c.in-Some-split_line.line.now
    c.in-Some-split_line.others.now c.in-Some-split_line.ensures.lines (rw c.in-Err-Bad.field-0-is at c.in-Err-Bad.ensures.next)

pub lines-preserved : goal.lines-preserved
lines-preserved c =
    record {
      so_far = read_more c.lines.invariant.so_far
          c.in-Some-split_line.line.now c.in-Some-split_line.others.now c.in-Some-split_line.ensures.lines c.in-Some-split_line.ensures.bytes
          (stage_of c.feed.new.self) c.in-Ok.ensures.next;
      ready = c.in-Ok.ensures.ready;
    }

pub returns-in_default-place : goal.returns-in_default-place
returns-in_default-place c =
    elim c.in_default-place.branch [
      | in_default-place-via-in-Done+else-is_empty w ↦ rest_left c.lines.invariant.so_far c.in_default-split_line.ensures.none Done
          (some_left (length c.lines.rest.now) w.if-is_empty.ensures)
      | in_default-place-via-in_default-place w ↦ left_open c.lines.invariant.so_far c.in_default-split_line.ensures.none Done
          (λ p e. w.in_default-place.not-Done (done_place c.lines.reader.place c.lines.reader.edition c.lines.reader.keys.items
          c.lines.reader.values.items c.lines.reader.draft p e))
    ]
