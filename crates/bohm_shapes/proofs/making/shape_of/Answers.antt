-- The shape's statements are those behind the bindings of the values.
use Rattle.std.proofs.Common.{◌≡◌, drop, map, length, refl, ap, sym, ◌∙◌, arith}
use Rattle.std.specs.List.{between}
use Rattle.std.proofs.lemmas.List.{drop-map}
use Rattle.std.proofs.lemmas.Slice.{between_to_end}
use Rattle.bohm_types.specs.Txn.{Txn}
use Rattle.bohm_log.specs.Parts.{stmt_of}
use Rattle.bohm_shapes.proofs.Slots.{first_taken}
use Rattle.bohm_shapes.proofs.making.shape_of.Goals as goal

pub returns : goal.returns
returns c keys =
    let n = length c.args.values.now in
    let parts = c.args.placed.now in
    let body : map (stmt_of parts) parts.rows ≡ c.args.txn.now.body = ap (λ (t : Txn). t.body) c.requires in
    let rest : map (stmt_of parts) (between n (length parts.rows) parts.rows) ≡ drop n c.args.txn.now.body =
    ap (map (stmt_of parts)) (between_to_end parts.rows n (length parts.rows) (omega arith)) ∙ sym (drop-map (stmt_of parts) n parts.rows)
    ∙ ap (drop n) body in
    record {
      same_edition = c.edition.ensures;
      steps = rw (c.as_slice-2.ensures.value, c.as_slice.ensures.value, c.rows-rows.ensures.rows) at c.in_ok-steps.ensures ∙ rest;
      values = c.in_ok-locals.ensures;
      many = refl;
      writes = first_taken c.writes-writes.result c.in_ok-keys.keys.items c.in_ok-keys.ensures.0 c.len.result c.in_ok-keys.ensures.1 c.len.ensures
          ∙ c.writes-writes.ensures;
      written = c.len.ensures ∙ ap length c.writes-writes.ensures;
    }
