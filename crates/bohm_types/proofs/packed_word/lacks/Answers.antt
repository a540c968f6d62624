use Rattle.std.proofs.Common.{◌+◌, arith}
use Rattle.std.specs.Cmp.{unsigned_Decides}
use Rattle.bohm_types.proofs.Marks.{lacks_marked, marked_where_found, marks}
use Rattle.bohm_types.proofs.packed_word.lacks.Goals as goal

pub returns-clause-lacking : goal.returns-clause-lacking
returns-clause-lacking c = λ h.
    let none = (unsigned_Decides (marks c.args.byte (c.args.packed + 0)) 0).0 h in
    lacks_marked c.args.word.now c.args.packed c.args.byte (λ i. omega (arith, c.type_inv.word i)) c.requires.short c.requires.packed none

pub returns-clause-exact : goal.returns-clause-exact
returns-clause-exact c = λ some none.
    (unsigned_Decides (marks c.args.byte (c.args.packed + 0)) 0).1
    (marked_where_found c.args.word.now c.args.packed c.args.byte (λ i. omega (arith, c.type_inv.word i)) c.requires.short c.requires.packed some none)
