use Rattle.std.proofs.Common.{sym}
use Rattle.bohm_machine.specs.Machines.{top_of}
use Rattle.bohm_c.proofs.agreeing.snapshot_answers_alike.Goals as goal

pub returns : goal.returns
returns c = λ one other after1 after2 snapshot text a b shot opened h k.
    let holds = c.snapshot_goes_on.ensures one.machine snapshot other shot opened in
    c.one_status.ensures.answer one other after1 after2 text a b (record { top = sym opened.opened.top; holds = sym holds }) h k
