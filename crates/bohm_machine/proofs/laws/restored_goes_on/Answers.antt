use Rattle.std.proofs.Common.{ℕ, ◌-◌, ap, sym, ◌∙◌, arith}
use Rattle.bohm_txn.specs.Meaning.{Look}
use Rattle.bohm_txn.specs.Serial.{state, replies}
use Rattle.bohm_machine.specs.Machines.{now_of, top_of}
use Rattle.bohm_machine.proofs.laws.restored_goes_on.Goals as goal

pub returns-clause-replies : goal.returns-clause-replies
returns-clause-replies c = λ one other after1 after2 txns a b top now g h. g.replies ∙ ap (λ (l : Look). replies l txns) now ∙ sym h.replies

pub returns-clause-past : goal.returns-clause-past
returns-clause-past c = λ one other after1 after2 txns a b top now g h ts low high.
    g.later ts low high ∙ ap (λ (l : Look). state l txns (ts - top_of one)) now ∙ ap (λ (n : ℕ). state (now_of other) txns (ts - n)) top
    ∙ sym (h.later ts (omega (arith, low, top)) (omega (arith, high, g.top, h.top, top)))
