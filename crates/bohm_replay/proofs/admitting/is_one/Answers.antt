use Rattle.std.proofs.Common.{◌≡◌, length, arith}
use Rattle.std.proofs.lemmas.Bool.Decides.{nat_tests}
use Rattle.std.proofs.lemmas.List.{nil_from_length}
use Rattle.bohm_replay.proofs.Admitted as lemma
use Rattle.bohm_replay.proofs.admitting.is_one.Goals as goal

pub returns-in-Some-clause-yes : goal.returns-in-Some-clause-yes
returns-in-Some-clause-yes c empty =
    let none : length c.in-Some.rest.now ≡ 0 = grind (arith, nat_tests) in
    lemma.one_cut c.args.text.now c.in-Some.field-0-0.now c.in-Some.rest.now c.in-Some.ensures.bytes (nil_from_length _ none) c.in-Some.ensures.whole
    c.in-Some.ensures.entries
