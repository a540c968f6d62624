use Rattle.bohm_log.proofs.Standing.{key_declared, key_other}
use Rattle.bohm_log.proofs.draft_columns.places.place_name.Goals as goal

pub returns-in-Some-clause-ok : goal.returns-in-Some-clause-ok
returns-in-Some-clause-ok g c = key_declared c.args.keys.now c.args.others.now c.in-Some.place c.args.name c.in-Some.ensures.found

pub returns-in_ok-place_other-in-None-clause-ok : goal.returns-in_ok-place_other-in-None-clause-ok
returns-in_ok-place_other-in-None-clause-ok g c = key_other c.args.keys.now c.place_other.new.others c.in_ok-place_other-in-None.field-0 c.args.name
    c.in_ok-place_other-in-None.ensures.ok c.in-None.ensures.none
