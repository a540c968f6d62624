use Rattle.std.proofs.Common.{◌∙◌, List, ℕ, subst}
use Rattle.bohm_log.specs.Drafting.{parts_of, KeyStands, keys_of}
use Rattle.bohm_log.proofs.Failing.{on_err}
use Rattle.bohm_log.proofs.Standing.{others_grow, name_stands, named_came, row_unseen, with_others}
use Rattle.bohm_log.proofs.draft_columns.DraftColumns.add_named.Goals as goal

pub returns-in_err-declared-clause-err : goal.returns-in_err-declared-clause-err
returns-in_err-declared-clause-err g c = on_err _ (others_grow (parts_of c.args.self.now) c.place_name.new.others c.in_err-declared.ensures.grows)

pub returns-in-Err-clause-err : goal.returns-in-Err-clause-err
returns-in-Err-clause-err g c =
    c.cut_back.ensures.grows (parts_of c.args.self.now)
    (row_unseen (parts_of c.args.self.now) c.place_name.new.others _ c.in_ok-declared.ensures.grows c.in-Err.ensures.items)
    c.requires.compact

pub returns-clause-ok : goal.returns-clause-ok
returns-clause-ok g c =
    let p = parts_of c.args.self.now in
    let keys = c.keys_of-keys.ensures ∙ (λ i. keys_of c.args.action (c.as_slice.ensures.value i) (c.as_slice-2.ensures.value i)) in
    let stands : KeyStands (keys_of c.args.action p.reads p.writes) c.place_name.new.others c.in_ok-declared.declared c.in_ok-declared.place c.args.name =
    subst (λ (ks : List (List ℕ)). KeyStands ks c.place_name.new.others c.in_ok-declared.declared c.in_ok-declared.place c.args.name) keys
    c.in_ok-declared.ensures.ok in
    named_came p c.place_name.new.others _ _ _ _ _ _ _ _ _ c.in_ok-declared.ensures.grows
    (name_stands (with_others p c.place_name.new.others) _ _ _ _ c.requires.named stands) c.in_default.ensures.items
