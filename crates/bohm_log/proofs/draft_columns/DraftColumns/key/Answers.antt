use Rattle.std.proofs.Common.{◌≡◌, ℕ, List, Some, subst, slice_get}
use Rattle.bohm_log.specs.Parts.{IsApart}
use Rattle.bohm_log.specs.Drafting.{parts_of}
use Rattle.bohm_log.proofs.Standing.{others_grow, with_others, read_stands, unread_stands}
use Rattle.bohm_log.proofs.draft_columns.DraftColumns.key.Goals as goal

pub returns-in_err-place_other-in-None-clause-grows : goal.returns-in_err-place_other-in-None-clause-grows
returns-in_err-place_other-in-None-clause-grows g c = others_grow (parts_of c.args.self.now) c.place_other.new.others c.in_err-place_other-in-None.ensures.grows

pub returns-in_ok-place_other-in-None-clause-grows : goal.returns-in_ok-place_other-in-None-clause-grows
returns-in_ok-place_other-in-None-clause-grows g c = others_grow (parts_of c.args.self.now) c.place_other.new.others c.in_ok-place_other-in-None.ensures.grows

pub returns-in-Some-clause-ok : goal.returns-in-Some-clause-ok
returns-in-Some-clause-ok g c =
    read_stands (parts_of c.args.self.now) c.in-Some.place c.args.name c.args.minus
    (subst (λ (ks : List (List ℕ)). slice_get ks c.in-Some.place ≡ Some c.args.name) c.as_slice.ensures.value c.in-Some.ensures.found)

pub returns-in_ok-place_other-in-None-clause-ok : goal.returns-in_ok-place_other-in-None-clause-ok
returns-in_ok-place_other-in-None-clause-ok g c =
    unread_stands (with_others (parts_of c.args.self.now) c.place_other.new.others) c.in_ok-place_other-in-None.field-0 c.args.name c.args.minus
    c.in_ok-place_other-in-None.ensures.ok
    (subst (λ (ks : List (List ℕ)). IsApart ks c.args.name) c.as_slice.ensures.value c.in-None.ensures.none)
