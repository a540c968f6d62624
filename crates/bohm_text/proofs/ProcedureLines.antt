-- Reading a procedure's text line by line.
use Rattle.std.proofs.Common.{◌≡◌, [], List, ℕ, Some, None, refl}
use Rattle.bohm_types.specs.declared.edition.Edition.{Edition}
use Rattle.bohm_log.specs.Drafting.{Drafted}
use Rattle.bohm_types.specs.Procedure.{Procedure}
use Rattle.bohm_text.specs.Print.{Words}
use Rattle.bohm_text.specs.declared.procedures.ParamPlace.{ParamPlace}
use Rattle.bohm_text.specs.declared.procedures.ParamPlace.TheVariants as places
use Rattle.bohm_text.specs.ProcedureText.{Nothing, Keys, Done, edition_of, stage_after}
use Rattle.bohm_text.specs.ProcedureReading.{stage_at}

-- a valid head line leads to the first stage
pub stage-head : (line : List ℕ) (edition : Edition) → edition_of line ≡ Some edition → stage_after Nothing line ≡ Some (Keys edition [])
unfolding stage_after
stage-head line edition e = rw e refl

pub stage-head_bad : (line : List ℕ) → edition_of line ≡ None → stage_after Nothing line ≡ None
unfolding stage_after
stage-head_bad line e = rw e refl

-- the stage is `Done` only at the place `Done`
pub done_place : (place : ParamPlace) (e : Edition) (ks vs : Words) (d : Drafted) (p : Procedure) → stage_at place e ks vs d ≡ Done p → place ≡ places.Done
done_place places.Keys e ks vs d p h = absurd cc
done_place places.Values e ks vs d p h = absurd cc
done_place places.Reading e ks vs d p h = absurd cc
done_place places.Body e ks vs d p h = absurd cc
done_place places.Done e ks vs d p h = refl
