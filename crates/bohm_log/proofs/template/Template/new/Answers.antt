use Rattle.std.proofs.Common.{◌≡◌, ℕ, List, ◌∙◌, refl, sym, subst, ap, length, arith}
use Rattle.std.proofs.lemmas.List.{length-map}
use Rattle.bohm_log.specs.Calling.{declared_name}
use Rattle.bohm_log.specs.Parts.{Parts}
use Rattle.bohm_log.specs.Drafting.{parts_of}
use Rattle.bohm_log.specs.SoundLogs.{AreNames, IsSoundProcedure}
use Rattle.bohm_log.proofs.InstanceSound.{procedure_sound}
use Rattle.bohm_log.proofs.Standing.{with_others}
use Rattle.bohm_log.proofs.Locals.{made, made_well}
use Rattle.bohm_log.proofs.Measuring.{filled_made}
use Rattle.bohm_log.proofs.Arguments.{parts_made, ready_made, template_made}
use Rattle.bohm_log.proofs.template.Template.new.Goals as goal

pub invariant_of-result : goal.invariant_of-result
invariant_of-result g c =
    let p : Parts = parts_of c.into_parts-edition.result.1 in
    let keys : List (List ℕ) = c.args.keys.items in
    let names : c.in_ok-names.names.items ≡ c.place_names.new.others = c.in_ok-names.ensures.items ∙ c.as_slice.ensures.names in
    let r = rw (c.as_slice-2.ensures.value, c.as_slice-3.ensures.value) at c.in_ok-reads.ensures.reads in
    let w = rw (c.as_slice-2.ensures.value, c.as_slice-4.ensures.value) at c.in_ok-reads.ensures.writes in
    let parts = parts_made keys _ _ _ (with_others p c.place_names.new.others) r w names in
    let own =
    made_well c.into_parts-edition.result.0 p _ c.args.draft.txn c.args.values.now _ c.into_parts-edition.ensures.same c.into_parts-edition.ensures.within
    c.in_ok-place_names.ensures.grows c.in_ok-place_names.ensures.places c.as_slice.ensures.apart c.requires.lets c.requires.few_reads
    c.requires.few_writes c.requires.reads c.requires.writes in
    let is =
    made c.into_parts-edition.result.0 p _ _ c.args.draft.txn keys c.args.values.now c.place_names.new.places.items parts
    c.into_parts-edition.ensures.same c.into_parts-edition.ensures.within c.in_ok-place_names.ensures.grows c.in_ok-place_names.ensures.places in
    let few : length c.as_slice-3.result.now ≡ length c.in_ok-reads.field-0.reads.items =
    omega (arith, ap length c.as_slice-3.ensures.value, ap length r, length-map p.reads (declared_name keys)) in
    let many : length c.as_slice-4.result.now ≡ length c.in_ok-reads.field-0.writes.items =
    omega (arith, ap length c.as_slice-4.ensures.value, ap length w, length-map p.writes (declared_name keys)) in
    let named : AreNames keys = rw c.as_slice-10.ensures.value at c.are_names.ensures in (
      template_made keys _ _ _ parts own r w
          (λ is. sym c.as_slice-8.ensures.value ∙ c.are_same-same_sets.ensures is ∙ c.as_slice-9.ensures.value)
          (ready_made _ _ _ _ _ _ _ c.as_slice-5.ensures.value c.as_slice-6.ensures.value c.as_slice-7.ensures.value few many
          c.in_ok-reads.ensures.rising c.in_ok-reads.ensures.falling),
      subst IsSoundProcedure (sym is) (procedure_sound c.args.draft.txn keys c.args.values.now c.into_parts-edition.ensures.sound named c.are_names-2.ensures),
      filled_made p _ c.args.draft keys c.args.values.now _ c.into_parts-edition.ensures.counted refl refl refl
          (omega (arith, ap length names, c.in_ok-place_names.ensures.longer)) is c.requires.short,
    )

pub returns-clause-ok : goal.returns-clause-ok
returns-clause-ok g c =
    let p : Parts = parts_of c.into_parts-edition.result.1 in
    made c.into_parts-edition.result.0 p _ _ c.args.draft.txn c.args.keys.items c.args.values.now c.place_names.new.places.items
    (parts_made c.args.keys.items _ _ _ (with_others p c.place_names.new.others)
    (rw (c.as_slice-2.ensures.value, c.as_slice-3.ensures.value) at c.in_ok-reads.ensures.reads)
    (rw (c.as_slice-2.ensures.value, c.as_slice-4.ensures.value) at c.in_ok-reads.ensures.writes)
    (c.in_ok-names.ensures.items ∙ c.as_slice.ensures.names))
    c.into_parts-edition.ensures.same c.into_parts-edition.ensures.within c.in_ok-place_names.ensures.grows c.in_ok-place_names.ensures.places
