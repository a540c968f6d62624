use Rattle.std.proofs.Common.{◌≡◌, ◌<◌, ◌∙◌, length, get_or, sym, ap, arith}
use Rattle.std.proofs.lemmas.List.{get_or-map, length-map}
use Rattle.bohm_types.specs.Sound.{IsName}
use Rattle.bohm_log.specs.Handles.{keys_named}
use Rattle.bohm_log.specs.declared.key_handle.KeyHandle.{KeyHandle}
use Rattle.bohm_log.proofs.SoundDrafts.{taken_more}
use Rattle.bohm_log.proofs.soundness.are_named.Goals as goal

pub loop-handle-preserved : goal.loop-handle-preserved
loop-handle-preserved c =
    let handles = c.args.handles.now in
    let i = c.loop-handle.handle-index in
    let x = c.handle-item.result in
    let within : i < length handles = c.loop-handle-test.true in
    let key : x.key ≡ get_or (keys_named handles) i x.key =
    ap (λ (h : KeyHandle). h.key) c.handle-item.is ∙ sym (get_or-map (λ (h : KeyHandle). h.key) handles i x x.key within) in
    taken_more IsName (keys_named handles) i x.key (omega (arith, within, length-map handles (λ (h : KeyHandle). h.key))) key
    c.loop-handle.invariant c.has_name.ensures
