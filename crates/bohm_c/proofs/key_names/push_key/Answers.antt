use Rattle.std.proofs.Common.{◌∙◌, ◌++◌, ◌∷◌, [], ℕ, List, ap, sym}
use Rattle.std.proofs.lemmas.List.{map-append}
use Rattle.bohm_log.specs.Handles.{keys_named}
use Rattle.bohm_log.specs.declared.key_handle.KeyHandle.{KeyHandle}
use Rattle.bohm_c.proofs.Numbered.{shared_key}
use Rattle.bohm_c.proofs.key_names.push_key.Goals as goal

pub returns-in_ok-push-in-Some : goal.returns-in_ok-push-in-Some
returns-in_ok-push-in-Some c =
    let old = c.args.keys.now.items in
    ap keys_named c.in_ok-push-in-Some.ensures.items ∙ map-append (λ (h : KeyHandle). h.key) old (c.in-Some.key ∷ [])
    ∙ ap (λ (k : List ℕ). keys_named old ++ k ∷ []) (sym (shared_key c.args.shared.now (keys_named c.args.own.now) _ c.args.number c.in-Some.ensures.some))
