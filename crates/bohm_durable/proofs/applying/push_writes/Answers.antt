use Rattle.std.proofs.Common.{◌≡◌, ◌+◌, ◌∷◌, [], ◌++◌, List, ℕ, take, ap, sym, ◌∙◌, append_assoc, arith}
use Rattle.std.proofs.lemmas.List.{take_more}
use Rattle.std.proofs.lemmas.Option.{get_or_from_slice_get}
use Rattle.bohm_durable.proofs.applying.push_writes.Goals as goal

pub keys-preserved : goal.keys-preserved
keys-preserved c =
    let writes = c.writes-writes.result in
    let place = c.keys.place in
    let key = c.key.result.now in
    let more : take (place + 1) writes ≡ take place writes ++ key ∷ [] = take_more writes place key (omega arith)
    ∙ ap (λ (k : List ℕ). take place writes ++ k ∷ []) (get_or_from_slice_get writes place key key c.key.ensures) in
    c.in_ok-push.ensures.items ∙ (ap (λ (ks : List (List ℕ)). ks ++ key ∷ []) c.keys.invariant
    ∙ (append_assoc c.args.changed.now.items (take place writes) (key ∷ []) ∙ ap (λ (ks : List (List ℕ)). c.args.changed.now.items ++ ks) (sym more)))
