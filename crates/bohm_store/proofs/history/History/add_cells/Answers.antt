use Rattle.std.proofs.Common.{◌≡◌, ◌∙◌, ◌+◌, ◌++◌, ◌∷◌, [], List, ℕ, map, drop, ap, sym, append_assoc}
use Rattle.bohm_types.specs.declared.cell.Cell.{Cell}
use Rattle.bohm_txn.proofs.ForCallers.{drop_at}
use Rattle.bohm_store.specs.Versions.{Timeline, past}
use Rattle.bohm_store.proofs.history.History.add_cells.Goals as goal

abbrev Entry : Type 0
Entry = List ℕ × Cell

pub loop-place-preserved : goal.loop-place-preserved
loop-place-preserved c =
    let now = c.args.self.now in
    let f : List ℕ → Entry = λ k. (k, past now now.top k) in
    let k = c.key-key.result.now in
    let keys = c.args.keys.now in
    let n = c.loop-place.place in
    let cells = c.loop-place.cells.items in
    let cell = c.cell_by-cell.ensures ∙ ap (λ (t : Timeline). past t t.top k) c.self.view_is in
    let entry : (k, c.cell_by-cell.result) ≡ f k = ap (λ (z : Cell). (k, z)) cell in
    let pushed : c.push.new.self.items ≡ cells ++ f k ∷ [] = c.in_ok-push.ensures.items ∙ ap (λ (e : Entry). cells ++ e ∷ []) entry in
    ap (λ (es : List Entry). es ++ map f (drop (n + 1) keys)) pushed
    ∙ append_assoc cells (f k ∷ []) (map f (drop (n + 1) keys))
    ∙ ap (λ (ks : List (List ℕ)). cells ++ map f ks) (sym (drop_at keys n k c.key-key.ensures))
    ∙ c.loop-place.invariant
