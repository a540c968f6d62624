use Rattle.std.proofs.Common.{◌≡◌, ◌++◌, ◌∷◌, [], ◌∙◌, ◌<◌, ℕ, List, Some, length, map, take, ap, sym, append-nil}
use Rattle.std.specs.List.{slice_get}
use Rattle.std.proofs.lemmas.List.{map-append}
use Rattle.std.proofs.lemmas.List.Elements.{All-push}
use Rattle.bohm_txn.specs.Meaning.{Look}
use Rattle.bohm_exec.specs.Answers.{batch_of_finished}
use Rattle.bohm_exec.specs.Moments.{state_after}
use Rattle.bohm_store.specs.Versions.{KeyedVersion}
use Rattle.bohm_store.specs.declared.numbered_write.NumberedWrite.{NumberedWrite}
use Rattle.bohm_store.specs.Writes.{named_write, names_with, txn_writes}
use Rattle.bohm_store.proofs.Names.{placed_at}
use Rattle.bohm_store.proofs.NumberedWrites.{below_longer, longer_writes}
use Rattle.bohm_store.proofs.WrittenVersions.{written_push}
use Rattle.bohm_store.proofs.listed_writes.WriteLister.list_txn.Goals as goal
use Rattle.bohm_log.proofs.ForCallers.{Begins-itself, Begins-trans}

pub loop-i-init : goal.loop-i-init
loop-i-init c =
    let names = names_with c.args.self.now.names.now c.args.listed.now.fresh.items in
    record {
      longer = Begins-itself names;
      below = c.requires.below;
      listed = sym (append-nil (map (named_write names) c.args.listed.now.writes.items));
    }

pub loop-i-preserved : goal.loop-i-preserved
loop-i-preserved c =
    let start = names_with c.args.self.now.names.now c.args.listed.now.fresh.items in
    let names = names_with c.args.self.now.names.now c.loop-i.listed.fresh.items in
    let names' = names_with c.args.self.now.names.now c.number_of.new.fresh.items in
    let out = c.loop-i.listed.writes.items in
    let keys = c.args.keys.now in
    let i = c.loop-i.i in
    let number : ℕ = c.in_ok-number.number in
    let k = c.key.result.now in
    let look : Look = state_after (batch_of_finished c.args.finished.now) c.args.t in
    let (x, at, same, few) = c.requires.keys in
    let here : slice_get keys i ≡ Some k = c.key.ensures in
    let cell : look k ≡ c.cell-cell.result = c.cell-cell.ensures x k at (ap (λ (js : List (List ℕ)). slice_get js i) same ∙ here) in
    let w : NumberedWrite = record { number = number; version = record { begin = c.args.t; cell = c.cell-cell.result } } in
    let was = c.loop-i.invariant in
    let longer = c.number_of.ensures.longer in
    let (inside, is) = placed_at names' k number c.in_ok-number.ensures.named in
    let before = map (named_write start) c.args.listed.now.writes.items in
    record {
      longer = Begins-trans start names names' was.longer longer;
      below =
          rw c.in_ok-push.ensures.items (All-push (λ (y : NumberedWrite). y.number < length names') out w
          (below_longer names names' out longer was.below) inside);
      listed = ap (λ (ws : List NumberedWrite). map (named_write names') ws) c.in_ok-push.ensures.items
          ∙ map-append (named_write names') out (w ∷ [])
          ∙ ap (λ (ws : List KeyedVersion). ws ++ named_write names' w ∷ []) (longer_writes names names' out longer was.below ∙ was.listed)
          ∙ ap (λ (j : List ℕ). (before ++ txn_writes c.args.t look (take i keys)) ++ record { begin = c.args.t; key = j; cell = c.cell-cell.result } ∷ []) is
          ∙ written_push c.args.t look keys i k c.cell-cell.result before here cell;
    }
