use Rattle.std.proofs.Common.{◌≡◌, ◌∙◌, ◌<◌, List, ℕ, [], map, length, ap, sym, subst, true, Some, slice_get, get_or, arith}
use Rattle.std.specs.List.{list_any}
use Rattle.std.proofs.lemmas.List.{length-map}
use Rattle.std.proofs.lemmas.Option.{same_Some, slice_get-get_or, slice_get-map, slice_get_within}
use Rattle.std.specs.Option.{option_map}
use Rattle.bohm_types.specs.declared.cell.Cell.{Cell}
use Rattle.bohm_types.specs.declared.cell.Cell.TheVariants.{Absent}
use Rattle.bohm_types.specs.Keys.{is_among}
use Rattle.bohm_types.specs.Txn.{Txn}
use Rattle.bohm_txn.specs.Meaning.{Look}
use Rattle.bohm_txn.proofs.ForCallers.{among_at}
use Rattle.bohm_place.specs.Noting.{declares_key}
use Rattle.bohm_board.specs.declared.transactions.Transactions.{Transactions}
use Rattle.bohm_board.specs.Bases.{declared_keys, keys_of, listed_cells, txns_in, AreSteady}
use Rattle.bohm_board.proofs.ForCallers.{declared_any}
use Rattle.bohm_store.specs.Versions.{past}
use Rattle.bohm_store.proofs.Bases.{keys_paired, newest_paired}
use Rattle.bohm_store.proofs.history.History.own_batch.Goals as goal

abbrev Entry : Type 0
Entry = List ℕ × Cell

-- entries whose cells are given by their keys are steady
steady : (f : List ℕ → Cell) (ks : List (List ℕ)) → AreSteady (map (λ k. (k, f k)) ks)
steady f ks i e at =
    let v : List ℕ → Entry = λ k. (k, f k) in
    let low : i < length ks = omega (arith, slice_get_within (map v ks) i e at, length-map ks v) in
    let k = get_or ks i [] in
    let here : slice_get ks i ≡ Some k = slice_get-get_or ks i [] low in
    let same : v k ≡ e = same_Some (v k) e (ap (option_map v) (sym here) ∙ sym (slice_get-map v ks i) ∙ at) in
    subst (λ (x : Entry). listed_cells (map v ks) x.0 ≡ x.1) same (newest_paired f ks k Absent (among_at ks i k here))

pub own-requires-clause-keys : goal.own-requires-clause-keys
own-requires-clause-keys c =
    let now = c.args.self.now in
    ap keys_of c.in-Ok.ensures ∙ keys_paired (past now now.top) (declared_keys c.log.result) ∙ ap declared_keys c.log.ensures.same

pub own-requires-clause-steady : goal.own-requires-clause-steady
own-requires-clause-steady c =
    let now = c.args.self.now in
    subst AreSteady (sym c.in-Ok.ensures) (steady (past now now.top) (declared_keys c.log.result))

pub returns-in-Ok-clause-next : goal.returns-in-Ok-clause-next
returns-in-Ok-clause-next c =
    let now = c.args.self.now in
    let hold : List ℕ → Cell = past now now.top in
    let log = c.log.result in
    record {
      first = c.own.ensures.first ∙ c.requires.first;
      base = λ k declared.
          let there : list_any (declares_key k) c.args.document.log ≡ true =
          subst (λ (ts : Transactions). list_any (declares_key k) (txns_in ts) ≡ true) c.own.ensures.owns declared in
          let here : list_any (declares_key k) log ≡ true = subst (λ (ts : List Txn). list_any (declares_key k) ts ≡ true) (sym c.log.ensures.same) there in
          let among : is_among (declared_keys log) k ≡ true = declared_any log k ∙ here in
          ap (λ (look : Look). look k) c.own.ensures.base ∙ ap (λ (es : List Entry). listed_cells es k) c.in-Ok.ensures
          ∙ newest_paired hold (declared_keys log) k Absent among;
    }
