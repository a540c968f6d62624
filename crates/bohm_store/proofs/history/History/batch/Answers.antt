use Rattle.std.proofs.Common.{◌≡◌, ◌∙◌, List, ℕ, ap, subst, sym, true}
use Rattle.std.specs.List.{list_any}
use Rattle.bohm_types.specs.declared.cell.Cell.{Cell}
use Rattle.bohm_types.specs.declared.cell.Cell.TheVariants.{Absent}
use Rattle.bohm_types.specs.Keys.{is_among, rising}
use Rattle.bohm_types.specs.KeySets.{key_set}
use Rattle.bohm_types.specs.Txn.{Txn}
use Rattle.bohm_log.proofs.ForCallers.{among_key_set}
use Rattle.bohm_txn.specs.Meaning.{Look}
use Rattle.bohm_txn.proofs.ForCallers.{key_set_rises, rising_distinct}
use Rattle.bohm_place.specs.Noting.{AreKeysOf, declares_key}
use Rattle.bohm_board.specs.Bases.{declared_keys, keys_of, listed_cells}
use Rattle.bohm_board.proofs.ForCallers.{declared_any}
use Rattle.bohm_store.specs.Versions.{past}
use Rattle.bohm_store.proofs.Bases.{keys_paired, newest_paired}
use Rattle.bohm_store.proofs.history.History.batch.Goals.{In_ok-base}
use Rattle.bohm_store.proofs.history.History.batch.Goals as goal

listed : (c : In_ok-base) → keys_of c.in_ok-base.base.items ≡ key_set (declared_keys c.args.txns.now)
listed c =
    let now = c.args.self.now in
    ap keys_of c.in_ok-base.ensures ∙ keys_paired (past now now.top) c.deref.result.now ∙ c.deref.ensures.value ∙ c.in_ok-keys.ensures

pub new-requires-clause-rises : goal.new-requires-clause-rises
new-requires-clause-rises c = subst (λ (ks : List (List ℕ)). rising ks ≡ true) (sym (listed (goal.at.new-requires-clause-rises c).In_ok-base))
    (key_set_rises (declared_keys c.args.txns.now))

pub new-requires-clause-base : goal.new-requires-clause-base
new-requires-clause-base c =
    let txns = c.args.txns.now in
    let keys = key_set (declared_keys txns) in
    let are : AreKeysOf txns keys = record {
      apart = rising_distinct keys (key_set_rises (declared_keys txns));
      each = λ k. among_key_set (declared_keys txns) k ∙ declared_any txns k;
    } in
    rw c.fork.ensures (subst (AreKeysOf txns) (sym (listed (goal.at.new-requires-clause-base c).In_ok-base)) are)

pub returns-clause-next : goal.returns-clause-next
returns-clause-next c =
    let now = c.args.self.now in
    let keys = c.deref.result.now in
    let hold : List ℕ → Cell = past now now.top in
    record {
      first = c.new.ensures.first ∙ (c.first.ensures ∙ c.requires.first);
      base = λ k declared.
          let here : list_any (declares_key k) c.args.txns.now ≡ true =
          subst (λ (ts : List Txn). list_any (declares_key k) ts ≡ true) (c.new.ensures.txns ∙ c.fork.ensures) declared in
          let all : keys ≡ key_set (declared_keys c.args.txns.now) = c.deref.ensures.value ∙ c.in_ok-keys.ensures in
          let among : is_among keys k ≡ true =
          ap (λ (ks : List (List ℕ)). is_among ks k) all ∙ (among_key_set (declared_keys c.args.txns.now) k ∙ declared_any c.args.txns.now k) ∙ here in
          ap (λ (look : Look). look k) c.new.ensures.base ∙ ap (λ (es : List (List ℕ × Cell)). listed_cells es k) c.in_ok-base.ensures
          ∙ newest_paired hold keys k Absent among;
    }
