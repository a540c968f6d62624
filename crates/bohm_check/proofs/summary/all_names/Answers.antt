use Rattle.std.proofs.Common.{◌≡◌, ◌++◌, ◌∙◌, ℕ, List, Bool, ap, sym}
use Rattle.std.specs.Prelude.{◌||◌, ℤ}
use Rattle.bohm_types.specs.Keys.{is_among, names_of, rising}
use Rattle.bohm_types.specs.Txn.{Txn}
use Rattle.bohm_log.proofs.ForCallers.{among_key_set}
use Rattle.bohm_txn.proofs.ForCallers.{key_set_rises}
use Rattle.bohm_check.specs.Distinct.{is_declared}
use Rattle.bohm_check.proofs.Distinct.{among_append}
use Rattle.bohm_check.proofs.summary.all_names.Goals as goal

pub returns : goal.returns
returns c =
    let declared : List (List ℕ) = c.in_ok-names.names.items in
    let stored : List (List ℕ) = names_of c.args.checked.now.store in
    record {
      rises = ap rising c.sort_keys.ensures ∙ key_set_rises c.add_entry_names.new.names.items;
      same = λ k.
          ap (λ (xs : List (List ℕ)). is_among xs k) c.sort_keys.ensures
          ∙ among_key_set c.add_entry_names.new.names.items k
          ∙ ap (λ (xs : List (List ℕ)). is_among xs k) c.in_ok-add_entry_names.ensures
          ∙ ap (λ (es : List (List ℕ × ℤ)). is_among (declared ++ names_of es) k) c.store.ensures.same
          ∙ among_append declared stored k
          ∙ ap (λ (b : Bool). b || is_among stored k)
          (c.in_ok-names.ensures k ∙ ap (λ (ts : List Txn). is_declared ts k) c.log.ensures.same);
    }
