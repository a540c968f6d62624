use Rattle.std.proofs.Common.{sym, ap, ◌∙◌, is_ok, subst, All, ◌<◌, List, ℕ}
use Rattle.std.specs.Str.{bytes_eq}
use Rattle.std.proofs.lemmas.Result.{IfOk-weaker}
use Rattle.bohm_txn.proofs.ForCallers.{same_key}
use Rattle.bohm_place.specs.Chains.{items_at, begins, last_or, none}
use Rattle.bohm_place.proofs.Keyed.{lookup_table}
use Rattle.bohm_place.proofs.Rising.{rises_appended}
use Rattle.bohm_place.proofs.places.Places.annotate.Goals as goal

pub invariant_of-self : goal.invariant_of-self
invariant_of-self c =
    let old = c.self.inside.chains in
    let given = rw (← c.self.view_is) at c.requires.above in
    let above : All (λ b. b < c.args.next.begin) (begins (items_at old c.args.key)) = rw (lookup_table (bytes_eq c.args.key) old.entries) at given in
    record {
      rises = λ k. rises_appended (is_ok c.append.result) c.args.key k (items_at old k) (items_at c.append.new.chains k) c.args.next
          (c.self.invariant.rises k) (c.append.ensures.chains k)
          (λ e. subst (λ (q : List ℕ). All (λ b. b < c.args.next.begin) (begins (items_at old q))) (same_key c.args.key k e) above) c.requires.timestamp;
      listed = c.append.ensures.listed;
    }

pub returns-clause-newest : goal.returns-clause-newest
returns-clause-newest c = rw (← c.self.view_is) (IfOk-weaker c.append.result _ _
    (λ v e. e ∙ ap (last_or none) (sym (lookup_table (bytes_eq c.args.key) c.self.inside.chains.entries))) c.append.ensures.newest)

pub returns-clause-chains : goal.returns-clause-chains
returns-clause-chains c k = rw (
  ← c.self.view_is,
  lookup_table (bytes_eq k) c.append.new.chains.entries,
  lookup_table (bytes_eq k) c.self.inside.chains.entries,
) (c.append.ensures.chains k)
