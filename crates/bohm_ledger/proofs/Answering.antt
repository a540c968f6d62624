-- What the table `request` tells of the batches.
use Rattle.std.proofs.Common.{◌≡◌, ℕ, pos, List, false, sym, ap, ◌∙◌, subst}
use Rattle.bohm_types.specs.declared.edition.Edition.{Edition}
use Rattle.sqlite_value.specs.declared.value.Value.TheVariants.{Int, Text}
use Rattle.sqlite_value.specs.Order.{Row, column, bytes}
use Rattle.sqlite_trees.specs.View.{View}
use Rattle.bohm_ledger.specs.Rows.{Has, AreRequests, natural, request_row, request_tree}
use Rattle.bohm_ledger.specs.Rules.{Look, State, Rules, origin, requests}
use Rattle.bohm_ledger.specs.Ledgers.{IsLedger, IsReady}
use Rattle.bohm_ledger.specs.Steps.{Finds, OnlyReads}
use Rattle.bohm_ledger.proofs.Appending.{are_requests}
use Rattle.bohm_ledger.proofs.Ready.{tables_kept}

module _ {Defs : Type 0} (rules : Rules Defs) (edition : Edition) (bs : List (List ℕ)) (v : View) (place checkpoint : ℕ) (state : State Defs)
    (saved : Look) (ready : IsReady rules edition bs v place checkpoint state saved) where
  pub all_requests : AreRequests (v.trees request_tree)
  all_requests row there = are_requests rules 1 (origin rules edition) bs row (ready.ledger.requests.back row there)

  pub unanswered : (id : List ℕ) (row : Row) → Finds id row false (v.trees request_tree) → (p : ℕ) (answer : List ℕ)
      → Has (request_row p (id, answer)) (requests rules 1 (origin rules edition) bs) → ⊥
  unanswered id row none p answer there = none p answer (ready.ledger.requests.there (request_row p (id, answer)) there)

  pub answered : (id answer : List ℕ) (p : ℕ) (row : Row) → Has row (v.trees request_tree) → column row 0 ≡ Text id → column row 1 ≡ Int (pos p)
      → column row 2 ≡ Text answer → Has (request_row p (id, answer)) (requests rules 1 (origin rules edition) bs)
  answered id answer p row there first second third =
      let form = all_requests row there in
      let at : form.0 ≡ p = ap natural (ap (λ r. column r 1) (sym form.2) ∙ second) in
      let key : form.1.0 ≡ id = ap bytes (ap (λ r. column r 0) (sym form.2) ∙ first) in
      let text : form.1.1 ≡ answer = ap bytes (ap (λ r. column r 2) (sym form.2) ∙ third) in
      let is : row ≡ request_row p (id, answer) = form.2 ∙ ap (λ n. request_row n form.1) at ∙ ap (λ k. request_row p (k, form.1.1)) key
      ∙ ap (λ t. request_row p (id, t)) text in
      subst (λ r. Has r (requests rules 1 (origin rules edition) bs)) is (ready.ledger.requests.back row there)

  -- the row that was found is a request's
  pub found_request : (row : Row) → Has row (v.trees request_tree) → ((n : ℕ) (e : List ℕ × List ℕ) → ¬ (row ≡ request_row n e)) → ⊥
  found_request row there none = let form = all_requests row there in none form.0 form.1 form.2

  -- after a call that only reads
  pub still_ready : (new : View) → OnlyReads v new → IsReady rules edition bs new place checkpoint state saved
  still_ready new same =
      let trees : new.trees ≡ v.trees = ap (λ (w : View). w.trees) same in
      record {
        sound = ap (λ (w : View). w.is_broken) same ∙ ready.sound;
        settled = ap (λ (w : View). w.committed) same ∙ ready.settled ∙ sym trees;
        tables = tables_kept v new (ap (λ (w : View). w.shape) same) ready.tables;
        mark = ready.mark;
        ledger = subst (IsLedger rules edition bs ready.mark) (sym trees) ready.ledger;
        placed = ready.placed;
        ran = ready.ran;
        checkpointed = ready.checkpointed;
        kept = ready.kept;
      }
