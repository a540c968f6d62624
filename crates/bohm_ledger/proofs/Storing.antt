-- What edits of several trees come to.
use Rattle.std.proofs.Common.{◌≡◌, ℕ, List, [], ◌∷◌, ◌++◌, refl, sym, ap, ◌∙◌, arith, subst, eq-eqb, ne_eqb}
use Rattle.sqlite_value.specs.Order.{Row}
use Rattle.sqlite_value.specs.Keys.{plain}
use Rattle.sqlite_trees.specs.Tree.{put_row, insert_entry}
use Rattle.sqlite_trees.specs.View.{View, SetsTree, KeepsCommitted}
use Rattle.bohm_ledger.specs.Rows.{batch_tree, request_tree, head_tree, balance_tree, batch_row, request_row}
use Rattle.bohm_ledger.specs.Steps.{Sets, HasBatch, with_requests}

pub sets_same : (v : View) (tree : ℕ) → Sets v v tree (v.trees tree)
sets_same v tree = record { this = refl; others = λ t other. refl; rest = refl }

pub sets_from : (old new : View) (tree : ℕ) (edit : List Row → List Row) → SetsTree old new tree edit → Sets old new tree (edit (old.trees tree))
sets_from old new tree edit h = record {
  this = rw (h.is, eq-eqb tree tree refl);
  others = λ t other. rw (h.is, ne_eqb t tree other);
  rest = h.is ∙ ap (λ ts. record old { trees = ts; cursors = new.cursors }) (sym (ap (λ (v : View). v.trees) h.is));
}

pub sets_then : (a b c : View) (tree : ℕ) (rows more : List Row) → Sets a b tree rows → Sets b c tree more → Sets a c tree more
sets_then a b c tree rows more h k = record {
  this = k.this;
  others = λ t other. k.others t other ∙ h.others t other;
  rest = k.rest ∙ ap (λ (v : View). record v { trees = c.trees; cursors = c.cursors }) h.rest;
}

-- a tree that was edited once more
pub sets_more : (a b c : View) (tree : ℕ) (rows more : List Row) (edit : List Row → List Row) → Sets a b tree rows → SetsTree b c tree edit
    → edit rows ≡ more → Sets a c tree more
sets_more a b c tree rows more edit h k is =
    let after : Sets b c tree more = subst (Sets b c tree) (ap edit h.this ∙ is) (sets_from b c tree edit k) in
    sets_then a b c tree rows more h after

pub requests_more : (place : ℕ) (es : List (List ℕ × List ℕ)) (e : List ℕ × List ℕ) (rows : List Row)
    → insert_entry plain (request_row place e) (with_requests place es rows) ≡ with_requests place (es ++ e ∷ []) rows
requests_more place [] e rows = refl
requests_more place (x ∷ es) e rows = requests_more place es e (insert_entry plain (request_row place x) rows)

pub batch_made : (a b c : View) (place first : ℕ) (text : List ℕ) (answers : List (List ℕ × List ℕ))
    → SetsTree a b batch_tree (put_row (batch_row place first text))
    → Sets b c request_tree (with_requests place answers (b.trees request_tree)) → HasBatch a.trees place first text answers c.trees
batch_made a b c place first text answers one two =
    let put = sets_from a b batch_tree (put_row (batch_row place first text)) one in
    record {
      batch = two.others batch_tree (λ e. absurd (omega arith)) ∙ put.this;
      request = two.this ∙ ap (with_requests place answers) (put.others request_tree (λ e. absurd (omega arith)));
      head = two.others head_tree (λ e. absurd (omega arith)) ∙ put.others head_tree (λ e. absurd (omega arith));
      balance = two.others balance_tree (λ e. absurd (omega arith)) ∙ put.others balance_tree (λ e. absurd (omega arith));
    }

pub keeps_then : (a b c : View) → KeepsCommitted a b → KeepsCommitted b c → KeepsCommitted a c
keeps_then a b c h k = record {
  shape = k.shape ∙ h.shape;
  reals = k.reals ∙ h.reals;
  committed_shape = k.committed_shape ∙ h.committed_shape;
  committed_reals = k.committed_reals ∙ h.committed_reals;
  numbered = k.numbered ∙ h.numbered;
  was_open = λ o. h.was_open (k.was_open o);
  committed = λ o. k.committed o ∙ h.committed (k.was_open o);
  marks = λ o. k.marks o ∙ h.marks (k.was_open o);
}
