use Rattle.std.proofs.Common.{arith, ap, ◌∙◌, take}
use Rattle.sqlite_trees.specs.Tree.{Trees}
use Rattle.sqlite_trees.specs.View.{IsClean}
use Rattle.bohm_ledger.specs.Rows.{head_tree}
use Rattle.bohm_ledger.specs.Rules.{cells, total}
use Rattle.bohm_ledger.proofs.Opening as lemma
use Rattle.bohm_ledger.proofs.load.load.Goals as goal

pub returns-clause-ready : goal.returns-clause-ready
returns-clause-ready g c clean edition bs stands =
    let rules = g.M.Machine.rules in
    let third : IsClean (g.S.Store.view c.load_balance.new.store) = omega (arith, c.load_batches.ensures.quiet.clean) in
    let second : IsClean (g.S.Store.view c.load_head.new.store) = omega (arith, c.load_balance.ensures.quiet.clean) in
    let first : IsClean (g.S.Store.view c.begin.new.store) = omega (arith, c.load_head.ensures.quiet.clean) in
    let fresh = c.in_ok-begin.ensures.ok first in
    let head = c.in_ok-edition.ensures.ok second edition (total rules (take stands.0 bs)) (ap (λ (db : Trees). db head_tree) fresh.trees ∙ stands.1.head) in
    let items = c.as_slice.ensures.value in (
      head.0,
      lemma.opened rules g.met.M.Machine.keeps_rules edition bs stands.0
          (g.S.Store.view c.args.store.now) _ _ _ _ stands.1 c.in_ok-edition.checkpoint c.in_ok-place.place
          c.in_ok-edition.edition c.in_ok-balance.balance.items
          (g.M.Machine.state c.start.new.self) _ _
          fresh (c.in_ok-edition.ensures.same second) (c.in_ok-balance.ensures.same third) (c.in_ok-place.ensures.same clean) head.0 head.1
          (c.in_ok-balance.ensures.ok third) (c.in_ok-place.ensures.saved ∙ c.in_ok-start.ensures.saved ∙ ap cells items)
          (c.in_ok-start.ensures.state
          ∙ ap (λ xs. record { defs = rules.start c.in_ok-edition.edition; look = cells xs; top = c.in_ok-edition.checkpoint }) items)
          (c.in_ok-place.ensures.state clean) (c.in_ok-place.ensures.place clean),
    )
