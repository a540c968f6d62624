use Rattle.std.proofs.Common.{◌≡◌, arith, sym, ◌∙◌, subst}
use Rattle.bohm_ledger.proofs.Ready as lemma
use Rattle.bohm_ledger.specs.Ledgers.{IsLedger}
use Rattle.bohm_ledger.proofs.ledger.Ledger.append.Goals as goal

pub returns-in_err-keep-clause-any_moment : goal.returns-in_err-keep-clause-any_moment
returns-in_err-keep-clause-any_moment g c clean bs ready db left =
    let old = g.S.Store.view c.args.self.now.store in
    lemma.outcome _ _ _ old _ _ _ _ ready db _ _ _ _ (omega (arith, c.top-top.ensures)) (c.as_slice-answers.ensures.value ∙ c.in_ok-ran.ensures.answers)
    (λ before. g.met.S.Store.settled c.args.self.now.store db (lemma.open_of old (g.met.S.Store.broken_if_shut c.args.self.now.store) ready.sound) before)
    (c.keep.ensures.crash clean db left)

pub returns-clause-any_moment : goal.returns-clause-any_moment
returns-clause-any_moment g c clean bs ready db left =
    let old = g.S.Store.view c.args.self.now.store in
    lemma.outcome _ _ _ old _ _ _ _ ready db _ _ _ _ (omega (arith, c.top-top.ensures)) (c.as_slice-answers.ensures.value ∙ c.in_ok-ran.ensures.answers)
    (λ before. g.met.S.Store.settled c.args.self.now.store db (lemma.open_of old (g.met.S.Store.broken_if_shut c.args.self.now.store) ready.sound) before)
    (c.keep.ensures.crash clean db left)

pub returns-clause-stored : goal.returns-clause-stored
returns-clause-stored g c clean bs ready =
    lemma.batch_ready _ _ _ _ _ _ _ _ ready _ _ _ _ _ _ _ (omega (arith, c.top-top.ensures)) (c.as_slice-answers.ensures.value ∙ c.in_ok-ran.ensures.answers)
    (c.in_ok-keep.ensures.ok clean) (c.in_ok-keep.ensures.stored clean) (omega arith) c.in_ok-ran.ensures.state c.in_ok-ran.ensures.saved

pub returns-clause-durable : goal.returns-clause-durable
returns-clause-durable g c clean bs ready db left =
    let now = g.S.Store.view c.keep.new.store in
    let stored = c.in_ok-keep.ensures.stored clean in
    let is : db ≡ now.trees = g.met.S.Store.settled c.keep.new.store db
    (lemma.open_of now (g.met.S.Store.broken_if_shut c.keep.new.store) stored.sound) left ∙ stored.settled in (
      ready.mark,
      subst (IsLedger _ _ _ ready.mark) (sym is)
          (lemma.more_batch _ _ _ _ _ _ _ _ ready now.trees _ _ _ (omega (arith, c.top-top.ensures))
          (c.as_slice-answers.ensures.value ∙ c.in_ok-ran.ensures.answers) (c.in_ok-keep.ensures.ok clean)),
    )
