use Rattle.std.proofs.Common.{◌≡◌, ◌<◌, length, ◌∙◌, sym, rules, arith, inr}
use Rattle.bohm_requests.proofs.Committing as lemma
use Rattle.bohm_requests.proofs.desk.RequestDesk.commit.Goals as goal

pub returns-then-is_empty-clause-replies : goal.returns-then-is_empty-clause-replies
returns-then-is_empty-clause-replies g c =
    let zero : length c.batch.result.now ≡ 0 = grind (arith, c.is_empty.ensures, c.if-is_empty.true) in
    c.new.ensures.items ∙ lemma.no_answers _ _ (sym c.batch.ensures ∙ lemma.none_by_length c.batch.result.now zero)

pub returns-in_err-append-clause-any_moment : goal.returns-in_err-append-clause-any_moment
returns-in_err-append-clause-any_moment g c clean bs ready db left =
    let some : 0 < length c.args.self.now.waiting.batch.items = search (rules, arith) in
    inr (lemma.some_left c.args.self.now.ledger.edition bs _ _ db c.batch-2.ensures some (c.in_err-append.ensures.any_moment clean bs ready db left))

pub returns-clause-durable : goal.returns-clause-durable
returns-clause-durable g c clean bs ready db left =
    let some : 0 < length c.args.self.now.waiting.batch.items = search (rules, arith) in
    inr (lemma.some_stands c.args.self.now.ledger.edition bs _ _ db c.batch-2.ensures some (c.in_ok-append.ensures.durable clean bs ready db left))

pub returns-clause-any_moment : goal.returns-clause-any_moment
returns-clause-any_moment g c clean bs ready db left =
    let some : 0 < length c.args.self.now.waiting.batch.items = search (rules, arith) in
    inr (lemma.some_left c.args.self.now.ledger.edition bs _ _ db c.batch-2.ensures some (c.in_ok-append.ensures.any_moment clean bs ready db left))
