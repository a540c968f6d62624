use Rattle.std.proofs.Common.{rules, of_calls}
use Rattle.std.proofs.lemmas.Fn.{always_returns_same}
use Rattle.bohm_board.proofs.EntrySearch.{against, searched_some, searched_none}
use Rattle.bohm_board.proofs.batch.base_places.search.Goals as goal

pub returns-clause-found : goal.returns-clause-found
returns-clause-found c =
    let k = c.args.key.now in
    searched_some c.args.entries.now k c.binary_search_by.result c.binary_search_by.ensures.bound
    (c.binary_search_by.ensures.position (against k) (always_returns_same _ _ _ (λ a r f called. search (rules, of_calls))))

pub returns-clause-missing : goal.returns-clause-missing
returns-clause-missing c =
    let k = c.args.key.now in
    searched_none c.args.entries.now k c.binary_search_by.result c.requires
    (c.binary_search_by.ensures.position (against k) (always_returns_same _ _ _ (λ a r f called. search (rules, of_calls))))
