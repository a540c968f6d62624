use Rattle.std.proofs.Common.{◌<◌, [], ◌∷◌, length, arith, length-append, deque_len}
use Rattle.std.proofs.lemmas.Bool.Decides.{nat_tests}
use Rattle.bohm_place.specs.Chains.{items}
use Rattle.bohm_place.proofs.Keyed.{among_push}
use Rattle.bohm_place.proofs.chain.Chain.extend.Goals.{then-is_empty+in_ok-push, else-is_empty}
use Rattle.bohm_place.proofs.chain.Chain.extend.Goals as goal

pub returns-clause-key : goal.returns-clause-key
returns-clause-key c = elim c.if-is_empty.branch [
  | then-is_empty+in_ok-push w ↦ rw (w.long-is, w.in_ok-push.ensures.items) (among_push c.args.long.now.items c.args.key)
  | else-is_empty w ↦
      let more : 0 < deque_len c.args.self.now.older = let e = w.if-is_empty.ensures in grind (arith, nat_tests) in
      let long : 1 < length (items c.args.self.now) =
      omega (arith, length-append c.args.self.now.older.items (c.args.self.now.newest ∷ []), c.args.self.now.older.ok.0) in
      rw w.long-is (c.requires long)
]
