use Rattle.std.proofs.Common.{◌<◌, ◌≡◌, ◌+◌, ◌-◌, get_or, arith, ap, sym, ◌∙◌}
use Rattle.bohm_place.proofs.Rising.{greatest_below-newest, greatest_below-at, greatest_below-past}
use Rattle.bohm_place.proofs.chain.Chain.greatest_below.Goals as goal

pub returns-then-self-ts : goal.returns-then-self-ts
returns-then-self-ts c = sym (greatest_below-newest c.args.ts c.args.self.now.older.items c.args.self.now.newest c.requires (omega arith))

pub returns-then-begin-ts : goal.returns-then-begin-ts
returns-then-begin-ts c =
    let vs = c.args.self.now.older.items in
    let i = c.loop-i.i - 1 in
    let v = c.index.result.now in
    let next : i + 1 ≡ c.loop-i.i = omega arith in
    let is : v ≡ get_or vs i v = c.index.ensures in
    let low : (get_or vs i v).begin < c.args.ts = rw (← is) c.if-begin-ts.true in
    ap (λ x. x.begin) is ∙ sym (greatest_below-at c.args.ts vs c.args.self.now.newest i v (omega arith) c.requires low (rw next c.loop-i.invariant.1)
    (omega arith))

pub returns : goal.returns
returns c =
    let none : c.loop-i.i ≡ 0 = omega arith in
    sym (greatest_below-past c.args.ts c.args.self.now.older.items c.args.self.now.newest (rw none at c.loop-i.invariant.1) (omega arith))
