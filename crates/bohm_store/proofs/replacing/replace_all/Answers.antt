use Rattle.std.proofs.Common.{◌≡◌, take, get_or, arith}
use Rattle.std.proofs.lemmas.List.{take_all}
use Rattle.bohm_store.specs.Held.{held_at}
use Rattle.bohm_store.specs.Writes.{listed_in}
use Rattle.bohm_store.proofs.NewestOnly.{replaced_none, replaced_more}
use Rattle.bohm_store.proofs.replacing.replace_all.Goals as goal

pub loop-i-init : goal.loop-i-init
loop-i-init c n = replaced_none c.args.newest.now n

pub replace-requires : goal.replace-requires
replace-requires c =
    let w = c.at.result in
    let low = c.requires c.loop-i.i w (rw c.len-i-end.ensures at c.loop-i-test.true) in
    let is : w ≡ get_or (listed_in c.args.writes) c.loop-i.i w = c.at.ensures in
    rw is (omega (arith, low))

pub loop-i-preserved : goal.loop-i-preserved
loop-i-preserved c n =
    replaced_more (held_at c.args.newest.now n) (held_at c.loop-i.newest n) (held_at c.replace.new.newest n) (listed_in c.args.writes) c.loop-i.i
    c.at.result n (rw c.len-i-end.ensures at c.loop-i-test.true) c.at.ensures (c.loop-i.invariant n) (c.replace.ensures n)

pub returns : goal.returns
returns c n =
    let ws = listed_in c.args.writes in
    let whole : take c.loop-i.i ws ≡ ws = take_all c.loop-i.i ws (rw c.len-i-end.ensures at c.loop-i-test.false) in
    rw whole at (c.loop-i.invariant n)
