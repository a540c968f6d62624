use Rattle.std.proofs.Common.{◌≡◌, ◌<◌, ◌%◌, ◌==◌, true, length, slice_get, Some, ap, sym, ◌∙◌, arith, rules}
use Rattle.std.proofs.lemmas.Option.{slice_get-get_or}
use Rattle.bohm_place.specs.Shares.{keys_of}
use Rattle.bohm_place.proofs.Placed.{foreign, placed}
use Rattle.bohm_place.proofs.by_key.KeyPlanner.find_and_place.Goals as goal

pub returns-clause-placed : goal.returns-clause-placed
returns-clause-placed g c k =
    let worker = c.args.self.now.keys.worker in
    let part = g.P.Partition.part_of c.args.self.now.keys.partition.now in
    let parts = c.args.parts.now in
    let old = c.index-parts-part.result in
    let n = worker.count in
    let here : c.part-part.result ≡ part c.args.key = c.part-part.ensures.part in
    let inside : part c.args.key < length parts = omega (arith, c.part-part.ensures.below, c.requires.parts, here) in
    let at : slice_get parts (part c.args.key) ≡ Some old =
    slice_get-get_or parts (part c.args.key) old inside ∙ ap (λ x. Some x) (rw here at (sym c.index-parts-part.is)) in
    let has : ((c.part-part.result % n) == worker.number) ≡ true = search rules in
    let own : keys_of part n worker.number c.args.key ≡ true = rw here at has in
    rw here (placed part parts old c.annotate.new.self c.args.key k n worker.number c.args.next inside at own
    (let told = c.in_ok-newest.ensures.chains k in rw (← c.index-parts-part.is) at told))

pub returns-clause-others : goal.returns-clause-others
returns-clause-others g c i k apart =
    let part = g.P.Partition.part_of c.args.self.now.keys.partition.now in
    let parts = c.args.parts.now in
    let old = c.index-parts-part.result in
    let here : c.part-part.result ≡ part c.args.key = c.part-part.ensures.part in
    let inside : part c.args.key < length parts = omega (arith, c.part-part.ensures.below, c.requires.parts, here) in
    let at : slice_get parts (part c.args.key) ≡ Some old =
    slice_get-get_or parts (part c.args.key) old inside ∙ ap (λ x. Some x) (rw here at (sym c.index-parts-part.is)) in
    rw here (foreign part parts old c.annotate.new.self c.args.key k c.args.next i inside at
    (let told = c.in_ok-newest.ensures.chains k in rw (← c.index-parts-part.is) at told) apart)
