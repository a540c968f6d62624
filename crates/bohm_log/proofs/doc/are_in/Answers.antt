use Rattle.std.proofs.Common.{◌≡◌, Bool, true, false, not, refl, sym, ◌∙◌}
use denote.Enum.Bare.{sameb}
use Rattle.bohm_types.specs.contracts.edition.Edition.{the_type}
use Rattle.bohm_types.specs.declared.edition.Edition.{Edition}
use Rattle.bohm_types.specs.declared.edition.Edition.TheVariants.{One, Two}
use Rattle.bohm_types.specs.Document.{in_edition, same_edition}
use Rattle.bohm_log.proofs.doc.are_in.Goals as goal
use Rattle.bohm_log.proofs.Lists.{drop_at}

compared : (a b : Edition) → sameb the_type a b ≡ same_edition a b
compared One One = refl
compared One Two = refl
compared Two One = refl
compared Two Two = refl

unequal : (b : Bool) → not b ≡ true → b ≡ false
unequal false e = refl
unequal true e = sym e

equal : (b : Bool) → not b ≡ false → b ≡ true
equal true e = refl
equal false e = sym e

pub returns-then-ne : goal.returns-then-ne
returns-then-ne c =
    let other : in_edition c.args.edition c.txn.result ≡ false =
    sym (compared c.txn.result.edition c.args.edition) ∙ rw c.edition.ensures at (unequal _ (sym c.ne.ensures ∙ c.if-ne.true)) in
    rw other at (rw (drop_at c.args.log.now c.loop-index.index c.txn.result c.txn.ensures) at c.loop-index.invariant)

pub loop-index-preserved : goal.loop-index-preserved
loop-index-preserved c =
    let same : in_edition c.args.edition c.txn.result ≡ true =
    sym (compared c.txn.result.edition c.args.edition) ∙ rw c.edition.ensures at (equal _ (sym c.ne.ensures ∙ c.if-ne.false)) in
    rw same at (rw (drop_at c.args.log.now c.loop-index.index c.txn.result c.txn.ensures) at c.loop-index.invariant)
