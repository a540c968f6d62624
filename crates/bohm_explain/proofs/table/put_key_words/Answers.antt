use Rattle.std.proofs.Common.{◌≡◌, ◌∙◌, ℕ, List, [], ◌∷◌, ◌++◌, codes, decimal}
use Rattle.std.proofs.lemmas.Result.{IfOk-weaker}
use Rattle.bohm_explain.specs.Pieces.{joined}
use Rattle.bohm_explain.specs.Table.{key_words, limit_words}
use Rattle.bohm_explain.proofs.Appended.{more}
use Rattle.bohm_explain.proofs.table.put_key_words.Goals as goal

pub returns : goal.returns
unfolding key_words
returns c =
    let t = c.args.totals in
    let h = c.args.heat.now in
    let start = c.args.out.now.items in
    let named : c.as_slice.result.now ≡ h.key = c.as_slice.ensures.name ∙ c.text-key.ensures.same in
    let texts : List (List ℕ) = codes "key " ∷ h.key ∷ codes ", written by " ∷ decimal h.writers ∷ codes " of " ∷ decimal t.transactions
    ∷ codes " transactions, is on the longest chain, of " ∷ decimal h.chain ∷ codes ": " ∷ [] in
    let opened : c.put.new.out.items ≡ start ++ joined texts = rw (named, c.from.ensures, c.from-2.ensures) at c.in_ok-put.ensures in
    IfOk-weaker c.put_limit.result _ _ (λ x is. more start _ _ texts (limit_words t) opened is) c.put_limit.ensures
