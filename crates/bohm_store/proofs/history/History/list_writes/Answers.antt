use Rattle.std.proofs.Common.{◌≡◌, ◌∙◌, List, ℕ, ap, subst, sym}
use Rattle.std.specs.Map.{keys_of}
use Rattle.std.specs.Prelude.{IfOk}
use Rattle.bohm_exec.specs.Answers.{batch_of_finished}
use Rattle.bohm_store.specs.Versions.{Timeline}
use Rattle.bohm_store.specs.Numbered.{versions_at}
use Rattle.bohm_store.specs.Writes.{AreListedFrom}
use Rattle.bohm_store.proofs.Entries.{keys_named}
use Rattle.bohm_store.proofs.history.History.list_writes.Goals as goal

pub returns : goal.returns
returns c =
    let now : c.self.inside.names ≡ keys_of c.args.self.now.chains =
    sym (keys_named (versions_at c.self.inside.numbered) 0 c.self.inside.names) ∙ ap (λ (t : Timeline). keys_of t.chains) c.self.view_is in
    let b = batch_of_finished c.args.finished.now in
    subst (λ (names : List (List ℕ)). IfOk c.list.result (AreListedFrom names b c.args.from c.args.count)) now c.list.ensures
