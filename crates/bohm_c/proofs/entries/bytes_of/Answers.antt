use Rattle.std.proofs.Common.{◌≡◌, ℕ, List, ◌++◌, ◌∙◌, ap, drop, length, replicate}
use Rattle.bohm_types.specs.Words.{padded}
use Rattle.bohm_c.proofs.EntryRows.{filled_up}
use Rattle.bohm_c.proofs.entries.bytes_of.Goals as goal

pub returns : goal.returns
returns c =
    let name = c.as_slice-name.result.now in
    let key : name ≡ c.args.key.now = c.as_slice-name.ensures.name ∙ c.text-text.ensures.same in
    ap (λ (bs : List ℕ). bs ++ drop (length name) (replicate 32 0)) c.copy_from_slice.ensures.after
    ∙ filled_up name 32 c.as_slice-name.ensures.short ∙ ap (padded 32) key
