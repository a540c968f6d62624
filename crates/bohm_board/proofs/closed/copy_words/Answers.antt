use Rattle.std.proofs.Common.{rules, arith, ◌≡◌, ℕ, ◌+◌, get_or, sym, ap, ◌∙◌}
use Rattle.std.specs.Slots.{slots_items}
use Rattle.bohm_board.proofs.StateUpdates.{put_at, found_at}
use Rattle.bohm_board.proofs.closed.copy_words.Goals as goal

pub loop-j-preserved : goal.loop-j-preserved
loop-j-preserved c = record {
  len = search rules;
  each = λ k h.
      let items = slots_items c.args.words.now.words in
      put_at (λ z. z ≡ get_or items (c.args.from + k) 0) c.loop-j.into.items c.loop-j.j c.word.result k (search rules)
      (λ e. sym (ap (λ (z : ℕ). get_or items (c.args.from + z) 0) e ∙ (found_at items (c.args.from + c.loop-j.j) c.word.result 0 c.word.ensures).1))
      (λ ne. c.loop-j.invariant.each k (omega arith));
}
