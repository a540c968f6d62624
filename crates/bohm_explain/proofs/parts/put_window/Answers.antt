use Rattle.std.proofs.Common.{◌∙◌}
use Rattle.bohm_explain.proofs.Cutting.{more_sized, window_sizes, window_total, window_ways}
use Rattle.bohm_explain.proofs.parts.put_window.Goals as goal

pub returns-clause-sizes : goal.returns-clause-sizes
returns-clause-sizes c = window_sizes c.args.settings c.args.window.now _ _ _ c.sharing_of-sharing.ensures c.size_for.ensures.size c.len.ensures _ _ c.in_ok-put_even.ensures

pub returns-clause-ways : goal.returns-clause-ways
returns-clause-ways c = window_ways c.args.settings c.args.window.now _ _ _ c.sharing_of-sharing.ensures c.size_for.ensures.size c.len.ensures _ _ _ _ _ _
    c.requires.paired c.in_ok-put_even.ensures (c.len-2.ensures ∙ c.put_even.new.sizes.ok.0) c.args.ways.now.ok.0 c.in_ok-resize.ensures.items

pub returns-clause-total : goal.returns-clause-total
returns-clause-total c = window_total c.args.settings c.args.window.now _ _ _ c.sharing_of-sharing.ensures c.size_for.ensures.size c.len.ensures _ _
    c.in_ok-put_even.ensures

pub returns-clause-in_range : goal.returns-clause-in_range
returns-clause-in_range c = λ before. rw c.in_ok-put_even.ensures (more_sized c.args.sizes.now.items c.size_for.result c.len.result c.size_for.ensures.some c.size_for.ensures.few before)
