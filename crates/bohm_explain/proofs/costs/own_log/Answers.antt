use Rattle.std.proofs.Common.{◌∙◌, Err, ap, refl}
use Rattle.bohm_explain.proofs.CallCosts.{only_memory, own_read}
use Rattle.bohm_explain.proofs.costs.own_log.Goals as goal

pub no_memory-requires : goal.no_memory-requires
no_memory-requires c =
    only_memory c.args.procedure.now c.as_slice.result.now c.requires (c.as_slice.ensures.value ∙ c.in_ok-text.ensures) c.in-Err.fault
    (λ n e. c.in-Err.ensures.line n (ap (λ f. Err f) e)) (λ e. c.in-Err.ensures.short (ap (λ f. Err f) e))

pub returns-in-Ok-close : goal.returns-in-Ok-close
returns-in-Ok-close c =
    let same = own_read c.args.procedure.now c.as_slice.result.now c.requires (c.as_slice.ensures.value ∙ c.in_ok-text.ensures) c.in-Ok.reader
    c.in-Ok.ensures.read in
    rw (c.in-Ok-close.ensures.ok, c.new-log.ensures, same) refl
