use Rattle.std.specs.List.{flat_map}
use Rattle.bohm_log.specs.Seeing.{term_shown}
use Rattle.bohm_text.specs.Print.{further_words, spaced}
use Rattle.bohm_text.proofs.Printed.{begins_more, print_more, spaced_append}
use Rattle.bohm_text.proofs.printing.put_sum.Goals as goal

pub loop-index-preserved : goal.loop-index-preserved
loop-index-preserved c = record {
  begins = begins_more c.args.out.now.items c.loop-index.out.items c.put_further.new.out.items _ c.loop-index.invariant.begins c.in_ok-put_further.ensures.ok;
  text = print_more (λ terms. spaced (flat_map further_words terms)) c.args.sum.now c.loop-index.index
      (term_shown c.term-in-loop-index.result) _ (spaced (further_words (term_shown c.term-in-loop-index.result))) _ _ c.term-in-loop-index.ensures
      (spaced_append (further_words (term_shown c.term-in-loop-index.result)) _) c.in_ok-put_further.ensures.ok c.loop-index.invariant.text;
}
