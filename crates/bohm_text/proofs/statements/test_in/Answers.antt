use Rattle.std.proofs.Common.{sym, ◌∙◌}
use Rattle.bohm_text.proofs.Needs.{no_test, many_words}
use Rattle.bohm_text.proofs.statements.test_in.Goals as goal

pub returns-then-not-begins_test : goal.returns-then-not-begins_test
returns-then-not-begins_test c = no_test c.args.words.now (sym c.begins_test.ensures ∙ cc)

pub returns-in-Some : goal.returns-in-Some
returns-in-Some c =
    many_words c.args.words.now c.next.new.self c.next-2.new.self c.next-3.new.self c.in_ok-word.word.now c.in_ok-name.name.now c.in-Some.field-0.now
    (sym c.fork-ahead.ensures ∙ c.in_ok-word.ensures) c.in_ok-name.ensures c.in-Some.ensures
