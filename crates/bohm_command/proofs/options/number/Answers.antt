use Rattle.std.proofs.Common.{◌≡◌, ◌∙◌, ap, rules}
use Rattle.std.specs.Prelude.{Some, pos}
use Rattle.clap.specs.declared.builder.value_parser.ValueParser.TheVariants as parser
use Rattle.bohm_command.proofs.Numbers.{narrowed}
use Rattle.bohm_command.proofs.options.number.Goals as goal

pub returns-clause-rule : goal.returns-clause-rule
returns-clause-rule c =
    let made : c.range-numbers.result ≡ parser.Signed (pos c.args.least) (pos c.args.most) =
    narrowed _ _ _ _ c.args.least c.args.most c.value_parser.ensures (search rules)
    (search rules) c.ranges.least.fits c.ranges.most.fits c.range-numbers.ensures in
    let given = c.value_parser-2.ensures.given in
    let parser_is : c.value_parser-2.result.value_parser ≡ Some (parser.Signed (pos c.args.least) (pos c.args.most)) = given.1 ∙ ap Some (given.2 ∙ made) in
    search rules
