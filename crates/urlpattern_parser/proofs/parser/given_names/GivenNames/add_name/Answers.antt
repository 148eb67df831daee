use Rattle.urlpattern_parser.proofs.NameSets.{few_more, others_more}
use Rattle.urlpattern_parser.proofs.parser.given_names.GivenNames.add_name.Goals as goal

pub returns-in-Ok : goal.returns-in-Ok
returns-in-Ok c = λ other. others_more c.args.self.now other c.args.name c.insert.new.self c.in-Ok.ensures.keys

pub returns-then-not-is_full : goal.returns-then-not-is_full
returns-then-not-is_full c = λ other. few_more c.args.self.now other c.args.name c.push.new.self.items c.push.ensures.items
