use Rattle.std.proofs.Common.{true, subst}
use Rattle.urlpattern_compare.specs.Answers.{IsSought}
use Rattle.urlpattern_compare.proofs.coverage.overlap_of.Goals as goal

pub returns-in-Nothing : goal.returns-in-Nothing
returns-in-Nothing c = λ options other_options parts others is. subst (IsSought options parts other_options others true) c.in-Nothing.is is

pub returns-in-Text : goal.returns-in-Text
returns-in-Text c = λ options other_options parts others is. subst (IsSought options parts other_options others true) c.in-Text.is is

pub returns-in-Unknown : goal.returns-in-Unknown
returns-in-Unknown c = λ options other_options parts others is. subst (IsSought options parts other_options others true) c.in-Unknown.is is
