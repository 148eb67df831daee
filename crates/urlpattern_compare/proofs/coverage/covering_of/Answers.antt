use Rattle.std.proofs.Common.{false, subst}
use Rattle.urlpattern_compare.specs.Answers.{IsSought}
use Rattle.urlpattern_compare.proofs.coverage.covering_of.Goals as goal

pub returns-in-Nothing : goal.returns-in-Nothing
returns-in-Nothing c = λ options asked_options parts asked is. subst (IsSought asked_options asked options parts false) c.in-Nothing.is is

pub returns-in-Text : goal.returns-in-Text
returns-in-Text c = λ options asked_options parts asked is. subst (IsSought asked_options asked options parts false) c.in-Text.is is

pub returns-in-Unknown : goal.returns-in-Unknown
returns-in-Unknown c = λ options asked_options parts asked is. subst (IsSought asked_options asked options parts false) c.in-Unknown.is is
