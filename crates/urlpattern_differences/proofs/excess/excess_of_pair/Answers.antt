use Rattle.std.proofs.Common.{subst}
use Rattle.urlpattern_differences.proofs.DecidedLemmas.{none_decided, texts_decided}
use Rattle.urlpattern_differences.specs.Excess.{IsPairAnswer}
use Rattle.urlpattern_differences.proofs.excess.excess_of_pair.Goals as goal

pub returns-in-Texts : goal.returns-in-Texts
returns-in-Texts c =
    let one = c.args.one.now in
    let other = c.args.other.now in
    record {
      allows = c.requires.allows;
      denies = c.requires.denies;
      decided = texts_decided c.args.limits one other c.args.first c.args.second c.in-Texts.texts c.requires.first_rule c.requires.second_rule
          (subst (IsPairAnswer c.args.limits one other c.args.first c.args.second) c.in-Texts.is c.in_ok-common.ensures);
    }

pub returns-in-Nothing : goal.returns-in-Nothing
returns-in-Nothing c = λ denies.
    let one = c.args.one.now in
    let other = c.args.other.now in
    none_decided c.args.limits one other c.args.first c.args.second (subst (IsPairAnswer c.args.limits one other c.args.first c.args.second) c.in-Nothing.is c.in_ok-common.ensures)
