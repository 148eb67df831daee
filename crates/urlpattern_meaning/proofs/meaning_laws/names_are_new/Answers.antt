use Rattle.std.proofs.Common.{◌∷◌, ◌++◌, refl}
use Rattle.urlpattern_meaning.proofs.NameLaws.{given_undigited, names_nonempty, names_distinct, names_numbered}
use Rattle.urlpattern_meaning.specs.Laws.{listed}
use Rattle.urlpattern_meaning.proofs.meaning_laws.names_are_new.Goals as goal

pub returns : goal.returns
returns c = record {
  nonempty = λ answers text options. names_nonempty text options (listed answers);
  distinct = λ answers text options. names_distinct text options (listed answers);
  numbered = λ answers text options. names_numbered text options (listed answers);
  given = λ text front later token are. given_undigited text (front ++ token ∷ later) front later token are refl;
}
