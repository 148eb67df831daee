use Rattle.std.proofs.Common.{◌∷◌, ◌++◌, ap, refl}
use Rattle.urlpattern_meaning.proofs.TokenLaws.{value_stands}
use Rattle.urlpattern_meaning.proofs.TokensPlaced.{tokens_lay, tokens_rise, tokens_stand, last_end, end_last}
use Rattle.urlpattern_meaning.proofs.meaning_laws.tokens_lose_nothing.Goals as goal

pub returns : goal.returns
returns c = record {
  lay = tokens_lay;
  rise = λ text front between back token later are. tokens_rise text (front ++ token ∷ (between ++ later ∷ back)) front between back token later are refl;
  stand = λ text front later token are. tokens_stand text (front ++ token ∷ later) front later token are refl;
  slice = λ text front later token are. value_stands text (front ++ token ∷ later) front later token are refl;
  ends = λ text front later token are none. last_end text (front ++ token ∷ later) front token are (ap (λ rest. front ++ token ∷ rest) none);
  only_end = λ text front later token are. end_last text (front ++ token ∷ later) front later token are refl;
}
