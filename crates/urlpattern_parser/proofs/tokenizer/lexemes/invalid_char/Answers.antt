use Rattle.std.proofs.Common.{◌∷◌, [], refl}
use Rattle.urlpattern_syntax.proofs.TokenLemmas.{one_character}
use Rattle.urlpattern_parser.proofs.tokenizer.lexemes.invalid_char.Goals as goal

pub before-requires : goal.before-requires
before-requires c =
    let cut = rw c.unwrap.ensures at c.split_first.ensures.cut in
    (c.unwrap.result.0 ∷ [], cut)

pub returns : goal.returns
returns c =
    let cut = rw c.unwrap.ensures at c.split_first.ensures.cut in
    record {
      character = c.unwrap.result.0;
      cut = cut;
      fault = c.requires.fault.0;
      is_fault = c.requires.fault.1;
      is_kind = refl;
      is_value = one_character _ _ _ _ cut c.before-2.ensures;
    }
