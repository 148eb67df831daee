-- Worked examples of runs of characters.
use Rattle.std.proofs.Common.{[], ◌∷◌, arith, codes, inl, refl}
use Rattle.urlpattern_diagnosis.specs.Faults.{IsRunAt}
use Rattle.urlpattern_diagnosis.specs.Spans.{span_between}
use Rattle.urlpattern_syntax.specs.declared.tokenizer.Token.{Token}
use Rattle.urlpattern_syntax.specs.declared.tokenizer.TokenType.TheVariants.{Char, End, EscapedChar, Name}

-- The tokens of `a\.:b`.
abbrev first : Token
first = record { kind = Char; index = 0; value = record { ref_ptr = (0, 0); now = codes "a" } }

abbrev second : Token
second = record { kind = EscapedChar; index = 1; value = record { ref_ptr = (0, 0); now = codes "." } }

abbrev name : Token
name = record { kind = Name; index = 3; value = record { ref_ptr = (0, 0); now = codes "b" } }

abbrev end : Token
end = record { kind = End; index = 5; value = record { ref_ptr = (0, 0); now = [] } }

-- The run `a\.` has the value `a.`, and ends before the name.
pub run_of_two : IsRunAt (codes "a\\.:b") (first ∷ second ∷ name ∷ end ∷ []) (codes "a.") (span_between 0 3)
run_of_two = record {
  before = [];
  first = first;
  row = second ∷ [];
  after = name;
  behind = end ∷ [];
  cut = refl;
  begins = tt;
  is_row = refl;
  ends = refl;
  is_value = refl;
  there = inl ((omega arith, (omega arith, λ lt big. absurd (omega (arith, big))), (omega arith, λ lt big. absurd (omega (arith, big)))), refl);
}
