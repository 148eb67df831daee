-- Copies of lists of texts.
use Rattle.std.proofs.Common.{◌≡◌, List, [], ◌∷◌, String, map, refl, string_bytes}
use Rattle.std.specs.List.{AllZip}
use Rattle.std.specs.declared.alloc.Global.{Global}
use Rattle.urlpattern_syntax.specs.Text.{chars, text_of}

-- Copies of texts have the same characters.
pub same_names : (given copies : List (String Global)) → AllZip (λ text copy. string_bytes copy ≡ string_bytes text) given copies
    → map (λ name. text_of name) copies ≡ map (λ name. text_of name) given
same_names [] [] same = refl
same_names [] (copy ∷ copies) same = absurd same
same_names (text ∷ given) [] same = absurd same
same_names (text ∷ given) (copy ∷ copies) (here, rest) = λ i. chars (here i) ∷ same_names given copies rest i
