-- Copies of lists of texts.
use Rattle.std.proofs.Common.{◌≡◌, List, [], ◌∷◌, String, map, refl, string_bytes}
use Rattle.std.specs.List.{AllZip}
use Rattle.std.specs.declared.alloc.Global.{Global}

-- Copies of texts have the same bytes.
pub same_bytes : (given copies : List (String Global)) → AllZip (λ text copy. string_bytes copy ≡ string_bytes text) given copies
    → map string_bytes copies ≡ map string_bytes given
same_bytes [] [] same = refl
same_bytes [] (copy ∷ copies) same = absurd same
same_bytes (text ∷ given) [] same = absurd same
same_bytes (text ∷ given) (copy ∷ copies) (here, rest) = λ i. here i ∷ same_bytes given copies rest i
