-- Copies of results.
use Rattle.std.proofs.Common.{List, [], ◌∷◌}
use Rattle.std.specs.List.{AllZip}

-- What follows for each pair of elements follows for the lists.
pub zip-mono : {A B : Type 0} (R S : A → B → Type 0) (xs : List A) (ys : List B) → ((x : A) (y : B) → R x y → S x y) → AllZip R xs ys → AllZip S xs ys
zip-mono R S [] [] follows all = tt
zip-mono R S [] (y ∷ ys) follows all = absurd all
zip-mono R S (x ∷ xs) [] follows all = absurd all
zip-mono R S (x ∷ xs) (y ∷ ys) follows (here, rest) = (follows x y here, zip-mono R S xs ys follows rest)
