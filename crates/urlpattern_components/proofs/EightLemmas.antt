-- Lemmas on the eight components and their values.
use Rattle.std.proofs.Common.{◌≡◌, List, [], ◌∷◌, ◌++◌, lit<, refl, subst, sym}
use Rattle.std.proofs.lemmas.List.Elements.{All-cons, All-nil}
use Rattle.std.specs.List.{AllByRecursion}
use Rattle.std.specs.Prelude.{All, Result, Ok, Err, IfErr}
use Rattle.std.specs.Result.{IsErrAnd}
use Rattle.urlpattern_components.specs.declared.eight.ComponentName.{ComponentName}
use Rattle.urlpattern_components.specs.declared.eight.ComponentName.TheVariants.{Protocol, Username, Password, Hostname, Port, Pathname, Search, Hash}
use Rattle.urlpattern_components.specs.declared.eight.Eight.{Eight}
use Rattle.urlpattern_components.specs.Eight.{IsFirstError, at, components, each}

-- A property of each element by recursion is a property of all.
all-by_recursion : {X : Type 0} (P : X → Type 0) (xs : List X) → AllByRecursion P xs → All P xs
all-by_recursion P [] h = All-nil P
all-by_recursion P (x ∷ xs) (p, h) = All-cons P x xs p (all-by_recursion P xs h)

-- An error that is passed on is the first, where the components before have values.
pub passed_on : {T A E : Type 0} (Answers : ComponentName → Result A E → Type 0) (result : Result T E) (error : E)
    (before after : List ComponentName) (name : ComponentName) → IsErrAnd result (λ passed. passed ≡ error)
    → components ≡ before ++ name ∷ after → AllByRecursion (λ earlier. (value : A) × Answers earlier (Ok value)) before
    → Answers name (Err error) → IfErr result (IsFirstError Answers)
passed_on Answers (Ok x) error before after name same split earlier answers = tt
passed_on {T} {A} Answers (Err passed) error before after name same split earlier answers =
    subst (IsFirstError Answers) (sym same) (before, after, name, split, all-by_recursion _ before earlier, answers)

-- Values that agree on each component are equal.
pub same_values : {A : Type 0} (values others : Eight A) → ((name : ComponentName) → at values name ≡ at others name) → values ≡ others
same_values values others same = λ i. record { protocol = same Protocol i; username = same Username i; password = same Password i; hostname = same Hostname i; port = same Port i; pathname = same Pathname i; search = same Search i; hash = same Hash i }

-- A property of each component by name is a property of all.
pub by_name : (P : ComponentName → Type 0) → P Protocol → P Username → P Password → P Hostname → P Port → P Pathname → P Search → P Hash
    → (name : ComponentName) → P name
by_name P a b c d e f g h Protocol = a
by_name P a b c d e f g h name = assumption

-- A property of each component in order is a property of all.
pub of_each : (P : ComponentName → Type 0) → All P components → (name : ComponentName) → P name
of_each P all =
    by_name P (all 0 Protocol (lit< tt)) (all 1 Protocol (lit< tt)) (all 2 Protocol (lit< tt)) (all 3 Protocol (lit< tt)) (all 4 Protocol (lit< tt))
    (all 5 Protocol (lit< tt)) (all 6 Protocol (lit< tt)) (all 7 Protocol (lit< tt))

pub at-each : {A : Type 0} (value : ComponentName → A) (name : ComponentName) → at (each value) name ≡ value name
at-each value = by_name (λ name. at (each value) name ≡ value name) refl refl refl refl refl refl refl refl
