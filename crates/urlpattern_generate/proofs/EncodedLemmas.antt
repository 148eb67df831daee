-- Values of groups that are percent-encoded, and those that are changed.
use Rattle.std.proofs.Common.{◌≡◌, ◌∙◌, ◌<◌, ◌+◌, ◌++◌, ℕ, Bool, true, false, List, [], ◌∷◌, String, add-one, ap, drop, get_or, length, map, refl, sym, take}
use Rattle.std.proofs.Math.Seq.{drop-cons}
use Rattle.std.proofs.lemmas.Bool.{false≢true}
use Rattle.std.proofs.lemmas.List.{map-append, take-append-drop}
use Rattle.std.specs.Prelude.{MatchBool}
use Rattle.std.specs.declared.alloc.Global.{Global}
use Rattle.urlpattern_generate.proofs.GivenLemmas.{Group}
use Rattle.urlpattern_generate.specs.EncodedGroups.{IsDecodedBack, encoded_group, encoded_groups}
use Rattle.urlpattern_generate.specs.WriteSettings.{GivenView, given_groups, given_view}
use Rattle.urlpattern_syntax.specs.Text.{text_of}

-- ---- encoded values

-- The encoded value that is made of a value as it is passed in.
abbrev pub encoded_of : Group → GivenView
encoded_of group = encoded_group (given_view group)

-- The text of the value, as it is passed in, is decoded back.
abbrev pub IsGivenBack : Group → Type 0
IsGivenBack group = IsDecodedBack (given_view group)

pub each_encoded : (groups : List Group) → map encoded_of groups ≡ encoded_groups (given_groups groups)
each_encoded [] = refl
each_encoded (group ∷ groups) = ap (λ list. encoded_of group ∷ list) (each_encoded groups)

-- ---- changed values

pub first_if : (is : Bool) (First Second : Type 0) → is ≡ true → MatchBool is First Second → First
first_if true First Second e told = told
first_if false First Second e told = absurd (false≢true e)

pub second_if : (is : Bool) (First Second : Type 0) → is ≡ false → MatchBool is First Second → Second
second_if true First Second e told = absurd (false≢true (sym e))
second_if false First Second e told = told

-- The texts of names, cut at one of them.
abbrev pub texts_of : List (String Global) → List (List ℕ)
texts_of names = map (λ own. text_of own) names

pub names_cut : (name : List ℕ) (names : List (String Global)) (i : ℕ) (other : String Global) → i < length names → name ≡ text_of (get_or names i other) →
    texts_of names ≡ texts_of (take i names) ++ name ∷ texts_of (drop (i + 1) names)
names_cut name names i other within same =
    ap texts_of (sym (take-append-drop i names)) ∙ map-append (λ own. text_of own) (take i names) (drop i names)
    ∙ ap (λ rest. texts_of (take i names) ++ texts_of rest) (drop-cons names i other within ∙ ap (λ n. get_or names i other ∷ drop n names) (sym (add-one i)))
    ∙ ap (λ own. texts_of (take i names) ++ own ∷ texts_of (drop (i + 1) names)) (sym same)
