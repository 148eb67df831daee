-- The texts that parts mean do not depend on names.
use Rattle.std.proofs.Common.{◌≡◌, ◌∙◌, ℕ, zero, suc, Bool, List, [], ◌∷◌, map, ap, refl, subst, sym}
use Rattle.std.proofs.lemmas.List.Elements.{All-cons, All-head, All-map, All-nil, All-tail}
use Rattle.urlpattern_expressions.specs.MatchedPartTexts.{IsMatchedCopy, PartMatches, PartsMatch}
use Rattle.urlpattern_expressions.specs.SimpleExpressions.{AreSimple, HasSimpleExpression}
use Rattle.urlpattern_meaning.specs.PartMeaning.{AreGenerated}
use Rattle.urlpattern_compare.specs.Comparing.{unnamed, unnamed_view}
use Rattle.urlpattern_compare.specs.MeantTexts.{MeansText, folded_options, folded_part, folded_parts}
use Rattle.urlpattern_meaning.specs.Matching.{folded_character}
use Rattle.urlpattern_syntax.specs.declared.parser.Part.{Part}
use Rattle.urlpattern_syntax.specs.declared.parser.PartType.{PartType}
use Rattle.urlpattern_syntax.specs.declared.parser.PartType.TheVariants.{FixedText, Regexp}
use Rattle.urlpattern_syntax.specs.Options.{OptionsView}
use Rattle.urlpattern_syntax.specs.Parts.{PartView, parts_view}
use Rattle.urlpattern_syntax.specs.Text.{IsRepeated}
use Rattle.urlpattern_meaning.proofs.PartTrees.{IsNotCustom}

-- The part with another name.
abbrev pub with_name : (name : List ℕ) → PartView → PartView
with_name name part = record part { name = name }

abbrev pub nameless : PartView → PartView
nameless part = with_name [] part

abbrev pub all_nameless : List PartView → List PartView
all_nameless parts = map nameless parts

pub unnamed_views : (parts : List Part) → unnamed parts ≡ all_nameless (parts_view parts)
unnamed_views [] = refl
unnamed_views (part ∷ parts) = ap (λ views. unnamed_view part ∷ views) (unnamed_views parts)

-- ---- one part

repeated : (Is Also : List ℕ → Type 0) → ((text : List ℕ) → Is text → Also text) → (n : ℕ) (text : List ℕ) → IsRepeated Is n text → IsRepeated Also n text
repeated Is Also follows zero text is = is
repeated Is Also follows (suc n) text (first, rest, cut, one, more) = (first, rest, cut, follows first one, repeated Is Also follows n rest more)

copy_named : (options : OptionsView) (name : List ℕ) (kind : PartType) (part : PartView) (text : List ℕ) → IsMatchedCopy options kind part text → IsMatchedCopy options kind (with_name name part) text
copy_named options name FixedText part text is = is
copy_named options name Regexp part text is = is
copy_named options name kind part text is = is

part_named : (options : OptionsView) (name : List ℕ) (part : PartView) (text : List ℕ) → PartMatches options part text → PartMatches options (with_name name part) text
part_named options name part text (count, allowed, copies) =
    (count, allowed, repeated (IsMatchedCopy options part.kind part) (IsMatchedCopy options part.kind (with_name name part)) (copy_named options name part.kind part) count text copies)

part_renamed : (options : OptionsView) (part other : PartView) (text : List ℕ) → nameless part ≡ nameless other → PartMatches options other text → PartMatches options part text
part_renamed options part other text same matches =
    part_named options part.name (nameless part) text (subst (λ (p : PartView). PartMatches options p text) (sym same) (part_named options [] other text matches))

-- ---- lists of parts

head_same : (part other : PartView) (parts others : List PartView) → nameless part ∷ all_nameless parts ≡ nameless other ∷ all_nameless others → nameless part ≡ nameless other
head_same part other parts others e = cc e

tail_same : (part other : PartView) (parts others : List PartView) → nameless part ∷ all_nameless parts ≡ nameless other ∷ all_nameless others → all_nameless parts ≡ all_nameless others
tail_same part other parts others e = cc e

renamed : (options : OptionsView) (parts others : List PartView) → all_nameless parts ≡ all_nameless others → (text : List ℕ) → PartsMatch options others text → PartsMatch options parts text
renamed options [] [] same text matches = matches
renamed options [] (other ∷ others) same text matches = absurd cc
renamed options (part ∷ parts) [] same text matches = absurd cc
renamed options (part ∷ parts) (other ∷ others) same text (first, rest, cut, matches, more) = (
  first,
  rest,
  cut,
  part_renamed options part other first (head_same part other parts others same) matches,
  renamed options parts others (tail_same part other parts others same) rest more,
)

folded_nameless : (ignore_case : Bool) (parts : List PartView) → all_nameless (map (folded_part ignore_case) parts) ≡ map (folded_part ignore_case) (all_nameless parts)
folded_nameless ignore_case [] = refl
folded_nameless ignore_case (part ∷ parts) = ap (λ views. nameless (folded_part ignore_case part) ∷ views) (folded_nameless ignore_case parts)

-- The texts that parts mean, with case ignored or kept, do not depend on names.
pub means_renamed : (options : OptionsView) (parts others : List PartView) → all_nameless parts ≡ all_nameless others → (text : List ℕ) → MeansText options others text → MeansText options parts text
means_renamed options parts others same text means =
    let ignore_case = options.ignore_case in
    let folded_same : all_nameless (folded_parts options parts) ≡ all_nameless (folded_parts options others) =
    folded_nameless ignore_case parts ∙ ap (λ views. map (folded_part ignore_case) views) same ∙ sym (folded_nameless ignore_case others) in
    renamed (folded_options options) (folded_parts options parts) (folded_parts options others) folded_same (map (folded_character ignore_case) text) means

-- The expression of the part is simple, if it is custom.
abbrev IsSimplePart : PartView → Type 0
IsSimplePart part = HasSimpleExpression part.kind part.value

simple_named : (part other : PartView) → nameless part ≡ nameless other → IsSimplePart other → IsSimplePart part
simple_named part other same is = subst IsSimplePart (sym same) is

pub simple_renamed : (parts others : List PartView) → all_nameless parts ≡ all_nameless others → AreSimple others → AreSimple parts
simple_renamed [] others same are = All-nil IsSimplePart
simple_renamed (part ∷ parts) [] same are = absurd cc
simple_renamed (part ∷ parts) (other ∷ others) same are =
    All-cons IsSimplePart part parts
    (simple_named part other (head_same part other parts others same) (All-head IsSimplePart other others are))
    (simple_renamed parts others (tail_same part other parts others same) (All-tail IsSimplePart other others are))

pub generated_renamed : (parts others : List PartView) → all_nameless parts ≡ all_nameless others → AreGenerated others → AreGenerated parts
generated_renamed [] others same are = All-nil IsNotCustom
generated_renamed (part ∷ parts) [] same are = absurd cc
generated_renamed (part ∷ parts) (other ∷ others) same are =
    All-cons IsNotCustom part parts
    (subst IsNotCustom (sym (head_same part other parts others same)) (All-head IsNotCustom other others are))
    (generated_renamed parts others (tail_same part other parts others same) (All-tail IsNotCustom other others are))

pub generated_nameless : (parts : List PartView) → AreGenerated parts → AreGenerated (all_nameless parts)
generated_nameless parts are = All-map IsNotCustom nameless parts are
