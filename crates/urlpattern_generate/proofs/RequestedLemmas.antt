-- The captures that are requested of the groups of parts, part by part.
use Rattle.std.proofs.Common.{◌≡◌, ◌∙◌, ℕ, Bool, true, false, List, [], ◌∷◌, ◌++◌, append-nil, append_assoc, ap, refl, sym, subst, Option}
use Rattle.std.specs.Prelude.{◌&&◌}
use Rattle.urlpattern_generate.specs.Requested.{capture_by_modifier, default_capture, empty_if, is_unnamed_full_wildcard}
use Rattle.urlpattern_generate.specs.Links.{OfEachGroup, OfFirst, captures_after, text_of_group, text_of_part, text_of_parts}
use Rattle.urlpattern_meaning.specs.PartMeaning.{Captures, capture_of_none}
use Rattle.urlpattern_syntax.specs.declared.parser.PartModifier.TheVariants as modifiers
use Rattle.urlpattern_syntax.specs.declared.parser.PartType.{PartType}
use Rattle.urlpattern_syntax.specs.declared.parser.PartType.TheVariants.{FixedText, FullWildcard, Regexp, SegmentWildcard}
use Rattle.std.specs.Char.{is_ascii_digit}
use Rattle.urlpattern_syntax.specs.Parts.{PartView}
use Rattle.urlpattern_syntax.specs.Text.{begins_with}
use Rattle.urlpattern_syntax.specs.RegexpText.{is_empty}

-- ---- one more part

after_more : (kind : PartType) (part : PartView) (Is : PartView → Option (List ℕ) → Type 0) (captures more : Captures) → OfFirst Is kind part captures →
    captures_after kind (captures ++ more) ≡ captures_after kind captures ++ more
after_more FixedText part Is captures more first = refl
after_more Regexp part Is [] more first = absurd first
after_more Regexp part Is (capture ∷ captures) more first = refl
after_more SegmentWildcard part Is [] more first = absurd first
after_more SegmentWildcard part Is (capture ∷ captures) more first = refl
after_more FullWildcard part Is [] more first = absurd first
after_more FullWildcard part Is (capture ∷ captures) more first = refl

first_more : (kind : PartType) (part : PartView) (Is : PartView → Option (List ℕ) → Type 0) (captures more : Captures) → OfFirst Is kind part captures → OfFirst Is kind part (captures ++ more)
first_more FixedText part Is captures more first = tt
first_more Regexp part Is [] more first = absurd first
first_more Regexp part Is (capture ∷ captures) more first = first
first_more SegmentWildcard part Is [] more first = absurd first
first_more SegmentWildcard part Is (capture ∷ captures) more first = first
first_more FullWildcard part Is [] more first = absurd first
first_more FullWildcard part Is (capture ∷ captures) more first = first

-- A fact about two lists of parts holds of their concatenation.
pub each_joined : (Is : PartView → Option (List ℕ) → Type 0) (parts others : List PartView) (captures more : Captures) → OfEachGroup Is parts captures → OfEachGroup Is others more →
    OfEachGroup Is (parts ++ others) (captures ++ more)
each_joined Is [] others captures more h also = subst (λ own. OfEachGroup Is others (own ++ more)) (sym h) also
each_joined Is (part ∷ parts) others captures more (first, rest) also = (
  first_more part.kind part Is captures more first,
  subst (OfEachGroup Is (parts ++ others)) (sym (after_more part.kind part Is captures more first)) (each_joined Is parts others (captures_after part.kind captures) more rest also),
)

own_more : (kind : PartType) (part : PartView) (Is : PartView → Option (List ℕ) → Type 0) (captures more : Captures) → OfFirst Is kind part captures →
    text_of_part kind part (captures ++ more) ≡ text_of_part kind part captures
own_more FixedText part Is captures more first = refl
own_more Regexp part Is [] more first = absurd first
own_more Regexp part Is (capture ∷ captures) more first = refl
own_more SegmentWildcard part Is [] more first = absurd first
own_more SegmentWildcard part Is (capture ∷ captures) more first = refl
own_more FullWildcard part Is [] more first = absurd first
own_more FullWildcard part Is (capture ∷ captures) more first = refl

-- The texts of two lists of parts are concatenated.
pub texts_joined : (Is : PartView → Option (List ℕ) → Type 0) (parts others : List PartView) (captures more : Captures) → OfEachGroup Is parts captures →
    text_of_parts (parts ++ others) (captures ++ more) ≡ text_of_parts parts captures ++ text_of_parts others more
texts_joined Is [] others captures more h = ap (λ own. text_of_parts others (own ++ more)) h
texts_joined Is (part ∷ parts) others captures more (first, rest) =
    ap (λ own. own ++ text_of_parts (parts ++ others) (captures_after part.kind (captures ++ more))) (own_more part.kind part Is captures more first)
    ∙ ap (λ left. text_of_part part.kind part captures ++ text_of_parts (parts ++ others) left) (after_more part.kind part Is captures more first)
    ∙ ap (λ text. text_of_part part.kind part captures ++ text) (texts_joined Is parts others (captures_after part.kind captures) more rest)
    ∙ sym (append_assoc (text_of_part part.kind part captures) (text_of_parts parts (captures_after part.kind captures)) (text_of_parts others more))

-- ---- one part

group_alone : (Is : PartView → Option (List ℕ) → Type 0) (kind : PartType) (part : PartView) (capture : Option (List ℕ)) → ¬ (kind ≡ FixedText) → Is part capture →
    OfFirst Is kind part (capture ∷ []) × (captures_after kind (capture ∷ []) ≡ [])
group_alone Is FixedText part capture group is = absurd (group refl)
group_alone Is Regexp part capture group is = (is, refl)
group_alone Is SegmentWildcard part capture group is = (is, refl)
group_alone Is FullWildcard part capture group is = (is, refl)

pub each_alone : (Is : PartView → Option (List ℕ) → Type 0) (part : PartView) (capture : Option (List ℕ)) → ¬ (part.kind ≡ FixedText) → Is part capture → OfEachGroup Is (part ∷ []) (capture ∷ [])
each_alone Is part capture group is = group_alone Is part.kind part capture group is

group_text : (kind : PartType) (part : PartView) (capture : Option (List ℕ)) → ¬ (kind ≡ FixedText) → text_of_part kind part (capture ∷ []) ≡ text_of_group part capture
group_text FixedText part capture group = absurd (group refl)
group_text Regexp part capture group = refl
group_text SegmentWildcard part capture group = refl
group_text FullWildcard part capture group = refl

pub text_alone : (part : PartView) (capture : Option (List ℕ)) → ¬ (part.kind ≡ FixedText) → text_of_parts (part ∷ []) (capture ∷ []) ≡ text_of_group part capture
text_alone part capture group = append-nil _ ∙ group_text part.kind part capture group

-- ---- groups without a value

pub zero_or_more : (part : PartView) (bare : Bool) → part.modifier ≡ modifiers.ZeroOrMore → bare ≡ (is_empty part.prefix && is_empty part.suffix) → empty_if bare ≡ default_capture part
zero_or_more part bare e f =
    by_bare bare ∙ ap (λ is. capture_of_none modifiers.ZeroOrMore is) f
    ∙ sym (ap (λ modifier. capture_by_modifier modifier part) e ∙ ap (λ modifier. capture_of_none modifier (is_empty part.prefix && is_empty part.suffix)) e)
  where
    by_bare : (is : Bool) → empty_if is ≡ capture_of_none modifiers.ZeroOrMore is
    by_bare true = refl
    by_bare false = refl

-- ---- unnamed wildcards

pub full_nameless : (kind : PartType) (name : List ℕ) (digit : Bool) → kind ≡ FullWildcard → digit ≡ begins_with is_ascii_digit name → digit ≡ is_unnamed_full_wildcard kind name
full_nameless kind name digit e is = is ∙ sym (ap (λ k. is_unnamed_full_wildcard k name) e)

pub other_nameless : (kind : PartType) (name : List ℕ) → ¬ (kind ≡ FullWildcard) → false ≡ is_unnamed_full_wildcard kind name
other_nameless FullWildcard name other = absurd (other refl)
other_nameless FixedText name other = refl
other_nameless Regexp name other = refl
other_nameless SegmentWildcard name other = refl
