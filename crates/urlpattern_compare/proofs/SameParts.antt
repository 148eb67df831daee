-- Components with equal parts but for names.
use Rattle.std.proofs.Common.{◌≡◌, ◌≢◌, ◌∙◌, ◌↔◌, ◌⊎◌, ℕ, Bool, true, false, List, [], ◌∷◌, ap, ap₂, inl, inr, refl, subst, sym, true≢false, ◌+◌, ◌<◌, get_or, length, take}
use Rattle.std.proofs.lemmas.List.{get_or-map, length-map, take_more_same}
use Rattle.std.proofs.lemmas.List.Elements.{All-cons, All-head, All-nil, All-tail}
use Rattle.std.specs.List.{list_any}
use Rattle.std.specs.Prelude.{◌&&◌, IsTrue, map, not, String, encode_utf8_all, string_bytes}
use Rattle.std.specs.Str.{chars}
use Rattle.std.specs.Cmp.Lexicographic.{bytes_decides}
use Rattle.std.specs.String.{string_eq}
use Rattle.std.specs.declared.alloc.Global.{Global}
use Rattle.urlpattern_compare.specs.Answers.{AreKnown}
use Rattle.urlpattern_compare.proofs.AnswerLemmas.{known_generated}
use Rattle.urlpattern_compare.proofs.NamelessParts.{all_nameless, generated_renamed, means_renamed, simple_renamed, unnamed_views}
use Rattle.urlpattern_compare.specs.Comparing.{AreSame, IsCaseKeptOrGenerated, IsKnown, MeansAllOf, misses_case}
use Rattle.urlpattern_compare.specs.EqualParts.{AreEqual}
use Rattle.urlpattern_compare.specs.MeantTexts.{MeansText}
use Rattle.urlpattern_syntax.specs.declared.parts.ComponentParts.{ComponentParts}
use Rattle.urlpattern_syntax.proofs.StringTexts.{text_bytes}
use Rattle.urlpattern_expressions.proofs.SimpleLemmas.{none_custom, some_custom}
use Rattle.urlpattern_expressions.specs.SimpleExpressions.{AreSimple, HasSimpleExpression, is_custom_part, is_simple}
use Rattle.urlpattern_syntax.specs.declared.parser.Part.{Part}
use Rattle.urlpattern_syntax.specs.declared.parser.PartType.{PartType}
use Rattle.urlpattern_syntax.specs.{Options.OptionsView, Options.options_view, Parts.PartView, Parts.parts_view, Text.text_of}

-- ---- tests

pub apart_false : {V : Type 0} (view other : V) → view ≢ other → IsTrue false ↔ (view ≡ other)
apart_false view other apart = (λ never. absurd (true≢false (sym never)), λ same. absurd (apart same))

-- Strings have the same text if and only if they have the same bytes.
pub same_text : (string other : String Global) → IsTrue (string_eq string other) ↔ text_of string ≡ text_of other
same_text string other =
    let (same, equal) = bytes_decides (string_bytes string) (string_bytes other) in
    (λ is. ap chars (same is), λ is. equal (sym (text_bytes string) ∙ ap encode_utf8_all is ∙ text_bytes other))

-- ---- lists of parts

module _ (view : Part → PartView) (parts others : List Part) (i : ℕ) (part other : Part) (within : i < length parts) (within_others : i < length others)
    (at_i : part ≡ get_or parts i part) (at_others : other ≡ get_or others i other) where
  here : get_or (map view parts) i (view part) ≡ view part
  here = get_or-map view parts i part (view part) within ∙ ap view (sym at_i)

  there : get_or (map view others) i (view part) ≡ view other
  there = get_or-map view others i other (view part) within_others ∙ ap view (sym at_others)

  -- The lists are equal up to another part.
  pub views_more : take i (map view parts) ≡ take i (map view others) → view part ≡ view other → take (i + 1) (map view parts) ≡ take (i + 1) (map view others)
  views_more same now =
      take_more_same (map view parts) (map view others) i (view part) (subst (λ (n : ℕ). i < n) (sym (length-map parts view)) within)
      (subst (λ (n : ℕ). i < n) (sym (length-map others view)) within_others) same (here ∙ now ∙ sym there)

  -- A part that differs makes the lists differ.
  pub views_apart : view part ≢ view other → map view parts ≢ map view others
  views_apart apart same = apart (sym here ∙ ap (λ (views : List PartView). get_or views i (view part)) same ∙ there)

-- ---- components

pub same_nameless : (component asked : ComponentParts) → AreSame component asked → all_nameless (parts_view component.parts.items) ≡ all_nameless (parts_view asked.parts.items)
same_nameless component asked same = sym (unnamed_views component.parts.items) ∙ same.parts ∙ unnamed_views asked.parts.items

-- The expressions of the parts are simple, or not.
true_or_not : (b : Bool) → (b ≡ true) ⊎ ¬ (b ≡ true)
true_or_not true = inl refl
true_or_not false = inr (λ e. true≢false (sym e))

abbrev IsSimplePart : PartView → Type 0
IsSimplePart part = HasSimpleExpression part.kind part.value

part_simple_or_not : (kind : PartType) (value : List ℕ) → HasSimpleExpression kind value ⊎ ¬ HasSimpleExpression kind value
part_simple_or_not PartType.Regexp value = true_or_not (is_simple value)
part_simple_or_not PartType.FixedText value = inl tt
part_simple_or_not PartType.SegmentWildcard value = inl tt
part_simple_or_not PartType.FullWildcard value = inl tt

simple_or_not : (parts : List PartView) → AreSimple parts ⊎ ¬ AreSimple parts
simple_or_not [] = inl (All-nil IsSimplePart)
simple_or_not (part ∷ parts) = both (part_simple_or_not part.kind part.value) (simple_or_not parts)
  where
    both : IsSimplePart part ⊎ ¬ IsSimplePart part → AreSimple parts ⊎ ¬ AreSimple parts → AreSimple (part ∷ parts) ⊎ ¬ AreSimple (part ∷ parts)
    both (inr complex) rest = inr (λ are. complex (All-head IsSimplePart part parts are))
    both (inl simple) (inr complex) = inr (λ are. complex (All-tail IsSimplePart part parts are))
    both (inl simple) (inl are) = inl (All-cons IsSimplePart part parts simple are)

-- The texts that the parts mean are known, or not.
pub known_or_not : (component : ComponentParts) → IsKnown component ⊎ ¬ IsKnown component
known_or_not component =
    by (parts_known_or_not (list_any is_custom_part component.parts.items) refl component.options.ignore_case refl (simple_or_not (parts_view component.parts.items))) (misses_case component) refl
  where
    by : AreKnown (options_view component.options) (parts_view component.parts.items) ⊎ ¬ AreKnown (options_view component.options) (parts_view component.parts.items) → (missed : Bool) → misses_case component ≡ missed → IsKnown component ⊎ ¬ IsKnown component
    by (inr unsure) missed f = inr (λ known. unsure known.parts)
    by (inl told) true f = inr (λ known. true≢false (sym f ∙ known.case))
    by (inl told) false f = inl (record { parts = told; case = f })

    parts_known_or_not : (some : Bool) → list_any is_custom_part component.parts.items ≡ some → (ignored : Bool) → component.options.ignore_case ≡ ignored → AreSimple (parts_view component.parts.items) ⊎ ¬ AreSimple (parts_view component.parts.items) →
        AreKnown (options_view component.options) (parts_view component.parts.items) ⊎ ¬ AreKnown (options_view component.options) (parts_view component.parts.items)
    parts_known_or_not some e ignored f (inr complex) = inr (λ told. complex told.simple)
    parts_known_or_not some e false f (inl simple) = inl (record { simple = simple; by_case = inl f })
    parts_known_or_not true e true f (inl simple) = inr (λ told. some_custom component.parts.items e (known_generated (options_view component.options) (parts_view component.parts.items) told f))
    parts_known_or_not false e true f (inl simple) = inl (record { simple = simple; by_case = inr (none_custom component.parts.items e) })

-- Where case is ignored, `IsCaseKeptOrGenerated` says that no part is custom.
pub settled_by : (component : ComponentParts) (some : Bool) → component.options.ignore_case ≡ true → some ≡ list_any is_custom_part component.parts.items → IsTrue (not some) ↔ IsCaseKeptOrGenerated component
settled_by component true ignored e = (
  λ never. absurd (true≢false (sym never)),
  λ kept_or_generated. elim kept_or_generated [
    | inl kept ↦ absurd (true≢false (sym ignored ∙ kept))
    | inr generated ↦ absurd (some_custom component.parts.items (sym e) generated)
  ],
)
settled_by component false ignored e = (λ is. inr (none_custom component.parts.items (sym e)), λ kept_or_generated. refl)

-- Two components are equal in either order.
pub same_flips : (component other : ComponentParts) → AreSame component other → AreSame other component
same_flips component other same =
    let parts = parts_view component.parts.items in
    let others = parts_view other.parts.items in
    record {
      options = sym same.options;
      parts = sym same.parts;
      case = sym same.case;
      kept_or_generated = elim same.kept_or_generated [
        | inl kept ↦ inl (sym (ap (λ (o : OptionsView). o.ignore_case) same.options) ∙ kept)
        | inr generated ↦ inr (generated_renamed others parts (sym (same_nameless component other same)) generated)
      ];
    }

-- Components with equal parts are equal but for names.
pub equal_same : (component other : ComponentParts) → AreEqual component other → IsCaseKeptOrGenerated component → AreSame component other
equal_same component other equal kept = record {
  options = equal.options;
  parts = unnamed_views component.parts.items ∙ ap all_nameless equal.parts ∙ sym (unnamed_views other.parts.items);
  case = equal.case;
  kept_or_generated = kept;
}

-- Equal components miss case alike.
same_missed : (component other : ComponentParts) → AreSame component other → misses_case component ≡ misses_case other
same_missed component other same = ap₂ (λ ignored honours. ignored && not honours) (ap (λ (o : OptionsView). o.ignore_case) same.options) same.case

-- Equal parts mean the same texts, where these are known.
pub same_within : (component asked : ComponentParts) → AreSame component asked → IsKnown component → MeansAllOf component asked
same_within component asked same known =
    let parts = parts_view component.parts.items in
    let others = parts_view asked.parts.items in
    let nameless = same_nameless component asked same in
    record {
      known = known;
      asked_known = record {
        parts = record {
          simple = simple_renamed others parts (sym nameless) known.parts.simple;
          by_case = elim known.parts.by_case [
            | inl kept ↦ inl (sym (ap (λ (o : OptionsView). o.ignore_case) same.options) ∙ kept)
            | inr generated ↦ inr (generated_renamed others parts (sym nameless) generated)
          ];
        };
        case = sym (same_missed component asked same) ∙ known.case;
      };
      within = λ text line means.
          subst (λ (o : OptionsView). MeansText o parts text) (sym same.options) (means_renamed (options_view asked.options) parts others nameless text means);
    }
