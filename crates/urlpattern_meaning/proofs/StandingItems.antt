-- Items that spell parts, one by one: their demands, and the parts that they make.
use Rattle.std.proofs.Common.{◌≡◌, ◌≢◌, ℕ, suc, ◌<◌, List, [], ◌∷◌, ◌++◌, length, get_or, refl, sym, ap, ◌∙◌, subst, inl, inr, arith}
use Rattle.std.specs.Prelude.{All, AllPairs, Contains, IsTrue, Ok, Err, if◌then◌else◌}
use Rattle.std.proofs.lemmas.List.Elements.{All-head, All-tail, Contains-push_cases}
use Rattle.urlpattern_syntax.proofs.ReadingLemmas.{item_names}
use Rattle.urlpattern_syntax.specs.declared.parser.PartModifier.{PartModifier}
use Rattle.urlpattern_syntax.specs.declared.parser.PartModifier.TheVariants as modifiers
use Rattle.urlpattern_syntax.specs.declared.parser.PartType.{PartType}
use Rattle.urlpattern_syntax.specs.declared.parser.PartType.TheVariants.{FixedText}
use Rattle.urlpattern_syntax.specs.declared.tokenizer.TokenType.TheVariants.{End}
use Rattle.urlpattern_syntax.specs.Errors.{ErrorView}
use Rattle.urlpattern_syntax.specs.Options.{OptionsView}
use Rattle.urlpattern_syntax.specs.Parts.{PartView, fixed_text}
use Rattle.urlpattern_syntax.specs.Pieces.{PlaceholderKindView, Ending as endings}
use Rattle.urlpattern_syntax.specs.Reading.{AreMet, AreParts, Capture, Encoding, FirstFails, Fixed, Item, capture_part, placeholder_regexp, demands_after, fixed_text_demands, value_of}
use Rattle.urlpattern_syntax.specs.RegexpText.{is_fixed_text}
use Rattle.urlpattern_syntax.specs.Tokens.{TokenView}
use Rattle.urlpattern_meaning.specs.Printing.{HaveTexts, encoded_texts}
use Rattle.urlpattern_meaning.specs.RoundTrip.{AllFieldsFit, AreNamed, FieldsFitKind, IsNamed, following_number}
use Rattle.urlpattern_meaning.proofs.NameLaws.{Differ, NewNames}
use Rattle.urlpattern_meaning.proofs.RoundTripWords.{AreItemsOf, IsItemOf}

-- ---- each item and its part

-- `Of` holds of each of the texts.
abbrev pub EachText : (List ℕ → Type 0) → List (List ℕ) → Type 0
EachText Of [] = Unit {0}
EachText Of (text ∷ texts) = Of text × EachText Of texts

pub EachText-weaker : (Of Other : List ℕ → Type 0) → ((text : List ℕ) → Of text → Other text) → (texts : List (List ℕ)) → EachText Of texts → EachText Other texts
EachText-weaker Of Other f [] h = tt
EachText-weaker Of Other f (text ∷ texts) h = (f text h.0, EachText-weaker Of Other f texts h.1)

-- Each of the texts is among the texts.
pub each_contained : (texts : List (List ℕ)) → EachText (Contains texts) texts
each_contained [] = tt
each_contained (text ∷ texts) =
    ((0, omega arith, refl), EachText-weaker (Contains texts) (Contains (text ∷ texts)) (λ other has. (suc has.0, let lt : has.0 < length texts = has.1 in omega arith, has.2)) texts (each_contained texts))

-- Items that spell parts one by one, where `Of` holds of each text of the parts.
pub data AllStand (options : OptionsView) (Of : List ℕ → Type 0) : List PartView → List Item → Type 0 where
  none : AllStand options Of [] []
  fixed : (c : ℕ) (text : List ℕ) (modifier : PartModifier) (parts : List PartView) (items : List Item) → Of (c ∷ text) → AllStand options Of parts items → AllStand options Of (fixed_text (c ∷ text) modifier ∷ parts) (Fixed (c ∷ text) modifier ∷ items)
  group : (prefix name : List ℕ) (match : PlaceholderKindView) (suffix : List ℕ) (modifier : PartModifier) (parts : List PartView) (items : List Item) → Of prefix → Of suffix → AllStand options Of parts items → AllStand options Of (capture_part options prefix name match suffix modifier ∷ parts) (Capture prefix name match suffix modifier ∷ items)

module _ (options : OptionsView) (Of : List ℕ → Type 0) where
  -- The texts of a part of this kind, and of the parts after it.
  abbrev Texts : PartType → PartView → List PartView → Type 0
  Texts kind part parts = EachText Of ((if is_fixed_text kind then part.value ∷ [] else part.prefix ∷ part.suffix ∷ []) ++ encoded_texts parts)

  after_texts : (kind : PartType) (part : PartView) (parts : List PartView) → Texts kind part parts → EachText Of (encoded_texts parts)
  after_texts FixedText part parts h = h.1
  after_texts kind part parts h = h.1.1

  -- A fixed text that is not empty, before other parts.
  stand_fixed : (part : PartView) (item : Item) (parts : List PartView) (items : List Item) (value : List ℕ) → part ≡ fixed_text value part.modifier → value ≢ [] → Of value →
      item ≡ Fixed value part.modifier → AllStand options Of parts items → AllStand options Of (part ∷ parts) (item ∷ items)
  stand_fixed part item parts items [] e filled of is more = absurd (filled refl)
  stand_fixed part item parts items (c ∷ text) e filled of is more =
      subst (λ x. AllStand options Of (x ∷ parts) (item ∷ items)) (sym e)
      (subst (λ x. AllStand options Of (fixed_text (c ∷ text) part.modifier ∷ parts) (x ∷ items)) (sym is)
      (fixed c text part.modifier parts items of more))

  stand_first : (kind : PartType) (part : PartView) (item : Item) (parts : List PartView) (items : List Item) (number : ℕ) → part.kind ≡ kind →
      IsItemOf options kind part item → FieldsFitKind options kind part → IsNamed number kind part.name → (IsTrue (is_fixed_text kind) → part.value ≢ []) → Texts kind part parts →
      AllStand options Of parts items → AllStand options Of (part ∷ parts) (item ∷ items)
  stand_first FixedText part item parts items number e is fields name filled texts more =
      stand_fixed part item parts items part.value
      (λ i. record { kind = e i; value = part.value; modifier = part.modifier; name = name i; prefix = fields.0 i; suffix = fields.1 i })
      (filled refl) texts.0 is more
  stand_first kind part item parts items number e is fields name filled texts more =
      let same : part ≡ capture_part options part.prefix part.name is.0 part.suffix part.modifier =
      λ i. record { kind = sym is.2 i; value = (sym is.3 ∙ ap (λ k. value_of k (placeholder_regexp options is.0)) (sym is.2)) i; modifier = part.modifier; name = part.name; prefix = part.prefix; suffix = part.suffix } in
      subst (λ x. AllStand options Of (x ∷ parts) (item ∷ items)) (sym same)
      (subst (λ x. AllStand options Of (capture_part options part.prefix part.name is.0 part.suffix part.modifier ∷ parts) (x ∷ items)) (sym is.1)
      (group part.prefix part.name is.0 part.suffix part.modifier parts items texts.0 texts.1.0 more))

  -- The items of parts whose fields and names are those of pattern parts.
  pub items_stand : (number : ℕ) (parts : List PartView) (items : List Item) → AreItemsOf options parts items → AllFieldsFit options parts → AreNamed number parts → HaveTexts parts →
      EachText Of (encoded_texts parts) → AllStand options Of parts items
  items_stand number [] items is fields names filled texts = subst (AllStand options Of []) (sym is) none
  items_stand number (part ∷ parts) items is fields names filled texts =
      subst (AllStand options Of (part ∷ parts)) (sym is.2)
      (stand_first part.kind part is.0 parts is.1 number refl is.3 fields.0 names.0 filled.0 texts
      (items_stand (following_number number part.kind part) parts is.1 is.4 fields.1 names.1 filled.1 (after_texts part.kind part parts texts)))

-- ---- names

pairs_head : (R : List ℕ → List ℕ → Type 0) (x : List ℕ) (xs : List (List ℕ)) → AllPairs R (x ∷ xs) → All (R x) xs
pairs_head R x xs h = λ k d lt. h 0 (suc k) d (omega arith) (omega arith)

pairs_tail : (R : List ℕ → List ℕ → Type 0) (x : List ℕ) (xs : List (List ℕ)) → AllPairs R (x ∷ xs) → AllPairs R xs
pairs_tail R x xs h = λ i j d lt within. h (suc i) (suc j) d (omega arith) (omega arith)

-- A name that is neither among those before it nor the current name.
both_new : (earlier : List (List ℕ)) (name : List ℕ) (names : List (List ℕ)) → All (λ other. ¬ Contains earlier other) names → All (Differ name) names → All (λ other. ¬ Contains (earlier ++ name ∷ []) other) names
both_new earlier name names behind differ = λ k d lt has.
    elim (Contains-push_cases earlier name (get_or names k d) has) [ inl old ↦ behind k d lt old | inr same ↦ differ k d lt same ]

-- Names that differ are new, one after the other.
pub distinct_new : (earlier : List (List ℕ)) (items : List Item) → All (λ other. ¬ Contains earlier other) (item_names items) → AllPairs Differ (item_names items) → NewNames earlier items
distinct_new earlier [] behind distinct = tt
distinct_new earlier (Fixed text modifier ∷ items) behind distinct = distinct_new earlier items behind distinct
distinct_new earlier (Capture prefix name match suffix modifier ∷ items) behind distinct =
    let others = item_names items in (
      All-head (λ other. ¬ Contains earlier other) name others behind,
      distinct_new (earlier ++ name ∷ []) items
          (both_new earlier name others (All-tail (λ other. ¬ Contains earlier other) name others behind) (pairs_head Differ name others distinct))
          (pairs_tail Differ name others distinct),
    )

-- ---- demands

demands-fixed : (earlier : List (List ℕ)) (text : List ℕ) (modifier : PartModifier) (items : List Item) (found : TokenView) →
    demands_after earlier (Fixed text modifier ∷ items) (endings.Stops found) ≡ fixed_text_demands text ++ demands_after earlier items (endings.Stops found)
demands-fixed earlier text modifiers.None [] found = refl
demands-fixed earlier text modifiers.None (x ∷ items) found = refl
demands-fixed earlier text modifiers.Optional items found = refl
demands-fixed earlier text modifiers.ZeroOrMore items found = refl
demands-fixed earlier text modifiers.OneOrMore items found = refl

module _ (options : OptionsView) (encoding : Encoding) (Of : List ℕ → Type 0) where
  -- The demands are met, where the encoding may return each text unchanged.
  pub stand_met : ((text : List ℕ) → Of text → encoding text (Ok text)) → (earlier : List (List ℕ)) (parts : List PartView) (items : List Item) (found : TokenView) →
      AllStand options Of parts items → NewNames earlier items → found.kind ≡ End → AreMet encoding (demands_after earlier items (endings.Stops found))
  stand_met itself earlier [] [] found none new is_end = (is_end, tt)
  stand_met itself earlier _ _ found (fixed c text modifier parts items of more) new is_end =
      subst (AreMet encoding) (sym (demands-fixed earlier (c ∷ text) modifier items found))
      ((c ∷ text, itself (c ∷ text) of), stand_met itself earlier parts items found more new is_end)
  stand_met itself earlier _ _ found (group prefix name match suffix modifier parts items of_prefix of_suffix more) new is_end =
      (new.0, ((prefix, itself prefix of_prefix), ((suffix, itself suffix of_suffix), stand_met itself (earlier ++ name ∷ []) parts items found more new.1 is_end)))

  -- A demand that fails does so by an error that the encoding may return for one of the texts.
  pub stand_failing : (earlier : List (List ℕ)) (parts : List PartView) (items : List Item) (found : TokenView) (error : ErrorView) →
      AllStand options Of parts items → NewNames earlier items → found.kind ≡ End → FirstFails encoding (demands_after earlier items (endings.Stops found)) error →
      (text : List ℕ) × Of text × encoding text (Err error)
  stand_failing earlier [] [] found error none new is_end (inl fails) = absurd (fails.0 is_end)
  stand_failing earlier [] [] found error none new is_end (inr fails) = absurd fails.1
  stand_failing earlier _ _ found error (fixed c text modifier parts items of more) new is_end fails =
      elim (subst (λ x. FirstFails encoding x error) (demands-fixed earlier (c ∷ text) modifier items found) fails) [
        | inl first ↦ (c ∷ text, of, first)
        | inr behind ↦ stand_failing earlier parts items found error more new is_end behind.1
      ]
  stand_failing earlier _ _ found error (group prefix name match suffix modifier parts items of_prefix of_suffix more) new is_end (inl fails) = absurd (new.0 fails.0)
  stand_failing earlier _ _ found error (group prefix name match suffix modifier parts items of_prefix of_suffix more) new is_end (inr fails) =
      elim fails.1 [
        | inl first ↦ (prefix, of_prefix, first)
        | inr behind ↦ elim behind.1 [
          | inl first ↦ (suffix, of_suffix, first)
          | inr last ↦ stand_failing (earlier ++ name ∷ []) parts items found error more new.1 is_end last.1
        ]
      ]

  -- ---- parts

  -- The items make the parts, where the encoding may return each text unchanged.
  pub stand_parts : ((text : List ℕ) → Of text → encoding text (Ok text)) → (parts : List PartView) (items : List Item) → AllStand options Of parts items → AreParts options encoding items parts
  stand_parts itself [] [] none = refl
  stand_parts itself _ _ (fixed c text modifier parts items of more) = (c ∷ text, parts, refl, itself (c ∷ text) of, stand_parts itself parts items more)
  stand_parts itself _ _ (group prefix name match suffix modifier parts items of_prefix of_suffix more) =
      (prefix, suffix, parts, refl, itself prefix of_prefix, itself suffix of_suffix, stand_parts itself parts items more)

  -- The items make no other parts, where the encoding changes no text.
  pub stand_only : ((text other : List ℕ) → Of text → encoding text (Ok other) → other ≡ text) → (parts : List PartView) (items : List Item) (others : List PartView) →
      AllStand options Of parts items → AreParts options encoding items others → others ≡ parts
  stand_only only [] [] others none are = are
  stand_only only _ _ others (fixed c text modifier parts items of more) are =
      are.2 ∙ ap (λ x. fixed_text x modifier ∷ are.1) (only (c ∷ text) are.0 of are.3)
      ∙ ap (λ x. fixed_text (c ∷ text) modifier ∷ x) (stand_only only parts items are.1 more are.4)
  stand_only only _ _ others (group prefix name match suffix modifier parts items of_prefix of_suffix more) are =
      are.3 ∙ ap (λ x. capture_part options x name match are.1 modifier ∷ are.2) (only prefix are.0 of_prefix are.4)
      ∙ ap (λ x. capture_part options prefix name match x modifier ∷ are.2) (only suffix are.1 of_suffix are.5)
      ∙ ap (λ x. capture_part options prefix name match suffix modifier ∷ x) (stand_only only parts items are.2 more are.6)
