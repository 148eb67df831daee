-- The parts that a text reads as are pattern parts.
use Rattle.std.proofs.Common.{◌≡◌, ◌≢◌, ℕ, suc, ◌⊎◌, not, List, [], ◌∷◌, Option, Some, None, refl, sym, ap, ◌∙◌, subst, inl, inr}
use Rattle.std.specs.Prelude.{IsTrue, bytes_eq, codes, decimal, if◌then◌else◌}
use Rattle.std.specs.Char.{is_ascii_digit}
use Rattle.std.proofs.lemmas.Bool.{cond_both, false≢true}
use Rattle.std.proofs.lemmas.Slice.Eq.{bytes_eq-Decides}
use Rattle.urlpattern_syntax.specs.declared.parser.PartModifier.{PartModifier}
use Rattle.urlpattern_syntax.specs.declared.parser.PartModifier.TheVariants as modifiers
use Rattle.urlpattern_syntax.specs.declared.parser.PartType.{PartType}
use Rattle.urlpattern_syntax.specs.declared.parser.PartType.TheVariants.{SegmentWildcard, FullWildcard}
use Rattle.urlpattern_syntax.specs.declared.parser.PartType.TheVariants as part_types
use Rattle.urlpattern_syntax.specs.declared.tokenizer.TokenType.TheVariants.{Name, Regexp}
use Rattle.urlpattern_syntax.specs.Options.{OptionsView}
use Rattle.urlpattern_syntax.specs.Parts.{PartView}
use Rattle.urlpattern_syntax.specs.Pieces.{ArePieces, Ending, IsPlaceholderOf, PlaceholderKindView, Piece, kinds, values, Ending as endings, PlaceholderKindView as matched, Piece as pieces}
use Rattle.urlpattern_syntax.specs.Reading.{AreParts, Capture, Encoding, Fixed, Item, Reads, capture_part, placeholder_regexp, items_from, items_of, joined_items, kind_of, name_or, next_number, value_of, with_text}
use Rattle.urlpattern_syntax.specs.RegexpText.{full_wildcard, segment_wildcard, segment_wildcard_of}
use Rattle.urlpattern_syntax.specs.Text.{begins_with, is_among}
use Rattle.urlpattern_syntax.specs.Tokens.{AreTokens, IsName, IsRegexpBody, TokenView}
use Rattle.urlpattern_meaning.specs.RoundTrip.{AllFieldsFit, AreNamed, ArePatternParts, FieldsFitKind, IsNamed, following_number}
use Rattle.urlpattern_meaning.proofs.KindValues.{AllOfKind, PiecesHave, pieces_have, text_of_kind}
use Rattle.urlpattern_meaning.proofs.NameLaws.{GivesName, NamePieces, all_piece_names, names_distinct, text_names}
use Rattle.urlpattern_syntax.proofs.NameCharacters.{decimal_starts, name_starts, starts_with_digit}

-- ---- the bodies in tokens and placeholders

-- The value of each Regexp is a body.
abbrev BodyTokens : List TokenView → Type 0
BodyTokens tokens = AllOfKind Regexp IsRegexpBody tokens

text_bodies : (text : List ℕ) (tokens : List TokenView) → AreTokens text tokens → BodyTokens tokens
text_bodies = text_of_kind Regexp IsRegexpBody (λ e. cc e) (λ value text spells. spells.1)

abbrev GivesBody : PlaceholderKindView → Type 0
GivesBody (matched.Custom body) = IsRegexpBody body
GivesBody match = Unit {0}

first_body : (tokens : List TokenView) (body : List ℕ) → BodyTokens tokens → kinds tokens ≡ Regexp ∷ [] → values tokens ≡ body ∷ [] → IsRegexpBody body
first_body [] body h k v = absurd (cc k)
first_body (token ∷ tokens) body h k v =
    let kind : token.kind ≡ Regexp = cc k in
    let value : token.value ≡ body = cc v in
    subst IsRegexpBody value (h.0 kind)

second_body : (tokens : List TokenView) (name body : List ℕ) → BodyTokens tokens → kinds tokens ≡ Name ∷ Regexp ∷ [] → values tokens ≡ name ∷ body ∷ [] → IsRegexpBody body
second_body [] name body h k v = absurd (cc k)
second_body (token ∷ tokens) name body h k v = first_body tokens body h.1 (cc k) (cc v)

placeholder_body : (tokens : List TokenView) (name : Option (List ℕ)) (what : PlaceholderKindView) → BodyTokens tokens → IsPlaceholderOf tokens name what → GivesBody what
placeholder_body tokens name matched.Segment h is = tt
placeholder_body tokens name matched.Anything h is = tt
placeholder_body tokens None (matched.Custom body) h is = first_body tokens body h is.0 is.1
placeholder_body tokens (Some name) (matched.Custom body) h is = second_body tokens name body h is.0 is.1

-- A segment has a name of its own.
abbrev IsNamedSegment : Option (List ℕ) → PlaceholderKindView → Type 0
IsNamedSegment None matched.Segment = ⊥
IsNamedSegment name match = Unit {0}

placeholder_segment : (tokens : List TokenView) (name : Option (List ℕ)) (what : PlaceholderKindView) → IsPlaceholderOf tokens name what → IsNamedSegment name what
placeholder_segment tokens None matched.Segment is = absurd is
placeholder_segment tokens None (matched.Custom body) is = tt
placeholder_segment tokens None matched.Anything is = tt
placeholder_segment tokens (Some name) what is = tt

-- The properties of a placeholder's match.
record HasMatch (name : Option (List ℕ)) (what : PlaceholderKindView) : Type 0 where
  pub body : GivesBody what
  pub segment : IsNamedSegment name what

placeholder_match : (tokens : List TokenView) (name : Option (List ℕ)) (what : PlaceholderKindView) → BodyTokens tokens → IsPlaceholderOf tokens name what → HasMatch name what
placeholder_match tokens name what h is = record { body = placeholder_body tokens name what h is; segment = placeholder_segment tokens name what is }

-- The placeholder of each piece has these properties.
abbrev MatchPieces : List Piece → Type 0
MatchPieces list = PiecesHave HasMatch list

all_piece_matches : (point : List ℕ) (tokens : List TokenView) (list : List Piece) (ending : Ending) → BodyTokens tokens → ArePieces point tokens list ending → MatchPieces list
all_piece_matches = pieces_have Regexp IsRegexpBody HasMatch placeholder_match

-- ---- items

-- The number of groups without a name of their own, up to the group of this name.
abbrev number_with : ℕ → List ℕ → ℕ
number_with number name = if not (begins_with is_ascii_digit name) then number else suc number

-- A custom regular expression is a body, and a segment has a name of its own.
abbrev IsItemMatch : PlaceholderKindView → List ℕ → Type 0
IsItemMatch matched.Segment name = IsName name
IsItemMatch (matched.Custom body) name = IsRegexpBody body
IsItemMatch matched.Anything name = Unit {0}

-- The properties of a group's match and name, where `number` groups without a name are before it.
record IsGroup (number : ℕ) (name : List ℕ) (match : PlaceholderKindView) : Type 0 where
  pub matches : IsItemMatch match name
  pub named : IsName name ⊎ (name ≡ decimal number)

abbrev AreGroups : ℕ → List Item → Type 0
AreGroups number [] = Unit {0}
AreGroups number (Fixed text modifier ∷ items) = AreGroups number items
AreGroups number (Capture prefix name match suffix modifier ∷ items) = IsGroup number name match × AreGroups (number_with number name) items

with_name : (number : ℕ) (name : List ℕ) → IsName name → number_with number name ≡ number
unfolding starts_with_digit
with_name number name is = ap (λ b. if not b then number else suc number) (name_starts name is)

with_number : (number : ℕ) → number_with number (decimal number) ≡ suc number
unfolding starts_with_digit
with_number number = ap (λ b. if not b then number else suc number) (decimal_starts number)

with_or : (number : ℕ) (name : Option (List ℕ)) → GivesName name → number_with number (name_or name number) ≡ next_number name number
with_or number (Some name) is = with_name number name is
with_or number None is = with_number number

-- The group of a placeholder.
placeholder_group : (number : ℕ) (name : Option (List ℕ)) (match : PlaceholderKindView) → GivesName name → HasMatch name match → IsGroup number (name_or name number) match
placeholder_group number (Some name) matched.Segment is h = record { matches = is; named = inl is }
placeholder_group number (Some name) (matched.Custom body) is h = record { matches = h.body; named = inl is }
placeholder_group number (Some name) matched.Anything is h = record { matches = tt; named = inl is }
placeholder_group number None matched.Segment is h = absurd h.segment
placeholder_group number None (matched.Custom body) is h = record { matches = h.body; named = inr refl }
placeholder_group number None matched.Anything is h = record { matches = tt; named = inr refl }

pieces_groups : (number : ℕ) (list : List Piece) → NamePieces list → MatchPieces list → AreGroups number (items_from number list)
pieces_groups number [] h m = tt
pieces_groups number (pieces.Text text ∷ list) h m = pieces_groups number list h.1 m.1
pieces_groups number (pieces.TextGroup text modifier ∷ list) h m = pieces_groups number list h.1 m.1
pieces_groups number (pieces.Bare prefix placeholder modifier ∷ list) h m = (
  placeholder_group number placeholder.name placeholder.matched h.0 m.0,
  subst (λ n. AreGroups n (items_from (next_number placeholder.name number) list)) (sym (with_or number placeholder.name h.0))
      (pieces_groups (next_number placeholder.name number) list h.1 m.1),
)
pieces_groups number (pieces.Group before placeholder after modifier ∷ list) h m = (
  placeholder_group number placeholder.name placeholder.matched h.0 m.0,
  subst (λ n. AreGroups n (items_from (next_number placeholder.name number) list)) (sym (with_or number placeholder.name h.0))
      (pieces_groups (next_number placeholder.name number) list h.1 m.1),
)

-- Joining keeps the groups as they are.
groups-with_text : (number : ℕ) (text : List ℕ) (items : List Item) → AreGroups number items → AreGroups number (with_text text items)
groups-with_text number [] items h = h
groups-with_text number (c ∷ text) [] h = h
groups-with_text number (c ∷ text) (Fixed more modifiers.None ∷ items) h = h
groups-with_text number (c ∷ text) (Fixed more modifiers.Optional ∷ items) h = h
groups-with_text number (c ∷ text) (Fixed more modifiers.ZeroOrMore ∷ items) h = h
groups-with_text number (c ∷ text) (Fixed more modifiers.OneOrMore ∷ items) h = h
groups-with_text number (c ∷ text) (Capture prefix name match suffix modifier ∷ items) h = h

groups-joined : (number : ℕ) (items : List Item) → AreGroups number items → AreGroups number (joined_items items)
groups-joined number [] h = h
groups-joined number (Fixed text modifiers.None ∷ items) h = groups-with_text number text (joined_items items) (groups-joined number items h)
groups-joined number (Fixed text modifiers.Optional ∷ items) h = groups-joined number items h
groups-joined number (Fixed text modifiers.ZeroOrMore ∷ items) h = groups-joined number items h
groups-joined number (Fixed text modifiers.OneOrMore ∷ items) h = groups-joined number items h
groups-joined number (Capture prefix name match suffix modifier ∷ items) h = (h.0, groups-joined (number_with number name) items h.1)

-- ---- parts

-- The full wildcard is not the segment wildcard.
full_no_segment : (options : OptionsView) → full_wildcard ≢ segment_wildcard options
full_no_segment options = by_delimiter options.delimiter
  where
    by_delimiter : (delimiter : Option ℕ) → full_wildcard ≢ segment_wildcard_of options.syntax delimiter
    by_delimiter None e = cc e
    by_delimiter (Some c) e = false≢true (sym (ap (λ t. begins_with (is_among (codes ".")) t) e))

-- The fields of a group with this regular expression.
abbrev HasKind : OptionsView → (regexp name : List ℕ) → PartType → (before after : List ℕ) → PartModifier → Type 0
HasKind options regexp name kind before after modifier =
    FieldsFitKind options kind (record { kind = kind; value = value_of kind regexp; modifier = modifier; name = name; prefix = before; suffix = after })

-- The kind of a group, by its regular expression.
kind_has : (options : OptionsView) (regexp name before after : List ℕ) (modifier : PartModifier) →
    (regexp ≡ segment_wildcard options → ¬ IsTrue (not (begins_with is_ascii_digit name)) → IsRegexpBody (segment_wildcard options)) →
    (regexp ≢ segment_wildcard options → regexp ≢ full_wildcard → IsRegexpBody regexp) →
    HasKind options regexp name (kind_of options regexp) before after modifier
kind_has options regexp name before after modifier segment custom =
    cond_both (bytes_eq regexp (segment_wildcard options)) SegmentWildcard _ (λ kind. HasKind options regexp name kind before after modifier)
    (λ e. (refl, segment ((bytes_eq-Decides regexp (segment_wildcard options)).0 e)))
    (λ e. cond_both (bytes_eq regexp full_wildcard) FullWildcard part_types.Regexp (λ kind. HasKind options regexp name kind before after modifier)
    (λ f. refl)
    (λ f.
    let other : regexp ≢ segment_wildcard options = λ same. false≢true (sym e ∙ (bytes_eq-Decides regexp (segment_wildcard options)).1 same) in
    let another : regexp ≢ full_wildcard = λ same. false≢true (sym f ∙ (bytes_eq-Decides regexp full_wildcard).1 same) in
    (custom other another, other, another)))

capture_fields : (options : OptionsView) (before name : List ℕ) (match : PlaceholderKindView) (after : List ℕ) (modifier : PartModifier) → IsItemMatch match name →
    HasKind options (placeholder_regexp options match) name (kind_of options (placeholder_regexp options match)) before after modifier
unfolding starts_with_digit
capture_fields options before name matched.Segment after modifier is =
    kind_has options (segment_wildcard options) name before after modifier
    (λ e none. absurd (none (ap not (name_starts name is)))) (λ other another. absurd (other refl))
capture_fields options before name (matched.Custom body) after modifier is =
    kind_has options body name before after modifier (λ e none. subst IsRegexpBody e is) (λ other another. is)
capture_fields options before name matched.Anything after modifier is =
    kind_has options full_wildcard name before after modifier
    (λ e none. absurd (full_no_segment options e)) (λ other another. absurd (another refl))

parts_fields : (options : OptionsView) (encoding : Encoding) (number : ℕ) (items : List Item) (parts : List PartView) → AreGroups number items → AreParts options encoding items parts → AllFieldsFit options parts
parts_fields options encoding number [] parts h are = subst (AllFieldsFit options) (sym are) tt
parts_fields options encoding number (Fixed [] modifier ∷ items) parts h are = parts_fields options encoding number items parts h are
parts_fields options encoding number (Fixed (c ∷ text) modifier ∷ items) parts h are =
    subst (AllFieldsFit options) (sym are.2) ((refl, refl), parts_fields options encoding number items are.1 h are.4)
parts_fields options encoding number (Capture prefix name match suffix modifier ∷ items) parts h are =
    subst (AllFieldsFit options) (sym are.3)
    (capture_fields options are.0 name match are.1 modifier h.0.matches, parts_fields options encoding (number_with number name) items are.2 h.1 are.6)

-- A group is not a fixed text, whatever its kind.
group_named : (options : OptionsView) (regexp : List ℕ) (number : ℕ) (name : List ℕ) → IsName name ⊎ (name ≡ decimal number) → IsNamed number (kind_of options regexp) name
group_named options regexp number name h =
    cond_both (bytes_eq regexp (segment_wildcard options)) SegmentWildcard _ (λ kind. IsNamed number kind name) (λ _. h)
    (λ _. cond_both (bytes_eq regexp full_wildcard) FullWildcard part_types.Regexp (λ kind. IsNamed number kind name) (λ _. h) (λ _. h))

group_number : (options : OptionsView) (regexp : List ℕ) (number : ℕ) (part : PartView) → following_number number (kind_of options regexp) part ≡ number_with number part.name
group_number options regexp number part =
    cond_both (bytes_eq regexp (segment_wildcard options)) SegmentWildcard _ (λ kind. following_number number kind part ≡ number_with number part.name) (λ _. refl)
    (λ _. cond_both (bytes_eq regexp full_wildcard) FullWildcard part_types.Regexp (λ kind. following_number number kind part ≡ number_with number part.name) (λ _. refl) (λ _. refl))

parts_names : (options : OptionsView) (encoding : Encoding) (number : ℕ) (items : List Item) (parts : List PartView) → AreGroups number items → AreParts options encoding items parts → AreNamed number parts
parts_names options encoding number [] parts h are = subst (AreNamed number) (sym are) tt
parts_names options encoding number (Fixed [] modifier ∷ items) parts h are = parts_names options encoding number items parts h are
parts_names options encoding number (Fixed (c ∷ text) modifier ∷ items) parts h are =
    subst (AreNamed number) (sym are.2) (refl, parts_names options encoding number items are.1 h are.4)
parts_names options encoding number (Capture prefix name match suffix modifier ∷ items) parts h are =
    let part = capture_part options are.0 name match are.1 modifier in
    subst (AreNamed number) (sym are.3) (
      group_named options (placeholder_regexp options match) number name h.0.named,
      subst (λ n. AreNamed n are.2) (sym (group_number options (placeholder_regexp options match) number part))
          (parts_names options encoding (number_with number name) items are.2 h.1 are.6),
    )

-- Properties of parts that were read, under any options and any encoding.
pub read_parts_are_pattern_parts : (text : List ℕ) (options : OptionsView) (encoding : Encoding) (parts : List PartView) → Reads text options encoding parts → ArePatternParts options parts
read_parts_are_pattern_parts text options encoding parts reads =
    let names = all_piece_names options.prefix reads.tokens reads.pieces (endings.Stops reads.found) (text_names text reads.tokens reads.are_tokens) reads.are_pieces in
    let bodies = all_piece_matches options.prefix reads.tokens reads.pieces (endings.Stops reads.found) (text_bodies text reads.tokens reads.are_tokens) reads.are_pieces in
    let groups : AreGroups 0 (items_of reads.pieces) = groups-joined 0 (items_from 0 reads.pieces) (pieces_groups 0 reads.pieces names bodies) in
    record {
      fields = parts_fields options encoding 0 (items_of reads.pieces) parts groups reads.are_parts;
      names = parts_names options encoding 0 (items_of reads.pieces) parts groups reads.are_parts;
      distinct = names_distinct text options encoding parts reads;
    }
