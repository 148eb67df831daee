-- The text of the tree of parts is their regular expression.
use Rattle.std.proofs.Common.{◌≡◌, ℕ, List, [], ◌∷◌, ◌++◌, refl, sym, ap, Bool, true, false, Some, None, Option, append_assoc, ◌∙◌}
use Rattle.std.proofs.lemmas.List.{append-nil}
use Rattle.std.proofs.lemmas.List.Elements.{All-head, All-tail}
use Rattle.std.specs.List.{flat_map}
use Rattle.std.specs.Prelude.{codes, ◌≢◌, ◌&&◌, if◌then◌else◌, All}
use Rattle.urlpattern_meaning.specs.Dialect.{Items, Nothing, Item, Captured, Grouped, Plain, Escaped, ZeroOrMore, LazyOneOrMore, character_text, items_text}
use Rattle.urlpattern_syntax.specs.declared.parser.PartModifier.{PartModifier}
use Rattle.urlpattern_syntax.specs.declared.parser.PartModifier.TheVariants as modifiers
use Rattle.urlpattern_syntax.specs.declared.parser.PartType.{PartType}
use Rattle.urlpattern_syntax.specs.declared.parser.PartType.TheVariants.{FixedText, Regexp, SegmentWildcard, FullWildcard}
use Rattle.urlpattern_syntax.specs.declared.parser.RegexSyntax.{RegexSyntax}
use Rattle.urlpattern_syntax.specs.Options.{OptionsView}
use Rattle.urlpattern_syntax.specs.Parts.{PartView}
use Rattle.urlpattern_syntax.specs.RegexpText.{affixed_regexp, bare_regexp, captured, escaped, escaped_marks, escaped_regexp, fixed_regexp, grouped, is_empty, matched_by, part_regexp, regexp_text, segment_wildcard_of, IsWildcard}
use Rattle.urlpattern_syntax.specs.Text.{is_among}
use Rattle.urlpattern_meaning.proofs.PartTrees.{IsNotCustom, affixed_core, affixed_quantifier, alone, bare_core, bare_quantifier, between, character, copies, fixed_tree, further, group_atom, group_quantifier, part_tree, put, segment_atom, tree_of, wildcard_items}
use Rattle.urlpattern_meaning.proofs.MatchingLaws.{part_of}

-- ---- texts

one_character : (is_mark : Bool) (c : ℕ) → character_text (if is_mark then Escaped c else Plain c) ≡ (if is_mark then codes "\\" ++ c ∷ [] else c ∷ [])
one_character true c = refl
one_character false c = refl

put_text : (marks text : List ℕ) (items : Items) → items_text (put marks text items) ≡ escaped marks text ++ items_text items
unfolding escaped
put_text marks [] items = refl
put_text marks (c ∷ text) items =
    let one = one_character (is_among marks c) c in
    let rest = put_text marks text items in
    rw (one, rest) (simp (append_assoc, append-nil))

character_escaped : (marks : List ℕ) (c : ℕ) → character_text (character marks c) ≡ escaped marks (c ∷ [])
unfolding escaped
character_escaped marks c = one_character (is_among marks c) c ∙ sym (append-nil _)

-- ---- wildcards

segment_text : (syntax : RegexSyntax) (delimiter : Option ℕ) → items_text (alone (segment_atom (escaped_marks syntax) delimiter) LazyOneOrMore) ≡ segment_wildcard_of syntax delimiter
segment_text syntax None = refl
segment_text syntax (Some c) =
    ap (λ t. codes "[^" ++ t ++ codes "]" ++ codes "+?" ++ []) (character_escaped (escaped_marks syntax) c)
    ∙ append-nil _ ∙ ap (λ t. codes "[^" ++ t) (append_assoc (escaped (escaped_marks syntax) (c ∷ [])) (codes "]") (codes "+?"))

wildcard_text : (options : OptionsView) (kind : PartType) (value : List ℕ) → IsWildcard kind → items_text (wildcard_items options kind) ≡ matched_by options kind value
wildcard_text options SegmentWildcard value h = segment_text options.syntax options.delimiter
wildcard_text options FullWildcard value h = refl
wildcard_text options kind value h = absurd h

-- ---- one part

alone_text : (marks text : List ℕ) → items_text (put marks text Nothing) ≡ escaped marks text
alone_text marks text = put_text marks text Nothing ∙ append-nil _

fixed_text_by : (modifier : PartModifier) (marks value : List ℕ) (items : Items) → items_text (fixed_tree modifier marks value items) ≡ fixed_regexp modifier (escaped marks value) ++ items_text items
fixed_text_by modifiers.None marks value items = put_text marks value items
fixed_text_by modifiers.Optional marks value items = ap (λ t. grouped t ++ codes "?" ++ items_text items) (alone_text marks value)
fixed_text_by modifiers.ZeroOrMore marks value items = ap (λ t. grouped t ++ codes "*" ++ items_text items) (alone_text marks value)
fixed_text_by modifiers.OneOrMore marks value items = ap (λ t. grouped t ++ codes "+" ++ items_text items) (alone_text marks value)

-- A group with neither prefix nor suffix.
bare_text : (modifier : PartModifier) (piece items : Items) →
    items_text (Item (Captured (bare_core modifier piece)) (bare_quantifier modifier) items) ≡ bare_regexp modifier (items_text piece) ++ items_text items
bare_text modifiers.None piece items = ap (λ t. t ++ items_text items) (append-nil (captured (items_text piece)))
bare_text modifiers.Optional piece items = refl
bare_text modifiers.ZeroOrMore piece items =
    ap (λ t. t ++ items_text items) (append-nil (captured (grouped (items_text piece) ++ codes "*" ++ [])) ∙ ap captured (append-nil (grouped (items_text piece) ++ codes "*")))
bare_text modifiers.OneOrMore piece items =
    ap (λ t. t ++ items_text items) (append-nil (captured (grouped (items_text piece) ++ codes "+" ++ [])) ∙ ap captured (append-nil (grouped (items_text piece) ++ codes "+")))

-- A capture between prefix and suffix.
between_text : (marks prefix : List ℕ) (core : Items) (suffix : List ℕ) → items_text (between marks prefix core suffix) ≡ escaped marks prefix ++ captured (items_text core) ++ escaped marks suffix
between_text marks prefix core suffix =
    put_text marks prefix _
    ∙ ap (λ t. escaped marks prefix ++ (t ++ items_text (put marks suffix Nothing))) (append-nil (captured (items_text core)))
    ∙ ap (λ t. escaped marks prefix ++ (captured (items_text core) ++ t)) (alone_text marks suffix)
    ∙ sym (append_assoc (escaped marks prefix) (captured (items_text core)) (escaped marks suffix))

-- Copies without the first prefix and the last suffix.
further_text : (marks prefix : List ℕ) (piece : Items) (suffix : List ℕ) →
    items_text (further marks prefix piece suffix) ≡ escaped marks suffix ++ escaped marks prefix ++ grouped (items_text piece)
further_text marks prefix piece suffix =
    put_text marks suffix _
    ∙ ap (λ t. escaped marks suffix ++ t) (put_text marks prefix _)
    ∙ ap (λ t. escaped marks suffix ++ (escaped marks prefix ++ t)) (append-nil (grouped (items_text piece) ++ []) ∙ append-nil (grouped (items_text piece)))
    ∙ sym (append_assoc (escaped marks suffix) (escaped marks prefix) (grouped (items_text piece)))

copies_text : (marks prefix : List ℕ) (piece : Items) (suffix : List ℕ) →
    items_text (copies marks prefix piece suffix) ≡ grouped (items_text piece) ++ grouped (escaped marks suffix ++ escaped marks prefix ++ grouped (items_text piece)) ++ codes "*"
copies_text marks prefix piece suffix =
    ap (λ t. t ++ items_text (alone (Grouped (further marks prefix piece suffix)) ZeroOrMore)) (append-nil (grouped (items_text piece)))
    ∙ ap (λ t. grouped (items_text piece) ++ t) (append-nil _)
    ∙ ap (λ t. grouped (items_text piece) ++ (grouped t ++ codes "*")) (further_text marks prefix piece suffix)
    ∙ sym (append_assoc (grouped (items_text piece)) (grouped (escaped marks suffix ++ escaped marks prefix ++ grouped (items_text piece))) (codes "*"))

-- A group with a prefix or a suffix.
affixed_text : (modifier : PartModifier) (marks prefix : List ℕ) (piece : Items) (suffix : List ℕ) (items : Items) →
    items_text (Item (Grouped (between marks prefix (affixed_core modifier marks prefix piece suffix) suffix)) (affixed_quantifier modifier) items)
    ≡ affixed_regexp modifier (escaped marks prefix) (items_text piece) (escaped marks suffix) ++ items_text items
affixed_text modifiers.None marks prefix piece suffix items =
    ap (λ t. t ++ items_text items) (append-nil (grouped (items_text (between marks prefix piece suffix))) ∙ ap grouped (between_text marks prefix piece suffix))
affixed_text modifiers.Optional marks prefix piece suffix items = ap (λ t. grouped t ++ codes "?" ++ items_text items) (between_text marks prefix piece suffix)
affixed_text modifiers.ZeroOrMore marks prefix piece suffix items =
    ap (λ t. grouped t ++ codes "?" ++ items_text items)
    (between_text marks prefix (copies marks prefix piece suffix) suffix ∙ ap (λ t. escaped marks prefix ++ captured t ++ escaped marks suffix) (copies_text marks prefix piece suffix))
affixed_text modifiers.OneOrMore marks prefix piece suffix items =
    ap (λ t. t ++ items_text items)
    (append-nil (grouped (items_text (between marks prefix (copies marks prefix piece suffix) suffix)))
    ∙ ap grouped (between_text marks prefix (copies marks prefix piece suffix) suffix ∙ ap (λ t. escaped marks prefix ++ captured t ++ escaped marks suffix) (copies_text marks prefix piece suffix)))

group_text : (is_bare : Bool) (modifier : PartModifier) (marks prefix : List ℕ) (piece : Items) (suffix : List ℕ) (items : Items) →
    items_text (Item (group_atom is_bare modifier marks prefix piece suffix) (group_quantifier is_bare modifier) items)
    ≡ (if is_bare then bare_regexp modifier (items_text piece) else affixed_regexp modifier (escaped marks prefix) (items_text piece) (escaped marks suffix)) ++ items_text items
group_text true modifier marks prefix piece suffix items = bare_text modifier piece items
group_text false modifier marks prefix piece suffix items = affixed_text modifier marks prefix piece suffix items

wild_text : (options : OptionsView) (kind : PartType) (modifier : PartModifier) (value prefix suffix : List ℕ) (items : Items) → IsWildcard kind →
    items_text (Item (group_atom (is_empty prefix && is_empty suffix) modifier (escaped_marks options.syntax) prefix (wildcard_items options kind) suffix) (group_quantifier (is_empty prefix && is_empty suffix) modifier) items)
    ≡ (if is_empty prefix && is_empty suffix
    then bare_regexp modifier (matched_by options kind value)
    else affixed_regexp modifier (escaped_regexp options prefix) (matched_by options kind value) (escaped_regexp options suffix)) ++ items_text items
wild_text options kind modifier value prefix suffix items h =
    rw (← wildcard_text options kind value h) (group_text (is_empty prefix && is_empty suffix) modifier (escaped_marks options.syntax) prefix (wildcard_items options kind) suffix items)

part_text_by : (options : OptionsView) (kind : PartType) (modifier : PartModifier) (value name prefix suffix : List ℕ) (items : Items) → kind ≢ Regexp →
    items_text (part_tree options (part_of kind modifier value name prefix suffix) items) ≡ part_regexp options (part_of kind modifier value name prefix suffix) ++ items_text items
unfolding part_regexp
part_text_by options FixedText modifier value name prefix suffix items h = fixed_text_by modifier (escaped_marks options.syntax) value items
part_text_by options Regexp modifier value name prefix suffix items h = absurd (h refl)
part_text_by options SegmentWildcard modifier value name prefix suffix items h = wild_text options SegmentWildcard modifier value prefix suffix items tt
part_text_by options FullWildcard modifier value name prefix suffix items h = wild_text options FullWildcard modifier value prefix suffix items tt

-- ---- a list of parts

parts_text : (options : OptionsView) (parts : List PartView) → All IsNotCustom parts → items_text (tree_of options parts) ≡ flat_map (part_regexp options) parts
parts_text options [] h = refl
parts_text options (part ∷ parts) h =
    part_text_by options part.kind part.modifier part.value part.name part.prefix part.suffix (tree_of options parts) (All-head IsNotCustom part parts h)
    ∙ ap (λ t. part_regexp options part ++ t) (parts_text options parts (All-tail IsNotCustom part parts h))

-- The text of the tree is the regular expression of the parts.
pub tree_text : (options : OptionsView) (parts : List PartView) → All IsNotCustom parts → regexp_text options parts ≡ codes "^" ++ items_text (tree_of options parts) ++ codes "$"
tree_text options parts h = ap (λ t. codes "^" ++ t ++ codes "$") (sym (parts_text options parts h))
