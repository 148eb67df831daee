-- If the regular expression of parts is of characters, the texts of the parts in it are too.
use Rattle.std.proofs.Common.{◌≡◌, ◌≢◌, ℕ, List, [], ◌∷◌, ◌++◌, Bool, true, false, ◌&&◌, refl, sym, ap, ◌∙◌, codes, if◌then◌else◌, true≢false}
use Rattle.std.proofs.lemmas.Bool.{and_parts, and_from}
use lib.Utf8.{scalars}
use Rattle.urlpattern_meaning.proofs.MatchingLaws.{part_of}
use Rattle.urlpattern_engine.proofs.TreesRead.{scalars_parts}
use Rattle.urlpattern_syntax.specs.Options.{OptionsView}
use Rattle.urlpattern_syntax.specs.Parts.{PartView}
use Rattle.urlpattern_syntax.specs.declared.parser.PartModifier.{PartModifier}
use Rattle.urlpattern_syntax.specs.declared.parser.PartModifier.TheVariants as modifiers
use Rattle.urlpattern_syntax.specs.declared.parser.PartType.{PartType}
use Rattle.urlpattern_syntax.specs.declared.parser.PartType.TheVariants.{FixedText, Regexp, SegmentWildcard, FullWildcard}
use Rattle.urlpattern_syntax.specs.RegexpText.{affixed_regexp, bare_regexp, captured, escaped, escaped_marks, escaped_regexp, fixed_regexp, group_regexp, grouped, is_empty, is_fixed_text, matched_by, part_regexp, repeated_regexp}
use Rattle.urlpattern_syntax.specs.Text.{is_among}

-- The texts of a part that occur in its regular expression are of characters.
pub record IsOfCharacters (part : PartView) : Type 0 where
  pub value : part.kind ≡ FixedText → scalars part.value ≡ true
  pub prefix : part.kind ≢ FixedText → scalars part.prefix ≡ true
  pub suffix : part.kind ≢ FixedText → scalars part.suffix ≡ true

pub no_fixed : (kind : PartType) → is_fixed_text kind ≡ false → kind ≢ FixedText
no_fixed kind h e = true≢false (sym (ap is_fixed_text e) ∙ h)

one_good : (b : Bool) (c : ℕ) → scalars (if b then codes "\\" ++ c ∷ [] else c ∷ []) ≡ true → scalars (c ∷ []) ≡ true
one_good true c h = (scalars_parts (codes "\\") (c ∷ []) h).1
one_good false c h = h

escaped_good : (marks text : List ℕ) → scalars (escaped marks text) ≡ true → scalars text ≡ true
unfolding escaped
escaped_good marks [] h = refl
escaped_good marks (c ∷ text) h =
    let both = scalars_parts (if is_among marks c then codes "\\" ++ c ∷ [] else c ∷ []) (escaped marks text) h in
    and_from _ _ (and_parts _ _ (one_good (is_among marks c) c both.0)).0 (escaped_good marks text both.1)

grouped_good : (text : List ℕ) → scalars (grouped text) ≡ true → scalars text ≡ true
grouped_good text h = (scalars_parts (codes "(?:") text (scalars_parts (codes "(?:" ++ text) (codes ")") h).0).1

fixed_good : (modifier : PartModifier) (text : List ℕ) → scalars (fixed_regexp modifier text) ≡ true → scalars text ≡ true
fixed_good modifiers.None text h = h
fixed_good modifiers.Optional text h = grouped_good text (scalars_parts (grouped text) (codes "?") h).0
fixed_good modifiers.ZeroOrMore text h = grouped_good text (scalars_parts (grouped text) (codes "*") h).0
fixed_good modifiers.OneOrMore text h = grouped_good text (scalars_parts (grouped text) (codes "+") h).0

between_good : (prefix core suffix : List ℕ) → scalars (grouped (prefix ++ core ++ suffix)) ≡ true → (scalars prefix ≡ true) × (scalars suffix ≡ true)
between_good prefix core suffix h =
    let all = scalars_parts (prefix ++ core) suffix (grouped_good (prefix ++ core ++ suffix) h) in
    ((scalars_parts prefix core all.0).0, all.1)

affixed_good : (modifier : PartModifier) (prefix text suffix : List ℕ) → scalars (affixed_regexp modifier prefix text suffix) ≡ true → (scalars prefix ≡ true) × (scalars suffix ≡ true)
affixed_good modifiers.None prefix text suffix h = between_good prefix _ suffix h
affixed_good modifiers.Optional prefix text suffix h = between_good prefix (captured text) suffix (scalars_parts (grouped (prefix ++ captured text ++ suffix)) (codes "?") h).0
affixed_good modifiers.OneOrMore prefix text suffix h = between_good prefix _ suffix h
affixed_good modifiers.ZeroOrMore prefix text suffix h =
    between_good prefix (captured (grouped text ++ grouped (suffix ++ prefix ++ grouped text) ++ codes "*")) suffix (scalars_parts (repeated_regexp prefix text suffix) (codes "?") h).0

empty_good : (text : List ℕ) → is_empty text ≡ true → scalars text ≡ true
empty_good [] h = refl
empty_good (c ∷ text) h = absurd (true≢false (sym h))

group_good : (is_bare : Bool) (options : OptionsView) (modifier : PartModifier) (core prefix suffix : List ℕ) → is_empty prefix && is_empty suffix ≡ is_bare
    → scalars (if is_bare then bare_regexp modifier core else affixed_regexp modifier (escaped_regexp options prefix) core (escaped_regexp options suffix)) ≡ true
    → (scalars prefix ≡ true) × (scalars suffix ≡ true)
group_good true options modifier core prefix suffix e h = let both = and_parts _ _ e in (empty_good prefix both.0, empty_good suffix both.1)
group_good false options modifier core prefix suffix e h =
    let both = affixed_good modifier (escaped_regexp options prefix) core (escaped_regexp options suffix) h in
    (escaped_good (escaped_marks options.syntax) prefix both.0, escaped_good (escaped_marks options.syntax) suffix both.1)

of_group : (options : OptionsView) (kind : PartType) (modifier : PartModifier) (value name prefix suffix : List ℕ) → is_fixed_text kind ≡ false
    → scalars (group_regexp options (part_of kind modifier value name prefix suffix)) ≡ true → IsOfCharacters (part_of kind modifier value name prefix suffix)
of_group options kind modifier value name prefix suffix e h =
    let both = group_good (is_empty prefix && is_empty suffix) options modifier (matched_by options kind value) prefix suffix refl h in
    record { value = λ fixed. absurd (no_fixed kind e fixed); prefix = λ group. both.0; suffix = λ group. both.1 }

of_part : (options : OptionsView) (kind : PartType) (modifier : PartModifier) (value name prefix suffix : List ℕ)
    → scalars (part_regexp options (part_of kind modifier value name prefix suffix)) ≡ true → IsOfCharacters (part_of kind modifier value name prefix suffix)
unfolding part_regexp
of_part options FixedText modifier value name prefix suffix h =
    record { value = λ fixed. escaped_good (escaped_marks options.syntax) value (fixed_good modifier _ h); prefix = λ group. absurd (group refl); suffix = λ group. absurd (group refl) }
of_part options Regexp modifier value name prefix suffix h = of_group options Regexp modifier value name prefix suffix refl h
of_part options SegmentWildcard modifier value name prefix suffix h = of_group options SegmentWildcard modifier value name prefix suffix refl h
of_part options FullWildcard modifier value name prefix suffix h = of_group options FullWildcard modifier value name prefix suffix refl h

pub part_characters : (options : OptionsView) (part : PartView) → scalars (part_regexp options part) ≡ true → IsOfCharacters part
part_characters options part h = of_part options part.kind part.modifier part.value part.name part.prefix part.suffix h
