-- Lemmas on the regular expressions of parts.
use Rattle.std.proofs.Common.{◌≡◌, ◌⊎◌, ◌<◌, ◌+◌, ℕ, suc, true, false, ◌&&◌, List, [], ◌∷◌, ◌++◌, length, get_or, take, drop, map, inl, inr, refl, sym, ap, ◌∙◌}
use Rattle.std.proofs.lemmas.List.{append-nil, map-append, take_more}
use Rattle.std.proofs.lemmas.List.Concat.{flat_map-append}
use Rattle.std.specs.List.{flat_map}
use Rattle.urlpattern_syntax.proofs.Escaped.{cut_at}
use Rattle.urlpattern_syntax.specs.declared.parser.Part.{Part}
use Rattle.urlpattern_syntax.specs.declared.parser.PartModifier.{PartModifier}
use Rattle.urlpattern_syntax.specs.declared.parser.PartModifier.TheVariants as modifiers
use Rattle.urlpattern_syntax.specs.declared.parser.PartType.{PartType}
use Rattle.urlpattern_syntax.specs.declared.parser.PartType.TheVariants.{FixedText, Regexp, SegmentWildcard, FullWildcard}
use Rattle.urlpattern_syntax.specs.Options.{OptionsView}
use Rattle.urlpattern_syntax.specs.Parts.{PartView, part_view}
use Rattle.urlpattern_syntax.specs.RegexpText.{affixed_regexp, bare_regexp, captured, escaped_regexp, fixed_regexp, grouped, is_empty, is_fixed_text, matched_by, modifier_text, part_regexp}

pub fixed-modified : (modifier : PartModifier) (text : List ℕ) → (modifier ≡ modifiers.None → ⊥) → fixed_regexp modifier text ≡ grouped text ++ modifier_text modifier
fixed-modified modifiers.None text some = absurd (some refl)
fixed-modified modifiers.Optional text some = refl
fixed-modified modifiers.ZeroOrMore text some = refl
fixed-modified modifiers.OneOrMore text some = refl

pub bare-single : (modifier : PartModifier) (text : List ℕ) → (modifier ≡ modifiers.None) ⊎ (modifier ≡ modifiers.Optional) → bare_regexp modifier text ≡ captured text ++ modifier_text modifier
bare-single modifier text (inl e) = rw e (sym (append-nil _))
bare-single modifier text (inr e) = rw e

pub bare-repeated : (modifier : PartModifier) (text : List ℕ) → (modifier ≡ modifiers.ZeroOrMore) ⊎ (modifier ≡ modifiers.OneOrMore) → bare_regexp modifier text ≡ captured (grouped text ++ modifier_text modifier)
bare-repeated modifier text (inl e) = rw e
bare-repeated modifier text (inr e) = rw e

-- The regular expression of a part, by its kind.
pub not-fixed : (kind : PartType) → (kind ≡ FixedText → ⊥) → is_fixed_text kind ≡ false
not-fixed FixedText other = absurd (other refl)
not-fixed Regexp other = refl
not-fixed SegmentWildcard other = refl
not-fixed FullWildcard other = refl

pub part_regexp-fixed : (options : OptionsView) (part : PartView) → part.kind ≡ FixedText → part_regexp options part ≡ fixed_regexp part.modifier (escaped_regexp options part.value)
unfolding part_regexp
part_regexp-fixed options part e = rw e

pub part_regexp-bare : (options : OptionsView) (part : PartView) → (part.kind ≡ FixedText → ⊥) → is_empty part.prefix && is_empty part.suffix ≡ true
    → part_regexp options part ≡ bare_regexp part.modifier (matched_by options part.kind part.value)
unfolding part_regexp
part_regexp-bare options part other e = rw (not-fixed part.kind other) (rw e)

pub part_regexp-affixed : (options : OptionsView) (part : PartView) → (part.kind ≡ FixedText → ⊥) → is_empty part.prefix && is_empty part.suffix ≡ false
    → part_regexp options part ≡ affixed_regexp part.modifier (escaped_regexp options part.prefix) (matched_by options part.kind part.value) (escaped_regexp options part.suffix)
unfolding part_regexp
part_regexp-affixed options part other e = rw (not-fixed part.kind other) (rw e)

-- The regular expressions of a list of parts: before one part, of that part, and after it.
pub regexps-turn : (options : OptionsView) (list : List Part) (i : ℕ) (part : Part) → i < length list → part ≡ get_or list i part
    → flat_map (part_regexp options) (map part_view list)
    ≡ flat_map (part_regexp options) (map part_view (take i list)) ++ (part_regexp options (part_view part) ++ flat_map (part_regexp options) (map part_view (drop (suc i) list)))
regexps-turn options list i part below here =
    ap (λ xs. flat_map (part_regexp options) (map part_view xs)) (cut_at list i part below here)
    ∙ ap (λ xs. flat_map (part_regexp options) xs) (map-append part_view (take i list) (part ∷ drop (suc i) list))
    ∙ flat_map-append (part_regexp options) (map part_view (take i list)) (map part_view (part ∷ drop (suc i) list))

pub regexps-more : (options : OptionsView) (list : List Part) (i : ℕ) (part : Part) → i < length list → part ≡ get_or list i part
    → flat_map (part_regexp options) (map part_view (take (i + 1) list)) ≡ flat_map (part_regexp options) (map part_view (take i list)) ++ part_regexp options (part_view part)
regexps-more options list i part below here =
    ap (λ xs. flat_map (part_regexp options) (map part_view xs)) (take_more list i part below ∙ ap (λ x. take i list ++ x ∷ []) (sym here))
    ∙ ap (λ xs. flat_map (part_regexp options) xs) (map-append part_view (take i list) (part ∷ []))
    ∙ flat_map-append (part_regexp options) (map part_view (take i list)) (part_view part ∷ [])
    ∙ ap (λ xs. flat_map (part_regexp options) (map part_view (take i list)) ++ xs) (append-nil _)
