-- A text that is made part by part is one that the parts match.
use Rattle.std.proofs.Common.{◌≡◌, ◌≢◌, ◌∙◌, ℕ, ◌+◌, ◌<◌, Bool, true, false, List, [], ◌∷◌, ◌++◌, ap, append-nil, append_assoc, arith, get_or, length, map, ne_eqb, refl, subst, sym, take}
use Rattle.std.proofs.lemmas.List.{map-append, take_more}
use Rattle.std.specs.Prelude.{◌&&◌, IsTrue, not, unwrap_or}
use Rattle.urlpattern_compare.specs.Examples.{IsPartTextAdded, IsSegment, shortest_copy}
use Rattle.urlpattern_compare.specs.Making.{may_miss}
use Rattle.urlpattern_compare.specs.MeantTexts.{MeansText, folded_options, folded_part, folded_parts}
use Rattle.urlpattern_expressions.specs.MatchedPartTexts.{IsMatchedCopy, PartMatches, PartsMatch}
use Rattle.urlpattern_meaning.specs.Matching.{folded_character}
use Rattle.urlpattern_meaning.specs.PartMeaning.{Allows}
use Rattle.urlpattern_syntax.specs.declared.parser.{Part.Part, PartModifier.PartModifier, PartType.PartType}
use Rattle.urlpattern_syntax.specs.{Options.OptionsView, Parts.PartView, Parts.part_view, Parts.parts_view, Text.lacks, Text.line_feed}

-- ---- one part

none_allowed : (modifier : PartModifier) → may_miss modifier ≡ true → Allows modifier 0
none_allowed PartModifier.Optional e = omega arith
none_allowed PartModifier.ZeroOrMore e = tt
none_allowed PartModifier.None e = absurd cc
none_allowed PartModifier.OneOrMore e = absurd cc

one_allowed : (modifier : PartModifier) → may_miss modifier ≡ false → Allows modifier 1
one_allowed PartModifier.None e = refl
one_allowed PartModifier.OneOrMore e = omega arith
one_allowed PartModifier.Optional e = absurd cc
one_allowed PartModifier.ZeroOrMore e = absurd cc

-- A part is left out.
pub none_added : (options : OptionsView) (part : PartView) (text : List ℕ) → may_miss part.modifier ≡ true → IsPartTextAdded options part text text
none_added options part text missing = ([], sym (append-nil text), (0, none_allowed part.modifier missing, refl))

-- A letter in lower case stays as it is.
letter_kept : (ignore_case : Bool) (c : ℕ) → folded_character true c ≡ c → folded_character ignore_case c ≡ c
letter_kept true c lower = lower
letter_kept false c lower = refl

segment_lacks : (c delimiter : ℕ) → c ≢ delimiter → IsTrue (lacks delimiter (c ∷ []))
segment_lacks c delimiter other = ap (λ b. not b && true) (ne_eqb c delimiter other)

copy_matches : (options : OptionsView) (kind : PartType) (part : PartView) (segment : ℕ) → kind ≢ PartType.Regexp → IsSegment options segment →
    IsMatchedCopy (folded_options options) kind (folded_part options.ignore_case part) (map (folded_character options.ignore_case) (shortest_copy segment kind part))
copy_matches options PartType.FixedText part segment other is = refl
copy_matches options PartType.Regexp part segment other is = absurd (other refl)
copy_matches options PartType.FullWildcard part segment other is =
    let read = folded_character options.ignore_case in
    ([], map-append read part.prefix part.suffix ∙ ap (λ t. t ++ map read part.suffix) (sym (append-nil (map read part.prefix))), refl)
copy_matches options PartType.SegmentWildcard part segment other is =
    let read = folded_character options.ignore_case in
    let delimiter = unwrap_or (folded_options options).delimiter line_feed in
    let kept : segment ≡ read segment = sym (letter_kept options.ignore_case segment is.lower) in (
      read segment ∷ [],
      map-append read (part.prefix ++ segment ∷ []) part.suffix ∙ ap (λ t. t ++ map read part.suffix) (map-append read part.prefix (segment ∷ [])),
      ((λ e. absurd cc), subst (λ c. IsTrue (lacks delimiter (c ∷ []))) kept (segment_lacks segment delimiter is.other)),
    )

-- A part has one copy.
pub copy_added : (options : OptionsView) (part : PartView) (segment : ℕ) (old new : List ℕ) → IsSegment options segment → part.kind ≢ PartType.Regexp → may_miss part.modifier ≡ false →
    new ≡ old ++ shortest_copy segment part.kind part → IsPartTextAdded options part old new
copy_added options part segment old new is other missing e =
    let own = shortest_copy segment part.kind part in
    let copy = map (folded_character options.ignore_case) own in
    (own, e, (1, one_allowed part.modifier missing, (copy, [], sym (append-nil copy), copy_matches options part.kind part segment other is, refl)))

-- ---- parts

match_more : (options : OptionsView) (front : List PartView) (part : PartView) (text own : List ℕ) → PartsMatch options front text → PartMatches options part own → PartsMatch options (front ++ part ∷ []) (text ++ own)
match_more options [] part text own e is = (own, [], ap (λ t. t ++ own) e ∙ sym (append-nil own), is, refl)
match_more options (other ∷ front) part text own (first, rest, e, one, more) is =
    (first, rest ++ own, ap (λ t. t ++ own) e ∙ append_assoc first rest own, one, match_more options front part rest own more is)

-- A further part.
pub means_more : (options : OptionsView) (parts : List Part) (i : ℕ) (d : Part) (old new : List ℕ) → i < length parts → MeansText options (parts_view (take i parts)) old →
    IsPartTextAdded options (part_view (get_or parts i d)) old new → MeansText options (parts_view (take (i + 1) parts)) new
means_more options parts i d old new lt before (own, e, is) =
    let read = folded_character options.ignore_case in
    let item = get_or parts i d in
    let front = take i parts in
    let views : folded_parts options (parts_view (take (i + 1) parts)) ≡ folded_parts options (parts_view front) ++ folded_part options.ignore_case (part_view item) ∷ [] =
    ap (λ ps. folded_parts options (parts_view ps)) (take_more parts i d lt) ∙ ap (folded_parts options) (map-append part_view front (item ∷ []))
    ∙ map-append (folded_part options.ignore_case) (parts_view front) (part_view item ∷ []) in
    let text : map read new ≡ map read old ++ map read own = ap (map read) e ∙ map-append read old own in
    subst (λ ps. PartsMatch (folded_options options) ps (map read new)) (sym views)
    (subst (PartsMatch (folded_options options) (folded_parts options (parts_view front) ++ folded_part options.ignore_case (part_view item) ∷ [])) (sym text)
    (match_more (folded_options options) (folded_parts options (parts_view front)) (folded_part options.ignore_case (part_view item)) (map read old) (map read own) before is))
