-- Laws of matchers: the two that need no engine match as the parts do.
use Rattle.std.proofs.Common.{◌≡◌, ℕ, List, [], ◌∷◌, ◌++◌, refl, sym, subst, ap, Bool, true, false, Some, None, Option, Result, append_assoc, ◌∙◌, ◌↔◌}
use Rattle.std.proofs.lemmas.List.{append-nil, append_cancel_left, append_cancel_right}
use Rattle.std.proofs.lemmas.List.Folds.{list_all-append}
use Rattle.std.specs.Prelude.{IsTrue, ◌&&◌, not, ◌==◌, unwrap_or}
use Rattle.urlpattern_syntax.specs.declared.parser.PartModifier.{PartModifier}
use Rattle.urlpattern_syntax.specs.declared.parser.PartModifier.TheVariants as modifiers
use Rattle.urlpattern_syntax.specs.declared.parser.PartType.{PartType}
use Rattle.urlpattern_syntax.specs.declared.parser.PartType.TheVariants.{SegmentWildcard, FullWildcard}
use Rattle.urlpattern_syntax.specs.Errors.{ErrorView}
use Rattle.urlpattern_meaning.specs.Matching.{HasMiddle, IsSame, MayBeEmpty, PassesFilter, InnerView, Literal, SingleCapture, RegExp, MatcherView, IsMadeBetween, IsMadeOf, IsMadeOfOne, Matches, end_text, single_capture_matcher}
use Rattle.urlpattern_syntax.specs.Options.{OptionsView}
use Rattle.urlpattern_meaning.specs.PartMeaning.{Allows, Captures, IsCapture, IsWildcardText, PartMeans, PartsMean}
use Rattle.urlpattern_syntax.specs.Parts.{PartView}
use Rattle.urlpattern_syntax.specs.RegexpText.{IsWildcard}
use Rattle.urlpattern_syntax.specs.Text.{IsRepeated, lacks, line_feed}
use Rattle.urlpattern_meaning.proofs.MeaningExamples.{part_alone}
use Rattle.urlpattern_meaning.proofs.MeaningLaws.{one_copy, peeled_means}
use Rattle.urlpattern_syntax.proofs.TokenExamples.{no}

-- ---- texts without a character

pub and_left : (a b : Bool) → IsTrue (a && b) → IsTrue a
and_left true b h = refl
and_left false b h = h

pub and_right : (a b : Bool) → IsTrue (a && b) → IsTrue b
and_right true b h = h
and_right false b h = absurd (no h)

pub lacks_left : (c : ℕ) (text more : List ℕ) → IsTrue (lacks c (text ++ more)) → IsTrue (lacks c text)
lacks_left c text more h = and_left (lacks c text) (lacks c more) (sym (list_all-append (λ other. not (other == c)) text more) ∙ h)

pub lacks_right : (c : ℕ) (text more : List ℕ) → IsTrue (lacks c (text ++ more)) → IsTrue (lacks c more)
lacks_right c text more h = and_right (lacks c text) (lacks c more) (sym (list_all-append (λ other. not (other == c)) text more) ∙ h)

-- The text between two others.
pub lacks_middle : (c : ℕ) (front text back : List ℕ) → IsTrue (lacks c (front ++ text ++ back)) → IsTrue (lacks c text)
lacks_middle c front text back h = lacks_right c front text (lacks_left c (front ++ text) back h)

pub middle_cancel : (front a b back : List ℕ) → front ++ a ++ back ≡ front ++ b ++ back → a ≡ b
middle_cancel front a b back e = append_cancel_left front a b (append_cancel_right (front ++ a) (front ++ b) back e)

-- ---- prefix and suffix where case is kept

same_kept : (ignore_case : Bool) (text other : List ℕ) → ignore_case ≡ false → IsSame ignore_case text other → text ≡ other
same_kept false text other kept same = same
same_kept true text other kept same = absurd (no (sym kept))

-- Where case is kept, the text is prefix, middle and suffix themselves.
pub middle_kept : {E : Type 0} (matcher : MatcherView E) (text middle : List ℕ) → matcher.ignore_case ≡ false →
    HasMiddle matcher text middle ↔ (text ≡ matcher.prefix ++ middle ++ matcher.suffix)
middle_kept matcher text middle kept = (
  λ (front, back, e, begins, ends).
      e ∙ ap (λ t. t ++ middle ++ back) (same_kept matcher.ignore_case front matcher.prefix kept begins)
      ∙ ap (λ t. matcher.prefix ++ middle ++ t) (same_kept matcher.ignore_case back matcher.suffix kept ends),
  λ e. (matcher.prefix, matcher.suffix, e, refl, refl),
)

-- ---- one wildcard

-- A single copy of a wildcard between prefix and suffix.
abbrev pub IsOnePiece : OptionsView → PartView → List ℕ → Captures → Type 0
IsOnePiece options part text captures =
    (piece : List ℕ) × (text ≡ part.prefix ++ piece ++ part.suffix) × IsWildcardText options part.kind piece × (captures ≡ Some piece ∷ [])

abbrev pub part_of : PartType → PartModifier → (value name prefix suffix : List ℕ) → PartView
part_of kind modifier value name prefix suffix =
    record { kind = kind; value = value; modifier = modifier; name = name; prefix = prefix; suffix = suffix }

one_piece : (options : OptionsView) (part : PartView) (text : List ℕ) (captures : Captures) →
    (piece : List ℕ) × (text ≡ part.prefix ++ piece ++ part.suffix) × IsWildcardText options part.kind piece →
    (capture : Option (List ℕ)) × IsCapture part 1 text capture × (captures ≡ capture ∷ []) → IsOnePiece options part text captures
one_piece options part text captures (piece, e, is) (capture, (inner, f, g), h) =
    let same : inner ≡ piece = middle_cancel part.prefix inner piece part.suffix (sym f ∙ e) in
    (piece, e, is, h ∙ ap (λ c. c ∷ []) (g ∙ ap Some same))

-- Copies of a wildcard between prefix and suffix, as many as the modifier allows, and their
-- capture.
abbrev pub WildcardMeans : OptionsView → PartView → List ℕ → Captures → Type 0
WildcardMeans options part text captures =
    (n : ℕ) × Allows part.modifier n
    × IsRepeated (λ copy. (piece : List ℕ) × (copy ≡ part.prefix ++ piece ++ part.suffix) × IsWildcardText options part.kind piece) n text
    × ((capture : Option (List ℕ)) × IsCapture part n text capture × (captures ≡ capture ∷ []))

-- A wildcard of either kind means copies between prefix and suffix.
pub wildcard_copies : (options : OptionsView) (kind : PartType) (modifier : PartModifier) (value name prefix suffix text : List ℕ) (captures : Captures) → IsWildcard kind →
    PartMeans options (part_of kind modifier value name prefix suffix) text captures ↔ WildcardMeans options (part_of kind modifier value name prefix suffix) text captures
wildcard_copies options SegmentWildcard modifier value name prefix suffix text captures h = (
  λ means. (means.count, means.allowed, means.are_copies, means.are_captures),
  λ means. record { count = means.0; allowed = means.1; are_copies = means.2; are_captures = means.3 },
)
wildcard_copies options FullWildcard modifier value name prefix suffix text captures h = (
  λ means. (means.count, means.allowed, means.are_copies, means.are_captures),
  λ means. record { count = means.0; allowed = means.1; are_copies = means.2; are_captures = means.3 },
)
wildcard_copies options kind modifier value name prefix suffix text captures h = absurd h

one_by : (options : OptionsView) (kind : PartType) (value name prefix suffix text : List ℕ) (captures : Captures) → IsWildcard kind →
    PartMeans options (part_of kind modifiers.None value name prefix suffix) text captures ↔ IsOnePiece options (part_of kind modifiers.None value name prefix suffix) text captures
one_by options kind value name prefix suffix text captures h =
    let part = part_of kind modifiers.None value name prefix suffix in
    let same = wildcard_copies options kind modifiers.None value name prefix suffix text captures h in (
      λ means.
          let found = same.0 means in
          one_piece options part text captures (one_copy _ _ _ found.2 found.1)
          (subst (λ n. (capture : Option (List ℕ)) × IsCapture part n text capture × (captures ≡ capture ∷ [])) found.1 found.3),
      λ is. same.1 (1, refl, (text, [], sym (append-nil text), (is.0, is.1, is.2), refl), (Some is.0, (is.0, is.1, refl), is.3)),
    )

-- ---- a single capture

pub regrouped : (front prefix piece suffix back : List ℕ) → front ++ prefix ++ piece ++ (suffix ++ back) ≡ front ++ (prefix ++ piece ++ suffix) ++ back
regrouped front prefix piece suffix back =
    sym (append_assoc (front ++ prefix ++ piece) suffix back)
    ∙ ap (λ t. t ++ back) (ap (λ t. t ++ suffix) (append_assoc front prefix piece) ∙ append_assoc front (prefix ++ piece) suffix)

-- A single capture accepts the texts of its wildcard.
matches_single : {E : Type 0} (answer : E → List ℕ → Option Captures) (options : OptionsView) (front back : List ℕ) (part : PartView) (filter : Option ℕ) (allow_empty : Bool) (text : List ℕ) (captures : Captures) →
    options.ignore_case ≡ false → IsTrue (lacks line_feed text) →
    ((piece : List ℕ) → IsTrue (lacks line_feed piece) → (MayBeEmpty allow_empty piece × PassesFilter options.ignore_case filter piece) ↔ IsWildcardText options part.kind piece) →
    Matches answer (single_capture_matcher options front part back filter allow_empty) text captures ↔ ((inner : List ℕ) × (text ≡ front ++ inner ++ back) × IsOnePiece options part inner captures)
matches_single {E} answer options front back part filter allow_empty text captures case no_feed accepts =
    let matcher : MatcherView E = single_capture_matcher options front part back filter allow_empty in (
      λ (piece, cut, (may, passes, is)).
          let e = (middle_kept matcher text piece case).0 cut in (
            part.prefix ++ piece ++ part.suffix,
            e ∙ regrouped front part.prefix piece part.suffix back,
            (piece, refl, (accepts piece (lacks_middle line_feed (front ++ part.prefix) piece (part.suffix ++ back) (rw e at no_feed))).0 (may, passes), is),
          ),
      λ (inner, e, (piece, f, is, g)).
          let whole : text ≡ front ++ part.prefix ++ piece ++ (part.suffix ++ back) = e ∙ ap (λ t. front ++ t ++ back) f ∙ sym (regrouped front part.prefix piece part.suffix back) in
          let both = (accepts piece (lacks_middle line_feed (front ++ part.prefix) piece (part.suffix ++ back) (rw whole at no_feed))).1 is in
          (piece, (middle_kept matcher text piece case).1 whole, (both.0, both.1, g)),
    )

-- A full wildcard without line feed.
accepts_full : (options : OptionsView) (piece : List ℕ) → IsTrue (lacks line_feed piece) →
    (MayBeEmpty true piece × PassesFilter options.ignore_case None piece) ↔ IsWildcardText options FullWildcard piece
accepts_full options piece no_feed = (λ h. no_feed, λ h. (tt, tt))

passes_filter : (filter : Option ℕ) (piece : List ℕ) → IsTrue (lacks line_feed piece) → PassesFilter false filter piece ↔ IsTrue (lacks (unwrap_or filter line_feed) piece)
passes_filter None piece no_feed = (λ h. no_feed, λ h. tt)
passes_filter (Some c) piece no_feed = (λ h. h, λ h. h)

-- A segment.
accepts_segment : (options : OptionsView) → options.ignore_case ≡ false → (piece : List ℕ) → IsTrue (lacks line_feed piece) →
    (MayBeEmpty false piece × PassesFilter options.ignore_case options.delimiter piece) ↔ IsWildcardText options SegmentWildcard piece
accepts_segment options case piece no_feed = (
  λ h. (h.0, (passes_filter options.delimiter piece no_feed).0 (subst (λ b. PassesFilter b options.delimiter piece) case h.1)),
  λ h. (h.0, subst (λ b. PassesFilter b options.delimiter piece) (sym case) ((passes_filter options.delimiter piece no_feed).1 h.1)),
)

-- ---- matchers that need no engine

abbrev pub IsFast : {E : Type 0} → InnerView E → Type 0
IsFast (Literal literal) = Unit {0}
IsFast (SingleCapture filter allow_empty) = Unit {0}
IsFast (RegExp engine) = ⊥

-- A matcher accepts the texts between `front` and `back` that have the meaning.
abbrev pub AcceptsBetween : {E : Type 0} → (answer : E → List ℕ → Option Captures) → (front back text : List ℕ) → Captures → (List ℕ → Captures → Type 0) → MatcherView E → Type 0
AcceptsBetween answer front back text captures Mean matcher =
    IsFast matcher.inner → Matches answer matcher text captures ↔ ((inner : List ℕ) × (text ≡ front ++ inner ++ back) × Mean inner captures)

wildcard_between : {E : Type 0} (answer : E → List ℕ → Option Captures) (options : OptionsView) (front back : List ℕ) (kind : PartType) (filter : Option ℕ) (allow_empty : Bool)
    (value name prefix suffix : List ℕ) (matcher : MatcherView E) (text : List ℕ) (captures : Captures) →
    IsWildcard kind → options.ignore_case ≡ false → IsTrue (lacks line_feed text) →
    ((piece : List ℕ) → IsTrue (lacks line_feed piece) → (MayBeEmpty allow_empty piece × PassesFilter options.ignore_case filter piece) ↔ IsWildcardText options kind piece) →
    matcher ≡ single_capture_matcher options front (part_of kind modifiers.None value name prefix suffix) back filter allow_empty →
    Matches answer matcher text captures ↔ ((inner : List ℕ) × (text ≡ front ++ inner ++ back) × PartMeans options (part_of kind modifiers.None value name prefix suffix) inner captures)
wildcard_between answer options front back kind filter allow_empty value name prefix suffix matcher text captures is_wildcard case no_feed accepts made =
    let part = part_of kind modifiers.None value name prefix suffix in
    let matches = matches_single answer options front back part filter allow_empty text captures case no_feed accepts in (
      λ h.
          let found = matches.0 (subst (λ m. Matches answer m text captures) made h) in
          (found.0, found.1, (one_by options kind value name prefix suffix found.0 captures is_wildcard).1 found.2),
      λ (inner, e, means).
          subst (λ m. Matches answer m text captures) (sym made)
          (matches.1 (inner, e, (one_by options kind value name prefix suffix inner captures is_wildcard).0 means)),
    )

one_between : {E : Type 0} (answer : E → List ℕ → Option Captures) (IsEngine : List ℕ → Result E ErrorView → Type 0) (options : OptionsView) (front back : List ℕ) (kind : PartType) (modifier : PartModifier) (value name prefix suffix : List ℕ) (matcher : MatcherView E) (text : List ℕ) (captures : Captures) →
    options.ignore_case ≡ false → IsTrue (lacks line_feed text) → IsMadeOfOne IsEngine kind modifier options front (part_of kind modifier value name prefix suffix) back matcher →
    AcceptsBetween answer front back text captures (PartMeans options (part_of kind modifier value name prefix suffix)) matcher
one_between answer IsEngine options front back FullWildcard modifiers.None value name prefix suffix matcher text captures case no_feed made fast =
    wildcard_between answer options front back FullWildcard None true value name prefix suffix matcher text captures tt case no_feed
    (accepts_full options) made
one_between answer IsEngine options front back SegmentWildcard modifiers.None value name prefix suffix matcher text captures case no_feed made fast =
    wildcard_between answer options front back SegmentWildcard options.delimiter false value name prefix suffix matcher text captures tt case no_feed
    (accepts_segment options case) made
one_between answer IsEngine options front back kind modifier value name prefix suffix matcher text captures case no_feed made fast =
    absurd (subst (λ m. IsFast m.inner) made.2 fast)

-- A part by itself, as a list of parts.
part_single : (options : OptionsView) (part : PartView) (text : List ℕ) (captures : Captures) → PartMeans options part text captures → PartsMean options (part ∷ []) text captures
part_single options part text captures means = (text, [], captures, [], sym (append-nil text), sym (append-nil captures), means, (refl, refl))

-- A literal accepts the removed texts, with nothing between them.
matches_literal : {E : Type 0} (answer : E → List ℕ → Option Captures) (front back text : List ℕ) (captures : Captures) →
    Matches answer (record { prefix = []; suffix = []; inner = Literal (front ++ back); ignore_case = false }) text captures ↔ ((inner : List ℕ) × (text ≡ front ++ inner ++ back) × (inner ≡ []) × (captures ≡ []))
matches_literal {E} answer front back text captures =
    let matcher : MatcherView E = record { prefix = []; suffix = []; inner = Literal (front ++ back); ignore_case = false } in (
      λ (middle, cut, (f, g)).
          let e = (middle_kept matcher text middle refl).0 cut in
          ([], e ∙ append-nil middle ∙ f ∙ ap (λ t. t ++ back) (sym (append-nil front)), refl, g),
      λ (inner, e, f, g).
          (text, (middle_kept matcher text text refl).1 (sym (append-nil text)), (e ∙ ap (λ t. front ++ t ++ back) f ∙ ap (λ t. t ++ back) (append-nil front), g)),
    )

between : {E : Type 0} (answer : E → List ℕ → Option Captures) (IsEngine : List ℕ → Result E ErrorView → Type 0) (options : OptionsView) (front : List ℕ) (middle : List PartView) (back : List ℕ) (matcher : MatcherView E) (text : List ℕ) (captures : Captures) →
    options.ignore_case ≡ false → IsTrue (lacks line_feed text) → IsMadeBetween IsEngine options front middle back matcher →
    AcceptsBetween answer front back text captures (PartsMean options middle) matcher
between answer IsEngine options front [] back matcher text captures case no_feed made fast =
    let literal = matches_literal answer front back text captures in
    let is : matcher ≡ record { prefix = []; suffix = []; inner = Literal (front ++ back); ignore_case = false } =
    made ∙ ap (λ b. record { prefix = []; suffix = []; inner = Literal (front ++ back); ignore_case = b }) case in (
      λ h. let found = literal.0 (subst (λ m. Matches answer m text captures) is h) in (found.0, found.1, (found.2, found.3)),
      λ (inner, e, means). subst (λ m. Matches answer m text captures) (sym is) (literal.1 (inner, e, means.0, means.1)),
    )
between answer IsEngine options front (part ∷ []) back matcher text captures case no_feed made fast =
    let one = one_between answer IsEngine options front back part.kind part.modifier part.value part.name part.prefix part.suffix matcher text captures case no_feed made fast in (
      λ h. let found = one.0 h in (found.0, found.1, part_single options part found.0 captures found.2),
      λ (inner, e, means). one.1 (inner, e, part_alone means),
    )
between answer IsEngine options front (part ∷ next ∷ parts) back matcher text captures case no_feed made fast =
    absurd (subst (λ m. IsFast m.inner) made.2 fast)

-- A matcher that needs no engine accepts the texts of its parts, with the same captures, for texts
-- without line feed where case is kept.
pub fast_means : {E : Type 0} (answer : E → List ℕ → Option Captures) (IsEngine : List ℕ → Result E ErrorView → Type 0) (options : OptionsView) (parts : List PartView) (matcher : MatcherView E) (text : List ℕ) (captures : Captures) →
    IsMadeOf IsEngine options parts matcher → options.ignore_case ≡ false → IsTrue (lacks line_feed text) → IsFast matcher.inner →
    Matches answer matcher text captures ↔ PartsMean options parts text captures
fast_means answer IsEngine options parts matcher text captures made case no_feed fast =
    let peeled = peeled_means options parts made.front made.middle made.back text captures made.are_stripped in
    let accepted = between answer IsEngine options (end_text made.front) made.middle (end_text made.back) matcher text captures case no_feed made.is_made fast in
    (λ h. peeled.1 (accepted.0 h), λ means. accepted.1 (peeled.0 means))
