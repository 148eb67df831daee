-- Worked examples of matchers: how they are made, and what they return.
use Rattle.std.proofs.Common.{◌≡◌, ℕ, true, false, List, [], ◌∷◌, ◌++◌, refl, sym, ap, ◌∙◌, Some, None, Option, Ok, Err, Result}
use Rattle.std.proofs.lemmas.List.{append_cancel_left, append_cancel_right}
use Rattle.std.specs.Char.{to_ascii_lowercase}
use Rattle.std.specs.Prelude.{◌==◌, codes, slice_index}
use Rattle.urlpattern_syntax.specs.declared.parser.PartModifier.TheVariants as modifiers
use Rattle.urlpattern_syntax.specs.Errors.{ErrorView, ErrorView as views}
use Rattle.urlpattern_meaning.specs.Matching.{AreStripped, IsSame, Literal, SingleCapture, RegExp, MatcherView, IsMadeOf, Returns}
use Rattle.urlpattern_syntax.specs.Options.{default_options, pathname_options}
use Rattle.urlpattern_meaning.specs.PartMeaning.{Captures}
use Rattle.urlpattern_syntax.specs.Parts.{fixed_text}
use Rattle.urlpattern_syntax.specs.RegexpText.{escaped, part_regexp}
use Rattle.urlpattern_meaning.proofs.MatchingLaws.{middle_kept}
use Rattle.urlpattern_meaning.proofs.PrintingExamples.{plain, wildcard}
use Rattle.urlpattern_syntax.proofs.TokenExamples.{no}

-- A wildcard between two texts, as a matcher of any engine.
abbrev pub wildcard_matcher : (E : Type 0) → (prefix suffix : List ℕ) → MatcherView E
wildcard_matcher E prefix suffix = record { prefix = prefix; suffix = suffix; inner = SingleCapture None true; ignore_case = false }

-- Where case is kept and no middle fits, nothing matches.
none_fits : {E : Type 0} (answer : E → List ℕ → Option Captures) (matcher : MatcherView E) (text : List ℕ) → matcher.ignore_case ≡ false →
    ((middle : List ℕ) → ¬ (text ≡ matcher.prefix ++ middle ++ matcher.suffix)) → Returns answer matcher text None
none_fits answer matcher text kept none captures (middle, cut, accepts) = none middle ((middle_kept matcher text middle kept).0 cut)

abbrev pub accent : List ℕ
accent = 0xE9 ∷ []

-- A single character is not prefix and suffix at once.
pub accent_none : (E : Type 0) (answer : E → List ℕ → Option Captures) → Returns answer (wildcard_matcher E accent accent) accent None
accent_none E answer = none_fits answer (wildcard_matcher E accent accent) accent refl none
  where
    none : (middle : List ℕ) → ¬ (accent ≡ accent ++ middle ++ accent)
    none [] e = cc e
    none (c ∷ middle) e = cc e

-- A prefix and a suffix that share a character do not overlap on a text of three.
pub overlap_none : (E : Type 0) (answer : E → List ℕ → Option Captures) → Returns answer (wildcard_matcher E (codes "ab") (codes "ba")) (codes "aba") None
overlap_none E answer = none_fits answer (wildcard_matcher E (codes "ab") (codes "ba")) (codes "aba") refl none
  where
    none : (middle : List ℕ) → ¬ (codes "aba" ≡ codes "ab" ++ middle ++ codes "ba")
    none [] e = cc e
    none (c ∷ []) e = cc e
    none (c ∷ d ∷ middle) e = cc e

-- A prefix and a suffix that share a character meet on a text of four, with nothing between them.
pub overlap_empty : (E : Type 0) (answer : E → List ℕ → Option Captures) → Returns answer (wildcard_matcher E (codes "ab") (codes "ba")) (codes "abba") (Some (Some [] ∷ []))
overlap_empty E answer = ([], (codes "ab", codes "ba", refl, refl, refl), (tt, tt, refl))

-- A prefix that does not overlap the suffix leaves the empty text between them.
pub shorter_empty : (E : Type 0) (answer : E → List ℕ → Option Captures) → Returns answer (wildcard_matcher E (codes "a") (codes "ba")) (codes "aba") (Some (Some [] ∷ []))
shorter_empty E answer = ([], (codes "a", codes "ba", refl, refl, refl), (tt, tt, refl))

pub shorter_text : (E : Type 0) (answer : E → List ℕ → Option Captures) → Returns answer (wildcard_matcher E (codes "a") (codes "ba")) (codes "abba") (Some (Some (codes "b") ∷ []))
shorter_text E answer = (codes "b", (codes "a", codes "ba", refl, refl, refl), (tt, tt, refl))

-- A segment is not empty, and has no delimiter.
abbrev pub segment_matcher : (E : Type 0) → MatcherView E
segment_matcher E = record { prefix = codes "/"; suffix = []; inner = SingleCapture pathname_options.delimiter false; ignore_case = false }

pub segment_some : (E : Type 0) (answer : E → List ℕ → Option Captures) → Returns answer (segment_matcher E) (codes "/a") (Some (Some (codes "a") ∷ []))
segment_some E answer = (codes "a", (codes "/", [], refl, refl, refl), ((λ e. cc e), refl, refl))

pub segment_none : (E : Type 0) (answer : E → List ℕ → Option Captures) → Returns answer (segment_matcher E) (codes "/a/") None
segment_none E answer captures (middle, cut, (not_empty, passes, is)) =
    let e = (middle_kept (segment_matcher E) (codes "/a/") middle refl).0 cut in
    let whole : codes "a/" ≡ middle = append_cancel_right (codes "a/") middle [] (append_cancel_left (codes "/") _ _ e) in
    no (rw (← whole) at passes)

pub segment_empty : (E : Type 0) (answer : E → List ℕ → Option Captures) → Returns answer (segment_matcher E) (codes "/") None
segment_empty E answer captures (middle, cut, (not_empty, passes, is)) =
    let e = (middle_kept (segment_matcher E) (codes "/") middle refl).0 cut in
    let whole : [] ≡ middle = append_cancel_right [] middle [] (append_cancel_left (codes "/") _ _ e) in
    not_empty (sym whole)

-- The result of the segment matcher for `/a` is not None.
pub segment_answered : (E : Type 0) (answer : E → List ℕ → Option Captures) → ¬ Returns answer (segment_matcher E) (codes "/a") None
segment_answered E answer none = none (Some (codes "a") ∷ []) (segment_some E answer)

-- The case of a literal is folded in ASCII alone.
abbrev pub folding_matcher : (E : Type 0) → List ℕ → MatcherView E
folding_matcher E text = record { prefix = []; suffix = []; inner = Literal text; ignore_case = true }

pub folding_some : (E : Type 0) (answer : E → List ℕ → Option Captures) → Returns answer (folding_matcher E (codes "/Foo")) (codes "/fOO") (Some [])
folding_some E answer = (codes "/fOO", ([], [], refl, refl, refl), (refl, refl))

none_folded : (text : List ℕ) → IsSame true text [] → text ≡ []
none_folded [] same = refl
none_folded (c ∷ text) same = cc same

-- The case of a filter is folded in ASCII alone.
abbrev pub filter_matcher : (E : Type 0) → MatcherView E
filter_matcher E = record { prefix = []; suffix = []; inner = SingleCapture (Some (slice_index (codes "A") 0)) false; ignore_case = true }

pub folding_filter : (E : Type 0) (answer : E → List ℕ → Option Captures) → Returns answer (filter_matcher E) (codes "a") None
folding_filter E answer captures (middle, (front, back, e, begins, ends), (not_empty, passes, is)) =
    let cut : codes "a" ≡ middle ++ [] = e ∙ ap (λ t. t ++ middle ++ back) (none_folded front begins) ∙ ap (λ t. middle ++ t) (none_folded back ends) in
    let whole : codes "a" ≡ middle = append_cancel_right (codes "a") middle [] cut in
    no (rw (← whole) at passes)

-- The case of prefix and suffix is folded in ASCII alone, and captures keep their case.
abbrev pub folding_wildcard : (E : Type 0) → (prefix suffix : List ℕ) → MatcherView E
folding_wildcard E prefix suffix = record { prefix = prefix; suffix = suffix; inner = SingleCapture None true; ignore_case = true }

pub folding_ends : (E : Type 0) (answer : E → List ℕ → Option Captures) →
    Returns answer (folding_wildcard E (codes "/Foo/") (codes ".HTML")) (codes "/fOO/Bar.html") (Some (Some (codes "Bar") ∷ []))
folding_ends E answer = (codes "Bar", (codes "/fOO/", codes ".html", refl, refl, refl), (tt, tt, refl))

other_first : {E : Type 0} (answer : E → List ℕ → Option Captures) (first c : ℕ) (text : List ℕ) → ¬ (to_ascii_lowercase c ≡ to_ascii_lowercase first) →
    Returns answer (folding_wildcard E (first ∷ []) []) (c ∷ text) None
other_first answer first c text other captures (middle, ([], back, e, begins, ends), accepts) = cc begins
other_first answer first c text other captures (middle, (d ∷ front, back, e, begins, ends), accepts) =
    let is : c ≡ d = ap (λ t. slice_index t 0) e in
    other (ap to_ascii_lowercase is ∙ ap (λ t. slice_index t 0) begins)

-- A letter outside of ASCII is another letter in the other case.
pub folding_accent : (E : Type 0) (answer : E → List ℕ → Option Captures) → Returns answer (folding_wildcard E (0xC9 ∷ []) []) (0xE9 ∷ codes "a") None
folding_accent E answer = other_first answer 0xC9 0xE9 (codes "a") (λ e. no (ap (λ c. c == 0xC9) e))

-- The Kelvin sign is not a `k`.
pub folding_kelvin : (E : Type 0) (answer : E → List ℕ → Option Captures) → Returns answer (folding_wildcard E (codes "k") []) (0x212A ∷ codes "a") None
folding_kelvin E answer = other_first answer (slice_index (codes "k") 0) 0x212A (codes "a") (λ e. no (ap (λ c. c == slice_index (codes "k") 0) e))

-- Where case is kept, the case of a prefix is not folded.
pub kept_prefix : (E : Type 0) (answer : E → List ℕ → Option Captures) → Returns answer (wildcard_matcher E (codes "A") []) (codes "ab") None
kept_prefix E answer = none_fits answer (wildcard_matcher E (codes "A") []) (codes "ab") refl (λ middle e. no (ap (λ t. slice_index t 0 == slice_index (codes "A") 0) e))

-- ---- making

-- The pattern `ab*ba`: the fixed texts at the ends are removed.
pub overlap_made : (E : Type 0) (IsEngine : List ℕ → Result E ErrorView → Type 0) →
    IsMadeOf IsEngine default_options (plain (codes "ab") ∷ wildcard (codes "0") ∷ plain (codes "ba") ∷ []) (wildcard_matcher E (codes "ab") (codes "ba"))
overlap_made E IsEngine = record {
  front = Some (plain (codes "ab"));
  middle = wildcard (codes "0") ∷ [];
  back = Some (plain (codes "ba"));
  are_stripped = record { cut = refl; front_removed = refl; back_removed = refl };
  is_made = refl;
}

-- The pattern `a{}?b`: nothing is left, and the two texts are one.
pub apart_made : (E : Type 0) (IsEngine : List ℕ → Result E ErrorView → Type 0) →
    IsMadeOf IsEngine default_options (plain (codes "a") ∷ plain (codes "b") ∷ []) (record { prefix = []; suffix = []; inner = Literal (codes "ab"); ignore_case = false })
apart_made E IsEngine = record {
  front = Some (plain (codes "a"));
  middle = [];
  back = Some (plain (codes "b"));
  are_stripped = record { cut = refl; front_removed = refl; back_removed = refl };
  is_made = refl;
}

-- The pattern `{a}?b`: an engine gets the regular expression of the part that is left.
pub optional_made : (E : Type 0) (IsEngine : List ℕ → Result E ErrorView → Type 0) (engine : E) →
    IsEngine (codes "^(?:a)?$") (Ok engine) →
    IsMadeOf IsEngine default_options (fixed_text (codes "a") modifiers.Optional ∷ plain (codes "b") ∷ []) (record { prefix = []; suffix = codes "b"; inner = RegExp (Ok engine); ignore_case = false })
unfolding escaped part_regexp
optional_made E IsEngine engine is_made = record {
  front = None;
  middle = fixed_text (codes "a") modifiers.Optional ∷ [];
  back = Some (plain (codes "b"));
  are_stripped = record { cut = refl; front_removed = no; back_removed = refl };
  is_made = (Ok engine, is_made, refl);
}

-- The pattern `{a}?b` where the engine rejects that regular expression.
pub optional_refused : (E : Type 0) (IsEngine : List ℕ → Result E ErrorView → Type 0) →
    IsEngine (codes "^(?:a)?$") (Err views.RegExp) →
    IsMadeOf IsEngine default_options (fixed_text (codes "a") modifiers.Optional ∷ plain (codes "b") ∷ []) (record { prefix = []; suffix = codes "b"; inner = RegExp (Err views.RegExp); ignore_case = false })
unfolding escaped part_regexp
optional_refused E IsEngine may_refuse = record {
  front = None;
  middle = fixed_text (codes "a") modifiers.Optional ∷ [];
  back = Some (plain (codes "b"));
  are_stripped = record { cut = refl; front_removed = no; back_removed = refl };
  is_made = (Err views.RegExp, may_refuse, refl);
}

-- A plain fixed text at the end does not stay among the parts.
pub back_goes_off : ¬ AreStripped (plain (codes "a") ∷ plain (codes "b") ∷ []) (Some (plain (codes "a"))) (plain (codes "b") ∷ []) None
back_goes_off h = h.back_removed refl
