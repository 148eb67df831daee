-- Lemmas on patterns of a path alone.
use Rattle.std.proofs.Common.{◌≡◌, ◌∙◌, ℕ, true, false, List, [], ◌∷◌, IsTrue, None, Option, Some, String, Vec, ap, map, refl, subst, sym, zip}
use Rattle.std.proofs.lemmas.List.{append-nil}
use Rattle.std.specs.Borrow.{Bor}
use Rattle.std.specs.Prelude.{⊤, Err, IfSome, Ok, Result}
use Rattle.std.specs.Str.{chars}
use Rattle.std.specs.declared.alloc.Global.{Global}
use Rattle.url.specs.Ascii.{slash}
use Rattle.urlpattern_components.proofs.EightLemmas.{by_name}
use Rattle.urlpattern_components.specs.Eight.{Texts, at}
use Rattle.urlpattern_components.specs.declared.eight.ComponentName.{ComponentName}
use Rattle.urlpattern_components.specs.declared.eight.ComponentName.TheVariants.{Protocol, Username, Password, Hostname, Port, Pathname, Search, Hash}
use Rattle.urlpattern_components.specs.declared.eight.Eight.{Eight}
use Rattle.urlpattern_compare.specs.declared.pattern_parts.PatternParts.{PatternParts}
use Rattle.urlpattern_matcher.specs.Matchers.{inner_view}
use Rattle.urlpattern_matcher.specs.declared.matcher.InnerMatcher.{InnerMatcher}
use Rattle.urlpattern_matcher.specs.declared.regexp.RegExp.{Ghosts as Engine}
use Rattle.urlpattern_matches.specs.BorrowedMatches.{groups_view, pattern_captures_view}
use Rattle.urlpattern_matches.specs.GroupTexts.{captures_of}
use Rattle.urlpattern_matches.specs.ResultViews.{IsResultOf, group_of}
use Rattle.urlpattern_matches.specs.declared.captures.GroupCaptures.{GroupCaptures}
use Rattle.urlpattern_matches.specs.declared.captures.UrlPatternCaptures.{UrlPatternCaptures}
use Rattle.urlpattern_meaning.specs.FirstResults.{AcceptedText}
use Rattle.urlpattern_meaning.specs.Matching.{Accepts, HoldsEngine, InnerView, Literal, MatcherView, RegExp, Returns, SingleCapture, ValuesAgreeWithParts, folded}
use Rattle.urlpattern_meaning.specs.PartMeaning.{Captures}
use Rattle.urlpattern_paths.proofs.PathMatchers.{returned-is}
use Rattle.urlpattern_paths.specs.PathCaptures.{are_read_once}
use Rattle.urlpattern_paths.specs.PathsAlone.{CapturesAll, IsMadeOfKept, IsRead, IsReadBy, OthersCaptureAll, ReturnsCaptured, captures_with_path}
use Rattle.urlpattern_paths.specs.Templates.{IsTemplateOf}
use Rattle.urlpattern_paths.specs.declared.template.PathTemplate.{PathTemplate}
use Rattle.urlpattern_pattern.proofs.MatchersDecide.{answered}
use Rattle.urlpattern_pattern.specs.Match.{AreGroupsInOrder, AreResults, IsMatchOf}
use Rattle.urlpattern_pattern.specs.Patterns.{PatternView, pattern_view}
use Rattle.urlpattern_pattern.specs.UrlPatterns.{AreMadeOfParts, UrlPattern}
use Rattle.urlpattern_syntax.specs.ComponentParts.{kept_options, kept_parts}
use Rattle.urlpattern_syntax.specs.Parts.{PartView}
use Rattle.urlpattern_syntax.specs.Text.{text_of}
use Rattle.urlpattern_syntax.specs.declared.error.Error.{Error}
use Rattle.urlpattern_syntax.specs.declared.parts.ComponentParts.{ComponentParts}

-- A single capture of any text, without prefix and suffix, captures every text.
pub captures-all : {E : Type 0} (answer : E → List ℕ → Option Captures) (matcher : MatcherView E) → matcher.prefix ≡ [] → matcher.suffix ≡ [] → matcher.inner ≡ SingleCapture None true
    → CapturesAll answer matcher
captures-all {E} answer matcher no_prefix no_suffix single = λ text. (
  text,
  ([], [], sym (append-nil text), ap (λ t. folded matcher.ignore_case t) (sym no_prefix), ap (λ t. folded matcher.ignore_case t) (sym no_suffix)),
  subst (λ (inner : InnerView E). Accepts answer matcher.ignore_case inner text (Some text ∷ [])) (sym single) (tt, tt, refl),
)

module _ {E : Type 0} (engine : Engine E) (kept : ComponentParts) (matcher : MatcherView E) where
  took : (inner : InnerView E) → AcceptedText (λ value. ⊤) inner → (HoldsEngine inner → ValuesAgreeWithParts engine.IsMade engine.answer)
      → AcceptedText (λ (value : E). ValuesAgreeWithParts engine.IsMade engine.answer) inner
  took (Literal literal) has agrees = tt
  took (SingleCapture filter allow_empty) has agrees = tt
  took (RegExp (Ok value)) has agrees = agrees tt
  took (RegExp (Err error)) has agrees = has

  -- The matcher of parts that can be read in one way only returns what they capture.
  pub returns-captured : IsMadeOfKept engine kept matcher → (kept_options kept).ignore_case ≡ false → (kept_options kept).delimiter ≡ Some slash → IsTrue (are_read_once (kept_parts kept))
      → (HoldsEngine matcher.inner → ValuesAgreeWithParts engine.IsMade engine.answer) → ReturnsCaptured engine.answer (kept_parts kept) matcher
  returns-captured made keeps slashed once agrees = λ text line scalars.
      let (result, returns) = answered engine.answer matcher text in
      subst (λ (found : Option Captures). Returns engine.answer matcher text found)
      (returned-is engine (kept_options kept) (kept_parts kept) matcher made.is_made keeps slashed once (took matcher.inner made.has_engine agrees) text result line scalars returns) returns

-- A matcher that holds no expression holds no engine.
pub no-engine : {E : Type 0} (inner : InnerMatcher E) → ((regexp : Result E Error) → inner ≡ InnerMatcher.RegExp regexp → ⊥) → HoldsEngine (inner_view inner) → ⊥
no-engine (InnerMatcher.Literal literal) none holds = holds
no-engine (InnerMatcher.SingleCapture filter allow_empty) none holds = holds
no-engine (InnerMatcher.RegExp regexp) none holds = none regexp refl

-- The matcher of the path is made of its parts.
pub kept-made : {E : Type 0} (engine : Engine E) (pattern : UrlPattern E) (parts : PatternParts) → Some parts ≡ pattern.parts → IfSome pattern.parts (λ parts. AreMadeOfParts engine parts (pattern_view pattern))
    → IsMadeOfKept engine parts.components.pathname (pattern_view pattern Pathname).matcher
kept-made engine pattern parts is made =
    let all = subst (λ (kept : Option PatternParts). IfSome kept (λ parts. AreMadeOfParts engine parts (pattern_view pattern))) (sym is) made in
    record { is_made = (all Pathname).is_component.has_matcher; has_engine = (all Pathname).has_engine.of_matcher }

-- A pattern is read by the template of its path's parts, if they have one.
pub read_by-of : {E : Type 0} (answer : E → List ℕ → Option Captures) (pattern : PatternView E) (parts : List PartView) (found : Option PathTemplate) → OthersCaptureAll answer pattern
    → ReturnsCaptured answer parts (pattern Pathname).matcher → IfSome found (IsTemplateOf parts) → IfSome found (IsReadBy answer pattern)
read_by-of answer pattern parts (Some template) others returns same = record {
  others = others;
  path = λ path line. subst (λ (found : Option Captures). Returns answer (pattern Pathname).matcher path found) (sym (same path)) (returns path line.no_line_feed line.characters);
}
read_by-of answer pattern parts None others returns same = tt

-- What the components of a pattern of a path alone return.
pub results-with_path : {E : Type 0} (answer : E → List ℕ → Option Captures) (pattern : PatternView E) (texts : Texts) (groups : Captures) → OthersCaptureAll answer pattern
    → Returns answer (pattern Pathname).matcher texts.pathname (Some groups) → AreResults answer pattern texts (captures_with_path texts groups)
results-with_path answer pattern texts groups others path =
    by_name (λ name. Returns answer (pattern name).matcher (at texts name) (Some (captures_with_path texts groups name))) (others Protocol (λ e. cc e) texts.protocol) (others Username (λ e. cc e) texts.username)
    (others Password (λ e. cc e) texts.password) (others Hostname (λ e. cc e) texts.hostname) (others Port (λ e. cc e) texts.port) path (others Search (λ e. cc e) texts.search) (others Hash (λ e. cc e) texts.hash)

-- The result of each component, and its groups, with the names of the pattern.
abbrev pub IsMatchWithPath : {E : Type 0} → PatternView E → Texts → (groups : Captures) → UrlPatternCaptures → Type 0
IsMatchWithPath pattern texts groups found =
    (name : ComponentName) → IsResultOf (pattern name).group_name_list (captures_with_path texts groups name) (at texts name) (pattern_captures_view found name)
    × (groups_view found name ≡ zip (pattern name).group_name_list (captures_with_path texts groups name))

-- A match is that of the pattern.
pub match-of_read : {E : Type 0} (answer : E → List ℕ → Option Captures) (pattern : PatternView E) (texts : Texts) (groups : Captures) (found : UrlPatternCaptures) → IsRead answer pattern texts.pathname groups
    → IsMatchWithPath pattern texts groups found → IsMatchOf answer pattern texts (pattern_captures_view found) × AreGroupsInOrder answer pattern texts (groups_view found)
match-of_read answer pattern texts groups found (others, path) with_path =
    let results = results-with_path answer pattern texts groups others path in (
      record { captures = captures_with_path texts groups; are_answers = results; are_results = λ name. (with_path name).0 },
      λ name. (captures_with_path texts groups name, results name, (with_path name).1),
    )

-- A match that is put together of names, texts and captures.
pub put-together : {E : Type 0} (pattern : PatternView E) (view : Texts) (groups : Captures) (found : UrlPatternCaptures) (names : Eight (Bor (Vec (String Global) Global))) (texts : Eight (Bor (List ℕ)))
    (captures : Eight GroupCaptures) → found.names ≡ names → found.texts ≡ texts → found.captures ≡ captures
    → ((name : ComponentName) → map text_of (at names name).now.items ≡ (pattern name).group_name_list) → ((name : ComponentName) → chars (at texts name).now ≡ at view name)
    → ((name : ComponentName) → captures_of (at captures name) ≡ captures_with_path view groups name) → IsMatchWithPath pattern view groups found
put-together pattern view groups found names texts captures has_names has_texts has_captures named texted captured_by = λ name.
    let own_names : map text_of (at found.names name).now.items ≡ (pattern name).group_name_list =
    ap (λ (names : Eight (Bor (Vec (String Global) Global))). map text_of (at names name).now.items) has_names ∙ named name in
    let own_captures : captures_of (at found.captures name) ≡ captures_with_path view groups name = ap (λ (captures : Eight GroupCaptures). captures_of (at captures name)) has_captures ∙ captured_by name in (
      record {
        has_input = ap (λ (texts : Eight (Bor (List ℕ))). chars (at texts name).now) has_texts ∙ texted name;
        has_groups = λ group. ap (λ names. group_of names (captures_of (at found.captures name)) group) own_names ∙ ap (λ captures. group_of (pattern name).group_name_list captures group) own_captures;
      },
      ap (λ names. zip names (captures_of (at found.captures name))) own_names ∙ ap (λ captures. zip (pattern name).group_name_list captures) own_captures,
    )
