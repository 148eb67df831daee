-- Lemmas on the patterns of the command `first`, and on its JSON.
use Rattle.std.proofs.Common.{◌≡◌, ℕ, Bool, ◌<◌, ◌+◌, List, [], ◌∷◌, ◌++◌, map, length, take, get_or, refl, ap, ◌∙◌, sym, subst, inl, inr, codes, false}
use Rattle.std.proofs.lemmas.Grind.{take_at_read}
use Rattle.std.proofs.lemmas.List.{map-append, take-map}
use Rattle.std.proofs.lemmas.Option.{slice_get-get_or, slice_get-map}
use Rattle.std.proofs.lemmas.Slice.Zip.{all_zipped_more}
use Rattle.std.specs.Borrow.{Bor}
use Rattle.std.specs.Prelude.{MatchOption, Option, None, Some, String, option_map, string_bytes}
use Rattle.std.specs.declared.alloc.Global.{Global}
use Rattle.urlpat_commands.specs.CommandAnswers.{ArePatterns, IsFirstMatchText, IsFirstTextBy, IsUnmatchedByAll, IsUnmatchedByEach, RejectsOneOf}
use Rattle.urlpat_matching.specs.PatternWords.{IsPatternOf, RejectsPatternOf}
use Rattle.serde_json.specs.Data.{Data, no_members, number, put, unsigned}
use Rattle.serde_json.specs.Written.{has_float}
use Rattle.urlpat_commands.specs.FirstJson.{first_tree}
use Rattle.urlpat_matching.proofs.MatchJsonLemmas.{put-none}
use Rattle.urlpat_matching.specs.Texts.{texts_view}
use Rattle.urlpat_matching.specs.declared.command.Flags.{Flags}
use Rattle.urlpattern.specs.Errors.{MemoryOr}
use Rattle.urlpattern.specs.Patterns.{PatternView, pattern_view}
use Rattle.urlpattern.specs.FirstMatch.{patterns_view}
use Rattle.urlpattern.specs.UrlPattern.{UrlPattern}
use Rattle.urlpattern_engine.specs.declared.pattern_regexp.PatternRegexp.{PatternRegexp}
use Rattle.urlpattern_syntax.specs.declared.error.Error.{Error}

-- ---- patterns in order

module _ (ignores : Bool) (base : Option (List ℕ)) (words : List (Bor (List ℕ))) (index : ℕ) (none : Bor (List ℕ)) (within : index < length words) where
  -- The next argument is compiled.
  pub patterns-more : (list next : List (UrlPattern PatternRegexp)) (pattern : UrlPattern PatternRegexp) → next ≡ list ++ pattern ∷ []
      → ArePatterns ignores (texts_view (take index words)) base (patterns_view list) → IsPatternOf ignores (get_or words index none).now base (pattern_view pattern)
      → ArePatterns ignores (texts_view (take (index + 1) words)) base (patterns_view next)
  patterns-more list next pattern is_next are is =
      let word = get_or words index none in
      let texts = ap (map (λ w. w.now)) (take_at_read words index none within).1 ∙ map-append (λ (w : Bor (List ℕ)). w.now) (take index words) (word ∷ []) in
      let views = ap (λ patterns. patterns_view patterns) is_next ∙ map-append (λ (p : UrlPattern PatternRegexp). pattern_view p) list (pattern ∷ []) in
      subst (λ (ts : List (List ℕ)). ArePatterns ignores ts base (patterns_view next)) (sym texts)
      (subst (λ (vs : List (PatternView PatternRegexp)). ArePatterns ignores (texts_view (take index words) ++ word.now ∷ []) base vs) (sym views)
      (all_zipped_more (λ text view. IsPatternOf ignores text base view) (texts_view (take index words)) (patterns_view list) word.now (pattern_view pattern) are is))

  -- The next argument is rejected.
  pub refuses-one : (list : List (UrlPattern PatternRegexp)) (error : Error) → ArePatterns ignores (texts_view (take index words)) base (patterns_view list)
      → MemoryOr (RejectsPatternOf ignores (get_or words index none).now base) error → MemoryOr (RejectsOneOf ignores (texts_view words) base) error
  refuses-one list error are (inl memory) = inl memory
  refuses-one list error are (inr refused) = inr (record {
    index = index;
    text = (get_or words index none).now;
    earlier = patterns_view list;
    is_there = slice_get-map (λ w. w.now) words index ∙ ap (option_map (λ w. w.now)) (slice_get-get_or words index none within);
    are_compiled = subst (λ (ts : List (List ℕ)). ArePatterns ignores ts base (patterns_view list)) (sym (take-map (λ w. w.now) index words)) are;
    refuses = refused;
  })

-- ---- the first match

-- The outcome of compiled patterns is that of their texts.
pub first_found_by : (flags : Flags) (patterns : List (List ℕ)) (input : List ℕ) (base : Option (List ℕ)) (compiled : List (PatternView PatternRegexp)) (found : Option (String Global)) → ArePatterns flags.ignore_case patterns base compiled
    → MatchOption found (IsUnmatchedByAll compiled input base) (λ text. IsFirstTextBy flags.json compiled input base (string_bytes text))
    → MatchOption found (IsUnmatchedByEach flags.ignore_case patterns input base) (λ text. IsFirstMatchText flags patterns input base (string_bytes text))
first_found_by flags patterns input base compiled None are answer = (compiled, are, answer)
first_found_by flags patterns input base compiled (Some text) are answer = (compiled, are, answer)

-- ---- JSON

-- The JSON of the first match has no float if that of the match has none.
pub first-none : (index : ℕ) (found : Data) → has_float found ≡ false → has_float (first_tree index found) ≡ false
first-none index found none =
    put-none (codes "match") found (put (codes "index") (number (unsigned index)) no_members) none
    (put-none (codes "index") (number (unsigned index)) no_members refl refl)
