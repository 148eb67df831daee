-- Patterns of `https://example.com` and a path, whose parts may have simple custom expressions:
-- what a match says of the URL, and what no match says. Both follow from the law that
-- `PatternRegexp` makes first ways (`MakesFirstWays`).
use Rattle.std.proofs.Common.{◌≡◌, ◌<◌, ℕ, false, true, ltb, List, [], ◌++◌, refl, sym, ap, ap₂, ◌∙◌, append-nil, subst, inl, inr, None, Some, Ok, arith}
use Rattle.std.proofs.lemmas.Bool.{ltb-true}
use Rattle.std.proofs.lemmas.List.Elements.{All-weaker}
use Rattle.std.specs.Prelude.{All, Option, IsTrue, codes, decimal, option_map, unwrap_or}
use Rattle.std.specs.Str.{all_scalars, chars}
use Rattle.url.proofs.OnLiterals.{url_on_literals}
use Rattle.url.proofs.InputLemmas.{Passes}
use Rattle.url.proofs.TextLemmas.{All_kept}
use Rattle.url.proofs.ValidLemmas.{path_kept}
use Rattle.url.specs.Host.{host_text, parse_special_host}
use Rattle.url.specs.Parts.{IsValid, Parts, host_or_empty, text_between}
use Rattle.url.specs.Scheme.{scheme_type}
use Rattle.url.specs.declared.host.Host.{Host}
use Rattle.url.specs.declared.host.Host.TheVariants.{Domain}
use Rattle.url.specs.declared.scheme.SchemeType.TheVariants.{SpecialNotFile}
use Rattle.url.specs.declared.sets.TheConstants.{OPAQUE_PATH}
use Rattle.url.specs.declared.slicing.Position.TheVariants.{AfterPort, BeforePort}
use Rattle.urlpattern_canonical.specs.Canonical.{canonical_hash, canonical_password, canonical_pathname, canonical_search, canonical_username}
use Rattle.urlpattern_canonical.specs.declared.canonicalize_and_process.ProcessType.TheVariants.{Pattern}
use Rattle.urlpattern_compile.specs.Compiled.{AreCompiled, EachIsCompiled, IsComponentCompiled, ParseSettings, ReadsAs, canonical_encoding, is_mark, settings_of}
use Rattle.urlpattern_compile.specs.FromString.{IsPatternOfText}
use Rattle.urlpattern_components.specs.Eight.{Texts, Values, at}
use Rattle.urlpattern_components.specs.declared.eight.ComponentName.{ComponentName}
use Rattle.urlpattern_components.specs.declared.eight.ComponentName.TheVariants.{Protocol, Username, Password, Hostname, Port, Pathname, Search, Hash}
use Rattle.urlpattern_engine.specs.PatternRegexps.{pattern_engine, pattern_result}
use Rattle.urlpattern_engine.specs.declared.pattern_regexp.PatternRegexp.{PatternRegexp}
use Rattle.urlpattern_expressions.proofs.SimpleLemmas.{generated_simple}
use Rattle.urlpattern_expressions.specs.MatchedPartTexts.{PartsMatch}
use Rattle.urlpattern_expressions.specs.PartCaptures.{IsCapturedByParts, PartsCapture}
use Rattle.urlpattern_expressions.specs.SimpleExpressions.{AreSimple, HasSimpleExpression, HaveMeaning}
use Rattle.urlpattern_laws.proofs.RouteSplits.{site_values}
use Rattle.urlpattern_init.proofs.UrlTexts.{chars-path, chars-scheme, host_by_text, no_port}
use Rattle.urlpattern_init.specs.ConstructorString.{SplitsInto}
use Rattle.urlpattern_init.specs.Inheritance.{processed_values, texts_of_url, values_view}
use Rattle.urlpattern_init.specs.SpecialProtocol.{IsSpecialTo}
use Rattle.urlpattern_init.specs.UrlTexts.{EachIsLine, IsLine}
use Rattle.urlpattern_init.specs.declared.init.UrlPatternMatchInput.TheVariants as inputs
use Rattle.urlpattern_laws.proofs.ReadTexts.{anything, anything_means, anything_read, literal, literal_alone, literal_means, nothing_alone, nothing_read}
use Rattle.urlpattern_laws.proofs.SimpleMatchers.{pattern_makes_first_ways}
use Rattle.urlpattern_laws.proofs.TakenMeanings.{means_takes}
use Rattle.urlpattern_laws.proofs.UsersExample.{default_asked, hostname_read, protocol_read, users_options}
use Rattle.urlpattern_matcher.proofs.FirstMatchers.{flags_agree}
use Rattle.urlpattern_matcher.specs.Components.{ComponentView, IsEngineOf, engine_flags, has_regexp}
use Rattle.urlpattern_matches.specs.MatchInput.{input_texts}
use Rattle.urlpattern_matches.specs.ResultViews.{ResultView, group_of}
use Rattle.urlpattern_meaning.proofs.MeaningLaws.{one_copy}
use Rattle.urlpattern_meaning.specs.Matching.{HoldsEngine, IsMadeOf, Returns}
use Rattle.urlpattern_meaning.specs.PartMeaning.{Captures}
use Rattle.urlpattern_pattern.proofs.MeaningLemmas.{none_custom}
use Rattle.urlpattern_pattern.specs.Match.{CallsAnEngine, HasNoMatch, IsMatch}
use Rattle.urlpattern_pattern.specs.Patterns.{PatternView}
use Rattle.urlpattern_syntax.specs.Options.{OptionsView, default_options, hostname_options, pathname_options}
use Rattle.urlpattern_syntax.specs.Parts.{PartView}
use Rattle.urlpattern_syntax.specs.Reading.{Reads}
use Rattle.urlpattern_syntax.specs.RegexpText.{group_names}
use Rattle.urlpattern_syntax.specs.Text.{begins_with}

-- ---- components

-- A component that is made of these parts, returns for each line captures that they have in it, or
-- None if they do not match it, and has their names.
record IsByParts (options : OptionsView) (parts : List PartView) (compiled : ComponentView PatternRegexp) : Type 0 where
  captured : (text : List ℕ) (result : Option Captures) → IsLine text → Returns pattern_result compiled.matcher text result → IsCapturedByParts options parts text result
  names : compiled.group_name_list ≡ group_names parts
  made : IsMadeOf (IsEngineOf pattern_engine false (engine_flags options)) options parts compiled.matcher

-- A compiled component, case kept, whose text reads as these simple parts alone.
by_parts : (settings : ParseSettings) (expected : List PartView) (compiled : ComponentView PatternRegexp) → IsComponentCompiled pattern_engine settings compiled →
    settings.options.ignore_case ≡ false → AreSimple expected → ((parts : List PartView) → ReadsAs settings parts → parts ≡ expected) →
    IsByParts settings.options expected compiled
by_parts settings expected compiled is kept simple read =
    let (parts, reads, made) = is.0 in
    let same : expected ≡ parts = sym (read parts reads) in
    let have : HaveMeaning settings.options parts = record { simple = subst (λ (of : List PartView). AreSimple of) same simple; case_kept = kept } in
    record {
      captured = λ text result line answers.
          subst (λ (of : List PartView). IsCapturedByParts settings.options of text result) (sym same)
          (pattern_makes_first_ways settings.options (engine_flags settings.options) parts compiled.matcher made.has_matcher have
          (flags_agree settings.options, is.1.of_matcher) text result line.no_line_feed line.characters answers).is_captured;
      names = made.has_names ∙ ap (λ (of : List PartView). group_names of) (sym same);
      made =
          subst (λ (of : List PartView). IsMadeOf (IsEngineOf pattern_engine false (engine_flags settings.options)) settings.options of compiled.matcher) (sym same) made.has_matcher;
    }

-- An expression of the part, if it has one, is simple.
abbrev pub IsSimplePart : PartView → Type 0
IsSimplePart part = HasSimpleExpression part.kind part.value

plain_simple : (parts : List PartView) → has_regexp parts ≡ false → AreSimple parts
plain_simple parts plain = generated_simple parts (none_custom parts plain)

-- A plain fixed text has captures only in itself.
pub literal_captured : (options : OptionsView) (value text : List ℕ) (captures : Captures) → PartsCapture options (literal value) text captures → text ≡ value
literal_captured options value text captures (first, rest, own, others, cut, all, one, (ended, nothing)) =
    cut ∙ ap₂ ◌++◌ (one_copy _ _ _ one.are_copies one.allowed) ended ∙ append-nil value

pub literal_matched : (options : OptionsView) (value text : List ℕ) → text ≡ value → PartsMatch options (literal value) text
literal_matched options value text e = means_takes options (literal value) text [] ((literal_means options value text []).1 (e, refl))

-- ---- routes

-- The constructor string `text` is split into `https://example.com` and `path`, which begins with a
-- slash and reads as the simple parts `parts` alone.
pub record IsRoute (text path : List ℕ) (parts : List PartView) : Type 0 where
  pub split : (components : Values) → SplitsInto (IsSpecialTo pattern_engine) text components → components ≡ site_values path
  pub processed : processed_values Pattern (site_values path) None ≡ Ok (site_values path)
  pub slash : IsTrue (begins_with (is_mark (codes "/")) path)
  pub read : (found : List PartView) → Reads path pathname_options (canonical_encoding canonical_pathname) found → found ≡ parts
  pub simple : AreSimple parts

-- The parts of each component, where those of the path are `path`.
abbrev site_parts : (path : List PartView) → ComponentName → List PartView
site_parts path Protocol = literal (codes "https")
site_parts path Hostname = literal (codes "example.com")
site_parts path Port = []
site_parts path Pathname = path
site_parts path component = anything

abbrev settings : (path : List ℕ) → ComponentName → ParseSettings
settings path = settings_of default_asked (site_values path) true

module _ {text path : List ℕ} {parts : List PartView} (route : IsRoute text path parts) (pattern : PatternView PatternRegexp) where
  site_compiled : IsPatternOfText pattern_engine text None default_asked pattern → AreCompiled pattern_engine default_asked (site_values path) pattern
  site_compiled is =
      let (values, are_values, compiled) = is.is_compiled in
      let split = route.split (values_view is.init) is.is_constructed.is_split in
      let base : is.init.base_url ≡ None = cc is.is_constructed.has_base in
      let processed = rw (split, base) at are_values in
      let same : values ≡ site_values path = cc (route.processed, processed) in
      subst (λ (of : Values). AreCompiled pattern_engine default_asked of pattern) same compiled

  each_by_parts : EachIsCompiled pattern_engine (settings path) pattern → (component : ComponentName) → IsByParts (users_options component) (site_parts parts component) (pattern component)
  each_by_parts each Protocol = by_parts (settings path Protocol) (literal (codes "https")) (pattern Protocol) (each Protocol) refl (plain_simple (literal (codes "https")) refl) protocol_read
  each_by_parts each Username = by_parts (settings path Username) anything (pattern Username) (each Username) refl (plain_simple anything refl) (λ parts. anything_read canonical_username parts refl)
  each_by_parts each Password = by_parts (settings path Password) anything (pattern Password) (each Password) refl (plain_simple anything refl) (λ parts. anything_read canonical_password parts refl)
  each_by_parts each Hostname = by_parts (settings path Hostname) (literal (codes "example.com")) (pattern Hostname) (each Hostname) refl (plain_simple (literal (codes "example.com")) refl) hostname_read
  each_by_parts each Port = by_parts (settings path Port) [] (pattern Port) (each Port) refl (plain_simple [] refl) (nothing_read default_options _)
  each_by_parts each Pathname = by_parts (settings path Pathname) parts (pattern Pathname) (each Pathname) refl route.simple route.read
  each_by_parts each Search = by_parts (settings path Search) anything (pattern Search) (each Search) refl (plain_simple anything refl) (λ parts. anything_read canonical_search parts refl)
  each_by_parts each Hash = by_parts (settings path Hash) anything (pattern Hash) (each Hash) refl (plain_simple anything refl) (λ parts. anything_read canonical_hash parts refl)

  -- Each component is made of these parts. The pathname is hierarchical, as it begins with a slash.
  site_by_parts : IsPatternOfText pattern_engine text None default_asked pattern → (component : ComponentName) → IsByParts (users_options component) (site_parts parts component) (pattern component)
  site_by_parts is =
      let compiled = site_compiled is in
      let hierarchical : compiled.hierarchical ≡ true = compiled.path_kind.1 (inr (inr route.slash)) in
      each_by_parts (rw hierarchical at compiled.are_compiled)

-- ---- URLs

parsed_host : parse_special_host (codes "example.com") ≡ Ok (Domain (codes "example.com"))
unfolding url_on_literals
parsed_host = refl

https_is_special : scheme_type (codes "https") ≡ SpecialNotFile
unfolding url_on_literals
https_is_special = refl

-- The URL has the scheme `https`, the host `example.com` and no port.
abbrev pub IsOnSite : Parts → Type 0
IsOnSite url = (url.scheme ≡ codes "https") × (url.host ≡ Some (Domain (codes "example.com"))) × (url.port ≡ None)

pub on_site : (url : Parts) → IsValid url → chars url.scheme ≡ codes "https" → chars (host_text (host_or_empty url)) ≡ codes "example.com" →
    chars (text_between url BeforePort AfterPort) ≡ [] → IsOnSite url
on_site url valid is_scheme is_host is_port =
    let scheme : url.scheme ≡ codes "https" = sym (chars-scheme url valid) ∙ is_scheme in (
      scheme,
      host_by_text url (codes "example.com") (Domain (codes "example.com")) valid (ap scheme_type scheme ∙ https_is_special) is_host parsed_host,
      no_port url valid is_port,
    )

-- The path of a URL consists of characters.
pub path_characters : (url : Parts) → IsValid url → EachIsLine (texts_of_url url) → all_scalars url.path ≡ true
path_characters url valid lines = subst (λ (text : List ℕ). all_scalars text ≡ true) (chars-path url valid) (lines Pathname).characters

-- The bytes of a path are ASCII.
pub path_ascii : (url : Parts) → IsValid url → All (λ b. b < 128) url.path
path_ascii url valid =
    All-weaker (Passes (λ b. ltb b 128)) (λ b. b < 128) (λ b low. ltb-true b 128 low) url.path (All_kept (λ b. ltb b 128) OPAQUE_PATH refl url.path (path_kept url valid.path))

-- The parts match the texts of a URL of the site whose path they match.
site_texts : (parts : List PartView) (url : Parts) → IsValid url → EachIsLine (texts_of_url url) → IsOnSite url → PartsMatch pathname_options parts url.path → (component : ComponentName) →
    PartsMatch (users_options component) (site_parts parts component) (at (texts_of_url url) component)
unfolding chars
site_texts parts url valid lines site path Protocol = literal_matched default_options (codes "https") _ (ap chars site.0)
site_texts parts url valid lines site path Hostname =
    literal_matched hostname_options (codes "example.com") _ (ap (λ (host : Option (Host (List ℕ))). chars (host_text (unwrap_or host (Domain [])))) site.1)
site_texts parts url valid lines site path Port = ap (λ (port : Option ℕ). chars (unwrap_or (option_map decimal port) [] ++ [])) site.2
site_texts parts url valid lines site path Pathname = subst (λ (text : List ℕ). PartsMatch pathname_options parts text) (sym (chars-path url valid)) path
site_texts parts url valid lines site path Username = means_takes default_options anything _ _ (anything_means default_options _ (lines Username).no_line_feed)
site_texts parts url valid lines site path Password = means_takes default_options anything _ _ (anything_means default_options _ (lines Password).no_line_feed)
site_texts parts url valid lines site path Search = means_takes default_options anything _ _ (anything_means default_options _ (lines Search).no_line_feed)
site_texts parts url valid lines site path Hash = means_takes default_options anything _ _ (anything_means default_options _ (lines Hash).no_line_feed)

-- ---- matches

module _ {text path : List ℕ} {parts : List PartView} (route : IsRoute text path parts) (pattern : PatternView PatternRegexp) (is : IsPatternOfText pattern_engine text None default_asked pattern)
    (url : Parts) (valid : IsValid url) (lines : EachIsLine (texts_of_url url)) where
  returned : (texts : Texts) (component : ComponentName) (result : Option Captures) → input_texts (inputs.Url url) ≡ Ok texts →
      Returns pattern_result (pattern component).matcher (at texts component) result →
      IsCapturedByParts (users_options component) (site_parts parts component) (at (texts_of_url url) component) result
  returned texts component result e answers =
      let same : texts ≡ texts_of_url url = cc in
      (site_by_parts route pattern is component).captured (at (texts_of_url url) component) result (lines component)
      (subst (λ (of : Texts). Returns pattern_result (pattern component).matcher (at of component) result) same answers)

  -- In a match the URL is on the site, and the groups of the path have captures that the parts have
  -- in it.
  pub route_matched : (result : ComponentName → ResultView) → IsMatch pattern_result pattern (inputs.Url url) result →
      IsOnSite url
      × ((captures : Captures) × PartsCapture pathname_options parts url.path captures
      × ((name : List ℕ) → (result Pathname).group name ≡ group_of (group_names parts) captures name))
  route_matched result (texts, are_texts, match) =
      let captured = λ (component : ComponentName). returned texts component (Some (match.captures component)) are_texts (match.are_answers component) in (
        on_site url valid (literal_captured default_options (codes "https") _ _ (captured Protocol)) (literal_captured hostname_options (codes "example.com") _ _ (captured Hostname))
            (captured Port).0,
        (
          match.captures Pathname,
          subst (λ (text : List ℕ). PartsCapture pathname_options parts text (match.captures Pathname)) (chars-path url valid) (captured Pathname),
          λ name.
              (match.are_results Pathname).has_groups name
              ∙ ap (λ (names : List (List ℕ)). group_of names (match.captures Pathname) name) (site_by_parts route pattern is Pathname).names,
        ),
      )

  -- Without a match, the URL is not on the site, or the parts do not match its path.
  pub route_unmatched : HasNoMatch pattern_result pattern (inputs.Url url) → IsOnSite url → ¬ PartsMatch pathname_options parts url.path
  route_unmatched (inl (inl refused)) site matches = absurd (let e = refused.1 in let never : ⊥ = cc in never)
  route_unmatched (inl (inr long)) site matches = omega (arith, long)
  route_unmatched (inr (texts, are_texts, (component, refused))) site matches =
      returned texts component None are_texts refused (site_texts parts url valid lines site matches component)

  -- Where an engine is called, the parts of a component without engine match its text.
  matched : CallsAnEngine pattern_result pattern (texts_of_url url) → (component : ComponentName) → ¬ HoldsEngine (pattern component).matcher.inner →
      (captures : Captures) × PartsCapture (users_options component) (site_parts parts component) (at (texts_of_url url) component) captures
  matched calls component alone =
      elim (calls.others component) [
        | inl asked ↦ absurd (alone asked.2)
        | inr found ↦ (found.0, returned (texts_of_url url) component (Some found.0) refl found.1)
      ]

  -- An engine is called only for a URL of the site.
  pub route_asked : CallsAnEngine pattern_result pattern (texts_of_url url) → IsOnSite url
  route_asked calls =
      let made = λ (component : ComponentName). (site_by_parts route pattern is component).made in
      on_site url valid (literal_captured default_options (codes "https") _ _ (matched calls Protocol (literal_alone _ _ _ (codes "https") (made Protocol))).1)
      (literal_captured hostname_options (codes "example.com") _ _ (matched calls Hostname (literal_alone _ _ _ (codes "example.com") (made Hostname))).1)
      (matched calls Port (nothing_alone _ _ _ (made Port))).1.0
