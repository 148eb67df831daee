-- Worked example: the components of a pattern of `https://example.com/users/:id`.
use Rattle.std.proofs.Common.{◌≡◌, ◌∙◌, Bool, true, false, List, [], ◌∷◌, ◌++◌, ap, refl, inr, None, Ok, subst}
use Rattle.std.specs.Char.{encode_utf8}
use Rattle.std.specs.Prelude.{codes}
use Rattle.std.specs.Str.{chars}
use Rattle.url.proofs.OnLiterals.{url_on_literals}
use Rattle.urlpattern_laws.proofs.ReadTexts.{IsOfParts, anything, anything_alone, anything_read, canonical_value, literal, literal_alone, literal_read, nothing_alone, nothing_read, of_parts, segment_alone, text_and_segment}
use Rattle.urlpattern_compile.specs.Compiled.{AreCompiled, EachIsCompiled, IsPathKind, ParseSettings, canonical_encoding, settings_of}
use Rattle.urlpattern_compile.specs.FromString.{IsPatternOfText}
use Rattle.urlpattern_pattern.specs.KeptParts.{KeepsPartsOfText}
use Rattle.urlpattern_pattern.specs.Patterns.{PatternView, pattern_view}
use Rattle.urlpattern_pattern.specs.UrlPatterns.{UrlPattern}
use Rattle.urlpattern_syntax.specs.ComponentParts.{kept_options}
use Rattle.urlpattern_canonical.specs.Canonical.{canonical_hash, canonical_hostname, canonical_password, canonical_pathname, canonical_protocol, canonical_search, canonical_username}
use Rattle.urlpattern_canonical.specs.declared.canonicalize_and_process.ProcessType.TheVariants.{Pattern}
use Rattle.urlpattern_engine.specs.PatternRegexps.{pattern_engine}
use Rattle.urlpattern_engine.specs.declared.pattern_regexp.PatternRegexp.{PatternRegexp}
use Rattle.urlpattern_meaning.proofs.PlainTexts.{parts_of, plain_parts}
use Rattle.urlpattern_meaning.specs.Matching.{HoldsEngine}
use Rattle.urlpattern_init.proofs.SplitExamples.{users_split, users_text, users_values}
pub use Rattle.urlpattern_init.proofs.UrlTexts.{chars-path, chars-scheme, host_by_text, no_port}
use Rattle.urlpattern_init.specs.Inheritance.{processed_values, values_view}
use Rattle.urlpattern_init.specs.SpecialProtocol.{IsSpecialTo}
use Rattle.urlpattern_inputs.specs.declared.options.UrlPatternOptions.{UrlPatternOptions}
use Rattle.urlpattern_syntax.proofs.PieceExamples.{PieceCut, bare, ends, piece, pieces_of}
use Rattle.urlpattern_syntax.proofs.ReadingExamples.{named}
use Rattle.urlpattern_syntax.proofs.RegexpTextExamples.{group}
use Rattle.urlpattern_syntax.proofs.TokenExamples.{no, token, users_front, users_tokens}
use Rattle.urlpattern_components.specs.Eight.{Values, at}
use Rattle.urlpattern_syntax.specs.Options.{OptionsView, default_options, hostname_options, pathname_options}
use Rattle.urlpattern_syntax.specs.Parts.{PartView, fixed_text}
use Rattle.urlpattern_syntax.specs.Pieces.{Bare, Piece, Stops, Text}
use Rattle.urlpattern_syntax.specs.Reading.{AreParts, Reads, items_of}
use Rattle.urlpattern_syntax.specs.RegexpText.{escaped}
use Rattle.urlpattern_components.specs.declared.eight.ComponentName.{ComponentName}
use Rattle.urlpattern_components.specs.declared.eight.ComponentName.TheVariants.{Protocol, Username, Password, Hostname, Port, Pathname, Search, Hash}
use Rattle.urlpattern_syntax.specs.declared.parser.PartModifier.TheVariants as modifiers
use Rattle.urlpattern_syntax.specs.declared.parser.PartType.TheVariants.{SegmentWildcard}
use Rattle.urlpattern_syntax.specs.declared.parser.RegexSyntax.TheVariants.{Rust}
use Rattle.urlpattern_syntax.specs.declared.tokenizer.TokenType.TheVariants.{End}

-- ---- the results of `url` for the fixed texts

canonical_scheme : canonical_protocol (codes "https") ≡ Ok (codes "https")
unfolding url_on_literals encode_utf8
canonical_scheme = refl

canonical_host : canonical_hostname (codes "example.com") ≡ Ok (codes "example.com")
unfolding url_on_literals encode_utf8
canonical_host = refl

canonical_path : canonical_pathname (codes "/users") ≡ Ok (codes "/users")
unfolding url_on_literals encode_utf8
canonical_path = refl

pub canonical_slash : canonical_pathname (codes "/") ≡ Ok (codes "/")
unfolding url_on_literals encode_utf8
canonical_slash = refl

-- ---- the parts of the pattern texts

pub protocol_read : (parts : List PartView) → Reads (codes "https") default_options (canonical_encoding canonical_protocol) parts → parts ≡ literal (codes "https")
unfolding encode_utf8 chars
protocol_read parts reads =
    literal_read canonical_protocol (codes "https") parts refl canonical_scheme (plain_parts (codes "https") default_options (canonical_encoding canonical_protocol) parts refl reads)

pub hostname_read : (parts : List PartView) → Reads (codes "example.com") hostname_options (canonical_encoding canonical_hostname) parts → parts ≡ literal (codes "example.com")
unfolding encode_utf8 chars
hostname_read parts reads =
    literal_read canonical_hostname (codes "example.com") parts refl canonical_host
    (plain_parts (codes "example.com") hostname_options (canonical_encoding canonical_hostname) parts refl reads)

abbrev user_pieces : List Piece
user_pieces =
    Text (codes "/") ∷ Text (codes "u") ∷ Text (codes "s") ∷ Text (codes "e") ∷ Text (codes "r") ∷ Text (codes "s")
    ∷ Bare (codes "/") (named (codes "id")) modifiers.None ∷ []

user_cut : PieceCut (codes "/") (Stops (token End 10 [])) (users_front ++ token End 10 [] ∷ []) user_pieces
user_cut =
    piece 1 (_, refl, refl, refl, λ k v. no) (piece 1 (_, refl, refl, refl, λ k v. no) (piece 1 (_, refl, refl, refl, λ k v. no)
    (piece 1 (_, refl, refl, refl, λ k v. no) (piece 1 (_, refl, refl, refl, λ k v. no) (piece 1 (_, refl, refl, refl, λ k v. no)
    (piece 2 (bare 1 1 (inr (refl, refl, refl)) (refl, refl) refl no no) (ends (_, refl, refl))))))))

abbrev pub user_parts : List PartView
user_parts = text_and_segment (codes "/users") (codes "/") (codes "id")

pathname_read : (parts : List PartView) → Reads (codes "/users/:id") pathname_options (canonical_encoding canonical_pathname) parts → parts ≡ user_parts
unfolding escaped encode_utf8 chars
pathname_read parts reads =
    let read : AreParts pathname_options (canonical_encoding canonical_pathname) (items_of user_pieces) parts =
    parts_of (users_front ++ token End 10 [] ∷ []) user_pieces (token End 10 []) users_tokens (pieces_of user_cut) reads in
    let before = canonical_value canonical_pathname (codes "/users") read.0 (codes "/users") refl canonical_path read.3 in
    let prefix = canonical_value canonical_pathname (codes "/") read.4.0 (codes "/") refl canonical_slash read.4.4 in
    let suffix = canonical_value canonical_pathname [] read.4.1 [] refl refl read.4.5 in
    let first : parts ≡ fixed_text read.0 modifiers.None ∷ read.1 = read.2 in
    let found : read.1 ≡ group SegmentWildcard read.4.0 (codes "id") read.4.1 modifiers.None ∷ read.4.2 = read.4.3 in
    let ended : read.4.2 ≡ [] = read.4.6 in
    cc

-- ---- the values of the pattern

-- The options of `UrlPatternOptions::default()`.
abbrev pub default_asked : UrlPatternOptions
default_asked = record { regex_syntax = Rust; ignore_case = false }

users_processed : processed_values Pattern users_values None ≡ Ok users_values
unfolding processed_values
users_processed = refl

users_compiled : (pattern : PatternView PatternRegexp) → IsPatternOfText pattern_engine users_text None default_asked pattern →
    AreCompiled pattern_engine default_asked users_values pattern
users_compiled pattern is =
    let (values, are_values, compiled) = is.is_compiled in
    let split = users_split (IsSpecialTo pattern_engine) (values_view is.init) is.is_constructed.is_split in
    let base : is.init.base_url ≡ None = cc is.is_constructed.has_base in
    let processed = rw (split, base) at are_values in
    let same : values ≡ users_values = cc (users_processed, processed) in
    subst (λ (of : Values). AreCompiled pattern_engine default_asked of pattern) same compiled

-- ---- the components

abbrev pub users_options : ComponentName → OptionsView
users_options Hostname = hostname_options
users_options Pathname = pathname_options
users_options component = default_options

abbrev pub users_parts : ComponentName → List PartView
users_parts Protocol = literal (codes "https")
users_parts Hostname = literal (codes "example.com")
users_parts Port = []
users_parts Pathname = user_parts
users_parts component = anything

abbrev settings : ComponentName → ParseSettings
settings = settings_of default_asked users_values true

each_of_parts : (pattern : PatternView PatternRegexp) → EachIsCompiled pattern_engine settings pattern → (component : ComponentName) →
    IsOfParts (users_options component) (users_parts component) (pattern component)
each_of_parts pattern each Protocol = of_parts (settings Protocol) (users_parts Protocol) (pattern Protocol) (each Protocol) refl refl protocol_read
each_of_parts pattern each Username = of_parts (settings Username) anything (pattern Username) (each Username) refl refl (λ parts. anything_read canonical_username parts refl)
each_of_parts pattern each Password = of_parts (settings Password) anything (pattern Password) (each Password) refl refl (λ parts. anything_read canonical_password parts refl)
each_of_parts pattern each Hostname = of_parts (settings Hostname) (users_parts Hostname) (pattern Hostname) (each Hostname) refl refl hostname_read
each_of_parts pattern each Port = of_parts (settings Port) [] (pattern Port) (each Port) refl refl (nothing_read default_options _)
each_of_parts pattern each Pathname = of_parts (settings Pathname) user_parts (pattern Pathname) (each Pathname) refl refl pathname_read
each_of_parts pattern each Search = of_parts (settings Search) anything (pattern Search) (each Search) refl refl (λ parts. anything_read canonical_search parts refl)
each_of_parts pattern each Hash = of_parts (settings Hash) anything (pattern Hash) (each Hash) refl refl (λ parts. anything_read canonical_hash parts refl)

-- Each component is made of these parts. The pathname is hierarchical, as it begins with a slash.
pub users_of_parts : (pattern : PatternView PatternRegexp) → IsPatternOfText pattern_engine users_text None default_asked pattern → (component : ComponentName) →
    IsOfParts (users_options component) (users_parts component) (pattern component)
users_of_parts pattern is =
    let compiled = users_compiled pattern is in
    let hierarchical : compiled.hierarchical ≡ true = compiled.path_kind.1 (inr (inr refl)) in
    each_of_parts pattern (rw hierarchical at compiled.are_compiled)

-- No component has an engine.
pub users_alone : (pattern : PatternView PatternRegexp) → IsPatternOfText pattern_engine users_text None default_asked pattern → (component : ComponentName) →
    ¬ HoldsEngine (pattern component).matcher.inner
users_alone pattern is Protocol = literal_alone _ _ _ (codes "https") (users_of_parts pattern is Protocol).made
users_alone pattern is Username = anything_alone _ _ _ (users_of_parts pattern is Username).made
users_alone pattern is Password = anything_alone _ _ _ (users_of_parts pattern is Password).made
users_alone pattern is Hostname = literal_alone _ _ _ (codes "example.com") (users_of_parts pattern is Hostname).made
users_alone pattern is Port = nothing_alone _ _ _ (users_of_parts pattern is Port).made
users_alone pattern is Pathname = segment_alone _ _ _ (codes "/users") (codes "/") (codes "id") (users_of_parts pattern is Pathname).made
users_alone pattern is Search = anything_alone _ _ _ (users_of_parts pattern is Search).made
users_alone pattern is Hash = anything_alone _ _ _ (users_of_parts pattern is Hash).made

-- ---- the parts that the pattern keeps

-- The parts of the pathname are those of a path of segments.
pub users_path : (pattern : UrlPattern PatternRegexp) → (kept : KeepsPartsOfText pattern_engine users_text None default_asked pattern) → kept_options (at kept.2.parts.components Pathname) ≡ pathname_options
users_path pattern (init, constructed, kept) =
    let split = users_split (IsSpecialTo pattern_engine) (values_view init) constructed.is_split in
    let base : init.base_url ≡ None = cc constructed.has_base in
    let processed = rw (split, base) at kept.are_values in
    let same : kept.values ≡ users_values = cc (users_processed, processed) in
    let kind = subst (λ (of : Values). IsPathKind pattern_engine.answer of (pattern_view pattern Protocol).matcher kept.hierarchical) same kept.path_kind in
    let hierarchical : kept.hierarchical ≡ true = kind.1 (inr (inr refl)) in
    (kept.are_read Pathname).options_are ∙ ap (λ (of : Values). (settings_of default_asked of kept.hierarchical Pathname).options) same
    ∙ ap (λ (is : Bool). (settings_of default_asked users_values is Pathname).options) hierarchical
