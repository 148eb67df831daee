-- The texts of a valid URL are lines of ASCII.
use Rattle.std.proofs.Common.{◌≡◌, ◌∙◌, ◌<◌, ℕ, Bool, false, not, ◌==◌, ◌&&◌, ltb, List, [], ◌++◌, length, All, None, Some, Ok, ap, refl, subst, sym, ⊎_elim, arith}
use Rattle.std.proofs.lemmas.Bool.{and_parts}
use Rattle.std.proofs.lemmas.Bool.Decides.{nat_tests}
use Rattle.std.proofs.lemmas.Fmt.{decimal_nonempty, digits_decimal}
use Rattle.std.proofs.lemmas.List.Elements.{All-append, All-from_get_or, All-nil, All-weaker}
use Rattle.std.proofs.lemmas.List.{append-nil}
use Rattle.std.proofs.lemmas.Str.{IsUtf8-from_ascii, chars-IsAscii, scalars-chars}
use Rattle.std.proofs.lemmas.Str.Ascii.{IsAscii-from_all}
use Rattle.std.proofs.lemmas.Str.Parse.{numerals_by_value, tells_by_index}
use Rattle.std.specs.Int.{IsInRange}
use Rattle.std.specs.Prelude.{IsAscii, MatchOption, Option, decimal, option_map, unwrap_or}
use Rattle.std.specs.Str.{chars}
use Rattle.percent_encoding.specs.Percent.{IsKept}
use Rattle.percent_encoding.specs.declared.ascii_set.TheConstants.{CONTROLS}
use Rattle.url.proofs.HostLemmas.{All-host_text}
use Rattle.url.proofs.HostRoundTrip.{parse_special_host-host_text}
use Rattle.url.proofs.InputLemmas.{Passes, list_all_from_All}
use Rattle.url.proofs.PiecesLemmas.{option_cases}
use Rattle.url.proofs.SchemeLemmas.{scheme_bytes}
use Rattle.url.proofs.SetLemmas.{passes_from_kept}
use Rattle.url.proofs.TextLemmas.{All_kept, All_part}
use Rattle.url.proofs.ValidLemmas.{path_kept}
use Rattle.url.specs.Host.{IsHostOf, host_text, parse_special_host}
use Rattle.url.specs.Parts.{IsPortOf, IsValid, IsValidHead, Parts, host_or_empty, kind_of, query_set, text_between}
use Rattle.url.specs.Scheme.{is_scheme_byte, is_special}
use Rattle.url.specs.declared.host.Host.{Host}
use Rattle.url.specs.declared.host.Host.TheVariants.{Domain}
use Rattle.url.specs.declared.scheme.SchemeType.{SchemeType}
use Rattle.url.specs.declared.scheme.SchemeType.TheVariants.{File, NotSpecial, SpecialNotFile}
use Rattle.url.specs.declared.sets.TheConstants.{FORBIDDEN_DOMAIN, FRAGMENT, OPAQUE_PATH, QUERY, SPECIAL_QUERY, USERINFO}
use Rattle.url.specs.declared.slicing.Position.TheVariants.{AfterPort, BeforePort}
use Rattle.urlpattern_init.specs.Inheritance.{texts_of_url}
use Rattle.urlpattern_init.specs.UrlTexts.{IsLine, TextsOfUrlsAreAscii, TextsOfUrlsAreLines}
use Rattle.urlpattern_components.proofs.EightLemmas.{by_name}
use Rattle.urlpattern_components.specs.declared.eight.ComponentName.{ComponentName}
use Rattle.urlpattern_components.specs.Eight.{at}
use Rattle.urlpattern_syntax.specs.Text.{lacks, line_feed}

-- The byte is ASCII and no line feed.
abbrev is_line_byte : ℕ → Bool
is_line_byte b = ltb b 128 && not (b == line_feed)

ascii_byte : (b : ℕ) → Passes is_line_byte b → b < 128
ascii_byte b passes = grind (arith, nat_tests)

no_feed : (b : ℕ) → Passes is_line_byte b → Passes (λ c. not (c == line_feed)) b
no_feed b passes = (and_parts _ _ passes).1

ascii_of : (bytes : List ℕ) → All (Passes is_line_byte) bytes → IsAscii bytes
ascii_of bytes all = IsAscii-from_all bytes (All-weaker (Passes is_line_byte) (λ b. b < 128) ascii_byte bytes all)

-- The characters of ASCII bytes without line feeds are the bytes.
chars_of : (bytes : List ℕ) → All (Passes is_line_byte) bytes → chars bytes ≡ bytes
chars_of bytes all = chars-IsAscii bytes (ascii_of bytes all)

-- ASCII bytes without line feeds are a line.
line_of : (bytes : List ℕ) → All (Passes is_line_byte) bytes → IsLine (chars bytes)
line_of bytes all = record {
  characters = scalars-chars bytes (IsUtf8-from_ascii bytes (ascii_of bytes all));
  no_line_feed = ap (lacks line_feed) (chars_of bytes all) ∙ list_all_from_All _ bytes (All-weaker (Passes is_line_byte) _ no_feed bytes all);
}

host_line : (kind : SchemeType) (host : Host (List ℕ)) → IsHostOf kind host → All (Passes is_line_byte) (host_text host)
host_line kind host =
    All-host_text (Passes is_line_byte) kind host (passes_from_kept FORBIDDEN_DOMAIN is_line_byte refl) (λ b allowed visible. passes_from_kept CONTROLS is_line_byte refl b visible) (λ b digit. grind (arith, nat_tests)) (λ b hex. grind (arith, nat_tests)) refl refl

own_host_line : (url : Parts) → IsValidHead url → All (Passes is_line_byte) (host_text (host_or_empty url))
own_host_line url valid =
    let P = λ (host : Option (Host (List ℕ))). All (Passes is_line_byte) (host_text (unwrap_or host (Domain []))) in
    ⊎_elim (λ none. subst P (sym none) (All-nil (Passes is_line_byte))) (λ some. subst P (sym some.1) (host_line (kind_of url) some.0 (rw some.1 at valid.host))) (option_cases url.host)

digit_line : (b : ℕ) → IsInRange 48 57 b → Passes is_line_byte b
digit_line b digit = grind (arith, nat_tests)

port_line : (scheme : List ℕ) (port : Option ℕ) → IsPortOf scheme port → All (Passes is_line_byte) (unwrap_or (option_map decimal port) [])
port_line scheme None valid = All-nil (Passes is_line_byte)
port_line scheme (Some n) valid =
    All-from_get_or (Passes is_line_byte) (decimal n) 0 (λ i inside. digit_line _ (digits_decimal (numerals_by_value _ tells_by_index) n (omega (arith, valid.0)) i inside))

scheme_line : (b : ℕ) → Passes is_scheme_byte b → Passes is_line_byte b
scheme_line b passes = grind (arith, nat_tests)

query_line : (kind : SchemeType) (b : ℕ) → IsKept (query_set kind) b → Passes is_line_byte b
query_line File = passes_from_kept SPECIAL_QUERY is_line_byte refl
query_line SpecialNotFile = passes_from_kept SPECIAL_QUERY is_line_byte refl
query_line NotSpecial = passes_from_kept QUERY is_line_byte refl

own_scheme_line : (url : Parts) → IsValidHead url → All (Passes is_line_byte) url.scheme
own_scheme_line url valid = All-weaker (Passes is_scheme_byte) (Passes is_line_byte) scheme_line url.scheme (scheme_bytes url.scheme valid.scheme)

path_line : (url : Parts) → IsValid url → All (Passes is_line_byte) url.path
path_line url valid = All_kept is_line_byte OPAQUE_PATH refl url.path (path_kept url valid.path)

-- What holds of the characters of ASCII bytes without line feeds holds of all eight texts.
each_text : (Is : List ℕ → Type 0) → ((bytes : List ℕ) → All (Passes is_line_byte) bytes → Is (chars bytes)) → (url : Parts) → IsValid url → (component : ComponentName) → Is (at (texts_of_url url) component)
each_text Is of url valid =
    by_name (λ name. Is (at (texts_of_url url) name))
    (of url.scheme (own_scheme_line url valid.head))
    (of url.username (All_kept is_line_byte USERINFO refl url.username valid.head.username))
    (of url.password (All_kept is_line_byte USERINFO refl url.password valid.head.password))
    (of (host_text (host_or_empty url)) (own_host_line url valid.head))
    (of (text_between url BeforePort AfterPort) (All-append (Passes is_line_byte) (unwrap_or (option_map decimal url.port) []) [] (port_line url.scheme url.port valid.head.port) (All-nil (Passes is_line_byte))))
    (of url.path (path_line url valid))
    (of (unwrap_or url.query []) (All_part (Passes is_line_byte) _ url.query (query_line (kind_of url)) valid.query))
    (of (unwrap_or url.fragment []) (All_part (Passes is_line_byte) FRAGMENT url.fragment (passes_from_kept FRAGMENT is_line_byte refl) valid.fragment))

-- All eight texts are lines of ASCII.
pub texts_of_urls : TextsOfUrlsAreLines
texts_of_urls = each_text IsLine line_of

pub ascii_of_urls : TextsOfUrlsAreAscii
ascii_of_urls = each_text IsAscii (λ bytes all. subst IsAscii (sym (chars_of bytes all)) (ascii_of bytes all))

-- ---- from texts to parts

-- Scheme and path have the characters that are their bytes.
pub chars-scheme : (url : Parts) → IsValid url → chars url.scheme ≡ url.scheme
chars-scheme url valid = chars_of url.scheme (own_scheme_line url valid.head)

pub chars-path : (url : Parts) → IsValid url → chars url.path ≡ url.path
chars-path url valid = chars_of url.path (path_line url valid)

-- The host of a special URL is the host that its text parses to.
special_host : (url : Parts) (host : Option (Host (List ℕ))) (text : List ℕ) (parsed : Host (List ℕ)) → MatchOption host (is_special SpecialNotFile ≡ false) (IsHostOf SpecialNotFile)
    → chars (host_text (unwrap_or host (Domain []))) ≡ text → parse_special_host text ≡ Ok parsed → host ≡ Some parsed
special_host url None text parsed valid e is = absurd (cc valid)
special_host url (Some host) text parsed valid e is =
    let spelled : host_text host ≡ text = sym (chars_of (host_text host) (host_line SpecialNotFile host valid)) ∙ e in
    let found : Ok host ≡ Ok parsed = sym (parse_special_host-host_text host valid) ∙ ap parse_special_host spelled ∙ is in
    ap Some (cc found)

pub host_by_text : (url : Parts) (text : List ℕ) (parsed : Host (List ℕ)) → IsValid url → kind_of url ≡ SpecialNotFile →
    chars (host_text (host_or_empty url)) ≡ text → parse_special_host text ≡ Ok parsed → url.host ≡ Some parsed
host_by_text url text parsed valid kind e is = special_host url url.host text parsed (rw kind at valid.head.host) e is

-- A port with an empty text is missing.
empty_port : (scheme : List ℕ) (port : Option ℕ) → IsPortOf scheme port → chars (unwrap_or (option_map decimal port) [] ++ []) ≡ [] → port ≡ None
empty_port scheme None valid e = refl
empty_port scheme (Some n) valid e =
    let digits : chars (decimal n ++ []) ≡ [] = e in
    let none : decimal n ≡ [] = sym (chars_of (decimal n) (port_line scheme (Some n) valid)) ∙ (rw append-nil at digits) in
    absurd (omega (arith, decimal_nonempty n (omega (arith, valid.0)), ap length none))

pub no_port : (url : Parts) → IsValid url → chars (text_between url BeforePort AfterPort) ≡ [] → url.port ≡ None
no_port url valid e = empty_port url.scheme url.port valid.head.port e
