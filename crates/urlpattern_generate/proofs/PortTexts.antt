-- Ports, which are unchanged when they are set on the dummy URL.
use Rattle.std.proofs.Common.{◌≡◌, ◌∙◌, ◌<◌, ◌≤◌, ◌^◌, ℕ, Bool, true, false, not, ◌&&◌, ◌==◌, leb, ltb, List, [], ◌∷◌, length, All, None, Some, Ok, Err, ap, append-nil, arith, get_or, refl, sym}
use Rattle.std.proofs.lemmas.Bool.{and_from, and_parts, cond-false, cond-true, false≢true, leb-true, lt-ltb, not-true}
use Rattle.std.proofs.lemmas.Bool.Decides.{nat_tests}
use Rattle.std.proofs.lemmas.Fmt.{decimal-digits_value}
use Rattle.std.proofs.lemmas.List.Elements.{All-head, All-tail, All-weaker}
use Rattle.std.proofs.lemmas.Str.Parse.{digits_value_short, numerals_by_value, tells_digits}
use Rattle.std.specs.Char.{digit_value, encode_utf8, is_ascii_digit}
use Rattle.std.specs.Fmt.{decimal}
use Rattle.std.specs.List.{list_all}
use Rattle.std.specs.Prelude.{codes, encode_utf8_all, if◌then◌else◌, slice_index}
use Rattle.std.specs.Str.{chars}
use Rattle.std.specs.Str.Parse.{AllDigits, digits_value}
use Rattle.url.proofs.InputLemmas.{All_from_list_all, Passes, is_empty_nonempty}
use Rattle.url.proofs.OnLiterals.{url_on_literals}
use Rattle.url.specs.Ascii.{digit_zero}
use Rattle.url.specs.Input.{is_empty}
use Rattle.url.specs.Parser.{Parsed, and_then, parse_port}
use Rattle.url.specs.Parts.{Parts, text_between}
use Rattle.url.specs.Quirks as quirks
use Rattle.url.specs.Scheme.{default_port, scheme_type}
use Rattle.url.specs.Setters as setters
use Rattle.url.specs.declared.error.ParseError.TheVariants.{InvalidPort}
use Rattle.url.specs.declared.host.Host.TheVariants.{Domain}
use Rattle.url.specs.declared.slicing.Position.TheVariants.{BeforePort, AfterPort}
use Rattle.urlpattern_canonical.proofs.CanonicalLemmas.{after-ok}
use Rattle.urlpattern_canonical.specs.Canonical.{canonical_port, dummy_of_scheme, port_of, rejected_as}
use Rattle.urlpattern_generate.proofs.HostTexts.{taken}
use Rattle.urlpattern_generate.proofs.SetTexts.{AreVisible, by_bytes, is_visible, stripped}
use Rattle.urlpattern_generate.specs.CanonicalValues.{is_kept_port}

-- The scheme under which a port is parsed if the protocol is unknown.
abbrev scheme : List ℕ
scheme = encode_utf8_all (codes "dummy")

abbrev unset : Parts
unset = record {
  scheme = codes "dummy";
  username = [];
  password = [];
  host = Some (Domain (codes "dummy.test"));
  port = None;
  path = [];
  query = None;
  fragment = None;
}

unset_is : dummy_of_scheme scheme ≡ Ok unset
unfolding url_on_literals encode_utf8
unset_is = refl

-- ---- digits

digit_visible : (b : ℕ) → Passes is_ascii_digit b → Passes is_visible b
digit_visible b passes = grind (arith, nat_tests)

digit_below : (b : ℕ) → Passes is_ascii_digit b → digit_value b < 10
digit_below b passes = grind (arith, nat_tests)

digits_from : (bytes : List ℕ) → All (Passes is_ascii_digit) bytes → AllDigits 10 bytes
digits_from [] all = tt
digits_from (b ∷ bytes) all = (digit_below b (All-head (Passes is_ascii_digit) b bytes all), digits_from bytes (All-tail (Passes is_ascii_digit) b bytes all))

-- A short number, whose first digit is not 0.
record IsShort (bytes : List ℕ) : Type 0 where
  other : (get_or bytes 0 0 == digit_zero) ≡ false
  within : length bytes ≤ 4
  are_digits : list_all is_ascii_digit bytes ≡ true
  some : 0 < length bytes

module _ (bytes : List ℕ) (short : IsShort bytes) where
  all_digits : All (Passes is_ascii_digit) bytes
  all_digits = All_from_list_all is_ascii_digit bytes short.are_digits

  small : digits_value 10 bytes < 10 ^ 4
  small = digits_value_short (numerals_by_value _ tells_digits) bytes 4 (digits_from bytes all_digits) short.within

  written_back : decimal (digits_value 10 bytes) ≡ bytes
  written_back =
      decimal-digits_value (numerals_by_value _ tells_digits) bytes (digits_from bytes all_digits) short.some
      (λ zero. absurd (false≢true (sym short.other ∙ ap (λ b. b == digit_zero) zero))) (omega (arith, small))

  visible : AreVisible bytes
  visible = All-weaker (Passes is_ascii_digit) (Passes is_visible) digit_visible bytes all_digits

  -- ---- the port that is set

  parsed : parse_port (codes "dummy") bytes ≡ Ok (Some (digits_value 10 bytes))
  unfolding parse_port default_port
  parsed =
      cond-false _ _ _ (is_empty_nonempty bytes short.some)
      ∙ cond-true _ _ _ (and_from (list_all is_ascii_digit bytes) (ltb (digits_value 10 bytes) (2 ^ 16)) short.are_digits (lt-ltb (digits_value 10 bytes) (2 ^ 16) (omega (arith, small))))

  -- The result of setting these digits.
  abbrev set_digits : List ℕ → Parsed Parts
  set_digits digits = if is_empty digits && not (is_empty bytes) then Err InvalidPort else and_then (parse_port (codes "dummy") digits) (setters.set_port unset)

  port_set : quirks.set_port unset bytes ≡ Ok (record unset { port = Some (digits_value 10 bytes) })
  unfolding scheme_type default_port
  port_set =
      ap (λ input. set_digits (quirks.leading_digits input)) (stripped bytes visible)
      ∙ ap set_digits (taken is_ascii_digit bytes all_digits)
      ∙ cond-false _ _ _ (ap (λ (is : Bool). is && not (is_empty bytes)) (is_empty_nonempty bytes short.some))
      ∙ ap (λ port. and_then port (setters.set_port unset)) parsed

  asked : port_of scheme bytes ≡ Ok bytes
  asked =
      after-ok (dummy_of_scheme scheme) (λ url. rejected_as InvalidPort (quirks.set_port url bytes)) (λ url. text_between url BeforePort AfterPort) unset (record unset { port = Some (digits_value 10 bytes) }) unset_is
      (ap (rejected_as InvalidPort) port_set)
      ∙ ap (λ text. Ok text) (append-nil (decimal (digits_value 10 bytes)) ∙ written_back)

pub port_digits : (bytes : List ℕ) → is_kept_port bytes ≡ true → All (Passes is_ascii_digit) bytes
port_digits bytes kept =
    let parts = and_parts (not (slice_index bytes 0 == digit_zero)) (leb (length bytes) 4 && list_all is_ascii_digit bytes) kept in
    All_from_list_all is_ascii_digit bytes (and_parts (leb (length bytes) 4) (list_all is_ascii_digit bytes) parts.1).1

pub port_kept : (bytes : List ℕ) → is_kept_port bytes ≡ true → canonical_port None (chars bytes) ≡ Ok (chars bytes)
unfolding chars
port_kept [] kept = refl
port_kept (b ∷ bytes) kept =
    let parts = and_parts (not (b == digit_zero)) (leb (length (b ∷ bytes)) 4 && list_all is_ascii_digit (b ∷ bytes)) kept in
    let more = and_parts (leb (length (b ∷ bytes)) 4) (list_all is_ascii_digit (b ∷ bytes)) parts.1 in
    let short : IsShort (b ∷ bytes) = record { other = not-true (b == digit_zero) parts.0; within = leb-true (length (b ∷ bytes)) 4 more.0; are_digits = more.1; some = omega arith } in
    by_bytes (port_of scheme) (b ∷ bytes) (visible (b ∷ bytes) short) (asked (b ∷ bytes) short)
