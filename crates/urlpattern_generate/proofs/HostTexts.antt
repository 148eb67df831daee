-- Hosts that are unchanged when they are set on the dummy URL.
use Rattle.std.proofs.Common.{◌≡◌, ◌∙◌, ℕ, Bool, false, not, ◌&&◌, ◌==◌, leb, ltb, List, [], ◌∷◌, ◌++◌, length, All, None, Some, Ok, Err, ap, arith, inl, length-append, refl, subst, take_at}
use Rattle.std.proofs.lemmas.Bool.{and_right, cond-false, cond-true}
use Rattle.std.proofs.lemmas.Bool.Decides.{nat_tests}
use Rattle.std.proofs.lemmas.List.Elements.{All-head, All-tail, All-weaker}
use Rattle.std.proofs.lemmas.List.Sums.{take_while-cons}
use Rattle.std.proofs.lemmas.List.{append-nil}
use Rattle.std.specs.Prelude.{Option, take_while, if◌then◌else◌}
use Rattle.percent_encoding.specs.Percent.{IsKept}
use Rattle.percent_encoding.specs.declared.ascii_set.TheConstants.{CONTROLS}
use Rattle.url.proofs.HostLemmas.{All-host_text}
use Rattle.url.proofs.HostRoundTrip.{host_len-host_text, parse_special_host-host_text}
use Rattle.url.proofs.InputLemmas.{Passes}
use Rattle.url.proofs.SetLemmas.{passes_from_kept}
use Rattle.url.specs.Ascii.{number_sign, question_mark}
use Rattle.url.specs.Host.{IsHostOf, host_text, is_empty_host, parse_host}
use Rattle.url.specs.Parser.{Parsed, and_then, split_port}
use Rattle.url.specs.Parts.{Parts, host_or_empty}
use Rattle.url.specs.Quirks as quirks
use Rattle.url.specs.Scheme.{default_port, is_slash, scheme_type}
use Rattle.url.specs.Setters as setters
use Rattle.url.specs.declared.error.ParseError.TheVariants.{CannotSet, InvalidDomainCharacter}
use Rattle.url.specs.declared.host.Host.{Host}
use Rattle.url.specs.declared.scheme.SchemeType.TheVariants.{SpecialNotFile}
use Rattle.url.specs.declared.sets.TheConstants.{FORBIDDEN_DOMAIN, FORBIDDEN_HOST}
use Rattle.urlpattern_canonical.proofs.CanonicalLemmas.{after-ok}
use Rattle.urlpattern_canonical.specs.Canonical.{dummy_url, hostname_of, rejected_as}
use Rattle.urlpattern_generate.proofs.SetTexts.{AreVisible, dummy, dummy_is, is_visible, stripped}

-- ---- bytes that pass a test

pub taken : (test : ℕ → Bool) (bytes : List ℕ) → All (Passes test) bytes → take_while test bytes ≡ bytes
taken test [] all = refl
taken test (b ∷ bytes) all =
    take_while-cons test b bytes ∙ cond-true _ _ _ (All-head (Passes test) b bytes all) ∙ ap (λ rest. b ∷ rest) (taken test bytes (All-tail (Passes test) b bytes all))

-- ---- the hostname

abbrev stays_in_host : ℕ → Bool
stays_in_host b = not (is_slash SpecialNotFile b) && not (b == question_mark) && not (b == number_sign)

-- A visible byte that does not end a host.
abbrev is_own_byte : ℕ → Bool
is_own_byte b = is_visible b && stays_in_host b

opaque_own : (b : ℕ) → IsKept FORBIDDEN_HOST b → IsKept CONTROLS b → Passes is_own_byte b
opaque_own b allowed shown =
    let mark = passes_from_kept FORBIDDEN_HOST (λ x. not (x == 32) && stays_in_host x) refl b allowed in
    let range = passes_from_kept CONTROLS (λ x. leb 32 x && ltb x 128) refl b shown in
    grind (arith, nat_tests)

own_bytes : (host : Host (List ℕ)) → IsHostOf SpecialNotFile host → All (Passes is_own_byte) (host_text host)
own_bytes host =
    All-host_text (Passes is_own_byte) SpecialNotFile host (passes_from_kept FORBIDDEN_DOMAIN is_own_byte refl) opaque_own (λ b digit. grind (arith, nat_tests)) (λ b hex. grind (arith, nat_tests)) refl refl

pub host_visible : (host : Host (List ℕ)) → IsHostOf SpecialNotFile host → AreVisible (host_text host)
host_visible host valid = All-weaker (Passes is_own_byte) (Passes is_visible) (λ b passes. and_first b passes) (host_text host) (own_bytes host valid)
  where
    and_first : (b : ℕ) → Passes is_own_byte b → Passes is_visible b
    and_first b passes = grind (arith, nat_tests)

split_host : (host : Host (List ℕ)) → IsHostOf SpecialNotFile host → split_port (host_text host) ≡ (host_text host, None)
split_host host valid =
    let text = host_text host in
    let len = host_len-host_text SpecialNotFile host [] valid (inl refl) in
    let short : ltb (length text) (length (text ++ [])) ≡ false = simp length-append (grind (arith, nat_tests)) in
    let whole : split_port (text ++ []) ≡ (text, None) = rw (len, short) (λ i. (take_at text [] _ refl i, None)) in
    subst (λ bytes. split_port bytes ≡ (text, None)) (append-nil text) whole

-- The result of setting a host and a port that are split.
abbrev set_cut : List ℕ × Option (List ℕ) → Parsed Parts
set_cut cut =
    if quirks.refuses_host SpecialNotFile cut.0 cut.1 false then Err CannotSet
    else and_then (parse_host SpecialNotFile cut.0) (λ host. setters.set_host_and_port dummy host (quirks.port_or_own dummy cut.1))

host_set : (host : Host (List ℕ)) → IsHostOf SpecialNotFile host → quirks.set_host dummy (host_text host) false ≡ Ok (record dummy { host = Some host; port = None })
unfolding scheme_type default_port
host_set host valid =
    let text = host_text host in
    let stays = All-weaker (Passes is_own_byte) (Passes stays_in_host) (λ b passes. grind (arith, nat_tests)) text (own_bytes host valid) in
    let whole = ap (take_while stays_in_host) (stripped text (host_visible host valid)) ∙ taken stays_in_host text stays in
    ap (λ bytes. set_cut (split_port bytes)) whole ∙ ap set_cut (split_host host valid)
    ∙ ap (λ parsed. and_then parsed (λ found. setters.set_host_and_port dummy found None)) (parse_special_host-host_text host valid)
    ∙ cond-false _ _ _ (and_right (is_empty_host host) false refl)

pub hostname_kept : (host : Host (List ℕ)) → IsHostOf SpecialNotFile host → hostname_of (host_text host) ≡ Ok (host_text host)
hostname_kept host valid =
    after-ok dummy_url (λ url. rejected_as InvalidDomainCharacter (quirks.set_host url (host_text host) false)) (λ url. host_text (host_or_empty url)) dummy (record dummy { host = Some host; port = None })
    dummy_is (ap (rejected_as InvalidDomainCharacter) (host_set host valid))
