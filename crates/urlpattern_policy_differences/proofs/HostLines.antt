-- The host that `url` reads under a special scheme is a line.
use Rattle.std.proofs.Common.{◌≡◌, ◌∙◌, ◌<◌, ◌≤◌, ◌^◌, ◌*◌, ◌+◌, ◌-◌, lit≤, ℕ, zero, suc, Bool, true, false, not, ◌==◌, ◌&&◌, ◌||◌, is_some, ltb, List, [], ◌∷◌, ◌++◌, length, get_or, replicate, All, Option, None, Some, Ok, Err, ap, arith, inl, inr, refl, subst, sym}
use Rattle.std.proofs.lemmas.Bool.Decides.{nat_tests}
use Rattle.std.proofs.lemmas.Bool.{and_parts}
use Rattle.std.proofs.lemmas.Int.Digits.{digits_value-lt}
use Rattle.std.proofs.lemmas.List.Elements.{All-append, All-cons, All-head, All-nil, All-replicate, All-tail, All-weaker}
use Rattle.std.proofs.lemmas.Str.{IsUtf8-from_ascii, chars-IsAscii, scalars-chars}
use Rattle.std.proofs.lemmas.Str.Ascii.{IsAscii-from_all}
use Rattle.std.proofs.Math.Nat.{pow-le-pow_right}
use Rattle.std.proofs.NetLemmas.Alphabet.{All-hex_groups_text, All-ipv4_text, IsDigitOrDot, IsHexOrColon}
use Rattle.std.proofs.NetLemmas.Ipv6.{read_ipv6_sound}
use Rattle.std.specs.Int.{to_be_bytes, w32}
use Rattle.std.specs.List.{list_any}
use Rattle.std.specs.Net.Addr.{segments_of}
use Rattle.std.specs.Net.Grammar.{IsColonHex, IsDotted, IsGroup, IsGroupsAfter}
use Rattle.std.specs.Net.Reader.{read_ipv6, whole_value}
use Rattle.std.specs.Net.Text.{hex_groups_text, ipv4_text}
use Rattle.std.specs.Prelude.{encode_utf8_all, slice_index, slice_range, if◌then◌else◌}
use Rattle.std.specs.Str.{chars}
use Rattle.percent_encoding.specs.Percent.{IsKept, percent_decode}
use Rattle.url.proofs.HostLemmas.{none_from_list_any}
use Rattle.url.proofs.InputLemmas.{Passes, list_all_from_All}
use Rattle.url.proofs.SetLemmas.{passes_from_kept}
use Rattle.url.specs.Ascii.{left_bracket, right_bracket}
use Rattle.url.specs.Host.{ascii_domain, host_of_ascii, host_text, ipv4_host, ipv6_host, is_empty_host, is_forbidden_in_domain, parse_bracketed, parse_special_host}
use Rattle.url.specs.Input.{is_empty, strip_tabs_and_new_lines}
use Rattle.url.specs.Ipv4.{ends_in_a_number, parse_ipv4}
use Rattle.url.specs.Parser.{Parsed, and_then, split_port}
use Rattle.url.specs.Parts.{Parts, has_credentials, host_or_empty}
use Rattle.url.specs.Quirks as quirks
use Rattle.url.specs.Quirks.{before_path}
use Rattle.url.specs.Scheme.{default_port, scheme_type}
use Rattle.url.specs.Setters as setters
use Rattle.url.specs.declared.error.ParseError.{ParseError}
use Rattle.url.specs.declared.error.ParseError.TheVariants.{CannotSet, EmptyHost, IdnaError, InvalidDomainCharacter, InvalidIpv6Address}
use Rattle.url.specs.declared.host.Host.{Host}
use Rattle.url.specs.declared.host.Host.TheVariants.{Domain}
use Rattle.url.specs.declared.scheme.SchemeType.TheVariants.{SpecialNotFile}
use Rattle.url.specs.declared.sets.TheConstants.{FORBIDDEN_DOMAIN}
use Rattle.urlpattern_canonical.specs.Canonical.{canonical_hostname, dummy_url, hostname_of, rejected_as}
use Rattle.urlpattern_compare.specs.TextSearch.{IsLine}
use Rattle.urlpattern_generate.proofs.SetTexts.{dummy, dummy_is}
use Rattle.urlpattern_syntax.specs.Text.{lacks, line_feed}

-- The byte is ASCII and no line feed.
abbrev pub is_line_byte : ℕ → Bool
is_line_byte b = ltb b 128 && not (b == line_feed)

abbrev pub AreLineBytes : List ℕ → Type 0
AreLineBytes bytes = All (Passes is_line_byte) bytes

digit_line : (b : ℕ) → IsDigitOrDot b → Passes is_line_byte b
digit_line b is = grind (arith, nat_tests)

hex_line : (b : ℕ) → IsHexOrColon b → Passes is_line_byte b
hex_line b is = grind (arith, nat_tests)

-- Two results of `url` are one.
abbrev IsParsed : {A : Type 0} → Parsed A → Parsed A → Type 0
IsParsed one other = one ≡ other

same_ok : {A : Type 0} (x y : A) → IsParsed (Ok x) (Ok y) → x ≡ y
same_ok x y e = cc

not_refused : {A : Type 0} (refuses : Bool) (reason : ParseError) (result : Parsed A) (x : A) → (if refuses then Err reason else result) ≡ Ok x → result ≡ Ok x
not_refused true reason result x e = absurd cc
not_refused false reason result x e = e

-- ---- an IPv4 address

below : (n k : ℕ) → get_or (to_be_bytes w32 n) k 0 < 2 ^ 8
below n zero = omega arith
below n (suc zero) = omega arith
below n (suc (suc zero)) = omega arith
below n (suc (suc (suc zero))) = omega arith
below n (suc (suc (suc (suc k)))) = omega arith

ipv4_line : (bits : Option ℕ) (host : Host (List ℕ)) → ipv4_host bits ≡ Ok host → AreLineBytes (host_text host)
ipv4_line None host e = absurd cc
ipv4_line (Some bits) host e =
    let octets = to_be_bytes w32 bits in
    subst (λ (h : Host (List ℕ)). AreLineBytes (host_text h)) (same_ok _ host e) (All-weaker IsDigitOrDot (Passes is_line_byte) digit_line (ipv4_text octets) (All-ipv4_text octets (below bits)))

-- ---- an IPv6 address

abbrev IsSegment : ℕ → Type 0
IsSegment n = n < 2 ^ 16

group_segment : (group : List ℕ) (segment : ℕ) → IsGroup group segment → IsSegment segment
group_segment group segment is =
    let below_all = digits_value-lt 16 group is.0.0.1 in
    let most : 16 ^ length group ≤ 16 ^ 4 = pow-le-pow_right (lit≤ tt) is.1 in
    omega (arith, is.0.1)

dotted_segments : (text octets : List ℕ) → IsDotted text octets → All IsSegment (segments_of octets)
dotted_segments text octets is =
    subst (λ (o : List ℕ). All IsSegment (segments_of o)) (sym is.value)
    (All-cons IsSegment (is.a * 256 + is.b) ((is.c * 256 + is.d) ∷ []) (omega (arith, is.fit)) (All-cons IsSegment (is.c * 256 + is.d) [] (omega (arith, is.fit)) (All-nil IsSegment)))

groups_segments : (ipv4 : Bool) (lead text segments : List ℕ) → IsGroupsAfter ipv4 lead text segments → All IsSegment segments
groups_segments ipv4 lead text [] is = All-nil IsSegment
groups_segments ipv4 lead text (s ∷ segments) (inl (group, rest, cut, own, more)) = All-cons IsSegment s segments (group_segment group s own) (groups_segments ipv4 _ rest segments more)
groups_segments ipv4 lead text (s ∷ segments) (inr (last, octets, on, cut, dotted, same)) = subst (All IsSegment) (sym same) (dotted_segments last octets dotted)

colon_segments : (text segments : List ℕ) → IsColonHex text segments → All IsSegment segments
colon_segments text segments (inl is) = groups_segments true [] text segments is.0
colon_segments text segments (inr is) =
    let count : ℕ = 8 - length is.head - length is.tail in
    let zeros : List ℕ = replicate count 0 in
    let are_zeros : All IsSegment zeros = All-replicate IsSegment count 0 (omega arith) in
    let front = All-append IsSegment is.head zeros (groups_segments false [] is.head_text is.head is.head_groups) are_zeros in
    subst (All IsSegment) (sym is.value) (All-append IsSegment (is.head ++ zeros) is.tail front (groups_segments true [] is.tail_text is.tail is.tail_groups))

segment_at : (segments : List ℕ) → All IsSegment segments → (k : ℕ) → get_or segments k 0 < 2 ^ 16
segment_at [] all k = omega arith
segment_at (s ∷ segments) all zero = All-head IsSegment s segments all
segment_at (s ∷ segments) all (suc k) = segment_at segments (All-tail IsSegment s segments all) k

read_segments_of : (found : Option (List ℕ × List ℕ)) (text segments : List ℕ) → read_ipv6 text ≡ found → whole_value found ≡ Some segments → All IsSegment segments
read_segments_of None text segments e whole = absurd cc
read_segments_of (Some (own, rest)) text segments e whole = by (length rest == 0) whole
  where
    by : (ended : Bool) → (if ended then Some own else None) ≡ Some segments → All IsSegment segments
    by true is =
        let same : own ≡ segments = cc in
        let sound = read_ipv6_sound text own rest e in
        subst (All IsSegment) same (colon_segments sound.0 own sound.2)
    by false is = absurd cc

ipv6_line : (found : Option (List ℕ)) (host : Host (List ℕ)) → ((segments : List ℕ) → found ≡ Some segments → All IsSegment segments) → ipv6_host found ≡ Ok host → AreLineBytes (host_text host)
ipv6_line None host all e = absurd cc
ipv6_line (Some segments) host all e =
    let text = hex_groups_text segments in
    let bytes = All-weaker IsHexOrColon (Passes is_line_byte) hex_line text (All-hex_groups_text segments (segment_at segments (all segments refl))) in
    subst (λ (h : Host (List ℕ)). AreLineBytes (host_text h)) (same_ok _ host e)
    (All-cons (Passes is_line_byte) 91 (text ++ 93 ∷ []) refl (All-append (Passes is_line_byte) text (93 ∷ []) bytes (All-cons (Passes is_line_byte) 93 [] refl (All-nil (Passes is_line_byte)))))

bracketed_line : (bytes : List ℕ) (host : Host (List ℕ)) → parse_bracketed bytes ≡ Ok host → AreLineBytes (host_text host)
unfolding parse_bracketed
bracketed_line bytes host e = by (slice_index bytes (length bytes - 1) == right_bracket) e
  where
    inner : List ℕ
    inner = slice_range bytes 1 (length bytes - 1)

    by : (closed : Bool) → (if closed then ipv6_host (whole_value (read_ipv6 inner)) else Err InvalidIpv6Address) ≡ Ok host → AreLineBytes (host_text host)
    by true is = ipv6_line (whole_value (read_ipv6 inner)) host (λ segments whole. read_segments_of (read_ipv6 inner) inner segments refl whole) is
    by false is = absurd cc

-- ---- a domain

domain_line : (ascii : Option (List ℕ)) (host : Host (List ℕ)) → host_of_ascii ascii ≡ Ok host → AreLineBytes (host_text host)
domain_line None host e = absurd cc
domain_line (Some domain) host e = by (list_any is_forbidden_in_domain domain) refl (ends_in_a_number domain) (not_refused (is_empty domain) EmptyHost _ host e)
  where
    by : (forbids : Bool) → list_any is_forbidden_in_domain domain ≡ forbids → (ends : Bool)
        → (if forbids then Err IdnaError else (if ends then ipv4_host (parse_ipv4 domain) else Ok (Domain domain))) ≡ Ok host → AreLineBytes (host_text host)
    by true bad ends is = absurd cc
    by false none true is = ipv4_line (parse_ipv4 domain) host is
    by false none false is =
        subst (λ (h : Host (List ℕ)). AreLineBytes (host_text h)) (same_ok (Domain domain) host is)
        (All-weaker (IsKept FORBIDDEN_DOMAIN) (Passes is_line_byte) (passes_from_kept FORBIDDEN_DOMAIN is_line_byte refl) domain (none_from_list_any is_forbidden_in_domain domain none))

-- The text of a host under a special scheme has bytes of a line.
pub special_line : (bytes : List ℕ) (host : Host (List ℕ)) → parse_special_host bytes ≡ Ok host → AreLineBytes (host_text host)
unfolding parse_special_host
special_line bytes host e = by (slice_index bytes 0 == left_bracket) e
  where
    by : (opens : Bool) → (if opens then parse_bracketed bytes else host_of_ascii (ascii_domain (percent_decode bytes))) ≡ Ok host → AreLineBytes (host_text host)
    by true is = bracketed_line bytes host is
    by false is = domain_line (ascii_domain (percent_decode bytes)) host is

-- ---- the host that is read

and_then_ok : {A B : Type 0} (parsed : Parsed A) (next : A → Parsed B) (b : B) → and_then parsed next ≡ Ok b → (a : A) × (parsed ≡ Ok a) × (next a ≡ Ok b)
and_then_ok (Ok a) next b e = (a, refl, e)
and_then_ok (Err reason) next b e = absurd cc

-- The host of the dummy URL after it was set.
set_line : (bytes : List ℕ) (new : Parts) → quirks.set_host dummy bytes false ≡ Ok new → AreLineBytes (host_text (host_or_empty new))
unfolding scheme_type default_port
set_line bytes new e =
    let cut = split_port (before_path SpecialNotFile (strip_tabs_and_new_lines bytes)) in
    let set = not_refused (quirks.refuses_host SpecialNotFile cut.0 cut.1 false) CannotSet _ new e in
    let (host, parsed, made) = and_then_ok (parse_special_host cut.0) (λ host. setters.set_host_and_port dummy host (quirks.port_or_own dummy cut.1)) new set in
    let same = same_ok _ new (not_refused (is_empty_host host && (has_credentials dummy || is_some (quirks.port_or_own dummy cut.1))) EmptyHost _ new made) in
    subst (λ (url : Parts). AreLineBytes (host_text (host_or_empty url))) same (special_line cut.0 host parsed)

kept_ok : (reason : ParseError) (parsed : Parsed Parts) (new : Parts) → rejected_as reason parsed ≡ Ok new → parsed ≡ Ok new
kept_ok reason (Ok url) new e = e
kept_ok reason (Err other) new e = absurd cc

hostname_line : (bytes text : List ℕ) → hostname_of bytes ≡ Ok text → AreLineBytes text
hostname_line bytes text e =
    let (old, is_dummy, after) = and_then_ok dummy_url (λ url. and_then (rejected_as InvalidDomainCharacter (quirks.set_host url bytes false)) (λ new. Ok (host_text (host_or_empty new)))) text e in
    let (new, is_set, got) = and_then_ok (rejected_as InvalidDomainCharacter (quirks.set_host old bytes false)) (λ url. Ok (host_text (host_or_empty url))) text after in
    let same : old ≡ dummy = same_ok old dummy (sym is_dummy ∙ dummy_is) in
    let kept = kept_ok InvalidDomainCharacter (quirks.set_host old bytes false) new is_set in
    subst AreLineBytes (same_ok (host_text (host_or_empty new)) text got) (set_line bytes new (subst (λ (url : Parts). quirks.set_host url bytes false ≡ Ok new) same kept))

ascii_byte : (b : ℕ) → Passes is_line_byte b → b < 128
ascii_byte b passes = grind (arith, nat_tests)

no_feed : (b : ℕ) → Passes is_line_byte b → Passes (λ c. not (c == line_feed)) b
no_feed b passes = (and_parts _ _ passes).1

bytes_line : (bytes : List ℕ) → AreLineBytes bytes → IsLine (chars bytes)
bytes_line bytes all =
    let ascii = IsAscii-from_all bytes (All-weaker (Passes is_line_byte) (λ b. b < 128) ascii_byte bytes all) in
    record {
      scalars = scalars-chars bytes (IsUtf8-from_ascii bytes ascii);
      plain = ap (lacks line_feed) (chars-IsAscii bytes ascii) ∙ list_all_from_All _ bytes (All-weaker (Passes is_line_byte) _ no_feed bytes all);
    }

-- A host that is read is a line.
pub canonical_line : (text host : List ℕ) → canonical_hostname text ≡ Ok host → IsLine host
canonical_line [] host e = subst IsLine (same_ok [] host e) (record { scalars = refl; plain = refl })
canonical_line (c ∷ text) host e =
    let (bytes, is, got) = and_then_ok (hostname_of (encode_utf8_all (c ∷ text))) (λ answer. Ok (chars answer)) host e in
    subst IsLine (same_ok (chars bytes) host got) (bytes_line bytes (hostname_line (encode_utf8_all (c ∷ text)) bytes is))
