-- A constructor string has one split, once it is decided whether its protocol is special.
use Rattle.std.proofs.Common.{◌≡◌, ℕ, zero, suc, ◌+◌, ◌<◌, ◌⊎◌, Bool, true, false, not, ◌&&◌, ◌||◌, Option, Some, None, List, [], ◌∷◌, ◌++◌, refl, sym, ap, ◌∙◌, subst, inl, inr, arith}
use Rattle.std.proofs.lemmas.Bool.{and_parts, both_ways, cases_lt, false≢true, or_cases, or_left, or_right}
use Rattle.std.proofs.lemmas.List.{append_cancel_left}
use Rattle.std.proofs.lemmas.Slice.Eq.{bytes_eq-Decides}
use Rattle.std.specs.Prelude.{codes, IsSomeAnd, IsTrue, slice_get}
use Rattle.std.specs.Str.{bytes_eq}
use Rattle.urlpattern_init.specs.ConstructorString.{SplitsAs, SplitsIntoTexts}
use Rattle.urlpattern_constructor.specs.Split.{AuthorityFrom, SplitTextView, SplitTexts, implied, EndsAt, HasProtocol, HashAt, HashFrom, HostnameFrom, IsAbsoluteSplit, IsRelativeSplit, IsSplit, IsTextBetween, PathnameAt, PathnameFrom, PortAt, SearchAt, SearchFrom, IsComponentBetween, UserinfoFrom, passes_at, ends_at, has_slashes, is_at_sign, is_character, is_colon_sign, is_end, is_hash_sign, is_search_prefix, is_non_special_pattern_char, is_slash_sign, follows_modified, depth_before}
use Rattle.urlpattern_constructor.proofs.ClosedTokens.{IsClosed}
use Rattle.urlpattern_constructor.specs.declared.sections.Section.{Section}
use Rattle.urlpattern_constructor.specs.declared.sections.Section.TheVariants.{Authority, Hostname, Pathname, Port, Protocol, Search, Username}
use Rattle.urlpattern_constructor.proofs.SplitLemmas.{found_at, sign_not_end, stops_cases}
use Rattle.urlpattern_constructor.proofs.TextBetween.{IsLenient, are_closed, lenient_not_end}
use Rattle.urlpattern_constructor.proofs.TokenPlaces.{at_view}
use Rattle.urlpattern_meaning.proofs.TokensUnique.{lenient_tokens_one}
use Rattle.urlpattern_syntax.proofs.TextLemmas.{byte_len-append, byte_len-nil, length-le-byte_len}
use Rattle.urlpattern_syntax.specs.Text.{byte_len}
use Rattle.urlpattern_syntax.specs.Tokens.{AreLenientTokens, IsCut, TokenView, end_of}

-- ---- texts

-- Two prefixes of a text with the same length in bytes are equal.
front_one : (front other rest left : List ℕ) → front ++ rest ≡ other ++ left → byte_len front ≡ byte_len other → front ≡ other
front_one [] [] rest left e n = refl
front_one [] (c ∷ other) rest left e n =
    let some = length-le-byte_len (c ∷ other) in
    absurd (omega (arith, byte_len-nil, some, n))
front_one (c ∷ front) [] rest left e n =
    let some = length-le-byte_len (c ∷ front) in
    absurd (omega (arith, byte_len-nil, some, n))
front_one (c ∷ front) (d ∷ other) rest left e n =
    let head : c ≡ d = cc e in
    let tail : front ++ rest ≡ other ++ left = cc e in
    let one = byte_len-append (c ∷ []) front in
    let two = byte_len-append (d ∷ []) other in
    let same = ap (λ x. byte_len (x ∷ [])) head in
    let more = front_one front other rest left tail (omega (arith, one, two, same, n)) in
    ap (λ x. x ∷ front) head ∙ ap (λ xs. d ∷ xs) more

index_one : (found : Option TokenView) (m n : ℕ) → IsSomeAnd found (λ token. token.index ≡ m) → IsSomeAnd found (λ token. token.index ≡ n) → m ≡ n
index_one None m n h g = absurd h
index_one (Some token) m n h g = sym h ∙ g

-- The text between two tokens is unique.
between_one : (text : List ℕ) (tokens : List TokenView) (from until : ℕ) (between other : List ℕ) → IsTextBetween text tokens from until between → IsTextBetween text tokens from until other → between ≡ other
between_one text tokens from until between other h g =
    let m = index_one (slice_get tokens from) (byte_len h.front) (byte_len g.front) h.begins g.begins in
    let n = index_one (slice_get tokens until) (byte_len h.front + byte_len between) (byte_len g.front + byte_len other) h.ends g.ends in
    let one = byte_len-append h.front between in
    let two = byte_len-append g.front other in
    let all = front_one (h.front ++ between) (g.front ++ other) h.rest g.rest (sym h.cut ∙ g.cut) (omega (arith, m, n, one, two)) in
    let same = front_one h.front g.front between other all m in
    append_cancel_left g.front between other (ap (λ x. x ++ between) (sym same) ∙ all)

takes_one : (text : List ℕ) (tokens : List TokenView) (from until : ℕ) (taken other : Option SplitTextView) → IsComponentBetween text tokens from until taken → IsComponentBetween text tokens from until other → taken ≡ other
takes_one text tokens from until None other h g = absurd h
takes_one text tokens from until (Some one) None h g = absurd g
takes_one text tokens from until (Some one) (Some other) h g =
    let same_text = between_one text tokens from until one.text other.text h.0 g.0 in
    let same_front = index_one (slice_get tokens from) (byte_len h.0.front) (byte_len g.0.front) h.0.begins g.0.begins in
    let same_start : one.start ≡ other.start = h.1 ∙ ap Some same_front ∙ sym g.1 in
    ap Some (λ i. record { text = same_text i; start = same_start i })

-- ---- signs

has_value : (mark : List ℕ) → List TokenView → ℕ → Bool
has_value mark tokens place = passes_at (λ token. bytes_eq token.value mark) tokens place

values_one : (one two : List ℕ) (tokens : List TokenView) (place : ℕ) → IsTrue (has_value one tokens place) → IsTrue (has_value two tokens place) → one ≡ two
unfolding has_value
values_one one two tokens place h g =
    let found = found_at (λ token. bytes_eq token.value one) tokens place h in
    let e = at_view (λ token. bytes_eq token.value two) tokens place found.0 found.1 in
    sym ((bytes_eq-Decides found.0.value one).0 found.2) ∙ (bytes_eq-Decides found.0.value two).0 (sym e ∙ g)

sign_value : (mark : List ℕ) (tokens : List TokenView) (place : ℕ) → IsTrue (passes_at (is_non_special_pattern_char mark) tokens place) → IsTrue (has_value mark tokens place)
unfolding has_value
sign_value mark tokens place h =
    let found = found_at (is_non_special_pattern_char mark) tokens place h in
    at_view (λ token. bytes_eq token.value mark) tokens place found.0 found.1
    ∙ (and_parts (is_character found.0.kind) (bytes_eq found.0.value mark) found.2).1

search_value : (tokens : List TokenView) (place : ℕ) → IsTrue (is_search_prefix tokens place) → IsTrue (has_value (codes "?") tokens place)
unfolding has_value
search_value tokens place h =
    elim (or_cases (passes_at (is_non_special_pattern_char (codes "?")) tokens place) (passes_at (λ token. bytes_eq token.value (codes "?")) tokens place && not (follows_modified tokens place)) h) [
      | inl sign ↦ sign_value (codes "?") tokens place sign
      | inr value ↦ (and_parts (passes_at (λ token. bytes_eq token.value (codes "?")) tokens place) (not (follows_modified tokens place)) value).0
    ]

-- Unequal values are not equal.
differ : (one two : List ℕ) → bytes_eq one two ≡ false → one ≡ two → ⊥
differ one two other e = false≢true (sym other ∙ (bytes_eq-Decides one two).1 e)

search_not_hash : (tokens : List TokenView) (place : ℕ) → IsTrue (is_search_prefix tokens place) → IsTrue (is_hash_sign tokens place) → ⊥
search_not_hash tokens place h g =
    differ (codes "?") (codes "#") refl (values_one (codes "?") (codes "#") tokens place (search_value tokens place h) (sign_value (codes "#") tokens place g))

slash_not_search : (tokens : List TokenView) (place : ℕ) → IsTrue (is_slash_sign tokens place) → IsTrue (is_search_prefix tokens place) → ⊥
slash_not_search tokens place h g =
    differ (codes "/") (codes "?") refl (values_one (codes "/") (codes "?") tokens place (sign_value (codes "/") tokens place h) (search_value tokens place g))

slash_not_hash : (tokens : List TokenView) (place : ℕ) → IsTrue (is_slash_sign tokens place) → IsTrue (is_hash_sign tokens place) → ⊥
slash_not_hash tokens place h g =
    differ (codes "/") (codes "#") refl (values_one (codes "/") (codes "#") tokens place (sign_value (codes "/") tokens place h) (sign_value (codes "#") tokens place g))

-- End has no value.
end_value : (whole text : List ℕ) (front : List TokenView) (place : ℕ) → IsCut (IsLenient whole) text front [] → IsTrue (ends_at (front ++ end_of whole ∷ []) place) → IsTrue (has_value [] (front ++ end_of whole ∷ []) place)
unfolding has_value
end_value whole text [] zero cut h = refl
end_value whole text [] (suc place) cut h = absurd (false≢true h)
end_value whole text (token ∷ front) zero cut h = absurd (both_ways (is_end token.kind) (lenient_not_end whole cut.0 token cut.1 cut.3) h)
end_value whole text (token ∷ front) (suc place) cut h = end_value whole cut.1 front place cut.4 h

pub search_not_end : (text : List ℕ) (tokens : List TokenView) (place : ℕ) → AreLenientTokens text tokens → IsTrue (is_search_prefix tokens place) → IsTrue (ends_at tokens place) → ⊥
search_not_end text tokens place h search end =
    let last = end_value text text h.front place h.cut (subst (λ (ts : List TokenView). IsTrue (ends_at ts place)) h.all end) in
    differ (codes "?") [] refl (values_one (codes "?") [] tokens place (search_value tokens place search) (subst (λ (ts : List TokenView). IsTrue (has_value [] ts place)) (sym h.all) last))

-- ---- what two splits have in common

abbrev SameSearch : SplitTexts → SplitTexts → Type 0
SameSearch c d = (c.search ≡ d.search) × (c.hash ≡ d.hash)

abbrev SamePathname : SplitTexts → SplitTexts → Type 0
SamePathname c d = (c.pathname ≡ d.pathname) × SameSearch c d

abbrev SamePort : SplitTexts → SplitTexts → Type 0
SamePort c d = (c.port ≡ d.port) × SamePathname c d

abbrev SameHostname : SplitTexts → SplitTexts → Type 0
SameHostname c d = (c.hostname ≡ d.hostname) × SamePort c d

abbrev SameUserinfo : SplitTexts → SplitTexts → Type 0
SameUserinfo c d = (c.username ≡ d.username) × (c.password ≡ d.password)

abbrev SameAuthority : SplitTexts → SplitTexts → Type 0
SameAuthority c d = SameUserinfo c d × SameHostname c d

same_components : (c d : SplitTexts) → c.protocol ≡ d.protocol → SameAuthority c d → c ≡ d
same_components c d protocol same = λ i. record { protocol = protocol i; username = same.0.0 i; password = same.0.1 i; hostname = same.1.0 i; port = same.1.1.0 i; pathname = same.1.1.1.0 i; search = same.1.1.1.1.0 i; hash = same.1.1.1.1.1 i }

module _ (text : List ℕ) (tokens : List TokenView) (are_tokens : AreLenientTokens text tokens) where
  closed : IsClosed tokens
  closed = are_closed text tokens are_tokens

  not_before : (section : Section) (from depth place other : ℕ) → EndsAt section tokens from depth place → EndsAt section tokens from depth other → place < other → ⊥
  not_before section from depth place other h g less = elim (stops_cases section tokens from depth place h) [
    | inl may ↦ g.least place h.after less may
    | inr is_end ↦ let last = closed.last place h.within is_end in let within = g.within in omega arith
  ]

  -- A section ends at a single place.
  ends_one : (section : Section) (from depth place other : ℕ) → EndsAt section tokens from depth place → EndsAt section tokens from depth other → place ≡ other
  ends_one section from depth place other h g = elim (cases_lt place other) [
    | inl less ↦ absurd (not_before section from depth place other h g less)
    | inr le ↦ elim (cases_lt other place) [ inl more ↦ absurd (not_before section from depth other place g h more) | inr ge ↦ omega arith ]
  ]

  -- End is at a single place.
  end_one : (place other : ℕ) → IsTrue (ends_at tokens place) → IsTrue (ends_at tokens other) → place ≡ other
  end_one place other h g =
      let one = closed.last place (found_at (λ token. is_end token.kind) tokens place h).3 h in
      let two = closed.last other (found_at (λ token. is_end token.kind) tokens other g).3 g in
      omega arith

  module _ (c d : SplitTexts) where
    hash_from_one : (from : ℕ) → HashFrom text tokens from c → HashFrom text tokens from d → c.hash ≡ d.hash
    hash_from_one from h g =
        takes_one text tokens from g.0 c.hash d.hash (subst (λ until. IsComponentBetween text tokens from until c.hash) (end_one h.0 g.0 h.1 g.1) h.2) g.2

    hash_at_one : (place : ℕ) → HashAt text tokens place c → HashAt text tokens place d → c.hash ≡ d.hash
    hash_at_one place (inl h) (inl g) = hash_from_one (place + 1) h.1 g.1
    hash_at_one place (inl h) (inr g) = absurd (sign_not_end (codes "#") tokens place h.0 g.0)
    hash_at_one place (inr h) (inl g) = absurd (sign_not_end (codes "#") tokens place g.0 h.0)
    hash_at_one place (inr h) (inr g) = h.1 ∙ sym g.1

    search_from_one : (from depth : ℕ) → SearchFrom text tokens from depth c → SearchFrom text tokens from depth d → SameSearch c d
    search_from_one from depth h g =
        let e = ends_one Search from depth h.0 g.0 h.1 g.1 in (
          takes_one text tokens from g.0 c.search d.search (subst (λ until. IsComponentBetween text tokens from until c.search) e h.2) g.2,
          hash_at_one g.0 (subst (λ until. HashAt text tokens until c) e h.3) g.3,
        )

    search_at_one : (place : ℕ) → SearchAt text tokens place c → SearchAt text tokens place d → SameSearch c d
    search_at_one place (inl h) (inl g) = search_from_one (place + 1) 0 h.1 g.1
    search_at_one place (inl h) (inr (inl g)) = absurd (search_not_hash tokens place h.0 g.0)
    search_at_one place (inl h) (inr (inr g)) = absurd (search_not_end text tokens place are_tokens h.0 g.0)
    search_at_one place (inr (inl h)) (inl g) = absurd (search_not_hash tokens place g.0 h.0)
    search_at_one place (inr (inl h)) (inr (inl g)) = (h.1 ∙ sym g.1, hash_from_one (place + 1) h.2 g.2)
    search_at_one place (inr (inl h)) (inr (inr g)) = absurd (sign_not_end (codes "#") tokens place h.0 g.0)
    search_at_one place (inr (inr h)) (inl g) = absurd (search_not_end text tokens place are_tokens g.0 h.0)
    search_at_one place (inr (inr h)) (inr (inl g)) = absurd (sign_not_end (codes "#") tokens place g.0 h.0)
    search_at_one place (inr (inr h)) (inr (inr g)) = (h.1 ∙ sym g.1, h.2 ∙ sym g.2)

    pathname_from_one : (from depth : ℕ) → PathnameFrom text tokens from depth c → PathnameFrom text tokens from depth d → SamePathname c d
    pathname_from_one from depth h g =
        let e = ends_one Pathname from depth h.0 g.0 h.1 g.1 in (
          takes_one text tokens from g.0 c.pathname d.pathname (subst (λ until. IsComponentBetween text tokens from until c.pathname) e h.2) g.2,
          search_at_one g.0 (subst (λ until. SearchAt text tokens until c) e h.3) g.3,
        )

    slash_alone : (place : ℕ) → IsTrue (is_slash_sign tokens place) → IsTrue (is_search_prefix tokens place || is_hash_sign tokens place) → ⊥
    slash_alone place slash signs = elim (or_cases (is_search_prefix tokens place) (is_hash_sign tokens place) signs) [
      | inl search ↦ slash_not_search tokens place slash search
      | inr hash ↦ slash_not_hash tokens place slash hash
    ]

    signs_not_end : (place : ℕ) → IsTrue (is_search_prefix tokens place || is_hash_sign tokens place) → IsTrue (ends_at tokens place) → ⊥
    signs_not_end place signs end = elim (or_cases (is_search_prefix tokens place) (is_hash_sign tokens place) signs) [
      | inl search ↦ search_not_end text tokens place are_tokens search end
      | inr hash ↦ sign_not_end (codes "#") tokens place hash end
    ]

    pathname_at_one : (special : Bool) (place : ℕ) → PathnameAt text tokens special place c → PathnameAt text tokens special place d → SamePathname c d
    pathname_at_one special place (inl h) (inl g) = pathname_from_one place 0 h.1 g.1
    pathname_at_one special place (inl h) (inr (inl g)) = absurd (slash_alone place h.0 g.0)
    pathname_at_one special place (inl h) (inr (inr g)) = absurd (sign_not_end (codes "/") tokens place h.0 g.0)
    pathname_at_one special place (inr (inl h)) (inl g) = absurd (slash_alone place g.0 h.0)
    pathname_at_one special place (inr (inl h)) (inr (inl g)) = (h.1 ∙ sym g.1, search_at_one place h.2 g.2)
    pathname_at_one special place (inr (inl h)) (inr (inr g)) = absurd (signs_not_end place h.0 g.0)
    pathname_at_one special place (inr (inr h)) (inl g) = absurd (sign_not_end (codes "/") tokens place g.0 h.0)
    pathname_at_one special place (inr (inr h)) (inr (inl g)) = absurd (signs_not_end place g.0 h.0)
    pathname_at_one special place (inr (inr h)) (inr (inr g)) = (h.1 ∙ sym g.1, (h.2 ∙ sym g.2, h.3 ∙ sym g.3))

    port_at_one : (special : Bool) (place : ℕ) → PortAt text tokens special place c → PortAt text tokens special place d → SamePort c d
    port_at_one special place (inl h) (inl g) =
        let e = ends_one Port (place + 1) 0 h.1.0 g.1.0 h.1.1 g.1.1 in (
          takes_one text tokens (place + 1) g.1.0 c.port d.port (subst (λ until. IsComponentBetween text tokens (place + 1) until c.port) e h.1.2) g.1.2,
          pathname_at_one special g.1.0 (subst (λ until. PathnameAt text tokens special until c) e h.1.3) g.1.3,
        )
    port_at_one special place (inl h) (inr g) = absurd (g.0 h.0)
    port_at_one special place (inr h) (inl g) = absurd (h.0 g.0)
    port_at_one special place (inr h) (inr g) = (h.1 ∙ sym g.1, pathname_at_one special place h.2 g.2)

    hostname_from_one : (special : Bool) (from depth : ℕ) → HostnameFrom text tokens special from depth c → HostnameFrom text tokens special from depth d → SameHostname c d
    hostname_from_one special from depth h g =
        let e = ends_one Hostname from depth h.0 g.0 h.1 g.1 in (
          takes_one text tokens from g.0 c.hostname d.hostname (subst (λ until. IsComponentBetween text tokens from until c.hostname) e h.2) g.2,
          port_at_one special g.0 (subst (λ until. PortAt text tokens special until c) e h.3) g.3,
        )

    userinfo_from_one : (from until : ℕ) → UserinfoFrom text tokens from until c → UserinfoFrom text tokens from until d → SameUserinfo c d
    userinfo_from_one from until h g = (
      takes_one text tokens from g.0 c.username d.username (subst (λ place. IsComponentBetween text tokens from place c.username) e h.2) g.2,
      password_one h.3 g.3,
    )
      where
        e : h.0 ≡ g.0
        e = ends_one Username from 0 h.0 g.0 h.1 g.1

        password_one : ((h.0 ≡ until) × (c.password ≡ None)) ⊎ ((h.0 < until) × IsComponentBetween text tokens (h.0 + 1) until c.password) → ((g.0 ≡ until) × (d.password ≡ None)) ⊎ ((g.0 < until) × IsComponentBetween text tokens (g.0 + 1) until d.password) → c.password ≡ d.password
        password_one (inl a) (inl b) = a.1 ∙ sym b.1
        password_one (inl a) (inr b) = absurd (omega (arith, a.0, b.0, e))
        password_one (inr a) (inl b) = absurd (omega (arith, a.0, b.0, e))
        password_one (inr a) (inr b) =
            takes_one text tokens (g.0 + 1) until c.password d.password (subst (λ place. IsComponentBetween text tokens (place + 1) until c.password) e a.1) b.1

    -- The two forms of an authority, by where its first section ends.
    abbrev AuthorityAt : SplitTexts → (special : Bool) → (from until : ℕ) → Type 0
    AuthorityAt components special from until =
        (IsTrue (is_at_sign tokens until) × UserinfoFrom text tokens from until components × HostnameFrom text tokens special (until + 1) 0 components)
        ⊎ (¬ IsTrue (is_at_sign tokens until) × (components.username ≡ None) × (components.password ≡ None)
        × HostnameFrom text tokens special from (depth_before tokens from 0 until) components)

    authority_at_one : (special : Bool) (from until : ℕ) → AuthorityAt c special from until → AuthorityAt d special from until → SameAuthority c d
    authority_at_one special from until (inl h) (inl g) = (userinfo_from_one from until h.1 g.1, hostname_from_one special (until + 1) 0 h.2 g.2)
    authority_at_one special from until (inl h) (inr g) = absurd (g.0 h.0)
    authority_at_one special from until (inr h) (inl g) = absurd (h.0 g.0)
    authority_at_one special from until (inr h) (inr g) =
        ((h.1 ∙ sym g.1, h.2 ∙ sym g.2), hostname_from_one special from (depth_before tokens from 0 until) h.3 g.3)

    authority_from_one : (special : Bool) (from : ℕ) → AuthorityFrom text tokens special from c → AuthorityFrom text tokens special from d → SameAuthority c d
    authority_from_one special from h g =
        let e = ends_one Authority from 0 h.0 g.0 h.1 g.1 in
        authority_at_one special from g.0 (subst (λ until. AuthorityAt c special from until) e h.2) g.2

    -- ---- the whole string

    abbrev RelativeFrom : SplitTexts → (until : ℕ) → Type 0
    RelativeFrom components until =
        (IsTrue (is_hash_sign tokens 0) × (components.pathname ≡ None) × (components.search ≡ None) × HashFrom text tokens 1 components)
        ⊎ (IsTrue (is_search_prefix tokens 0) × (components.pathname ≡ None) × SearchFrom text tokens 1 (depth_before tokens 0 0 until) components)
        ⊎ (¬ IsTrue (is_hash_sign tokens 0 || is_search_prefix tokens 0) × PathnameFrom text tokens 0 (depth_before tokens 0 0 until) components)

    relative_from_one : (until : ℕ) → RelativeFrom c until → RelativeFrom d until → SamePathname c d
    relative_from_one until (inl h) (inl g) = (h.1 ∙ sym g.1, (h.2 ∙ sym g.2, hash_from_one 1 h.3 g.3))
    relative_from_one until (inl h) (inr (inl g)) = absurd (search_not_hash tokens 0 g.0 h.0)
    relative_from_one until (inl h) (inr (inr g)) = absurd (g.0 (or_left (is_hash_sign tokens 0) (is_search_prefix tokens 0) h.0))
    relative_from_one until (inr (inl h)) (inl g) = absurd (search_not_hash tokens 0 h.0 g.0)
    relative_from_one until (inr (inl h)) (inr (inl g)) = (h.1 ∙ sym g.1, search_from_one 1 (depth_before tokens 0 0 until) h.2 g.2)
    relative_from_one until (inr (inl h)) (inr (inr g)) = absurd (g.0 (or_right (is_hash_sign tokens 0) (is_search_prefix tokens 0) h.0))
    relative_from_one until (inr (inr h)) (inl g) = absurd (h.0 (or_left (is_hash_sign tokens 0) (is_search_prefix tokens 0) g.0))
    relative_from_one until (inr (inr h)) (inr (inl g)) = absurd (h.0 (or_right (is_hash_sign tokens 0) (is_search_prefix tokens 0) g.0))
    relative_from_one until (inr (inr h)) (inr (inr g)) = pathname_from_one 0 (depth_before tokens 0 0 until) h.1 g.1

    relative_one : IsRelativeSplit text tokens c → IsRelativeSplit text tokens d → c ≡ d
    relative_one h g =
        let e = ends_one Protocol 0 0 h.until g.until h.no_colon g.no_colon in
        let pathname = relative_from_one g.until (subst (RelativeFrom c) e h.begins) g.begins in
        let (protocol, username, password, hostname, port) = h.nothing_before in
        let (no_protocol, no_username, no_password, no_hostname, no_port) = g.nothing_before in
        same_components c d (protocol ∙ sym no_protocol)
        ((username ∙ sym no_username, password ∙ sym no_password), (hostname ∙ sym no_hostname, (port ∙ sym no_port, pathname)))

    abbrev AbsoluteFrom : SplitTexts → (special : Bool) → (colon : ℕ) → Type 0
    AbsoluteFrom components special colon =
        (IsTrue (has_slashes tokens colon) × AuthorityFrom text tokens special (colon + 3) components)
        ⊎ (IsTrue (not (has_slashes tokens colon) && special) × AuthorityFrom text tokens special (colon + 1) components)
        ⊎ (IsTrue (not (has_slashes tokens colon) && not special) × (components.username ≡ None) × (components.password ≡ None)
        × (components.hostname ≡ implied []) × (components.port ≡ implied []) × PathnameFrom text tokens (colon + 1) 0 components)

    no_slashes : (slashes other : Bool) → IsTrue slashes → IsTrue (not slashes && other) → ⊥
    no_slashes true other h g = false≢true g
    no_slashes false other h g = false≢true h

    not_special : (slashes special : Bool) → IsTrue (not slashes && special) → IsTrue (not slashes && not special) → ⊥
    not_special true special h g = false≢true h
    not_special false true h g = false≢true g
    not_special false false h g = false≢true h

    absolute_from_one : (special : Bool) (colon : ℕ) → AbsoluteFrom c special colon → AbsoluteFrom d special colon → SameAuthority c d
    absolute_from_one special colon (inl h) (inl g) = authority_from_one special (colon + 3) h.1 g.1
    absolute_from_one special colon (inl h) (inr (inl g)) = absurd (no_slashes (has_slashes tokens colon) special h.0 g.0)
    absolute_from_one special colon (inl h) (inr (inr g)) = absurd (no_slashes (has_slashes tokens colon) (not special) h.0 g.0)
    absolute_from_one special colon (inr (inl h)) (inl g) = absurd (no_slashes (has_slashes tokens colon) special g.0 h.0)
    absolute_from_one special colon (inr (inl h)) (inr (inl g)) = authority_from_one special (colon + 1) h.1 g.1
    absolute_from_one special colon (inr (inl h)) (inr (inr g)) = absurd (not_special (has_slashes tokens colon) special h.0 g.0)
    absolute_from_one special colon (inr (inr h)) (inl g) = absurd (no_slashes (has_slashes tokens colon) (not special) g.0 h.0)
    absolute_from_one special colon (inr (inr h)) (inr (inl g)) = absurd (not_special (has_slashes tokens colon) special g.0 h.0)
    absolute_from_one special colon (inr (inr h)) (inr (inr g)) =
        ((h.1 ∙ sym g.1, h.2 ∙ sym g.2), (h.3 ∙ sym g.3, (h.4 ∙ sym g.4, pathname_from_one (colon + 1) 0 h.5 g.5)))

    protocol_one : (special other : Bool) (colon place : ℕ) → IsAbsoluteSplit text tokens special colon c → IsAbsoluteSplit text tokens other place d → c.protocol ≡ d.protocol
    protocol_one special other colon place h g =
        takes_one text tokens 0 place c.protocol d.protocol
        (subst (λ until. IsComponentBetween text tokens 0 until c.protocol) (ends_one Protocol 0 0 colon place h.protocol_ends g.protocol_ends) h.protocol) g.protocol

    absolute_one : (special : Bool) (colon place : ℕ) → IsAbsoluteSplit text tokens special colon c → IsAbsoluteSplit text tokens special place d → c ≡ d
    absolute_one special colon place h g =
        let e = ends_one Protocol 0 0 colon place h.protocol_ends g.protocol_ends in
        same_components c d (protocol_one special special colon place h g)
        (absolute_from_one special place (subst (AbsoluteFrom c special) e h.after) g.after)

    relative_or_absolute : (special : Bool) (colon : ℕ) → IsRelativeSplit text tokens c → IsAbsoluteSplit text tokens special colon d → ⊥
    relative_or_absolute special colon h g =
        let e = ends_one Protocol 0 0 h.until colon h.no_colon g.protocol_ends in
        sign_not_end (codes ":") tokens colon g.is_colon_there (subst (λ place. IsTrue (ends_at tokens place)) e h.is_end)

-- ---- splits

module _ (IsSpecial : List ℕ → Bool → Type 0) (text : List ℕ) where
  -- The protocol of the text is both special and not special.
  abbrev HasTwoAnswers : Type 0
  HasTwoAnswers = HasProtocol text (λ protocol. IsSpecial protocol.text true × IsSpecial protocol.text false)

  two_answers : (tokens : List TokenView) (colon : ℕ) (found other : Option SplitTextView) → AreLenientTokens text tokens → EndsAt Protocol tokens 0 0 colon → IsTrue (is_colon_sign tokens colon) → IsComponentBetween text tokens 0 colon found → found ≡ other → IsSomeAnd found (λ protocol. IsSpecial protocol.text true) → IsSomeAnd other (λ protocol. IsSpecial protocol.text false) → HasTwoAnswers
  two_answers tokens colon None other t ends sign takes e h g = absurd h
  two_answers tokens colon (Some protocol) other t ends sign takes e h g =
      (tokens, colon, protocol, t, ends, sign, takes, (h, subst (λ o. IsSomeAnd o (λ p. IsSpecial p.text false)) (sym e) g))

  absolutes_one : (tokens : List TokenView) (c d : SplitTexts) (special other : Bool) (colon place : ℕ) → AreLenientTokens text tokens → IsAbsoluteSplit text tokens special colon c → IsAbsoluteSplit text tokens other place d → IsSomeAnd c.protocol (λ protocol. IsSpecial protocol.text special) → IsSomeAnd d.protocol (λ protocol. IsSpecial protocol.text other) → (c ≡ d) ⊎ HasTwoAnswers
  absolutes_one tokens c d true true colon place t h g a b = inl (absolute_one text tokens t c d true colon place h g)
  absolutes_one tokens c d false false colon place t h g a b = inl (absolute_one text tokens t c d false colon place h g)
  absolutes_one tokens c d true false colon place t h g a b =
      inr (two_answers tokens colon c.protocol d.protocol t h.protocol_ends h.is_colon_there h.protocol (protocol_one text tokens t c d true false colon place h g) a b)
  absolutes_one tokens c d false true colon place t h g a b =
      inr (two_answers tokens place d.protocol c.protocol t g.protocol_ends g.is_colon_there g.protocol (sym (protocol_one text tokens t c d false true colon place h g)) b a)

  split_one : (tokens : List TokenView) (c d : SplitTexts) → AreLenientTokens text tokens → IsSplit IsSpecial text tokens c → IsSplit IsSpecial text tokens d → (c ≡ d) ⊎ HasTwoAnswers
  split_one tokens c d t (inl h) (inl g) = inl (relative_one text tokens t c d h g)
  split_one tokens c d t (inl h) (inr g) = absurd (relative_or_absolute text tokens t c d g.1 g.0 h g.2)
  split_one tokens c d t (inr h) (inl g) = absurd (relative_or_absolute text tokens t d c h.1 h.0 g h.2)
  split_one tokens c d t (inr h) (inr g) = absolutes_one tokens c d h.1 g.1 h.0 g.0 t h.2 g.2 h.3 g.3

  -- Two splits of a text are equal, unless its protocol is both special and not special.
  pub splits_one : (c d : SplitTexts) → SplitsIntoTexts IsSpecial text c → SplitsIntoTexts IsSpecial text d → (c ≡ d) ⊎ HasTwoAnswers
  splits_one c d h g =
      let e = lenient_tokens_one text h.0 g.0 h.1 g.1 in
      split_one g.0 c d g.1 (subst (λ tokens. IsSplit IsSpecial text tokens c) e h.2) g.2

-- Two splits of a text are equal, once it is decided whether its protocol is special.
pub splits_one_given : (text : List ℕ) (special : Bool) (c d : SplitTexts) → SplitsAs text special c → SplitsAs text special d → c ≡ d
splits_one_given text special c d h g = elim (splits_one (λ protocol answer. answer ≡ special) text c d h g) [
  | inl same ↦ same
  | inr two ↦ let both = two.7 in absurd (false≢true (both.1 ∙ sym both.0))
]
