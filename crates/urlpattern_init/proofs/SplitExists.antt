-- A constructor string has a split, whether its protocol is special or not.
use Rattle.std.proofs.Common.{◌≡◌, ℕ, zero, suc, ◌+◌, ◌<◌, ◌≤◌, ◌⊎◌, Bool, true, false, not, ◌&&◌, ◌||◌, Option, Some, None, List, [], ◌∷◌, length, refl, sym, ap, ◌∙◌, inl, inr, arith, length-append}
use Rattle.std.proofs.lemmas.Bool.{and_from, and_parts, both_ways, cases_eq, cases_lt, false≢true, or_cases, or_left, or_right}
use Rattle.std.specs.Prelude.{codes, IsSomeAnd, IsTrue}
use Rattle.urlpattern_init.specs.ConstructorString.{SplitsAs}
use Rattle.urlpattern_constructor.specs.Split.{AuthorityFrom, SplitTextView, SplitTexts, IsTextBetween, implied, EndsAt, HashAt, HashFrom, HostnameFrom, IsAbsoluteSplit, IsRelativeSplit, PathnameAt, PathnameFrom, PortAt, SearchAt, SearchFrom, IsComponentBetween, UserinfoFrom, depth_before, ends_at, has_slashes, implied_pathname, is_at_sign, is_balanced, is_colon_sign, is_hash_sign, is_search_prefix, is_slash_sign, may_end}
use Rattle.urlpattern_constructor.proofs.ClosedTokens.{IsClosed}
use Rattle.urlpattern_constructor.specs.Splitting.{may_end_before}
use Rattle.urlpattern_constructor.specs.declared.sections.Section.{Section}
use Rattle.urlpattern_constructor.specs.declared.sections.Section.TheVariants.{Authority, Hash, Hostname, Pathname, Port, Protocol, Search, Username}
use Rattle.urlpattern_constructor.proofs.SplitLemmas.{may_end_parts, port_sign, sign_goes_on, stops_cases, username_before}
use Rattle.urlpattern_init.proofs.SplitUnique.{search_not_end}
use Rattle.urlpattern_constructor.proofs.TextBetween.{are_closed, text_between}
use Rattle.urlpattern_meaning.proofs.TokensExist.{lenient_tokens_exist}
use Rattle.urlpattern_syntax.specs.Text.{byte_len}
use Rattle.urlpattern_syntax.specs.Tokens.{AreLenientTokens, TokenView, end_of}
use Rattle.urlpattern_components.specs.Eight.{each}

-- ---- components still to be found

-- A hash for which `Is` holds, whatever the other components are.
abbrev HashFor : (Is : SplitTexts → Type 0) → Type 0
HashFor Is = (hash : Option SplitTextView) × ((c : SplitTexts) → Is (record c { hash = hash }))

abbrev SearchFor : (Is : SplitTexts → Type 0) → Type 0
SearchFor Is = (search hash : Option SplitTextView) × ((c : SplitTexts) → Is (record c { search = search; hash = hash }))

abbrev PathnameFor : (Is : SplitTexts → Type 0) → Type 0
PathnameFor Is = (pathname search hash : Option SplitTextView) × ((c : SplitTexts) → Is (record c { pathname = pathname; search = search; hash = hash }))

abbrev PortFor : (Is : SplitTexts → Type 0) → Type 0
PortFor Is = (port pathname search hash : Option SplitTextView) × ((c : SplitTexts) → Is (record c { port = port; pathname = pathname; search = search; hash = hash }))

abbrev HostnameFor : (Is : SplitTexts → Type 0) → Type 0
HostnameFor Is =
    (hostname port pathname search hash : Option SplitTextView)
    × ((c : SplitTexts) → Is (record c { hostname = hostname; port = port; pathname = pathname; search = search; hash = hash }))

abbrev UserinfoFor : (Is : SplitTexts → Type 0) → Type 0
UserinfoFor Is = (username password : Option SplitTextView) × ((c : SplitTexts) → Is (record c { username = username; password = password }))

abbrev nothing : SplitTexts
nothing = each (λ name. None)

module _ (text : List ℕ) (tokens : List TokenView) (are_tokens : AreLenientTokens text tokens) where
  closed : IsClosed tokens
  closed = are_closed text tokens are_tokens

  some_token : 0 < length tokens
  some_token =
      let e = ap length are_tokens.all ∙ length-append are_tokens.front (end_of text ∷ []) in
      omega arith

  -- ---- where a section ends

  abbrev Ends : Section → (from depth : ℕ) → Type 0
  Ends section from depth = (until : ℕ) × EndsAt section tokens from depth until

  -- The section does not end before the place.
  abbrev NoneBefore : Section → (from depth place : ℕ) → Type 0
  NoneBefore section from depth place = (other : ℕ) → from ≤ other → other < place → ¬ IsTrue (may_end section tokens from depth other)

  one_more : (section : Section) (from depth place : ℕ) → NoneBefore section from depth place → may_end section tokens from depth place ≡ false → NoneBefore section from depth (place + 1)
  one_more section from depth place none passes other after before may = elim (cases_eq other place) [
    | inl same ↦ both_ways (may_end section tokens from depth place) passes (ap (may_end section tokens from depth) (sym same) ∙ may)
    | inr differ ↦ none other after (omega arith) may
  ]

  ends_here : (section : Section) (from depth place : ℕ) → from ≤ place → place < length tokens → NoneBefore section from depth place →
      (place + 1 < length tokens → NoneBefore section from depth (place + 1) → Ends section from depth) → Ends section from depth
  ends_here section from depth place after within none more = by_sign (may_end section tokens from depth place) refl
    where
      stops_here : IsTrue (may_end section tokens from depth place || ends_at tokens place) → Ends section from depth
      stops_here stops = (place, record { after = after; within = within; stops = stops; least = none })

      by_end : (b : Bool) → ends_at tokens place ≡ b → may_end section tokens from depth place ≡ false → Ends section from depth
      by_end true e passes = stops_here (or_right (may_end section tokens from depth place) (ends_at tokens place) e)
      by_end false e passes = more (closed.goes_on place within (both_ways (ends_at tokens place) e)) (one_more section from depth place none passes)

      by_sign : (b : Bool) → may_end section tokens from depth place ≡ b → Ends section from depth
      by_sign true e = stops_here (or_left (may_end section tokens from depth place) (ends_at tokens place) e)
      by_sign false e = by_end (ends_at tokens place) refl e

  ends_within : (n : ℕ) (section : Section) (from depth place : ℕ) → from ≤ place → place < length tokens → length tokens < place + n → NoneBefore section from depth place → Ends section from depth
  ends_within zero section from depth place after within few none = absurd (omega arith)
  ends_within (suc n) section from depth place after within few none =
      ends_here section from depth place after within none
      (λ next more. ends_within n section from depth (place + 1) (omega arith) next (omega arith) more)

  -- A section ends.
  ends_some : (section : Section) (from depth : ℕ) → from < length tokens → Ends section from depth
  ends_some section from depth within =
      ends_within (suc (length tokens)) section from depth from (omega arith) within (omega arith) (λ other after before may. omega arith)

  -- A text, with where it begins.
  found_between : {from until : ℕ} → (between : List ℕ) × IsTextBetween text tokens from until between → (taken : Option SplitTextView) × IsComponentBetween text tokens from until taken
  found_between b = (Some (record { text = b.0; start = Some (byte_len b.1.front) }), (b.1, refl))

  -- The text between a position and the end of its section.
  takes_some : (section : Section) (from depth : ℕ) (ends : Ends section from depth) → (taken : Option SplitTextView) × IsComponentBetween text tokens from ends.0 taken
  takes_some section from depth ends = found_between (text_between text tokens from ends.0 are_tokens ends.1.after ends.1.within)

  -- ---- from the hash backwards

  hash_from : (from : ℕ) → from < length tokens → HashFor (HashFrom text tokens from)
  hash_from from within =
      let ends = ends_some Hash from 0 within in
      let t = takes_some Hash from 0 ends in
      let is_end : IsTrue (ends_at tokens ends.0) = elim (stops_cases Hash tokens from 0 ends.0 ends.1) [
        | inl may ↦ absurd (false≢true (may_end_parts Hash tokens from 0 ends.0 may).1)
        | inr end ↦ end
      ] in
      (t.0, λ c. (ends.0, is_end, t.1))

  hash_at : (place : ℕ) → IsTrue (is_hash_sign tokens place) ⊎ IsTrue (ends_at tokens place) → HashFor (HashAt text tokens place)
  hash_at place (inl sign) =
      let h = hash_from (place + 1) (sign_goes_on (codes "#") tokens place closed sign) in
      (h.0, λ c. inl (sign, h.1 c))
  hash_at place (inr end) = (None, λ c. inr (end, refl))

  search_from : (from depth : ℕ) → from < length tokens → SearchFor (SearchFrom text tokens from depth)
  search_from from depth within =
      let ends = ends_some Search from depth within in
      let t = takes_some Search from depth ends in
      let h = hash_at ends.0 (elim (stops_cases Search tokens from depth ends.0 ends.1) [
        | inl may ↦ inl (may_end_parts Search tokens from depth ends.0 may).1
        | inr end ↦ inr end
      ]) in
      (t.0, h.0, λ c. (ends.0, ends.1, t.1, h.1 (record c { search = t.0 })))

  search_at : (place : ℕ) → place < length tokens → IsTrue (may_end_before Pathname tokens place) → SearchFor (SearchAt text tokens place)
  search_at place within some = elim (or_cases (is_search_prefix tokens place || is_hash_sign tokens place) (ends_at tokens place) some) [
    | inl signs ↦ elim (or_cases (is_search_prefix tokens place) (is_hash_sign tokens place) signs) [
      | inl sign ↦
          let s = search_from (place + 1) 0 (closed.goes_on place within (search_not_end text tokens place are_tokens sign)) in
          (s.0, s.1, λ c. inl (sign, s.2 c))
      | inr sign ↦
          let h = hash_from (place + 1) (sign_goes_on (codes "#") tokens place closed sign) in
          (implied [], h.0, λ c. inr (inl (sign, refl, h.1 (record c { search = implied [] }))))
    ]
    | inr end ↦ (None, None, λ c. inr (inr (end, refl, refl)))
  ]

  pathname_from : (from depth : ℕ) → from < length tokens → PathnameFor (PathnameFrom text tokens from depth)
  pathname_from from depth within =
      let ends = ends_some Pathname from depth within in
      let t = takes_some Pathname from depth ends in
      let s = search_at ends.0 ends.1.within (elim (stops_cases Pathname tokens from depth ends.0 ends.1) [
        | inl may ↦ or_left (is_search_prefix tokens ends.0 || is_hash_sign tokens ends.0) (ends_at tokens ends.0) (may_end_parts Pathname tokens from depth ends.0 may).1
        | inr end ↦ or_right (is_search_prefix tokens ends.0 || is_hash_sign tokens ends.0) (ends_at tokens ends.0) end
      ]) in
      (t.0, s.0, s.1, λ c. (ends.0, ends.1, t.1, s.2 (record c { pathname = t.0 })))

  -- What may follow a port.
  data Follows (place : ℕ) : Type 0 where
    Slash : IsTrue (is_slash_sign tokens place) → Follows place
    Signs : IsTrue (is_search_prefix tokens place || is_hash_sign tokens place) → Follows place
    AtEnd : IsTrue (ends_at tokens place) → Follows place

  follows : (place : ℕ) → IsTrue (is_slash_sign tokens place || is_search_prefix tokens place || is_hash_sign tokens place) → Follows place
  follows place signs = elim (or_cases (is_slash_sign tokens place || is_search_prefix tokens place) (is_hash_sign tokens place) signs) [
    | inl more ↦ elim (or_cases (is_slash_sign tokens place) (is_search_prefix tokens place) more) [
      | inl slash ↦ Slash slash
      | inr sign ↦ Signs (or_left (is_search_prefix tokens place) (is_hash_sign tokens place) sign)
    ]
    | inr hash ↦ Signs (or_right (is_search_prefix tokens place) (is_hash_sign tokens place) hash)
  ]

  pathname_at : (special : Bool) (place : ℕ) → place < length tokens → Follows place → PathnameFor (PathnameAt text tokens special place)
  pathname_at special place within (Slash slash) =
      let p = pathname_from place 0 within in
      (p.0, p.1, p.2, λ c. inl (slash, p.3 c))
  pathname_at special place within (Signs signs) =
      let s = search_at place within (or_left (is_search_prefix tokens place || is_hash_sign tokens place) (ends_at tokens place) signs) in
      (implied (implied_pathname special), s.0, s.1, λ c. inr (inl (signs, refl, s.2 (record c { pathname = implied (implied_pathname special) }))))
  pathname_at special place within (AtEnd end) = (None, None, None, λ c. inr (inr (end, refl, refl, refl)))

  port_at : (special : Bool) (place : ℕ) → place < length tokens → IsTrue (is_colon_sign tokens place) ⊎ ((¬ IsTrue (is_colon_sign tokens place)) × Follows place) → PortFor (PortAt text tokens special place)
  port_at special place within (inl colon) =
      let ends = ends_some Port (place + 1) 0 (sign_goes_on (codes ":") tokens place closed colon) in
      let t = takes_some Port (place + 1) 0 ends in
      let p = pathname_at special ends.0 ends.1.within (elim (or_cases (is_slash_sign tokens ends.0 || is_search_prefix tokens ends.0 || is_hash_sign tokens ends.0) (ends_at tokens ends.0) (port_sign tokens (place + 1) 0 ends.0 ends.1)) [
        | inl signs ↦ follows ends.0 signs
        | inr end ↦ AtEnd end
      ]) in
      (t.0, p.0, p.1, p.2, λ c. inl (colon, (ends.0, ends.1, t.1, p.3 (record c { port = t.0 }))))
  port_at special place within (inr (no_colon, more)) =
      let p = pathname_at special place within more in
      (implied [], p.0, p.1, p.2, λ c. inr (no_colon, refl, p.3 (record c { port = implied [] })))

  -- Without a colon, a hostname is followed by what may follow a port.
  colon_or_more : (place : ℕ) → ¬ IsTrue (is_colon_sign tokens place) → (balanced : Bool) → IsTrue ((balanced && is_colon_sign tokens place) || is_slash_sign tokens place || is_search_prefix tokens place || is_hash_sign tokens place) → Follows place
  colon_or_more place no_colon balanced signs =
      follows place (without (balanced && is_colon_sign tokens place) (is_slash_sign tokens place) (is_search_prefix tokens place) (is_hash_sign tokens place)
      (λ h. no_colon (and_parts balanced (is_colon_sign tokens place) h).1) signs)
    where
      without : (a b c d : Bool) → ¬ IsTrue a → IsTrue (a || b || c || d) → IsTrue (b || c || d)
      without true b c d none h = absurd (none refl)
      without false b c d none h = h

  port_or_not : (from depth place : ℕ) → EndsAt Hostname tokens from depth place → IsTrue (is_colon_sign tokens place) ⊎ ((¬ IsTrue (is_colon_sign tokens place)) × Follows place)
  port_or_not from depth place ends = by_colon (is_colon_sign tokens place) refl
    where
      by_colon : (b : Bool) → is_colon_sign tokens place ≡ b → IsTrue (is_colon_sign tokens place) ⊎ ((¬ IsTrue (is_colon_sign tokens place)) × Follows place)
      by_colon true e = inl e
      by_colon false e = inr (
        both_ways (is_colon_sign tokens place) e,
        elim (stops_cases Hostname tokens from depth place ends) [
          | inl may ↦ colon_or_more place (both_ways (is_colon_sign tokens place) e) (is_balanced tokens from depth place) (may_end_parts Hostname tokens from depth place may).1
          | inr end ↦ AtEnd end
        ],
      )

  hostname_from : (special : Bool) (from depth : ℕ) → from < length tokens → HostnameFor (HostnameFrom text tokens special from depth)
  hostname_from special from depth within =
      let ends = ends_some Hostname from depth within in
      let t = takes_some Hostname from depth ends in
      let p = port_at special ends.0 ends.1.within (port_or_not from depth ends.0 ends.1) in
      (t.0, p.0, p.1, p.2, p.3, λ c. (ends.0, ends.1, t.1, p.4 (record c { hostname = t.0 })))

  userinfo_from : (from until : ℕ) → EndsAt Authority tokens from 0 until → IsTrue (is_at_sign tokens until) → UserinfoFor (UserinfoFrom text tokens from until)
  userinfo_from from until authority sign =
      let order = authority.after in
      let inside = authority.within in
      let ends = ends_some Username from 0 (omega arith) in
      let t = takes_some Username from 0 ends in
      let le = username_before tokens from until ends.0 authority sign ends.1 in
      elim (cases_lt ends.0 until) [
        | inl less ↦
            let b = found_between (text_between text tokens (ends.0 + 1) until are_tokens (omega arith) inside) in
            (t.0, b.0, λ c. (ends.0, ends.1, t.1, inr (less, b.1)))
        | inr ge ↦ (t.0, None, λ c. (ends.0, ends.1, t.1, inl (omega arith, refl)))
      ]

  -- Components after the protocol.
  abbrev AuthorityFor : (Is : SplitTexts → Type 0) → Type 0
  AuthorityFor Is = (c : SplitTexts) × ((protocol : Option SplitTextView) → Is (record c { protocol = protocol }))

  authority_from : (special : Bool) (from : ℕ) → from < length tokens → AuthorityFor (AuthorityFrom text tokens special from)
  authority_from special from within = by_sign (is_at_sign tokens ends.0) refl
    where
      ends : Ends Authority from 0
      ends = ends_some Authority from 0 within

      by_sign : (b : Bool) → is_at_sign tokens ends.0 ≡ b → AuthorityFor (AuthorityFrom text tokens special from)
      by_sign true sign =
          let u = userinfo_from from ends.0 ends.1 sign in
          let h = hostname_from special (ends.0 + 1) 0 (sign_goes_on (codes "@") tokens ends.0 closed sign) in
          let c : SplitTexts = record nothing { username = u.0; password = u.1; hostname = h.0; port = h.1; pathname = h.2; search = h.3; hash = h.4 } in
          (c, λ protocol. (ends.0, ends.1, inl (sign, u.2 (record c { protocol = protocol }), h.5 (record c { protocol = protocol }))))
      by_sign false other =
          let h = hostname_from special from (depth_before tokens from 0 ends.0) within in
          let c : SplitTexts = record nothing { hostname = h.0; port = h.1; pathname = h.2; search = h.3; hash = h.4 } in
          (c, λ protocol. (ends.0, ends.1, inr (both_ways (is_at_sign tokens ends.0) other, refl, refl, h.5 (record c { protocol = protocol }))))

  -- ---- the whole string

  relative : (until : ℕ) → EndsAt Protocol tokens 0 0 until → IsTrue (ends_at tokens until) → (c : SplitTexts) × IsRelativeSplit text tokens c
  relative until ends end = by_hash (is_hash_sign tokens 0) refl
    where
      depth : ℕ
      depth = depth_before tokens 0 0 until

      by_search : (b : Bool) → is_search_prefix tokens 0 ≡ b → is_hash_sign tokens 0 ≡ false → (c : SplitTexts) × IsRelativeSplit text tokens c
      by_search true sign other =
          let next = closed.goes_on 0 some_token (search_not_end text tokens 0 are_tokens sign) in
          let s = search_from 1 (depth_before tokens 0 0 until) (omega arith) in (
            record nothing { search = s.0; hash = s.1 },
            record {
              until = until;
              no_colon = ends;
              is_end = end;
              begins = inr (inl (sign, refl, s.2 nothing));
              nothing_before = (refl, refl, refl, refl, refl);
            },
          )
      by_search false no_search no_hash =
          let p = pathname_from 0 (depth_before tokens 0 0 until) some_token in (
            record nothing { pathname = p.0; search = p.1; hash = p.2 },
            record {
              until = until;
              no_colon = ends;
              is_end = end;
              begins = inr (inr (
                (λ signs. elim (or_cases (is_hash_sign tokens 0) (is_search_prefix tokens 0) signs) [
                  | inl sign ↦ both_ways (is_hash_sign tokens 0) no_hash sign
                  | inr sign ↦ both_ways (is_search_prefix tokens 0) no_search sign
                ]),
                p.3 nothing,
              ));
              nothing_before = (refl, refl, refl, refl, refl);
            },
          )

      by_hash : (b : Bool) → is_hash_sign tokens 0 ≡ b → (c : SplitTexts) × IsRelativeSplit text tokens c
      by_hash true sign =
          let next = sign_goes_on (codes "#") tokens 0 closed sign in
          let h = hash_from 1 (omega arith) in (
            record nothing { hash = h.0 },
            record {
              until = until;
              no_colon = ends;
              is_end = end;
              begins = inl (sign, refl, refl, h.1 nothing);
              nothing_before = (refl, refl, refl, refl, refl);
            },
          )
      by_hash false other = by_search (is_search_prefix tokens 0) refl other

  absolute : (special : Bool) (colon : ℕ) → EndsAt Protocol tokens 0 0 colon → IsTrue (is_colon_sign tokens colon) → (c : SplitTexts) × IsAbsoluteSplit text tokens special colon c
  absolute special colon ends sign = by_slashes (has_slashes tokens colon) refl
    where
      t : (taken : Option SplitTextView) × IsComponentBetween text tokens 0 colon taken
      t = takes_some Protocol 0 0 (colon, ends)

      next : colon + 1 < length tokens
      next = sign_goes_on (codes ":") tokens colon closed sign

      by_special : (b : Bool) → special ≡ b → has_slashes tokens colon ≡ false → (c : SplitTexts) × IsAbsoluteSplit text tokens special colon c
      by_special true is_special no_slashes =
          let a = authority_from special (colon + 1) next in (
            record a.0 { protocol = t.0 },
            record {
              is_colon_there = sign;
              protocol_ends = ends;
              protocol = t.1;
              after = inr (inl (and_from (not (has_slashes tokens colon)) special (ap not no_slashes) is_special, a.1 t.0));
            },
          )
      by_special false not_special no_slashes =
          let p = pathname_from (colon + 1) 0 next in
          let c : SplitTexts = record nothing { protocol = t.0; hostname = implied []; port = implied [] } in (
            record c { pathname = p.0; search = p.1; hash = p.2 },
            record {
              is_colon_there = sign;
              protocol_ends = ends;
              protocol = t.1;
              after = inr (inr (and_from (not (has_slashes tokens colon)) (not special) (ap not no_slashes) (ap not not_special), refl, refl, refl, refl, p.3 c));
            },
          )

      by_slashes : (b : Bool) → has_slashes tokens colon ≡ b → (c : SplitTexts) × IsAbsoluteSplit text tokens special colon c
      by_slashes true slashes =
          let second = (and_parts (is_slash_sign tokens (colon + 1)) (is_slash_sign tokens (colon + 2)) slashes).1 in
          let more = sign_goes_on (codes "/") tokens (colon + 2) closed second in
          let a = authority_from special (colon + 3) (omega arith) in (
            record a.0 { protocol = t.0 },
            record { is_colon_there = sign; protocol_ends = ends; protocol = t.1; after = inl (slashes, a.1 t.0) },
          )
      by_slashes false other = by_special special refl other

-- A protocol, where there is one, is special as given.
answered : (text : List ℕ) (tokens : List TokenView) (until : ℕ) (special : Bool) (taken : Option SplitTextView) → IsComponentBetween text tokens 0 until taken → IsSomeAnd taken (λ protocol. special ≡ special)
answered text tokens until special None h = absurd h
answered text tokens until special (Some protocol) h = refl

-- A text has a split, whether its protocol is special or not.
pub split_exists : (text : List ℕ) (special : Bool) → (components : SplitTexts) × SplitsAs text special components
split_exists text special =
    let (tokens, are_tokens) = lenient_tokens_exist text in
    let (until, ends) = ends_some text tokens are_tokens Protocol 0 0 (some_token text tokens are_tokens) in
    elim (stops_cases Protocol tokens 0 0 until ends) [
      | inl may ↦
          let a = absolute text tokens are_tokens special until ends (may_end_parts Protocol tokens 0 0 until may).1 in
          (a.0, (tokens, are_tokens, inr (until, special, a.1, answered text tokens until special a.0.protocol a.1.protocol)))
      | inr end ↦
          let r = relative text tokens are_tokens until ends end in
          (r.0, (tokens, are_tokens, inl r.1))
    ]
