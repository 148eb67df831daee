-- Where a constructor string has the components of its split.
use Rattle.std.proofs.Common.{◌≡◌, ◌⊎◌, ℕ, ◌+◌, Bool, Option, Some, None, List, refl, sym, ap, ◌∙◌, subst, inl, inr}
use Rattle.std.specs.Prelude.{IfSome, IsSomeAnd, option_and_then, option_map}
use Rattle.urlpattern_components.proofs.EightLemmas.{at-each, by_name}
use Rattle.urlpattern_components.specs.declared.eight.ComponentName.{ComponentName}
use Rattle.urlpattern_components.specs.Eight.{at}
use Rattle.urlpattern_constructor.specs.Split.{AuthorityFrom, HashAt, HashFrom, HostnameFrom, IsAbsoluteSplit, IsComponentBetween, IsRelativeSplit, IsSplit, PathnameAt, PathnameFrom, PortAt, SearchAt, SearchFrom, SplitTextView, SplitTexts, UserinfoFrom, implied}
use Rattle.urlpattern_constructor.specs.Splitting.{HasComponentsAt, HasPartAt, split_text_view, split_texts, starts_of_split, values_of_split}
use Rattle.urlpattern_constructor.specs.declared.components.Split.{Split}
use Rattle.urlpattern_constructor.specs.declared.tokens.SplitText.{SplitText}
use Rattle.urlpattern_syntax.specs.Text.{option_text}
use Rattle.urlpattern_syntax.specs.Tokens.{TokenView}

-- ---- by the name of a component

text_view : (found : Option SplitText) → option_map (λ (one : SplitTextView). one.text) (option_map split_text_view found) ≡ option_text (option_map (λ (one : SplitText). one.text) found)
text_view None = refl
text_view (Some found) = refl

start_view : (found : Option SplitText) → option_and_then (λ (one : SplitTextView). one.start) (option_map split_text_view found) ≡ option_and_then (λ (one : SplitText). one.start) found
start_view None = refl
start_view (Some found) = refl

view_at : (split : Split) (name : ComponentName) → at (split_texts split) name ≡ option_map split_text_view (at split.values name)
view_at split name = at-each (λ other. option_map split_text_view (at split.values other)) name

pub text_by_name : (split : Split) (name : ComponentName) (found : Option SplitText) → at split.values name ≡ found → option_text (option_map (λ (one : SplitText). one.text) found) ≡ at (values_of_split (split_texts split)) name
text_by_name split name found is =
    sym (at-each (λ other. option_map (λ (one : SplitTextView). one.text) (at (split_texts split) other)) name
    ∙ ap (option_map (λ (one : SplitTextView). one.text)) (view_at split name ∙ ap (option_map split_text_view) is)
    ∙ text_view found)

pub start_by_name : (split : Split) (name : ComponentName) (found : Option SplitText) → at split.values name ≡ found → option_and_then (λ (one : SplitText). one.start) found ≡ at (starts_of_split (split_texts split)) name
start_by_name split name found is =
    sym (at-each (λ other. option_and_then (λ (one : SplitTextView). one.start) (at (split_texts split) other)) name
    ∙ ap (option_and_then (λ (one : SplitTextView). one.start)) (view_at split name ∙ ap (option_map split_text_view) is)
    ∙ start_view found)

-- ---- in the string

-- The string has a component where it begins.
abbrev IsThere : (text : List ℕ) → Option SplitTextView → Type 0
IsThere text None = Unit {0}
IsThere text (Some found) = IfSome found.start (HasPartAt text found.text)

module _ (text : List ℕ) (tokens : List TokenView) where
  between_there : (from until : ℕ) (found : Option SplitTextView) → IsComponentBetween text tokens from until found → IsThere text found
  between_there from until None is = tt
  between_there from until (Some found) is = subst (λ (start : Option ℕ). IfSome start (HasPartAt text found.text)) (sym is.1) (is.0.front, is.0.rest, is.0.cut, refl)

  none_there : (found : Option SplitTextView) → found ≡ None → IsThere text found
  none_there found is = subst (IsThere text) (sym is) tt

  implied_there : (found : Option SplitTextView) (part : List ℕ) → found ≡ implied part → IsThere text found
  implied_there found part is = subst (IsThere text) (sym is) tt

  module _ (c : SplitTexts) where
    abbrev SearchThere : Type 0
    SearchThere = IsThere text c.search × IsThere text c.hash

    abbrev PathnameThere : Type 0
    PathnameThere = IsThere text c.pathname × SearchThere

    abbrev HostnameThere : Type 0
    HostnameThere = IsThere text c.hostname × IsThere text c.port × PathnameThere

    abbrev AuthorityThere : Type 0
    AuthorityThere = IsThere text c.username × IsThere text c.password × HostnameThere

    hash_from : (from : ℕ) → HashFrom text tokens from c → IsThere text c.hash
    hash_from from h = between_there from h.0 c.hash h.2

    hash_at : (place : ℕ) → HashAt text tokens place c → IsThere text c.hash
    hash_at place (inl h) = hash_from (place + 1) h.1
    hash_at place (inr h) = none_there c.hash h.1

    search_from : (from depth : ℕ) → SearchFrom text tokens from depth c → SearchThere
    search_from from depth h = (between_there from h.0 c.search h.2, hash_at h.0 h.3)

    search_at : (place : ℕ) → SearchAt text tokens place c → SearchThere
    search_at place (inl h) = search_from (place + 1) 0 h.1
    search_at place (inr (inl h)) = (implied_there c.search _ h.1, hash_from (place + 1) h.2)
    search_at place (inr (inr h)) = (none_there c.search h.1, none_there c.hash h.2)

    pathname_from : (from depth : ℕ) → PathnameFrom text tokens from depth c → PathnameThere
    pathname_from from depth h = (between_there from h.0 c.pathname h.2, search_at h.0 h.3)

    pathname_at : (special : Bool) (place : ℕ) → PathnameAt text tokens special place c → PathnameThere
    pathname_at special place (inl h) = pathname_from place 0 h.1
    pathname_at special place (inr (inl h)) = (implied_there c.pathname _ h.1, search_at place h.2)
    pathname_at special place (inr (inr h)) = (none_there c.pathname h.1, (none_there c.search h.2, none_there c.hash h.3))

    port_at : (special : Bool) (place : ℕ) → PortAt text tokens special place c → IsThere text c.port × PathnameThere
    port_at special place (inl h) = (between_there (place + 1) h.1.0 c.port h.1.2, pathname_at special h.1.0 h.1.3)
    port_at special place (inr h) = (implied_there c.port _ h.1, pathname_at special place h.2)

    hostname_from : (special : Bool) (from depth : ℕ) → HostnameFrom text tokens special from depth c → HostnameThere
    hostname_from special from depth h = let more = port_at special h.0 h.3 in (between_there from h.0 c.hostname h.2, more.0, more.1)

    userinfo_from : (from until : ℕ) → UserinfoFrom text tokens from until c → IsThere text c.username × IsThere text c.password
    userinfo_from from until h = (
      between_there from h.0 c.username h.2,
      elim h.3 [ inl alone ↦ none_there c.password alone.1 | inr more ↦ between_there (h.0 + 1) until c.password more.1 ],
    )

    authority_from : (special : Bool) (from : ℕ) → AuthorityFrom text tokens special from c → AuthorityThere
    authority_from special from h = elim h.2 [
      | inl (sign, userinfo, hostname) ↦ let u = userinfo_from from h.0 userinfo in (u.0, u.1, hostname_from special (h.0 + 1) 0 hostname)
      | inr (no_sign, username, password, hostname) ↦ (none_there c.username username, none_there c.password password, hostname_from special from _ hostname)
    ]

    relative : IsRelativeSplit text tokens c → PathnameThere
    relative h = elim h.begins [
      | inl (sign, pathname, search, hash) ↦ (none_there c.pathname pathname, (none_there c.search search, hash_from 1 hash))
      | inr (inl (sign, pathname, search)) ↦ (none_there c.pathname pathname, search_from 1 _ search)
      | inr (inr (no_sign, pathname)) ↦ pathname_from 0 _ pathname
    ]

    absolute : (special : Bool) (colon : ℕ) → IsAbsoluteSplit text tokens special colon c → AuthorityThere
    absolute special colon h = elim h.after [
      | inl (slashes, more) ↦ authority_from special (colon + 3) more
      | inr (inl (is_special, more)) ↦ authority_from special (colon + 1) more
      | inr (inr (other, username, password, hostname, port, pathname)) ↦ (
        none_there c.username username,
        none_there c.password password,
        (implied_there c.hostname _ hostname, implied_there c.port _ port, pathname_from (colon + 1) 0 pathname),
      )
    ]

    all_there : IsThere text c.protocol → AuthorityThere → (name : ComponentName) → IsThere text (at c name)
    all_there protocol (username, password, (hostname, port, (pathname, (found, hash)))) =
        by_name (λ name. IsThere text (at c name)) protocol username password hostname port pathname found hash

    split_there : (IsSpecial : List ℕ → Bool → Type 0) → IsSplit IsSpecial text tokens c → (name : ComponentName) → IsThere text (at c name)
    split_there IsSpecial (inl h) =
        let (protocol, username, password, hostname, port) = h.nothing_before in
        all_there (none_there c.protocol protocol) (none_there c.username username, none_there c.password password, (none_there c.hostname hostname, none_there c.port port, relative h))
    split_there IsSpecial (inr h) = all_there (between_there 0 h.0 c.protocol h.2.protocol) (absolute h.1 h.0 h.2)

    has_part : (found : Option SplitTextView) → IsThere text found → IfSome (option_and_then (λ (one : SplitTextView). one.start) found) (λ start. IsSomeAnd (option_map (λ (one : SplitTextView). one.text) found) (λ part. HasPartAt text part start))
    has_part None is = tt
    has_part (Some found) is = is

    -- A string has the components of its split where they begin.
    pub components_there : (IsSpecial : List ℕ → Bool → Type 0) → IsSplit IsSpecial text tokens c → HasComponentsAt text (values_of_split c) (starts_of_split c)
    components_there IsSpecial split name =
        let there = has_part (at c name) (split_there IsSpecial split name) in
        rw (at-each (λ other. option_map (λ (one : SplitTextView). one.text) (at c other)) name, at-each (λ other. option_and_then (λ (one : SplitTextView). one.start) (at c other)) name) there
