-- The outcome of the pattern `https://example.com/users/:id` for a URL, by the parts of the URL.
use Rattle.std.proofs.Common.{◌≡◌, ℕ, List, [], ◌∷◌, refl, sym, ap, ◌∙◌, subst, inl, inr, None, Some, Ok, arith}
use Rattle.std.specs.Borrow.{Bor}
use Rattle.std.specs.Option.{option_flatten}
use Rattle.std.specs.Prelude.{◌++◌, ◌&&◌, Bool, IfNone, IfSome, MatchOption, Option, bytes_eq, if◌then◌else◌, true, codes, decimal, option_map, unwrap_or}
use Rattle.std.proofs.lemmas.Slice.Eq.{bytes_eq-Decides}
use Rattle.std.specs.List.{list_any}
use Rattle.std.specs.Str.{chars}
use Rattle.example.specs.NamedUsers.{NamesNone, NamesUser}
use Rattle.example.specs.Users.{IsNoUser, IsPatternOfUsers, IsUrlOfUser, IsUser, default_asked, users_text}
use Rattle.url.specs.Host.{host_text}
use Rattle.url.specs.Parts.{IsValid, Parts, host_or_empty, text_between}
use Rattle.url.specs.declared.host.Host.{Host}
use Rattle.url.specs.declared.host.Host.TheVariants.{Domain}
use Rattle.url.specs.declared.slicing.Position.TheVariants.{AfterPort, BeforePort}
use Rattle.urlpattern.proofs.ReadTexts.{IsTextAndSegment, anything_means, literal_means, text_and_segment_mean}
use Rattle.urlpattern.proofs.SiteRoutes.{on_site}
use Rattle.urlpattern.proofs.UsersExample.{chars-path, users_alone, users_of_parts, users_options, users_parts, users_path}
use Rattle.urlpattern.specs.Match.{CallsAnEngine, HasMatch, HasNoMatch, IsMatch}
use Rattle.urlpattern.specs.ResultViews.{ResultView, group_of}
use Rattle.urlpattern.specs.MatchInput.{input_texts}
use Rattle.urlpattern.specs.FromString.{IsPatternOfText}
use Rattle.urlpattern.specs.LinkedUrls.{IsCapturedBy, ReturnsGiven}
use Rattle.urlpattern.specs.ComponentTexts.{settings_in}
use Rattle.urlpattern.specs.ComponentParts.{kept_parts}
use Rattle.urlpattern.specs.PatternParts.{PatternParts}
use Rattle.urlpattern.specs.Canonical.{canonical_pathname}
use Rattle.urlpattern.specs.WriteSettings.{GivenView, begins_ipv6, canonical_for, is_slash_delimiter, text_given}
use Rattle.urlpattern.specs.Patterns.{PatternView, pattern_view}
use Rattle.urlpattern.specs.UrlPatterns.{UrlPattern}
use Rattle.urlpattern.specs.PatternRegexps.{pattern_result, pattern_engine}
use Rattle.urlpattern.specs.PatternRegexp.{PatternRegexp}
use Rattle.urlpattern.specs.Inheritance.{texts_of_url}
use Rattle.urlpattern.specs.UrlTexts.{EachIsLine}
use Rattle.urlpattern.specs.UrlPatternMatchInput.TheVariants as inputs
use Rattle.urlpattern.specs.Matching.{Agrees, Returns}
use Rattle.urlpattern.specs.PartMeaning.{Captures, PartsMean}
use Rattle.urlpattern.specs.Eight.{Texts, at, name_text}
use Rattle.urlpattern.specs.Options.{OptionsView, default_options, hostname_options, pathname_options}
use Rattle.urlpattern.specs.ComponentName.{ComponentName}
use Rattle.urlpattern.specs.ComponentName.TheVariants.{Protocol, Username, Password, Hostname, Port, Pathname, Search, Hash}

-- ---- texts and parts

-- The texts are those of a user's URL.
user_of_texts : (url : Parts) (captures : Captures) → IsValid url → chars url.scheme ≡ codes "https" → chars (host_text (host_or_empty url)) ≡ codes "example.com" →
    chars (text_between url BeforePort AfterPort) ≡ [] → (path : IsTextAndSegment pathname_options (codes "/users") (codes "/") (chars url.path) captures) → IsUser url path.0
user_of_texts url captures valid is_scheme is_host is_port (id, is_path, segment, captured) =
    let site = on_site url valid is_scheme is_host is_port in
    record {
      scheme = site.0;
      host = site.1;
      port = site.2;
      path = sym (chars-path url valid) ∙ is_path;
      not_empty = segment.0;
      no_slash = segment.1;
    }

-- The pattern texts mean the texts of a user's URL.
user_meant : (url : Parts) (id : List ℕ) → IsValid url → EachIsLine (texts_of_url url) → IsUser url id → (component : ComponentName) →
    (captures : Captures) × PartsMean (users_options component) (users_parts component) (at (texts_of_url url) component) captures
unfolding chars
user_meant url id valid lines user Protocol = ([], (literal_means default_options (codes "https") _ []).1 (ap chars user.scheme, refl))
user_meant url id valid lines user Hostname =
    ([], (literal_means hostname_options (codes "example.com") _ []).1 (ap (λ (host : Option (Host (List ℕ))). chars (host_text (unwrap_or host (Domain [])))) user.host, refl))
user_meant url id valid lines user Port = ([], (ap (λ (port : Option ℕ). chars (unwrap_or (option_map decimal port) [] ++ [])) user.port, refl))
user_meant url id valid lines user Pathname =
    (_, (text_and_segment_mean pathname_options (codes "/users") (codes "/") (codes "id") _ _).1 (id, chars-path url valid ∙ user.path, (user.not_empty, user.no_slash), refl))
user_meant url id valid lines user Username = (_, anything_means default_options _ (lines Username).no_line_feed)
user_meant url id valid lines user Password = (_, anything_means default_options _ (lines Password).no_line_feed)
user_meant url id valid lines user Search = (_, anything_means default_options _ (lines Search).no_line_feed)
user_meant url id valid lines user Hash = (_, anything_means default_options _ (lines Hash).no_line_feed)

-- ---- matches

module _ (pattern : PatternView PatternRegexp) (is : IsPatternOfText pattern_engine users_text None default_asked pattern) (url : Parts) (valid : IsValid url) (lines : EachIsLine (texts_of_url url)) where
  agrees : (texts : Texts) (component : ComponentName) (result : Option Captures) → input_texts (inputs.Url url) ≡ Ok texts →
      Returns pattern_result (pattern component).matcher (at texts component) result →
      Agrees (users_options component) (users_parts component) (at (texts_of_url url) component) result
  unfolding chars
  agrees texts component result e answers =
      let same : texts ≡ texts_of_url url = cc in
      (users_of_parts pattern is component).means (at (texts_of_url url) component) result (lines component)
      (subst (λ (of : Texts). Returns pattern_result (pattern component).matcher (at of component) result) same answers)

  -- A match is that of a user, whose id the group captures.
  user_found : (result : ComponentName → ResultView) → IsMatch pattern_result pattern (inputs.Url url) result →
      (id : List ℕ) × IsUser url id × ((result Pathname).group (chars (codes "id")) ≡ Some (Some id))
  unfolding chars
  user_found result (texts, are_texts, match) =
      let means = λ (component : ComponentName). agrees texts component (Some (match.captures component)) are_texts (match.are_answers component) in
      let path = (text_and_segment_mean pathname_options (codes "/users") (codes "/") (codes "id") (chars url.path) (match.captures Pathname)).0 (means Pathname) in
      let scheme = ((literal_means default_options (codes "https") _ _).0 (means Protocol)).0 in
      let host = ((literal_means hostname_options (codes "example.com") _ _).0 (means Hostname)).0 in (
        path.0,
        user_of_texts url (match.captures Pathname) valid scheme host (means Port).0 path,
        (match.are_results Pathname).has_groups (codes "id") ∙ ap (λ names. group_of names (match.captures Pathname) (codes "id")) (users_of_parts pattern is Pathname).names
            ∙ ap (λ (captures : Captures). group_of (codes "id" ∷ []) captures (codes "id")) path.3,
      )

  no_user : HasNoMatch pattern_result pattern (inputs.Url url) → IsNoUser url
  no_user (inl (inl refused)) id user = absurd (let e = refused.1 in let never : ⊥ = cc in never)
  no_user (inl (inr long)) id user = omega (arith, long)
  no_user (inr (texts, are_texts, (component, refused))) id user =
      let meant = user_meant url id valid lines user component in agrees texts component None are_texts refused meant.0 meant.1

  -- A URL that matches, with this capture of the group, is that of the user with this id.
  user_captured : (id : List ℕ) → HasMatch pattern_result pattern (inputs.Url url) →
      ((result : ComponentName → ResultView) → IsMatch pattern_result pattern (inputs.Url url) result → (result Pathname).group (chars (codes "id")) ≡ Some (Some id)) → IsUser url id
  user_captured id (texts, are_texts, matched) captured =
      let result : ComponentName → ResultView = λ component. record { input = at texts component; group = group_of (pattern component).group_name_list (matched component).0 } in
      let match : IsMatch pattern_result pattern (inputs.Url url) result =
      (texts, are_texts, record { captures = λ component. (matched component).0; are_answers = λ component. (matched component).1; are_results = λ component. record { has_input = refl; has_groups = λ name. refl } }) in
      let found = user_found result match in
      let same : found.0 ≡ id = cc (found.2, captured result match) in
      subst (IsUser url) same found.1

  -- A capture is the id of a user.
  pub named : (id : List ℕ) → NamesUser pattern_result pattern url (Some id) → IsUser url id
  named id (result, match, captured) =
      let found = user_found result match in
      let same : Some found.0 ≡ Some id = sym (ap option_flatten found.2) ∙ captured in
      let one : found.0 ≡ id = cc same in
      subst (IsUser url) one found.1

  -- A URL without a capture is not that of a user.
  pub named_none : NamesNone pattern_result pattern url → IsNoUser url
  named_none (inl unmatched) = no_user unmatched
  named_none (inr (result, match, captured)) = λ id user.
      let found = user_found result match in
      let same : Some found.0 ≡ None = sym (ap option_flatten found.2) ∙ captured in absurd (cc same)

-- No component calls an engine.
pub calls_none : (pattern : PatternView PatternRegexp) → IsPatternOfText pattern_engine users_text None default_asked pattern → (texts : Texts) → ¬ CallsAnEngine pattern_result pattern texts
unfolding chars
calls_none pattern is texts calls =
    let (component, (middle, has_middle, holds)) = calls.asked in users_alone pattern is component holds

-- ---- results of calls

pub found_weaker : (P Q : List ℕ → Type 0) → ((id : List ℕ) → P id → Q id) → (found : Option (Bor (List ℕ))) → IfSome found (λ id. P (chars id.now)) → IfSome found (λ id. Q (chars id.now))
found_weaker P Q weaker (Some id) holds = weaker (chars id.now) holds
found_weaker P Q weaker None holds = tt

pub none_weaker : (P Q : Type 0) → (P → Q) → (found : Option (Bor (List ℕ))) → IfNone found P → IfNone found Q
none_weaker P Q weaker (Some id) holds = tt
none_weaker P Q weaker None holds = weaker holds

-- ---- links

-- A text for the group `id` of the path alone.
abbrev pub id_given : (id : List ℕ) → List GivenView
id_given id = record { component = Pathname; name = chars (codes "id"); text = chars id } ∷ []

pub given_id : (id : List ℕ) → text_given (id_given id) Pathname (chars (codes "id")) ≡ Some (chars id)
given_id id =
    ap (λ (same : Bool). if bytes_eq (name_text Pathname) (name_text Pathname) && same then Some (chars id) else None)
    ((bytes_eq-Decides (chars (codes "id")) (chars (codes "id"))).1 refl)

-- The link of the pattern with this text for the group is the URL of the user whose id is the
-- canonical form.
pub linked_user : (pattern : UrlPattern PatternRegexp) (groups : List GivenView) (text : List ℕ) (url : Parts) → IsPatternOfUsers pattern → IsValid url → EachIsLine (texts_of_url url) →
    text_given groups Pathname (chars (codes "id")) ≡ Some text → HasMatch pattern_result (pattern_view pattern) (inputs.Url url) → ReturnsGiven pattern_result pattern groups url → IsUrlOfUser url text
unfolding chars
linked_user pattern groups text url is valid lines given matched returns =
    let kept = is.kept.2 in
    let names = (users_of_parts (pattern_view pattern) is.compiled Pathname).names in
    let has : list_any (bytes_eq (chars (codes "id"))) (pattern_view pattern Pathname).group_name_list ≡ true =
    subst (λ (list : List (List ℕ)). list_any (bytes_eq (chars (codes "id"))) list ≡ true) (sym names) refl in
    let got =
    subst (λ (of : Option PatternParts). MatchOption of ⊥ (λ parts. (value : List ℕ) × ((settings_in parts groups Pathname).canonical text ≡ Ok value)
    × IsCapturedBy pattern_result (pattern_view pattern) url Pathname (chars (codes "id")) value)) kept.has_parts (returns Pathname (chars (codes "id")) text given has) in
    let own = kept_parts (at kept.parts.components Pathname) in
    let canonical : canonical_pathname text ≡ Ok got.0 =
    subst (λ (options : OptionsView). canonical_for Pathname (is_slash_delimiter options.delimiter) (begins_ipv6 own) text ≡ Ok got.0) (users_path pattern is.kept) got.1 in
    (got.0, canonical, user_captured (pattern_view pattern) is.compiled url valid lines got.0 matched got.2)
