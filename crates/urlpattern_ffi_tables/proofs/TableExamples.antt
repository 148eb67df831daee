-- Worked examples of policies, routes and methods.
use Rattle.std.proofs.Common.{◌≡◌, ◌≢◌, ℕ, Bool, true, false, List, [], ◌∷◌, MatchBool, None, Some, Ok, Err, ap, codes, inl, inr, refl, sym}
use Rattle.std.specs.Borrow.{Bor}
use Rattle.std.specs.List.{join_by}
use Rattle.url.specs.Parser.{Parsed}
use Rattle.url.specs.Parts.{Parts}
use Rattle.urlpattern_canonical.specs.Canonical.{canonical_hostname}
use Rattle.urlpattern_components.specs.Eight.{Texts}
use Rattle.urlpattern_engine.specs.PatternRegexps.{pattern_result}
use Rattle.urlpattern_ffi.specs.Calls.{IsUrlUnderBase}
use Rattle.urlpattern_ffi.specs.declared.status.Status.{Status}
use Rattle.urlpattern_ffi.specs.declared.status.Status.TheVariants as statuses
use Rattle.urlpattern_ffi_tables.proofs.RouteLemmas.{no_token}
use Rattle.urlpattern_ffi_tables.specs.AddedRoutes.{TakesRoute}
use Rattle.urlpattern_ffi_tables.specs.KeptPolicies.{Policy, no_rules}
use Rattle.urlpattern_ffi_tables.specs.KeptRouters.{Router}
use Rattle.urlpattern_ffi_tables.specs.Verdicts.{IsDecided, refusal_of, verdict_of}
use Rattle.urlpattern_ffi_tables.specs.declared.deciding.Verdict.TheVariants as verdicts
use Rattle.urlpattern_init.specs.Inheritance.{texts_of_url}
use Rattle.urlpattern_policy.specs.DecisionWords.{is_allow}
use Rattle.urlpattern_policy.specs.Decisions.{DecidesParsed, DecidesSpelled, DecidesTexts, DecidesUrl, has_opaque_host, matched_texts}
use Rattle.urlpattern_policy.specs.PolicyWords.{strict_options}
use Rattle.urlpattern_policy.specs.declared.decision.Decision.{Decision}
use Rattle.urlpattern_policy.specs.declared.decision.Decision.TheVariants.{Allow, Deny}
use Rattle.urlpattern_policy.specs.declared.decision.DenyReason.TheVariants as reasons

-- ---- the policy of an empty handle denies every URL

texts_denied : (texts : Texts) (decision : Decision) → DecidesTexts pattern_result no_rules texts decision → is_allow decision ≡ false
texts_denied texts (Allow (Some index)) first = absurd (cc first.decides)
texts_denied texts (Allow None) default = absurd (cc default.decides)
texts_denied texts (Deny reason) denied = refl

spelled_denied : (texts : Texts) (decision : Decision) → DecidesSpelled pattern_result no_rules texts decision → is_allow decision ≡ false
spelled_denied texts decision (inl decides) = texts_denied (matched_texts strict_options texts) decision decides
spelled_denied texts decision (inr (is, respelled)) = ap is_allow is

parsed_denied : {T : Type 0} → (Decides : T → Decision → Type 0) (parsed : Parsed T) (decision : Decision) → ((value : T) → Decides value decision → is_allow decision ≡ false) → DecidesParsed Decides parsed decision → is_allow decision ≡ false
parsed_denied Decides (Ok value) decision denied (inl decides) = denied value decides
parsed_denied Decides (Ok value) decision denied (inr is) = ap is_allow is
parsed_denied Decides (Err reason) decision denied (inl is) = ap is_allow is
parsed_denied Decides (Err reason) decision denied (inr is) = ap is_allow is

of_either : (test : Bool) (P Q R : Type 0) → (P → R) → (Q → R) → MatchBool test P Q → R
of_either true P Q R of_p of_q fact = of_p fact
of_either false P Q R of_p of_q fact = of_q fact

url_denied : (texts : Texts) (decision : Decision) → DecidesUrl pattern_result no_rules texts decision → is_allow decision ≡ false
url_denied texts decision =
    of_either (has_opaque_host texts) _ _ (is_allow decision ≡ false)
    (parsed_denied (λ host. DecidesSpelled pattern_result no_rules (record texts { hostname = host })) (canonical_hostname texts.hostname) decision (λ host. spelled_denied (record texts { hostname = host }) decision))
    (spelled_denied texts decision)

-- ---- only a decision to allow has the verdict `Allow`

verdict_allows : (decision : Decision) → verdict_of decision ≡ verdicts.Allow → is_allow decision ≡ true
verdict_allows (Allow rule) is = refl
verdict_allows (Deny (reasons.Rule index)) is = absurd (cc is)
verdict_allows (Deny reasons.NoRule) is = absurd (cc is)
verdict_allows (Deny (reasons.NotAUrl error)) is = absurd (cc is)
verdict_allows (Deny reasons.TooLong) is = absurd (cc is)
verdict_allows (Deny reasons.Credentials) is = absurd (cc is)
verdict_allows (Deny reasons.OutOfMemory) is = absurd (cc is)

refusal_denies : (status : Status) → refusal_of status ≢ verdicts.Allow
refusal_denies statuses.NoUrl is = cc is
refusal_denies statuses.TooLong is = cc is
refusal_denies statuses.NotUtf8 is = cc is
refusal_denies status is = cc is

-- The text is a URL, and the policy decides to allow it.
abbrev IsAllowed : Policy → (text base : List ℕ) → Type 0
IsAllowed policy text base =
    (url : Parts) × (decision : Decision) × IsUrlUnderBase text base url
    × DecidesUrl pattern_result policy (texts_of_url url) decision
    × (is_allow decision ≡ true)

only_urls_allowed : (policy : Policy) (text base : List ℕ) (rule : ℕ) → IsDecided policy text base rule verdicts.Allow → IsAllowed policy text base
only_urls_allowed policy text base rule (inl (url, decision, is_url, decides, is, at)) = (url, decision, is_url, decides, verdict_allows decision (sym is))
only_urls_allowed policy text base rule (inr (status, none, is, at)) = absurd (refusal_denies status (sym is))

-- ---- routes

-- A route with a name has a method.
named_without_method : (router : Router) (byte : ℕ) (bytes : List ℕ) → ¬ TakesRoute router (byte ∷ bytes) []
named_without_method router byte bytes takes = no_token takes.1

-- A route without a name and without a method serves every method.
unnamed_without_method : (router : Router) → TakesRoute router [] []
unnamed_without_method router = tt

-- ---- methods

joined_methods : (get post : Bor (List ℕ)) → get.now ≡ codes "GET" → post.now ≡ codes "POST" → join_by (λ method. method.now) (codes ", ") (get ∷ post ∷ []) ≡ codes "GET, POST"
joined_methods get post is_get is_post = rw (is_get, is_post) refl
