-- The texts of a URL of which the rules of a policy are asked.
use Rattle.std.proofs.Common.{◌≡◌, ◌&&◌, ℕ, Bool, true, false, List, MatchBool, Ok, Err, inl, inr, not, refl, subst, sym}
use Rattle.url.specs.Parser.{Parsed}
use Rattle.urlpattern_canonical.specs.Canonical.{canonical_hostname}
use Rattle.urlpattern_compare.specs.TextSearch.{IsLine}
use Rattle.urlpattern_components.specs.Eight.{Texts, at}
use Rattle.urlpattern_components.specs.declared.eight.ComponentName.{ComponentName}
use Rattle.urlpattern_components.specs.declared.eight.ComponentName.TheVariants.{Hash, Hostname, Password, Pathname, Port, Protocol, Search, Username}
use Rattle.urlpattern_matcher.specs.declared.regexp.RegExp.{Ghosts as Engine}
use Rattle.urlpattern_policy_differences.proofs.HostLines.{canonical_line}
use Rattle.urlpattern_policy.specs.Decisions.{DecidesHost, DecidesParsed, DecidesSpelled, DecidesTexts, DecidesUrl, has_credentials, is_host_read, matched_texts}
use Rattle.urlpattern_policy.specs.declared.decision.Decision.{Decision}
use Rattle.urlpattern_policy.specs.declared.decision.Decision.TheVariants.{Allow, Deny}
use Rattle.urlpattern_policy.specs.declared.decision.DenyReason.TheVariants as reasons
use Rattle.urlpattern_policy.specs.declared.policy.PolicyOptions.{PolicyOptions}
use Rattle.urlpattern_policy.specs.declared.policy.UrlPolicy.{UrlPolicy}
use Rattle.urlpattern_policy_differences.proofs.DecidedLemmas.{IsRuled}

-- The texts are those of the URL, with the host that `url` reads if `reads` is true.
abbrev pub IsRead : (reads : Bool) → Texts → Texts → Type 0
IsRead reads texts asked =
    MatchBool reads ((host : List ℕ) × (canonical_hostname texts.hostname ≡ Ok host) × (asked ≡ record texts { hostname = host })) (asked ≡ texts)

-- The texts of which the rules are asked.
abbrev pub AreAsked : PolicyOptions → Texts → Texts → Type 0
AreAsked options texts asked = IsRead (is_host_read options texts) texts asked

hosted_line : (texts : Texts) (host : List ℕ) → ((name : ComponentName) → IsLine (at texts name)) → IsLine host → (name : ComponentName) → IsLine (at (record texts { hostname = host }) name)
hosted_line texts host lines line Protocol = lines Protocol
hosted_line texts host lines line Username = lines Username
hosted_line texts host lines line Password = lines Password
hosted_line texts host lines line Hostname = line
hosted_line texts host lines line Port = lines Port
hosted_line texts host lines line Pathname = lines Pathname
hosted_line texts host lines line Search = lines Search
hosted_line texts host lines line Hash = lines Hash

-- The asked texts are lines, and have a user name or a password if the URL does.
pub record AreFit (texts asked : Texts) : Type 0 where
  pub lines : (name : ComponentName) → IsLine (at asked name)
  pub credentials : has_credentials asked ≡ has_credentials texts

pub fit : (options : PolicyOptions) (texts asked : Texts) → ((name : ComponentName) → IsLine (at texts name)) → AreAsked options texts asked → AreFit texts asked
fit options texts asked lines are = by (is_host_read options texts) are
  where
    by : (reads : Bool) → IsRead reads texts asked → AreFit texts asked
    by true (host, is, same) = subst (AreFit texts) (sym same) (record { lines = hosted_line texts host lines (canonical_line texts.hostname host is); credentials = refl })
    by false same = subst (AreFit texts) (sym same) (record { lines = lines; credentials = refl })

-- A rule decides, or the default allows.
abbrev pub IsByRule : Decision → Type 0
IsByRule (Allow rule) = Unit {0}
IsByRule (Deny (reasons.Rule index)) = Unit {0}
IsByRule decision = ⊥

ruled_by : (decision : Decision) → IsByRule decision → IsRuled decision
ruled_by (Allow rule) by_rule = tt
ruled_by (Deny (reasons.Rule index)) by_rule = tt
ruled_by (Deny reasons.NoRule) by_rule = tt
ruled_by (Deny (reasons.NotAUrl error)) by_rule = tt
ruled_by (Deny reasons.TooLong) by_rule = tt
ruled_by (Deny reasons.Credentials) by_rule = tt
ruled_by (Deny reasons.OutOfMemory) by_rule = by_rule

module _ {E : Type 0} (engine : Engine E) (policy : UrlPolicy E) (texts : Texts) where
  -- What is decided of a URL that is not denied for its user name or its password.
  abbrev pub IsAnswered : Decision → Type 0
  IsAnswered decision = MatchBool (is_host_read policy.options texts) (DecidesHost engine.answer policy texts decision) (DecidesSpelled engine.answer policy texts decision)

  abbrev pub IsRuledBy : Texts → Decision → Type 0
  IsRuledBy asked decision = DecidesTexts engine.answer policy (matched_texts policy.options asked) decision

  spelled_out : (asked : Texts) (decision : Decision) → IsRuled decision → DecidesSpelled engine.answer policy asked decision → IsRuledBy asked decision
  spelled_out asked decision ruled (inl is) = is
  spelled_out asked decision ruled (inr memory) = absurd (subst IsRuled memory.0 ruled)

  -- What a rule decides, or a default that allows, is decided by rules asked of some texts.
  pub asked_of : (decision : Decision) → IsByRule decision → IsAnswered decision → (asked : Texts) × AreAsked policy.options texts asked × IsRuledBy asked decision
  asked_of decision by_rule answered = by (is_host_read policy.options texts) answered
    where
      read : (parsed : Parsed (List ℕ)) → canonical_hostname texts.hostname ≡ parsed
          → DecidesParsed (λ host. DecidesSpelled engine.answer policy (record texts { hostname = host })) parsed decision → (asked : Texts) × IsRead true texts asked × IsRuledBy asked decision
      read (Ok host) e (inl is) = (record texts { hostname = host }, (host, e, refl), spelled_out (record texts { hostname = host }) decision (ruled_by decision by_rule) is)
      read (Ok host) e (inr memory) = absurd (subst IsByRule memory by_rule)
      read (Err reason) e (inl rejected) = absurd (subst IsByRule rejected by_rule)
      read (Err reason) e (inr memory) = absurd (subst IsByRule memory by_rule)

      by : (reads : Bool) → MatchBool reads (DecidesHost engine.answer policy texts decision) (DecidesSpelled engine.answer policy texts decision) → (asked : Texts) × IsRead reads texts asked × IsRuledBy asked decision
      by true host = read (canonical_hostname texts.hostname) refl host
      by false spelled = (texts, refl, spelled_out texts decision (ruled_by decision by_rule) spelled)

  -- A URL that a rule decides about has no user name and no password that the policy denies.
  pub answered_url : (decision : Decision) → IsByRule decision → DecidesUrl engine.answer policy texts decision → ((policy.options.denies_credentials && has_credentials texts) ≡ false) × IsAnswered decision
  answered_url decision by_rule decides = by (policy.options.denies_credentials && has_credentials texts) decides
    where
      by : (has : Bool) → MatchBool has (decision ≡ Deny reasons.Credentials) (IsAnswered decision) → (has ≡ false) × IsAnswered decision
      by true never = absurd (subst IsByRule never by_rule)
      by false answered = (refl, answered)

  -- What is decided is decided by rules that are asked of these texts.
  pub ruled_of : (asked : Texts) (decision : Decision) → IsRuled decision → AreAsked policy.options texts asked → IsAnswered decision → IsRuledBy asked decision
  ruled_of asked decision ruled are answered = by (is_host_read policy.options texts) are answered
    where
      by : (reads : Bool) → IsRead reads texts asked
          → MatchBool reads (DecidesHost engine.answer policy texts decision) (DecidesSpelled engine.answer policy texts decision) → IsRuledBy asked decision
      by true (host, is, same) parsed =
          subst (λ (t : Texts). IsRuledBy t decision) (sym same)
          (elim (subst (λ (it : Parsed (List ℕ)). DecidesParsed (λ one. DecidesSpelled engine.answer policy (record texts { hostname = one })) it decision) is parsed) [
            | inl spelled ↦ spelled_out (record texts { hostname = host }) decision ruled spelled
            | inr memory ↦ absurd (subst IsRuled memory ruled)
          ])
      by false same spelled = subst (λ (t : Texts). IsRuledBy t decision) (sym same) (spelled_out texts decision ruled spelled)
