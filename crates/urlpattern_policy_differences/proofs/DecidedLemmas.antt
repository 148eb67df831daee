-- What a policy decides, by its automata.
use Rattle.std.proofs.Common.{◌≡◌, ◌≢◌, ◌∙◌, ◌⊎◌, ◌<◌, ◌&&◌, ◌||◌, ℕ, zero, suc, All, Bool, true, false, true≢false, List, [], ◌∷◌, ◌++◌, MatchBool, None, Option, Some, ap, arith, inl, inr, length, map, not, refl, slice_get, subst, sym, take}
use Rattle.std.proofs.lemmas.List.{map-append}
use Rattle.std.proofs.lemmas.List.Elements.{All-append, All-cons, All-head, All-nil, All-tail}
use Rattle.std.specs.Map.{keys_of, values_of}
use Rattle.std.specs.Prelude.{IsTrue, unwrap_or, if◌then◌else◌}
use Rattle.urlpattern_compare.proofs.CandidateLemmas.{name_cases}
use Rattle.urlpattern_compare.proofs.ComponentLemmas.{wildcard_means}
use Rattle.urlpattern_compare.specs.Candidates.{AreLines, TextAt}
use Rattle.urlpattern_compare.specs.CommonTexts.{MeansEach, PatternMeaning, parts_of}
use Rattle.urlpattern_compare.specs.Comparing.{IsKnown, MeansIn}
use Rattle.urlpattern_compare.specs.TextSearch.{IsLine}
use Rattle.urlpattern_compare.specs.declared.common_texts.PatternAutomata.{PatternAutomata}
use Rattle.urlpattern_compare.specs.declared.pattern_parts.PatternParts.{PatternParts}
use Rattle.urlpattern_components.specs.Eight.{Texts, at}
use Rattle.urlpattern_components.specs.declared.eight.ComponentName.{ComponentName}
use Rattle.urlpattern_components.specs.declared.eight.ComponentName.TheVariants.{Password, Username}
use Rattle.urlpattern_differences.proofs.WrittenLemmas.{full_not_custom, known_wildcard, means_in, means_out, segment_means, segment_not_custom, segment_some, written_match}
use Rattle.urlpattern_differences.specs.Credentials.{DeniesCredentials, IsWritten}
use Rattle.urlpattern_differences.specs.Deciding.{IsFirst, effect_of}
use Rattle.urlpattern_differences.specs.declared.rules.Effect.{Effect}
use Rattle.urlpattern_differences.specs.declared.rules.Effect.TheVariants as effects
use Rattle.urlpattern_differences.specs.declared.rules.PolicyAutomata.{PolicyAutomata}
use Rattle.urlpattern_matcher.specs.declared.regexp.RegExp.{Ghosts as Engine}
use Rattle.urlpattern_policy_differences.proofs.MeantLemmas.{IsMeant, IsTold, meant_are, meant_at, meant_by, meant_parts, none_meant, none_meant_at_all}
use Rattle.urlpattern_policy_differences.specs.Comparing.{AppendsRules, IsEmpty}
use Rattle.urlpattern_policy.specs.Decisions.{DecidesTexts, IsDefault, IsFirstRule, has_credentials}
use Rattle.urlpattern_policy.specs.declared.decision.Decision.{Decision}
use Rattle.urlpattern_policy.specs.declared.decision.Decision.TheVariants.{Allow, Deny}
use Rattle.urlpattern_policy.specs.declared.decision.DenyReason.TheVariants as reasons
use Rattle.urlpattern_policy.specs.declared.policy.PolicyOptions.{PolicyOptions}
use Rattle.urlpattern_policy.specs.declared.policy.UrlPolicy.{UrlPolicy}
use Rattle.urlpattern_syntax.specs.RegexpText.{is_empty}
use Rattle.urlpattern_syntax.specs.Options.{default_options}

empty_is : (text : List ℕ) → is_empty text ≡ true → text ≡ []
empty_is [] is = refl
empty_is (c ∷ text) is = absurd (true≢false (sym is))

some_is : (text : List ℕ) → is_empty text ≡ false → text ≢ []
some_is [] is none = true≢false is
some_is (c ∷ text) is none = absurd cc

-- ---- a pattern of which one component is written

abbrev means_by : (written name : ComponentName) → ((name ≡ written) ⊎ ¬ (name ≡ written)) → List ℕ → Bool
means_by written name (inl same) text = not (is_empty text)
means_by written name (inr other) text = true

module _ (written : ComponentName) (parts : PatternParts) (is : IsWritten written parts) where
  abbrev pub written_meaning : PatternMeaning
  written_meaning = record { parts = parts; means = λ name text. means_by written name (name_cases name written) text }

  known_at : (name : ComponentName) → ((name ≡ written) ⊎ ¬ (name ≡ written)) → IsKnown (at parts.components name)
  known_at name (inl same) = known_wildcard _ (at parts.components name) ((is name).itself same) segment_not_custom
  known_at name (inr other) = known_wildcard _ (at parts.components name) ((is name).others other) full_not_custom

  segment_in : (name : ComponentName) → name ≡ written → (text : List ℕ) → IsLine text → (empty : Bool) → is_empty text ≡ empty → not empty ≡ true → MeansIn (at parts.components name) text
  segment_in name same text line true e never = absurd (true≢false (sym never))
  segment_in name same text line false e some = means_in _ (at parts.components name) ((is name).itself same) text (segment_means text (some_is text e) line.plain)

  segment_out : (name : ComponentName) → name ≡ written → (text : List ℕ) → MeansIn (at parts.components name) text → (empty : Bool) → is_empty text ≡ empty → not empty ≡ true
  segment_out name same text means false e = refl
  segment_out name same text means true e =
      absurd (segment_some (means_out _ (at parts.components name) ((is name).itself same) [] (subst (MeansIn (at parts.components name)) (empty_is text e) means)))

  means_at : (name : ComponentName) (case : (name ≡ written) ⊎ ¬ (name ≡ written)) (text : List ℕ) → IsLine text
      → (IsTrue (means_by written name case text) → MeansIn (at parts.components name) text) × (MeansIn (at parts.components name) text → IsTrue (means_by written name case text))
  means_at name (inl same) text line = (λ some. segment_in name same text line (is_empty text) refl some, λ means. segment_out name same text means (is_empty text) refl)
  means_at name (inr other) text line =
      (λ on_both. means_in _ (at parts.components name) ((is name).others other) text (wildcard_means default_options text line.plain), λ means. refl)

  pub written_told : IsTold written_meaning
  written_told = record {
    known = λ name. known_at name (name_cases name written);
    by_parts = λ name known text line. means_at name (name_cases name written) text line;
  }

-- ---- the rules before those of a policy

-- Rules that deny credentials, if the options say so.
pub record AreFronts {E : Type 0} (engine : Engine E) (options : PolicyOptions) (opening : PolicyAutomata) : Type 0 where
  pub fronts : List PatternMeaning
  pub are : All (IsMeant engine) fronts
  pub own_parts : map (λ it. it.parts) fronts ≡ parts_of opening.patterns.items
  pub denied : opening.effects.items ≡ map (λ it. effects.Deny) fronts
  pub default : opening.default ≡ options.default
  pub count : length fronts ≡ (if options.denies_credentials then 2 else 0)
  pub fail : (texts : Texts) → AreLines (λ name. at texts name) → (options.denies_credentials && has_credentials texts) ≡ false → All (λ it. ¬ MeansEach it (λ name. at texts name)) fronts
  pub deny : (texts : Texts) → AreLines (λ name. at texts name) → (options.denies_credentials && has_credentials texts) ≡ true
      → (i : ℕ) × (i < length fronts) × IsFirst fronts (λ name. at texts name) (Some i)

module _ {E : Type 0} (engine : Engine E) (options : PolicyOptions) (empty opening : PolicyAutomata) (is_empty_policy : IsEmpty options.default empty) where
  no_fronts : options.denies_credentials ≡ false → opening ≡ empty → AreFronts engine options opening
  no_fronts off same = record {
    fronts = [];
    are = All-nil (IsMeant engine);
    own_parts = sym (ap parts_of (ap (λ (it : PolicyAutomata). it.patterns.items) same ∙ is_empty_policy.patterns));
    denied = ap (λ (it : PolicyAutomata). it.effects.items) same ∙ is_empty_policy.effects;
    default = ap (λ (it : PolicyAutomata). it.default) same ∙ is_empty_policy.default;
    count = sym (ap (λ (denies : Bool). if denies then 2 else 0) off);
    fail = λ texts lines without. All-nil (λ it. ¬ MeansEach it (λ name. at texts name));
    deny = λ texts lines on_both. absurd (true≢false (sym on_both ∙ ap (λ (denies : Bool). denies && has_credentials texts) off));
  }

  module _ (on : options.denies_credentials ≡ true) (username password : PatternAutomata) (user : IsWritten Username username.parts) (pass : IsWritten Password password.parts) where
    abbrev users : PatternMeaning
    users = written_meaning Username username.parts user

    abbrev passwords : PatternMeaning
    passwords = written_meaning Password password.parts pass

    user_meant : (texts : Texts) → AreLines (λ name. at texts name) → is_empty texts.username ≡ false → MeansEach users (λ name. at texts name)
    user_meant texts lines some = (written_match Username users user (written_told Username username.parts user).by_parts (λ name. at texts name) lines).1 (some_is texts.username some)

    user_fails : (texts : Texts) → AreLines (λ name. at texts name) → is_empty texts.username ≡ true → ¬ MeansEach users (λ name. at texts name)
    user_fails texts lines none each = (written_match Username users user (written_told Username username.parts user).by_parts (λ name. at texts name) lines).0 each (empty_is texts.username none)

    pass_meant : (texts : Texts) → AreLines (λ name. at texts name) → is_empty texts.password ≡ false → MeansEach passwords (λ name. at texts name)
    pass_meant texts lines some = (written_match Password passwords pass (written_told Password password.parts pass).by_parts (λ name. at texts name) lines).1 (some_is texts.password some)

    pass_fails : (texts : Texts) → AreLines (λ name. at texts name) → is_empty texts.password ≡ true → ¬ MeansEach passwords (λ name. at texts name)
    pass_fails texts lines none each = (written_match Password passwords pass (written_told Password password.parts pass).by_parts (λ name. at texts name) lines).0 each (empty_is texts.password none)

    both_fail : (texts : Texts) → AreLines (λ name. at texts name) → has_credentials texts ≡ false → All (λ it. ¬ MeansEach it (λ name. at texts name)) (users ∷ passwords ∷ [])
    both_fail texts lines without = by (is_empty texts.username) refl (is_empty texts.password) refl without
      where
        by : (user_empty : Bool) → is_empty texts.username ≡ user_empty → (pass_empty : Bool) → is_empty texts.password ≡ pass_empty → (not user_empty || not pass_empty) ≡ false
            → All (λ it. ¬ MeansEach it (λ name. at texts name)) (users ∷ passwords ∷ [])
        by true e true f none =
            All-cons (λ it. ¬ MeansEach it (λ name. at texts name)) users (passwords ∷ []) (user_fails texts lines e)
            (All-cons (λ it. ¬ MeansEach it (λ name. at texts name)) passwords [] (pass_fails texts lines f) (All-nil (λ it. ¬ MeansEach it (λ name. at texts name))))
        by true e false f none = absurd (true≢false none)
        by false e pass_empty f none = absurd (true≢false none)

    one_denies : (texts : Texts) → AreLines (λ name. at texts name) → has_credentials texts ≡ true
        → (i : ℕ) × (i < length (users ∷ passwords ∷ [])) × IsFirst (users ∷ passwords ∷ []) (λ name. at texts name) (Some i)
    one_denies texts lines on_both = by (is_empty texts.username) refl (is_empty texts.password) refl on_both
      where
        by : (user_empty : Bool) → is_empty texts.username ≡ user_empty → (pass_empty : Bool) → is_empty texts.password ≡ pass_empty → (not user_empty || not pass_empty) ≡ true
            → (i : ℕ) × (i < length (users ∷ passwords ∷ [])) × IsFirst (users ∷ passwords ∷ []) (λ name. at texts name) (Some i)
        by false e pass_empty f some = (0, omega arith, ((users, refl, user_meant texts lines e), All-nil (λ it. ¬ MeansEach it (λ name. at texts name))))
        by true e false f some = (
          1,
          omega arith,
          (
            (passwords, refl, pass_meant texts lines f),
            All-cons (λ it. ¬ MeansEach it (λ name. at texts name)) users [] (user_fails texts lines e) (All-nil (λ it. ¬ MeansEach it (λ name. at texts name))),
          ),
        )
        by true e true f some = absurd (true≢false (sym some))

    two_fronts : opening.patterns.items ≡ username ∷ password ∷ [] → opening.effects.items ≡ effects.Deny ∷ effects.Deny ∷ [] → opening.default ≡ options.default → AreFronts engine options opening
    two_fronts patterns own default = record {
      fronts = users ∷ passwords ∷ [];
      are = All-cons (IsMeant engine) users (passwords ∷ []) (inr (written_told Username username.parts user))
          (All-cons (IsMeant engine) passwords [] (inr (written_told Password password.parts pass)) (All-nil (IsMeant engine)));
      own_parts = sym (ap parts_of patterns);
      denied = own;
      default = default;
      count = sym (ap (λ (denies : Bool). if denies then 2 else 0) on);
      fail = λ texts lines without. both_fail texts lines (sym (ap (λ (denies : Bool). denies && has_credentials texts) on) ∙ without);
      deny = λ texts lines on_both. one_denies texts lines (sym (ap (λ (denies : Bool). denies && has_credentials texts) on) ∙ on_both);
    }

  pub fronts_of : MatchBool options.denies_credentials (DeniesCredentials empty opening) (opening ≡ empty) → AreFronts engine options opening
  fronts_of by_option = by options.denies_credentials refl by_option
    where
      by : (denies : Bool) → options.denies_credentials ≡ denies → MatchBool denies (DeniesCredentials empty opening) (opening ≡ empty) → AreFronts engine options opening
      by false off same = no_fronts off same
      by true on (username, password, between, user, a, pass, b, first, second) =
          two_fronts on username password user pass
          (second.patterns ∙ ap (λ l. l ++ password ∷ []) (first.patterns ∙ ap (λ l. l ++ username ∷ []) is_empty_policy.patterns))
          (second.effects ∙ ap (λ l. l ++ effects.Deny ∷ []) (first.effects ∙ ap (λ l. l ++ effects.Deny ∷ []) is_empty_policy.effects))
          (second.default ∙ first.default ∙ is_empty_policy.default)

-- ---- rules after others

-- The index, after those of other rules.
abbrev pub shifted : {X : Type 0} → List X → ℕ → ℕ
shifted [] i = i
shifted (it ∷ front) i = suc (shifted front i)

module _ (texts : TextAt) where
  abbrev Fails : PatternMeaning → Type 0
  Fails it = ¬ MeansEach it texts

  pub within_front : (front rest : List PatternMeaning) (i : ℕ) → IsFirst front texts (Some i) → IsFirst (front ++ rest) texts (Some i)
  within_front [] rest i first = absurd (let there = first.0.1 in cc)
  within_front (it ∷ front) rest zero first = (first.0, All-nil Fails)
  within_front (it ∷ front) rest (suc i) first =
      let later = within_front front rest i ((first.0), All-tail Fails it (take i front) first.1) in
      (later.0, All-cons Fails it (take i (front ++ rest)) (All-head Fails it (take i front) first.1) later.1)

  after_front : (front rest : List PatternMeaning) (i : ℕ) → All Fails front → IsFirst rest texts (Some i) → IsFirst (front ++ rest) texts (Some (shifted front i))
  after_front [] rest i fails first = first
  after_front (it ∷ front) rest i fails first =
      let later = after_front front rest i (All-tail Fails it front fails) first in
      (later.0, All-cons Fails it (take (shifted front i) (front ++ rest)) (All-head Fails it front fails) later.1)

pub front_effect : (front : List PatternMeaning) (own : List Effect) (default : Effect) (i : ℕ) → i < length front → unwrap_or (slice_get (map (λ it. effects.Deny) front ++ own) i) default ≡ effects.Deny
front_effect [] own default i lt = absurd (omega (arith, lt))
front_effect (it ∷ front) own default zero lt = refl
front_effect (it ∷ front) own default (suc i) lt = front_effect front own default i (omega (arith, lt))

pub after_effect : (front : List PatternMeaning) (own : List Effect) (default : Effect) (i : ℕ) → unwrap_or (slice_get (map (λ it. effects.Deny) front ++ own) (shifted front i)) default ≡ unwrap_or (slice_get own i) default
after_effect [] own default i = refl
after_effect (it ∷ front) own default i = after_effect front own default i

-- ---- what a policy decides, by its automata

-- What a decision on a URL is.
abbrev pub effect_by : Decision → Effect
effect_by (Allow rule) = effects.Allow
effect_by (Deny reason) = effects.Deny

abbrev pub IsRuled : Decision → Type 0
IsRuled (Deny reasons.OutOfMemory) = ⊥
IsRuled decision = Unit {0}

module _ {E : Type 0} (engine : Engine E) (policy : UrlPolicy E) (automata : PolicyAutomata) (opening : PolicyAutomata) (fronts : AreFronts engine policy.options opening) (appended : AppendsRules engine policy.rules opening automata) where
  abbrev pub all : List PatternMeaning
  all = fronts.fronts ++ meant_by engine (keys_of policy.rules) appended.own

  pub all_parts : map (λ it. it.parts) all ≡ parts_of automata.patterns.items
  all_parts =
      map-append (λ (it : PatternMeaning). it.parts) fronts.fronts (meant_by engine (keys_of policy.rules) appended.own)
      ∙ ap (λ l. l ++ map (λ (it : PatternMeaning). it.parts) (meant_by engine (keys_of policy.rules) appended.own)) fronts.own_parts
      ∙ ap (λ l. parts_of opening.patterns.items ++ l) (meant_parts engine (keys_of policy.rules) appended.own appended.have)
      ∙ sym (ap parts_of appended.patterns ∙ map-append (λ (it : PatternAutomata). it.parts) opening.patterns.items appended.own)

  pub all_are : All (IsMeant engine) all
  all_are = All-append (IsMeant engine) fronts.fronts (meant_by engine (keys_of policy.rules) appended.own) fronts.are (meant_are engine (keys_of policy.rules) appended.own appended.have)

  pub all_effects : automata.effects.items ≡ map (λ it. effects.Deny) fronts.fronts ++ values_of policy.rules
  all_effects = appended.effects ∙ ap (λ l. l ++ values_of policy.rules) fronts.denied

  module _ (texts : Texts) (lines : AreLines (λ name. at texts name)) where
    abbrev Decided : Effect → Type 0
    Decided effect = (first : Option ℕ) × IsFirst all (λ name. at texts name) first × (effect_of automata first ≡ effect)

    by_rule : (index : ℕ) (effect : Effect) → (policy.options.denies_credentials && has_credentials texts) ≡ false → IsFirstRule engine.answer policy.rules texts index effect → Decided effect
    by_rule index effect none is =
        let (view, there, matched) = is.matches in
        let own = meant_by engine (keys_of policy.rules) appended.own in
        let first : IsFirst own (λ name. at texts name) (Some index) = (
          meant_at engine (λ name. at texts name) (keys_of policy.rules) appended.own appended.have index view there matched,
          none_meant engine (λ name. at texts name) (keys_of policy.rules) appended.own appended.have index is.first,
        ) in (
          Some (shifted fronts.fronts index),
          after_front (λ name. at texts name) fronts.fronts own index (fronts.fail texts lines none) first,
          ap (λ (them : List Effect). unwrap_or (slice_get them (shifted fronts.fronts index)) automata.default) all_effects
              ∙ after_effect fronts.fronts (values_of policy.rules) automata.default index ∙ ap (λ (found : Option Effect). unwrap_or found automata.default) is.decides,
        )

    by_default : (effect : Effect) → (policy.options.denies_credentials && has_credentials texts) ≡ false → IsDefault engine.answer policy texts effect → Decided effect
    by_default effect none is = (
      None,
      All-append (λ it. ¬ MeansEach it (λ name. at texts name)) fronts.fronts (meant_by engine (keys_of policy.rules) appended.own) (fronts.fail texts lines none)
          (none_meant_at_all engine (λ name. at texts name) (keys_of policy.rules) appended.own appended.have is.none),
      appended.default ∙ fronts.default ∙ is.decides,
    )

    pub by_texts : (decision : Decision) → IsRuled decision → (policy.options.denies_credentials && has_credentials texts) ≡ false → DecidesTexts engine.answer policy texts decision → Decided (effect_by decision)
    by_texts (Allow (Some index)) ruled none is = by_rule index effects.Allow none is
    by_texts (Allow None) ruled none is = by_default effects.Allow none is
    by_texts (Deny (reasons.Rule index)) ruled none is = by_rule index effects.Deny none is
    by_texts (Deny reasons.NoRule) ruled none is = by_default effects.Deny none is
    by_texts (Deny (reasons.NotAUrl error)) ruled none is = absurd is
    by_texts (Deny reasons.TooLong) ruled none is = absurd is
    by_texts (Deny reasons.Credentials) ruled none is = absurd is
    by_texts (Deny reasons.OutOfMemory) ruled none is = absurd ruled

    pub by_credentials : (policy.options.denies_credentials && has_credentials texts) ≡ true → Decided effects.Deny
    by_credentials on_both =
        let (i, within, first) = fronts.deny texts lines on_both in (
          Some i,
          within_front (λ name. at texts name) fronts.fronts (meant_by engine (keys_of policy.rules) appended.own) i first,
          ap (λ (them : List Effect). unwrap_or (slice_get them i) automata.default) all_effects ∙ front_effect fronts.fronts (values_of policy.rules) automata.default i within,
        )
