-- Percent-encoded values are unchanged if they are encoded again.
use Rattle.std.proofs.Common.{◌≡◌, ◌∙◌, ℕ, true, not, List, [], ◌∷◌, All, Some, Ok, ap, refl, subst, sym}
use Rattle.std.proofs.lemmas.List.Elements.{All-weaker}
use Rattle.std.specs.Prelude.{encode_utf8_all, unwrap_or}
use Rattle.std.specs.Str.{chars}
use Rattle.percent_encoding.proofs.PercentLemmas.{percent_encode_unchanged}
use Rattle.percent_encoding.specs.AsciiSet.{contains}
use Rattle.percent_encoding.specs.Percent.{IsKept, percent_encode}
use Rattle.percent_encoding.specs.declared.ascii_set.AsciiSet.{AsciiSet}
use Rattle.url.proofs.InputLemmas.{Passes}
use Rattle.url.proofs.SetLemmas.{encoded_is_kept, is_escape_byte, outside_pass, passes_from_kept, passing_outside}
use Rattle.url.specs.Input.{strip_tabs_and_new_lines}
use Rattle.url.specs.Parser.{Parsed, and_then}
use Rattle.url.specs.Scheme.{default_port, scheme_type}
use Rattle.url.specs.Setters as setters
use Rattle.url.specs.declared.sets.TheConstants.{FRAGMENT, SPECIAL_QUERY, USERINFO}
use Rattle.urlpattern_canonical.proofs.CanonicalLemmas.{after-ok}
use Rattle.urlpattern_canonical.specs.Canonical.{canonical, canonical_hash, canonical_password, canonical_search, canonical_username, dummy_url, get_after_set}
use Rattle.urlpattern_generate.proofs.SetTexts.{AreVisible, by_bytes, dummy, dummy_is, hash_kept, is_visible, search_kept}
use Rattle.urlpattern_laws.specs.CanonicalLaws.{AreCanonicalAgain}

-- Values that are made canonical by `made` are canonical again, if it leaves them as they are.
again : (ask : List ℕ → Parsed (List ℕ)) (made : List ℕ → List ℕ) → ((value : List ℕ) → ask value ≡ Ok (made value)) → ((value : List ℕ) → AreVisible (made value)) → ((value : List ℕ) → ask (made value) ≡ Ok (made value))
    → AreCanonicalAgain (canonical ask)
again ask made is visible kept [] value e =
    let none : [] ≡ value = cc e in
    subst (λ (own : List ℕ). canonical ask own ≡ Ok own) none refl
again ask made is visible kept (c ∷ text) value e =
    let bytes = encode_utf8_all (c ∷ text) in
    let same = sym (ap (λ (parsed : Parsed (List ℕ)). and_then parsed (λ answer. Ok (chars answer))) (is bytes)) ∙ e in
    let one : chars (made bytes) ≡ value = cc same in
    subst (λ (own : List ℕ). canonical ask own ≡ Ok own) one (by_bytes ask (made bytes) (visible bytes) (kept bytes))

-- ---- encoded values

module _ (set : AsciiSet) (passes : outside_pass set is_visible ≡ true) (within : outside_pass set (λ b. not (contains set b)) ≡ true) (escapes : passing_outside is_escape_byte set ≡ true) where
  encoded_kept : (bytes : List ℕ) → All (IsKept set) (percent_encode set bytes)
  encoded_kept bytes = encoded_is_kept set set within escapes bytes

  encoded_visible : (bytes : List ℕ) → AreVisible (percent_encode set bytes)
  encoded_visible bytes = All-weaker (IsKept set) (Passes is_visible) (passes_from_kept set is_visible passes) (percent_encode set bytes) (encoded_kept bytes)

-- ---- search and hash

abbrev ask_search : List ℕ → Parsed (List ℕ)
ask_search value = get_after_set dummy_url (λ url. Ok (setters.set_query url (Some value))) (λ url. unwrap_or url.query [])

abbrev made_search : List ℕ → List ℕ
made_search value = percent_encode SPECIAL_QUERY (strip_tabs_and_new_lines value)

search_is : (value : List ℕ) → ask_search value ≡ Ok (made_search value)
unfolding scheme_type default_port
search_is value = after-ok dummy_url (λ url. Ok (setters.set_query url (Some value))) (λ url. unwrap_or url.query []) dummy (setters.set_query dummy (Some value)) dummy_is refl

pub search_again : AreCanonicalAgain canonical_search
search_again =
    again ask_search made_search search_is (λ value. encoded_visible SPECIAL_QUERY refl refl refl (strip_tabs_and_new_lines value))
    (λ value. search_kept (made_search value) (encoded_visible SPECIAL_QUERY refl refl refl (strip_tabs_and_new_lines value)) (encoded_kept SPECIAL_QUERY refl refl refl (strip_tabs_and_new_lines value)))

abbrev ask_hash : List ℕ → Parsed (List ℕ)
ask_hash value = get_after_set dummy_url (λ url. Ok (setters.set_fragment url (Some value))) (λ url. unwrap_or url.fragment [])

abbrev made_hash : List ℕ → List ℕ
made_hash value = percent_encode FRAGMENT (strip_tabs_and_new_lines value)

hash_is : (value : List ℕ) → ask_hash value ≡ Ok (made_hash value)
hash_is value = after-ok dummy_url (λ url. Ok (setters.set_fragment url (Some value))) (λ url. unwrap_or url.fragment []) dummy (setters.set_fragment dummy (Some value)) dummy_is refl

pub hash_again : AreCanonicalAgain canonical_hash
hash_again =
    again ask_hash made_hash hash_is (λ value. encoded_visible FRAGMENT refl refl refl (strip_tabs_and_new_lines value))
    (λ value. hash_kept (made_hash value) (encoded_visible FRAGMENT refl refl refl (strip_tabs_and_new_lines value)) (encoded_kept FRAGMENT refl refl refl (strip_tabs_and_new_lines value)))

-- ---- credentials

abbrev made_word : List ℕ → List ℕ
made_word value = percent_encode USERINFO value

word_same : (value : List ℕ) → made_word (made_word value) ≡ made_word value
word_same value = percent_encode_unchanged USERINFO (made_word value) (encoded_kept USERINFO refl refl refl value)

abbrev ask_username : List ℕ → Parsed (List ℕ)
ask_username value = get_after_set dummy_url (λ url. setters.set_username url value) (λ url. url.username)

username_is : (value : List ℕ) → ask_username value ≡ Ok (made_word value)
unfolding scheme_type default_port
username_is value = after-ok dummy_url (λ url. setters.set_username url value) (λ url. url.username) dummy (record dummy { username = made_word value }) dummy_is refl

pub username_again : AreCanonicalAgain canonical_username
username_again =
    again ask_username made_word username_is (encoded_visible USERINFO refl refl refl) (λ value. username_is (made_word value) ∙ ap (λ (own : List ℕ). Ok own) (word_same value))

abbrev ask_password : List ℕ → Parsed (List ℕ)
ask_password value = get_after_set dummy_url (λ url. setters.set_password url (Some value)) (λ url. url.password)

password_is : (value : List ℕ) → ask_password value ≡ Ok (made_word value)
unfolding scheme_type default_port
password_is value = after-ok dummy_url (λ url. setters.set_password url (Some value)) (λ url. url.password) dummy (record dummy { password = made_word value }) dummy_is refl

pub password_again : AreCanonicalAgain canonical_password
password_again =
    again ask_password made_word password_is (encoded_visible USERINFO refl refl refl) (λ value. password_is (made_word value) ∙ ap (λ (own : List ℕ). Ok own) (word_same value))
