-- Values that are unchanged when they are set on the dummy URL.
use Rattle.std.proofs.Common.{◌≡◌, ◌∙◌, ◌<◌, ℕ, Bool, false, not, ◌&&◌, ◌==◌, ltb, List, [], ◌∷◌, length, All, None, Some, Ok, ap, arith, get_or, refl, subst, sym, ⊎_elim}
use Rattle.std.proofs.lemmas.Bool.{and_right, cond-false}
use Rattle.std.proofs.lemmas.Bool.Decides.{nat_tests}
use Rattle.std.proofs.lemmas.List.Elements.{All-weaker}
use Rattle.std.proofs.lemmas.Str.{IsUtf8-from_ascii, encodes-chars}
use Rattle.std.proofs.lemmas.Str.Ascii.{IsAscii-from_all}
use Rattle.std.specs.Prelude.{codes, encode_utf8_all, unwrap_or}
use Rattle.std.specs.Str.{chars}
use Rattle.percent_encoding.proofs.PercentLemmas.{percent_encode_unchanged}
use Rattle.percent_encoding.specs.Percent.{IsKept, percent_encode}
use Rattle.url.proofs.InputLemmas.{Passes, filter_all}
use Rattle.url.proofs.OnLiterals.{url_on_literals}
use Rattle.url.proofs.PathLemmas.{rooted}
use Rattle.url.proofs.RoundTrip.{parse_own_path, stays_unless_file}
use Rattle.url.specs.Ascii.{slash}
use Rattle.url.specs.Input.{is_empty, is_tab_or_new_line, strip_tabs_and_new_lines}
use Rattle.url.specs.Parser.{Parsed, and_then}
use Rattle.url.specs.Path.{IsSegmentList}
use Rattle.url.specs.Parts.{Parts}
use Rattle.url.specs.Scheme.{default_port, scheme_type}
use Rattle.url.specs.Setters as setters
use Rattle.url.specs.declared.host.Host.TheVariants.{Domain}
use Rattle.url.specs.declared.scheme.SchemeType.TheVariants.{SpecialNotFile}
use Rattle.url.specs.declared.sets.TheConstants.{FRAGMENT, SPECIAL_QUERY}
use Rattle.urlpattern_canonical.proofs.CanonicalLemmas.{after-ok, pathname_of-slash}
use Rattle.urlpattern_canonical.specs.Canonical.{canonical, dummy_url, get_after_set, path_of, pathname_of}

-- ---- visible bytes: ASCII above a space

abbrev pub is_visible : ℕ → Bool
is_visible b = ltb 32 b && ltb b 128

abbrev pub AreVisible : List ℕ → Type 0
AreVisible bytes = All (Passes is_visible) bytes

pub visible_ascii : (b : ℕ) → Passes is_visible b → b < 128
visible_ascii b passes = grind (arith, nat_tests)

visible_kept : (b : ℕ) → Passes is_visible b → Passes (λ c. not (is_tab_or_new_line c)) b
visible_kept b passes = grind (arith, nat_tests)

pub stripped : (bytes : List ℕ) → AreVisible bytes → strip_tabs_and_new_lines bytes ≡ bytes
unfolding strip_tabs_and_new_lines
stripped bytes visible = filter_all _ bytes (All-weaker (Passes is_visible) (Passes (λ c. not (is_tab_or_new_line c))) visible_kept bytes visible)

-- ---- texts that are their own canonical form

pub by_text : (ask : List ℕ → Parsed (List ℕ)) (text : List ℕ) → ask (encode_utf8_all text) ≡ Ok (encode_utf8_all text) → chars (encode_utf8_all text) ≡ text → canonical ask text ≡ Ok text
by_text ask [] asked kept = refl
by_text ask (c ∷ text) asked kept = ap (λ parsed. and_then parsed (λ answer. Ok (chars answer))) asked ∙ ap (λ answer. Ok answer) kept

pub by_bytes : (ask : List ℕ → Parsed (List ℕ)) (bytes : List ℕ) → AreVisible bytes → ask bytes ≡ Ok bytes → canonical ask (chars bytes) ≡ Ok (chars bytes)
by_bytes ask bytes visible asked =
    let same = encodes-chars bytes (IsUtf8-from_ascii bytes (IsAscii-from_all bytes (All-weaker (Passes is_visible) (λ b. b < 128) visible_ascii bytes visible))) in
    by_text ask (chars bytes) (subst (λ own. ask own ≡ Ok own) (sym same) asked) (ap chars same)

-- ---- the dummy URL

abbrev pub dummy : Parts
dummy = record {
  scheme = codes "http";
  username = [];
  password = [];
  host = Some (Domain (codes "dummy.test"));
  port = None;
  path = codes "/";
  query = None;
  fragment = None;
}

pub dummy_is : dummy_url ≡ Ok dummy
unfolding url_on_literals
dummy_is = refl

-- ---- the pathname

path_set : (path : List ℕ) → AreVisible path → IsSegmentList SpecialNotFile path → 0 < length path → setters.new_path dummy (strip_tabs_and_new_lines path) ≡ path
unfolding scheme_type default_port
path_set path visible list some =
    ap (setters.new_path dummy) (stripped path visible) ∙ cond-false _ _ _ (and_right (is_empty path) false refl)
    ∙ parse_own_path SpecialNotFile path (stays_unless_file SpecialNotFile [] _ refl) list (λ special. some)

pub path_stays : (path : List ℕ) → AreVisible path → IsSegmentList SpecialNotFile path → 0 < length path → path_of dummy_url path ≡ Ok path
path_stays path visible list some =
    after-ok dummy_url (λ url. Ok (setters.set_path url path)) (λ url. url.path) dummy (setters.set_path dummy path) dummy_is refl
    ∙ ap (λ text. Ok text) (path_set path visible list some)

pub pathname_kept : (path : List ℕ) → AreVisible path → IsSegmentList SpecialNotFile path → 0 < length path → pathname_of path ≡ Ok path
pathname_kept path visible list some =
    let first : get_or path 0 0 ≡ 47 = ⊎_elim (λ empty. absurd (let none = ap length empty in omega arith)) (λ first. first) (rooted SpecialNotFile path list) in
    pathname_of-slash path (ap (λ b. b == slash) first) ∙ path_stays path visible list some

-- ---- search and hash

pub search_kept : (value : List ℕ) → AreVisible value → All (IsKept SPECIAL_QUERY) value → get_after_set dummy_url (λ url. Ok (setters.set_query url (Some value))) (λ url. unwrap_or url.query []) ≡ Ok value
unfolding scheme_type default_port
search_kept value visible kept =
    after-ok dummy_url (λ url. Ok (setters.set_query url (Some value))) (λ url. unwrap_or url.query []) dummy (setters.set_query dummy (Some value)) dummy_is refl
    ∙ ap (λ text. Ok text) (ap (percent_encode SPECIAL_QUERY) (stripped value visible) ∙ percent_encode_unchanged SPECIAL_QUERY value kept)

pub hash_kept : (value : List ℕ) → AreVisible value → All (IsKept FRAGMENT) value → get_after_set dummy_url (λ url. Ok (setters.set_fragment url (Some value))) (λ url. unwrap_or url.fragment []) ≡ Ok value
hash_kept value visible kept =
    after-ok dummy_url (λ url. Ok (setters.set_fragment url (Some value))) (λ url. unwrap_or url.fragment []) dummy (setters.set_fragment dummy (Some value)) dummy_is refl
    ∙ ap (λ text. Ok text) (ap (percent_encode FRAGMENT) (stripped value visible) ∙ percent_encode_unchanged FRAGMENT value kept)
