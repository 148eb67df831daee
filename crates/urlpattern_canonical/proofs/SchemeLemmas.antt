-- Lemmas on special schemes.
use Rattle.std.proofs.Common.{◌≡◌, ℕ, Bool, true, false, ◌||◌, List, [], ◌∷◌, codes, Ok, Option, None, Some, refl, sym, ap, subst, ◌∙◌}
use Rattle.std.proofs.lemmas.Bool.{false≢true}
use Rattle.std.proofs.lemmas.Slice.Eq.{bytes_eq-Decides}
use Rattle.std.specs.Char.{encode_utf8}
use Rattle.std.specs.Prelude.{bytes_eq, if◌then◌else◌}
use Rattle.std.specs.Str.{chars, IsAscii, IsUtf8}
use Rattle.url.proofs.OnLiterals.{url_on_literals}
use Rattle.urlpattern_canonical.proofs.MarkLemmas.{ascii_text, bytes_eq-chars, bytes_eq-other}
use Rattle.urlpattern_canonical.specs.Canonical.{canonical_protocol, default_port, is_hierarchical_under, is_special, port_among, scheme_among, special_schemes}

-- All schemes of the list are ASCII.
abbrev AllAscii : List (List ℕ × Option (List ℕ)) → Type 0
AllAscii [] = Unit {0}
AllAscii (scheme ∷ schemes) = IsAscii scheme.0 × AllAscii schemes

ascii-schemes : AllAscii special_schemes
ascii-schemes =
    let http = ascii_text (codes "http") refl in
    let https = ascii_text (codes "https") refl in
    let ws = ascii_text (codes "ws") refl in
    let wss = ascii_text (codes "wss") refl in
    let ftp = ascii_text (codes "ftp") refl in
    let file = ascii_text (codes "file") refl in
    (http, (https, (ws, (wss, (ftp, (file, tt))))))

-- A scheme is recognized by its bytes.
among-chars : (schemes : List (List ℕ × Option (List ℕ))) → AllAscii schemes → (text : List ℕ) → IsUtf8 text
    → scheme_among schemes (chars text) ≡ scheme_among schemes text
among-chars [] ascii text u = refl
among-chars (scheme ∷ schemes) ascii text u =
    ap (λ is. is || scheme_among schemes (chars text)) (bytes_eq-chars text scheme.0 u ascii.0)
    ∙ ap (λ more. bytes_eq text scheme.0 || more) (among-chars schemes ascii.1 text u)

port_among-chars : (schemes : List (List ℕ × Option (List ℕ))) → AllAscii schemes → (text : List ℕ) → IsUtf8 text
    → port_among schemes (chars text) ≡ port_among schemes text
port_among-chars [] ascii text u = refl
port_among-chars (scheme ∷ schemes) ascii text u =
    ap (λ is. if is then scheme.1 else port_among schemes (chars text)) (bytes_eq-chars text scheme.0 u ascii.0)
    ∙ ap (λ port. if bytes_eq text scheme.0 then scheme.1 else port) (port_among-chars schemes ascii.1 text u)

pub special-chars : (scheme : List ℕ) → IsUtf8 scheme → is_special (chars scheme) ≡ is_special scheme
special-chars = among-chars special_schemes ascii-schemes

pub port-chars : (scheme : List ℕ) → IsUtf8 scheme → default_port (chars scheme) ≡ default_port scheme
port-chars = port_among-chars special_schemes ascii-schemes

pub or_false : (a b : Bool) → a ≡ false → b ≡ false → (a || b) ≡ false
or_false a b e f = ap (λ x. x || b) e ∙ f

pub special-none : (scheme : List ℕ) → ¬ (scheme ≡ codes "http") → ¬ (scheme ≡ codes "https") → ¬ (scheme ≡ codes "ws") → ¬ (scheme ≡ codes "wss") → ¬ (scheme ≡ codes "ftp") → ¬ (scheme ≡ codes "file") → is_special scheme ≡ false
special-none scheme not_http not_https not_ws not_wss not_ftp not_file =
    or_false _ _ (bytes_eq-other scheme (codes "http") not_http)
    (or_false _ _ (bytes_eq-other scheme (codes "https") not_https)
    (or_false _ _ (bytes_eq-other scheme (codes "ws") not_ws)
    (or_false _ _ (bytes_eq-other scheme (codes "wss") not_wss)
    (or_false _ _ (bytes_eq-other scheme (codes "ftp") not_ftp)
    (or_false _ _ (bytes_eq-other scheme (codes "file") not_file) refl)))))

if_false : {T : Type 0} (test : Bool) (x y : T) → test ≡ false → (if test then x else y) ≡ y
if_false test x y e = ap (λ b. if b then x else y) e

same_either : {T : Type 0} (test : Bool) (x : T) → (if test then x else x) ≡ x
same_either true x = refl
same_either false x = refl

pub port-none : (scheme : List ℕ) → ¬ (scheme ≡ codes "http") → ¬ (scheme ≡ codes "https") → ¬ (scheme ≡ codes "ws") → ¬ (scheme ≡ codes "wss") → ¬ (scheme ≡ codes "ftp") → default_port scheme ≡ None
port-none scheme not_http not_https not_ws not_wss not_ftp =
    if_false _ _ _ (bytes_eq-other scheme (codes "http") not_http)
    ∙ if_false _ _ _ (bytes_eq-other scheme (codes "https") not_https)
    ∙ if_false _ _ _ (bytes_eq-other scheme (codes "ws") not_ws)
    ∙ if_false _ _ _ (bytes_eq-other scheme (codes "wss") not_wss)
    ∙ if_false _ _ _ (bytes_eq-other scheme (codes "ftp") not_ftp)
    ∙ same_either _ _

-- A protocol that is not empty makes paths hierarchical if it is special.
pub hierarchical-special : (protocol : List ℕ) → ¬ (protocol ≡ []) → is_special protocol ≡ is_hierarchical_under (Some protocol)
hierarchical-special [] some = absurd (some refl)
hierarchical-special (c ∷ protocol) some = refl

-- ---- canonical values

-- `url` keeps each scheme of the list.
abbrev AllKept : List (List ℕ × Option (List ℕ)) → Type 0
AllKept [] = Unit {0}
AllKept (scheme ∷ schemes) = (canonical_protocol scheme.0 ≡ Ok scheme.0) × AllKept schemes

kept-schemes : AllKept special_schemes
unfolding url_on_literals encode_utf8 chars
kept-schemes = (refl, (refl, (refl, (refl, (refl, (refl, tt))))))

among-kept : (schemes : List (List ℕ × Option (List ℕ))) → AllKept schemes → (text : List ℕ) → scheme_among schemes text ≡ true
    → canonical_protocol text ≡ Ok text
among-kept [] kept text = λ is. absurd (false≢true is)
among-kept (scheme ∷ schemes) kept text =
    elim (bytes_eq text scheme.0) as (λ same. bytes_eq text scheme.0 ≡ same → (same || scheme_among schemes text) ≡ true → canonical_protocol text ≡ Ok text) [
      | true ↦ λ e is. subst (λ it. canonical_protocol it ≡ Ok it) (sym ((bytes_eq-Decides text scheme.0).0 e)) kept.0
      | false ↦ λ e is. among-kept schemes kept.1 text is
    ] refl

-- A special scheme is its own canonical value.
pub special-kept : (scheme : List ℕ) → is_special scheme ≡ true → canonical_protocol scheme ≡ Ok scheme
special-kept = among-kept special_schemes kept-schemes
