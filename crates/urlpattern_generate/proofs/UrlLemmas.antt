-- The texts of a URL, in bytes and in characters.
use Rattle.std.proofs.Common.{◌≡◌, ◌+◌, ◌<◌, ℕ, add-one, Bool, true, false, List, [], ◌∷◌, ◌++◌, ap, drop, get_or, length, refl, sym, take, ◌∙◌}
use Rattle.std.proofs.Math.Seq.{drop-cons}
use Rattle.std.proofs.lemmas.List.{take-append-drop}
use Rattle.std.proofs.lemmas.List.Elements.{All-cons, All-nil}
use Rattle.std.proofs.lemmas.Str.{encodes-chars}
use Rattle.std.specs.Prelude.{◌↔◌, All, IsTrue, encode_utf8_all}
use Rattle.std.specs.{Borrow.Bor, Str.chars}
use Rattle.std.specs.declared.alloc.Global.{Global}
use Rattle.std.specs.declared.borrow.CowStr.{CowStr}
use Rattle.url.specs.Parts.{Parts}
use Rattle.urlpattern_init.specs.Inheritance.{texts_of_url, url_text}
use Rattle.urlpattern_components.proofs.EightLemmas.{at-each, of_each, same_values}
use Rattle.urlpattern_components.specs.declared.eight.ComponentName.{ComponentName}
use Rattle.urlpattern_components.specs.declared.eight.ComponentName.TheVariants.{Protocol, Username, Password, Hostname, Port, Pathname, Search, Hash}
use Rattle.urlpattern_components.specs.declared.eight.Eight.{Eight}
use Rattle.urlpattern_components.specs.Eight.{at, components}
use Rattle.urlpattern_generate.specs.WrittenTexts.{cow_text}
use Rattle.urlpattern_generate.specs.UrlLines.{bytes_of_each, url_line}
use Rattle.urlpattern_generate.specs.UrlsOfTexts.{AreSeenAs, IsAtFault, IsSeenAs, RejectsLine, RejectsTexts, compared_components, cow_texts, line_of, runs_on, texts_seen}
use Rattle.urlpattern_generate.specs.declared.no_link.NoLink.{NoLink}
use Rattle.urlpattern_generate.specs.declared.no_link.NoLink.TheVariants.{Component, OtherText, OutOfMemory, Url}

encoded : (text : CowStr Global) (seen : Bor (List ℕ)) → IsSeenAs text seen → seen.now ≡ encode_utf8_all (cow_text text)
encoded text seen (same, utf8) = sym (encodes-chars seen.now utf8) ∙ ap (λ bytes. encode_utf8_all (chars bytes)) same

-- The joined bytes are those of the texts.
pub line_encoded : (texts : Eight (CowStr Global)) (seen : Eight (Bor (List ℕ))) → AreSeenAs texts seen → url_line (bytes_of_each seen) ≡ line_of (cow_texts texts)
line_encoded texts seen are = ap url_line (λ i. record {
  protocol = encoded texts.protocol seen.protocol (are Protocol) i;
  username = encoded texts.username seen.username (are Username) i;
  password = encoded texts.password seen.password (are Password) i;
  hostname = encoded texts.hostname seen.hostname (are Hostname) i;
  port = encoded texts.port seen.port (are Port) i;
  pathname = encoded texts.pathname seen.pathname (are Pathname) i;
  search = encoded texts.search seen.search (are Search) i;
  hash = encoded texts.hash seen.hash (are Hash) i;
})

-- The borrowed characters are those of the texts.
pub seen_texts : (texts : Eight (CowStr Global)) (seen : Eight (Bor (List ℕ))) → AreSeenAs texts seen → texts_seen seen ≡ cow_texts texts
seen_texts texts seen are =
    same_values (texts_seen seen) (cow_texts texts)
    (λ name. at-each (λ other. chars (at seen other).now) name ∙ ap chars (are name).0 ∙ sym (at-each (λ other. cow_text (at texts other)) name))

pub line_refused : (texts : Eight (CowStr Global)) (error : NoLink) → RejectsLine (line_of (cow_texts texts)) error → RejectsTexts (cow_texts texts) error
line_refused texts (Component error) h = absurd h
line_refused texts (Url reason) h = h
line_refused texts (OtherText component) h = absurd h
line_refused texts OutOfMemory h = h

-- ---- the texts of a URL and the requested ones

-- The URL has the requested text for this component.
abbrev pub HasText : Parts → Eight (Bor (List ℕ)) → ComponentName → Type 0
HasText url texts name = url_text name url ≡ at (texts_seen texts) name

-- A comparison decides whether the URL has the requested text.
pub text_tested : (url : Parts) (texts : Eight (Bor (List ℕ))) (name : ComponentName) (found got : List ℕ) (same : Bool) →
    chars found ≡ url_text name url → got ≡ (at texts name).now → IsTrue same ↔ (chars found ≡ chars got) → IsTrue same ↔ HasText url texts name
text_tested url texts name found got same is_text is_got tested =
    let seen : chars got ≡ at (texts_seen texts) name = ap chars is_got ∙ sym (at-each (λ other. chars (at texts other).now) name) in
    (λ yes. sym is_text ∙ tested.0 yes ∙ seen, λ has. tested.1 (is_text ∙ has ∙ sym seen))

pub texts_had : (url : Parts) (texts : Eight (Bor (List ℕ))) → All (HasText url texts) components → texts_of_url url ≡ texts_seen texts
texts_had url texts all =
    same_values (texts_of_url url) (texts_seen texts) (λ name. at-each (λ other. url_text other url) name ∙ of_each (HasText url texts) all name)

-- ---- the component at fault

-- The pathname is at fault if it runs into the host.
pub path_at_fault : (url : Parts) (texts : Eight (Bor (List ℕ))) → runs_on (texts_seen texts) ≡ true → ¬ HasText url texts Pathname → IsAtFault url (texts_seen texts) Pathname
path_at_fault url texts runs other = ([], components, ap compared_components runs, All-nil (HasText url texts), other)

pub cut_at : (i : ℕ) → i < length components → components ≡ take i components ++ get_or components i Protocol ∷ drop (i + 1) components
cut_at i within =
    sym (take-append-drop i components) ∙ ap (λ rest. take i components ++ rest) (drop-cons components i Protocol within ∙ ap (λ n. get_or components i Protocol ∷ drop n components) (sym (add-one i)))

-- The first component for which the URL has another text is at fault, unless the pathname is.
pub first_at_fault : (url : Parts) (texts : Eight (Bor (List ℕ))) (i : ℕ) (runs : Bool) → runs_on (texts_seen texts) ≡ runs → (runs ≡ true → HasText url texts Pathname) → i < length components →
    All (HasText url texts) (take i components) → ¬ HasText url texts (get_or components i Protocol) → IsAtFault url (texts_seen texts) (get_or components i Protocol)
first_at_fault url texts i true e path within all other = (
  Pathname ∷ take i components,
  drop (i + 1) components,
  ap compared_components e ∙ ap (λ names. Pathname ∷ names) (cut_at i within),
  All-cons (HasText url texts) Pathname (take i components) (path refl) all,
  other,
)
first_at_fault url texts i false e path within all other = (take i components, drop (i + 1) components, ap compared_components e ∙ cut_at i within, all, other)
