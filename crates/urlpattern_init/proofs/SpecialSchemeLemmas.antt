-- Lemmas on a matcher that is tried on texts, one after another.
use Rattle.std.proofs.Common.{◌≡◌, ℕ, zero, suc, ◌+◌, ◌<◌, ◌≤◌, ◌⊎◌, ◌||◌, ◌++◌, Bool, true, false, Option, Some, Result, Ok, Err, List, [], ◌∷◌, append-nil, bytes_eq, length, map, get_or, codes, Bor, sym, ap, ◌∙◌, subst, inl, inr, arith, refl, ⊎_elim}
use Rattle.std.proofs.lemmas.Bool.{cases_eq, false≢true}
use Rattle.std.proofs.lemmas.Option.{slice_get-get_or, slice_get_read}
use Rattle.std.proofs.lemmas.Slice.Eq.{bytes_eq-Decides}
use Rattle.std.specs.List.{Any}
use Rattle.std.specs.Prelude.{◌↔◌, IfOk, IsTrue, MatchBool}
use Rattle.std.specs.Str.{chars}
use Rattle.urlpattern_canonical.specs.Canonical.{scheme_among, special_schemes}
use Rattle.urlpattern_init.specs.SpecialProtocol.{AcceptsOnly, AcceptsSpecialScheme, IsKnownProtocol, IsSpecialTo, protocol_encoding}
use Rattle.urlpattern_meaning.proofs.Encodings.{Weakens, reads_weaker}
use Rattle.urlpattern_meaning.proofs.MatchingLaws.{middle_kept}
use Rattle.urlpattern_meaning.specs.Matching.{Accepts, HasMiddle, InnerView, IsMadeOf, IsSame, Literal, MatcherView}
use Rattle.urlpattern_meaning.specs.PartMeaning.{Captures}
use Rattle.urlpattern_matcher.specs.Components.{IsCompiledKeeping, IsEngineOf}
use Rattle.urlpattern_matcher.specs.Matchers.{matcher_view}
use Rattle.urlpattern_matcher.specs.declared.component.ComponentWithParts.{ComponentWithParts}
use Rattle.urlpattern_matcher.specs.declared.regexp.RegExp.{Ghosts as Engine}
use Rattle.urlpattern_syntax.specs.declared.error.Error.{Error}
use Rattle.urlpattern_syntax.specs.Options.{OptionsView, default_options}
use Rattle.urlpattern_syntax.specs.Parts.{PartView}
use Rattle.urlpattern_syntax.specs.ComponentParts.{kept_parts}
use Rattle.urlpattern_syntax.specs.Reading.{Encoding, Reads}

-- Reading within the list does not depend on the default.
same_read : {X : Type 0} → (xs : List X) (i : ℕ) (x d : X) → i < length xs → get_or xs i x ≡ x → get_or xs i d ≡ x
same_read xs i x d within is =
    let one = slice_get-get_or xs i d within in
    let two = slice_get_read xs (length xs) i x refl within (sym is) in
    let both : Some (get_or xs i d) ≡ Some x = sym one ∙ two in
    cc

-- If no element before an index and not the element there has the property, none before the next
-- index has it.
pub none_more : {X : Type 0} → (P : X → Type 0) (xs : List X) (i : ℕ) (d : X) → i < length xs → ((k : ℕ) (x : X) → k < i → get_or xs k x ≡ x → ¬ P x) → ¬ P (get_or xs i d) → (k : ℕ) (x : X) → k < i + 1 → get_or xs k x ≡ x → ¬ P x
none_more P xs i d within before here k x less is p = elim (cases_eq k i) [
  | inl same ↦ here (subst P (sym (same_read xs i x d within (ap (λ n. get_or xs n x) (sym same) ∙ is))) p)
  | inr other ↦ before k x (omega arith) is p
]

pub none_all : {X : Type 0} → (P : X → Type 0) (xs : List X) (i : ℕ) → length xs ≤ i → ((k : ℕ) (x : X) → k < i → get_or xs k x ≡ x → ¬ P x) → ¬ Any P xs
none_all P xs i past none any = none any.0 any.1 (let within = any.2 in omega arith) any.3 any.4

-- ---- the special schemes

-- If the image of some element has the property, some element of the mapped list has it.
any_shown : {X Y : Type 0} → (f : X → Y) (P : Y → Type 0) (xs : List X) → Any (λ x. P (f x)) xs → Any P (map f xs)
any_shown f P [] any = absurd (omega (arith, any.2))
any_shown {X} {Y} f P (x ∷ xs) any = shown any.0 any.1 any.2 any.3 any.4 (λ rest. any_shown f P xs rest)
  where
    shown : (k : ℕ) (y : X) → k < length (x ∷ xs) → get_or (x ∷ xs) k y ≡ y → P (f y) → (Any (λ z. P (f z)) xs → Any P (map f xs)) → Any P (map f (x ∷ xs))
    shown zero y within is p again = (zero, f x, omega arith, refl, subst (λ z. P (f z)) (sym is) p)
    shown (suc k) y within is p again =
        let rest = again (k, y, omega arith, is, p) in
        (suc rest.0, rest.1, (let less = rest.2 in omega arith), rest.3, rest.4)

any_hidden : {X Y : Type 0} → (f : X → Y) (P : Y → Type 0) (xs : List X) → Any P (map f xs) → Any (λ x. P (f x)) xs
any_hidden f P [] any = absurd (omega (arith, any.2))
any_hidden {X} {Y} f P (x ∷ xs) any = hidden any.0 any.1 any.2 any.3 any.4 (λ rest. any_hidden f P xs rest)
  where
    hidden : (k : ℕ) (y : Y) → k < length (map f (x ∷ xs)) → get_or (map f (x ∷ xs)) k y ≡ y → P y → (Any P (map f xs) → Any (λ z. P (f z)) xs) → Any (λ z. P (f z)) (x ∷ xs)
    hidden zero y within is p again = (zero, x, omega arith, refl, subst P (sym is) p)
    hidden (suc k) y within is p again =
        let rest = again (k, y, omega arith, is, p) in
        (suc rest.0, rest.1, (let less = rest.2 in omega arith), rest.3, rest.4)

-- The texts in the code are the special schemes.
pub schemes_shown : chars (codes "http") ∷ chars (codes "https") ∷ chars (codes "ws") ∷ chars (codes "wss") ∷ chars (codes "ftp") ∷ chars (codes "file") ∷ [] ≡ map (λ (s : List ℕ × Option (List ℕ)). s.0) special_schemes
unfolding chars
schemes_shown = refl

-- A borrowed text at its address.
abbrev pub lent : (ℕ × ℕ) → List ℕ → Bor (List ℕ)
lent ptr text = record { ref_ptr = ptr; now = text }

-- A result on texts with the characters of the special schemes is one on the schemes.
pub schemes_answer : (P : List ℕ → Type 0) (texts : List (Bor (List ℕ))) (answer : Result Bool Error) → map (λ (t : Bor (List ℕ)). chars t.now) texts ≡ map (λ (s : List ℕ × Option (List ℕ)). s.0) special_schemes → IfOk answer (λ accepted. MatchBool accepted (Any (λ (t : Bor (List ℕ)). P (chars t.now)) texts) (¬ Any (λ (t : Bor (List ℕ)). P (chars t.now)) texts)) → IfOk answer (λ accepted. IsTrue accepted ↔ Any (λ (s : List ℕ × Option (List ℕ)). P s.0) special_schemes)
schemes_answer P texts (Err error) e h = tt
schemes_answer P texts (Ok true) e h = (
  (λ accepted. any_hidden (λ (s : List ℕ × Option (List ℕ)). s.0) P special_schemes (subst (Any P) e (any_shown (λ (t : Bor (List ℕ)). chars t.now) P texts h))),
  (λ any. refl),
)
schemes_answer P texts (Ok false) e h = (
  (λ accepted. absurd (false≢true accepted)),
  (λ any. absurd (h (any_hidden (λ (t : Bor (List ℕ)). chars t.now) P texts (subst (Any P) (sym e) (any_shown (λ (s : List ℕ × Option (List ℕ)). s.0) P special_schemes any))))),
)

-- ---- a matcher that accepts a single text

abbrev Scheme : Type 0
Scheme = List ℕ × Option (List ℕ)

module _ (P : List ℕ → Type 0) (scheme : Scheme) (schemes : List Scheme) where
  abbrev IsSo : Scheme → Type 0
  IsSo other = P other.0

  here : P scheme.0 → Any IsSo (scheme ∷ schemes)
  here p = (zero, scheme, omega arith, refl, p)

  there : Any IsSo schemes → Any IsSo (scheme ∷ schemes)
  there (k, other, within, is, p) = (suc k, other, omega arith, is, p)

  here_or_there : Any IsSo (scheme ∷ schemes) → P scheme.0 ⊎ Any IsSo schemes
  here_or_there (zero, other, within, is, p) = inl (subst IsSo (sym is) p)
  here_or_there (suc k, other, within, is, p) = inr (k, other, omega arith, is, p)

-- If a single text is accepted, a special scheme is accepted exactly if the text is one.
pub only_among : (P : List ℕ → Type 0) (only : List ℕ) → ((text : List ℕ) → P text ↔ (text ≡ only)) → (schemes : List Scheme) → IsTrue (scheme_among schemes only) ↔ Any (λ (s : Scheme). P s.0) schemes
only_among P only is [] = ((λ t. absurd (false≢true t)), (λ any. absurd (omega (arith, any.2))))
only_among P only is (scheme ∷ schemes) = by_test (bytes_eq only scheme.0) refl (only_among P only is schemes)
  where
    by_test : (same : Bool) → bytes_eq only scheme.0 ≡ same → IsTrue (scheme_among schemes only) ↔ Any (λ (s : Scheme). P s.0) schemes →
        IsTrue (same || scheme_among schemes only) ↔ Any (λ (s : Scheme). P s.0) (scheme ∷ schemes)
    by_test true e rest = ((λ t. here P scheme schemes ((is scheme.0).1 (sym ((bytes_eq-Decides only scheme.0).0 e)))), (λ any. refl))
    by_test false e rest = (
      (λ t. there P scheme schemes (rest.0 t)),
      (λ any. ⊎_elim (λ p. absurd (false≢true (sym e ∙ (bytes_eq-Decides only scheme.0).1 (sym ((is scheme.0).0 p))))) (λ later. rest.1 later) (here_or_there P scheme schemes any)),
    )

-- A case-sensitive literal without prefix and suffix is the only text accepted.
pub literal_only : {E : Type 0} (answer : E → List ℕ → Option Captures) (matcher : MatcherView E) (literal : List ℕ) → matcher.ignore_case ≡ false → matcher.prefix ≡ [] → matcher.suffix ≡ [] →
    matcher.inner ≡ Literal literal → AcceptsOnly answer matcher literal
literal_only {E} answer matcher literal kept prefix suffix inner text = (
  (λ (captures, (middle, cut, accepted)).
      let same = subst (λ (of : InnerView E). Accepts answer matcher.ignore_case of middle captures) inner accepted in
      whole middle cut ∙ subst (λ (of : Bool). IsSame of middle literal) kept same.0),
  (λ e. ([], (literal, (middle_kept matcher text literal kept).1 (e ∙ sym (apart literal)), subst (λ (of : InnerView E). Accepts answer matcher.ignore_case of literal []) (sym inner) (refl, refl)))),
)
  where
    apart : (middle : List ℕ) → matcher.prefix ++ middle ++ matcher.suffix ≡ middle
    apart middle = (λ i. prefix i ++ middle ++ suffix i) ∙ append-nil middle

    whole : (middle : List ℕ) → HasMiddle matcher text middle → text ≡ middle
    whole middle cut = (middle_kept matcher text middle kept).0 cut ∙ apart middle

-- The result for special schemes, given the parts of a protocol and the matcher made of them.
pub special_from : {E : Type 0} → (engine : Engine E) (protocol flags : List ℕ) (options : OptionsView) (parts these : List PartView) (matcher : MatcherView E) (found : Result Bool Error) → options ≡ default_options → flags ≡ codes "u" → these ≡ parts → Reads protocol options protocol_encoding parts → IsMadeOf (IsEngineOf engine false flags) options these matcher → IfOk found (λ special. IsTrue special ↔ AcceptsSpecialScheme engine.answer matcher) → IfOk found (IsSpecialTo engine protocol)
special_from engine protocol flags options parts these matcher (Err error) e f same reads made decides = tt
special_from engine protocol flags options parts these matcher (Ok special) e f same reads made decides = record {
  parts = parts;
  matcher = matcher;
  reads = subst (λ o. Reads protocol o protocol_encoding parts) e reads;
  is_made = subst (λ o. IsMadeOf (IsEngineOf engine false (codes "u")) o parts matcher) e
      (subst (λ u. IsMadeOf (IsEngineOf engine false u) options parts matcher) f (subst (λ ps. IsMadeOf (IsEngineOf engine false flags) options ps matcher) same made));
  decides = decides;
}

pub chars_flags : chars (codes "u") ≡ codes "u"
unfolding chars
chars_flags = refl

-- ---- a protocol that was compiled

pub known_from : {E : Type 0} (engine : Engine E) (strong : Encoding) → Weakens strong protocol_encoding → (options : OptionsView) → options ≡ default_options
    → (known : Bor (List ℕ) × ComponentWithParts E) → IsCompiledKeeping engine (chars known.0.now) options strong known.1 → IsKnownProtocol engine known
known_from engine strong h options e known is =
    let at_default = subst (λ o. IsCompiledKeeping engine (chars known.0.now) o strong known.1) e is in
    record {
      options_are = at_default.options_are;
      reads = reads_weaker strong protocol_encoding h (chars known.0.now) default_options (kept_parts known.1.kept) at_default.reads;
      is_made = at_default.is_made;
      case = at_default.case;
    }

pub known_special : {E : Type 0} (engine : Engine E) (known : Bor (List ℕ) × ComponentWithParts E) (special : Bool) → IsKnownProtocol engine known
    → (IsTrue special ↔ AcceptsSpecialScheme engine.answer (matcher_view known.1.component.matcher)) → IsSpecialTo engine (chars known.0.now) special
known_special engine known special is decides = record {
  parts = kept_parts known.1.kept;
  matcher = matcher_view known.1.component.matcher;
  reads = is.reads;
  is_made = is.is_made.has_matcher;
  decides = decides;
}
