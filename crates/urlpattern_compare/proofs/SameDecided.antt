-- Whether two components are equal but for names is decided.
use Rattle.std.proofs.Common.{◌≡◌, ◌∙◌, ℕ, zero, suc, Bool, true, false, List, [], ◌∷◌, Option, Some, None, ap, arith, inl, inr, length, refl, sym, true≢false}
use Rattle.std.proofs.Math.Bool.{Bool-discrete}
use Rattle.std.proofs.Math.Decide.{ℕ_discrete}
use Rattle.std.proofs.lemmas.Bool.{false≢true}
use Rattle.std.proofs.lemmas.Slice.Eq.{bytes_eq-Decides}
use Rattle.std.specs.List.{list_any}
use Rattle.std.specs.Prelude.{Decides, IsTrue, bytes_eq}
use Rattle.urlpattern_compare.specs.Comparing.{AreSame, IsCaseKeptOrGenerated, unnamed}
use Rattle.urlpattern_syntax.specs.Options.{OptionsView, options_view}
use Rattle.urlpattern_syntax.specs.Parts.{PartView}
use Rattle.urlpattern_syntax.specs.declared.parser.PartModifier.{PartModifier}
use Rattle.urlpattern_syntax.specs.declared.parser.PartType.{PartType}
use Rattle.urlpattern_syntax.specs.declared.parser.RegexSyntax.{RegexSyntax}
use Rattle.urlpattern_syntax.specs.declared.parts.ComponentParts.{ComponentParts}
use Rattle.urlpattern_expressions.proofs.SimpleLemmas.{none_custom, some_custom}
use Rattle.urlpattern_expressions.specs.SimpleExpressions.{is_custom_part}

-- ---- decisions

dec_by : {P : Type 0} (test : Bool) → Decides test P → Dec P
dec_by true decides = yes (decides.0 refl)
dec_by false decides = no (λ p. false≢true (decides.1 p))

dec_via : {Q : Type 0} (P : Type 0) → (P → Q) → (Q → P) → Dec P → Dec Q
dec_via P to from (yes p) = yes (to p)
dec_via P to from (no n) = no (λ q. n (from q))

both : {P Q : Type 0} → Dec P → Dec Q → Dec (P × Q)
both (yes p) (yes q) = yes (p, q)
both (yes p) (no n) = no (λ pq. n pq.1)
both (no n) q = no (λ pq. n pq.0)

-- Whether what is decided holds.
abbrev pub holds : {P : Type 0} → Dec P → Bool
holds (yes p) = true
holds (no n) = false

pub holds_if : {P : Type 0} (d : Dec P) → P → IsTrue (holds d)
holds_if (yes p) is = refl
holds_if (no n) is = absurd (n is)

pub if_holds : {P : Type 0} (d : Dec P) → IsTrue (holds d) → P
if_holds (yes p) is = p
if_holds (no n) is = absurd (false≢true is)

pub holds_alike : {P Q : Type 0} (d : Dec P) (e : Dec Q) → (P → Q) → (Q → P) → holds d ≡ holds e
holds_alike (yes p) e to from = sym (holds_if e (to p))
holds_alike (no n) (yes q) to from = absurd (n (from q))
holds_alike (no n) (no m) to from = refl

-- ---- values

dec_text : (text other : List ℕ) → Dec (text ≡ other)
dec_text text other = dec_by (bytes_eq text other) (bytes_eq-Decides text other)

abbrev kind_marks : PartType → Bool × Bool
kind_marks PartType.FixedText = (false, false)
kind_marks PartType.Regexp = (false, true)
kind_marks PartType.SegmentWildcard = (true, false)
kind_marks PartType.FullWildcard = (true, true)

abbrev kind_by : Bool → Bool → PartType
kind_by false false = PartType.FixedText
kind_by false true = PartType.Regexp
kind_by true false = PartType.SegmentWildcard
kind_by true true = PartType.FullWildcard

kind_back : (kind : PartType) → kind_by (kind_marks kind).0 (kind_marks kind).1 ≡ kind
kind_back PartType.FixedText = refl
kind_back PartType.Regexp = refl
kind_back PartType.SegmentWildcard = refl
kind_back PartType.FullWildcard = refl

dec_kind : (kind other : PartType) → Dec (kind ≡ other)
dec_kind kind other =
    dec_via (((kind_marks kind).0 ≡ (kind_marks other).0) × ((kind_marks kind).1 ≡ (kind_marks other).1))
    (λ (e, f). sym (kind_back kind) ∙ (λ i. kind_by (e i) (f i)) ∙ kind_back other) (λ e. (ap (λ it. (kind_marks it).0) e, ap (λ it. (kind_marks it).1) e))
    (both (Bool-discrete (kind_marks kind).0 (kind_marks other).0) (Bool-discrete (kind_marks kind).1 (kind_marks other).1))

abbrev modifier_marks : PartModifier → Bool × Bool
modifier_marks PartModifier.None = (false, false)
modifier_marks PartModifier.Optional = (false, true)
modifier_marks PartModifier.ZeroOrMore = (true, false)
modifier_marks PartModifier.OneOrMore = (true, true)

abbrev modifier_by : Bool → Bool → PartModifier
modifier_by false false = PartModifier.None
modifier_by false true = PartModifier.Optional
modifier_by true false = PartModifier.ZeroOrMore
modifier_by true true = PartModifier.OneOrMore

modifier_back : (modifier : PartModifier) → modifier_by (modifier_marks modifier).0 (modifier_marks modifier).1 ≡ modifier
modifier_back PartModifier.None = refl
modifier_back PartModifier.Optional = refl
modifier_back PartModifier.ZeroOrMore = refl
modifier_back PartModifier.OneOrMore = refl

dec_modifier : (modifier other : PartModifier) → Dec (modifier ≡ other)
dec_modifier modifier other =
    dec_via (((modifier_marks modifier).0 ≡ (modifier_marks other).0) × ((modifier_marks modifier).1 ≡ (modifier_marks other).1))
    (λ (e, f). sym (modifier_back modifier) ∙ (λ i. modifier_by (e i) (f i)) ∙ modifier_back other) (λ e. (ap (λ it. (modifier_marks it).0) e, ap (λ it. (modifier_marks it).1) e))
    (both (Bool-discrete (modifier_marks modifier).0 (modifier_marks other).0) (Bool-discrete (modifier_marks modifier).1 (modifier_marks other).1))

abbrev is_rust : RegexSyntax → Bool
is_rust RegexSyntax.Rust = true
is_rust RegexSyntax.EcmaScript = false

abbrev syntax_by : Bool → RegexSyntax
syntax_by true = RegexSyntax.Rust
syntax_by false = RegexSyntax.EcmaScript

syntax_back : (syntax : RegexSyntax) → syntax_by (is_rust syntax) ≡ syntax
syntax_back RegexSyntax.Rust = refl
syntax_back RegexSyntax.EcmaScript = refl

dec_syntax : (syntax other : RegexSyntax) → Dec (syntax ≡ other)
dec_syntax syntax other = dec_via (is_rust syntax ≡ is_rust other) (λ e. sym (syntax_back syntax) ∙ ap syntax_by e ∙ syntax_back other) (λ e. ap is_rust e) (Bool-discrete (is_rust syntax) (is_rust other))

abbrev is_present : Option ℕ → Bool
is_present None = false
is_present (Some value) = true

abbrev value_or : ℕ → Option ℕ → ℕ
value_or d None = d
value_or d (Some value) = value

dec_delimiter : (delimiter other : Option ℕ) → Dec (delimiter ≡ other)
dec_delimiter None None = yes refl
dec_delimiter None (Some d) = no (λ e. false≢true (ap is_present e))
dec_delimiter (Some c) None = no (λ e. true≢false (ap is_present e))
dec_delimiter (Some c) (Some d) = dec_via (c ≡ d) (λ e. ap Some e) (λ e. ap (value_or c) e) (ℕ_discrete c d)

dec_options : (options other : OptionsView) → Dec (options ≡ other)
dec_options options other =
    dec_via ((options.delimiter ≡ other.delimiter) × ((options.prefix ≡ other.prefix) × ((options.syntax ≡ other.syntax) × (options.ignore_case ≡ other.ignore_case))))
    (λ (d, (p, (s, c))). λ i. record { delimiter = d i; prefix = p i; syntax = s i; ignore_case = c i })
    (λ e. (ap (λ (o : OptionsView). o.delimiter) e, (ap (λ (o : OptionsView). o.prefix) e, (ap (λ (o : OptionsView). o.syntax) e, ap (λ (o : OptionsView). o.ignore_case) e))))
    (both (dec_delimiter options.delimiter other.delimiter) (both (dec_text options.prefix other.prefix) (both (dec_syntax options.syntax other.syntax) (Bool-discrete options.ignore_case other.ignore_case))))

dec_part : (part other : PartView) → Dec (part ≡ other)
dec_part part other =
    dec_via ((part.kind ≡ other.kind) × ((part.value ≡ other.value) × ((part.modifier ≡ other.modifier) × ((part.name ≡ other.name) × ((part.prefix ≡ other.prefix) × (part.suffix ≡ other.suffix))))))
    (λ (k, (v, (m, (n, (p, s))))). λ i. record { kind = k i; value = v i; modifier = m i; name = n i; prefix = p i; suffix = s i })
    (λ e. (ap (λ (o : PartView). o.kind) e, (ap (λ (o : PartView). o.value) e, (ap (λ (o : PartView). o.modifier) e, (ap (λ (o : PartView). o.name) e, (ap (λ (o : PartView). o.prefix) e, ap (λ (o : PartView). o.suffix) e))))))
    (both (dec_kind part.kind other.kind) (both (dec_text part.value other.value) (both (dec_modifier part.modifier other.modifier)
    (both (dec_text part.name other.name) (both (dec_text part.prefix other.prefix) (dec_text part.suffix other.suffix))))))

abbrev first_or : PartView → List PartView → PartView
first_or d [] = d
first_or d (part ∷ parts) = part

abbrev others_of : List PartView → List PartView
others_of [] = []
others_of (part ∷ parts) = parts

dec_parts : (parts others : List PartView) → Dec (parts ≡ others)
dec_parts [] [] = yes refl
dec_parts [] (other ∷ others) = no (λ e. let never : zero ≡ suc (length others) = ap length e in omega arith)
dec_parts (part ∷ parts) [] = no (λ e. let never : suc (length parts) ≡ zero = ap length e in omega arith)
dec_parts (part ∷ parts) (other ∷ others) =
    dec_via ((part ≡ other) × (parts ≡ others)) (λ (e, f). λ i. e i ∷ f i) (λ e. (ap (first_or part) e, ap others_of e)) (both (dec_part part other) (dec_parts parts others))

-- ---- components

dec_kept : (component : ComponentParts) → Dec (IsCaseKeptOrGenerated component)
dec_kept component = by component.options.ignore_case refl (list_any is_custom_part component.parts.items) refl
  where
    by : (ignored : Bool) → component.options.ignore_case ≡ ignored → (some : Bool) → list_any is_custom_part component.parts.items ≡ some → Dec (IsCaseKeptOrGenerated component)
    by false e some f = yes (inl e)
    by true e false f = yes (inr (none_custom component.parts.items f))
    by true e true f = no (λ either. elim either [
      | inl kept ↦ true≢false (sym e ∙ kept)
      | inr made ↦ some_custom component.parts.items f made
    ])

pub dec_same : (component other : ComponentParts) → Dec (AreSame component other)
dec_same component other =
    dec_via ((options_view component.options ≡ options_view other.options) × ((unnamed component.parts.items ≡ unnamed other.parts.items) × ((component.honours_case ≡ other.honours_case) × IsCaseKeptOrGenerated component)))
    (λ (e, (f, (g, kept))). record { options = e; parts = f; case = g; kept_or_generated = kept }) (λ same. (same.options, (same.parts, (same.case, same.kept_or_generated))))
    (both (dec_options (options_view component.options) (options_view other.options))
    (both (dec_parts (unnamed component.parts.items) (unnamed other.parts.items)) (both (Bool-discrete component.honours_case other.honours_case) (dec_kept component))))

pub same_trans : (component mid other : ComponentParts) → AreSame component mid → AreSame mid other → AreSame component other
same_trans component mid other one two = record { options = one.options ∙ two.options; parts = one.parts ∙ two.parts; case = one.case ∙ two.case; kept_or_generated = one.kept_or_generated }
