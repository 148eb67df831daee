-- Tokens begin with at most one placeholder, and with one modifier.
use Rattle.std.proofs.Common.{◌≡◌, ℕ, Bool, List, [], ◌∷◌, ◌++◌, Option, Some, None, refl, sym, ap, ◌∙◌, subst}
use Rattle.std.specs.Prelude.{codes, IsTrue, if◌then◌else◌}
use Rattle.std.proofs.lemmas.Bool.{false≢true}
use Rattle.urlpattern_syntax.specs.declared.parser.PartModifier.{PartModifier}
use Rattle.urlpattern_syntax.specs.declared.parser.PartModifier.TheVariants as modifiers
use Rattle.urlpattern_syntax.specs.declared.tokenizer.TokenType.{TokenType}
use Rattle.urlpattern_syntax.specs.declared.tokenizer.TokenType.TheVariants.{Asterisk, Char, Close, End, EscapedChar, InvalidChar, Name, Open, OtherModifier, Regexp}
use Rattle.urlpattern_syntax.specs.Pieces.{Placeholder, PlaceholderKindView, IsPlaceholderOf, IsModifier, TakesModifier, TakesRegexp, BeginsWithKind, is_text, is_placeholder, is_modifier, is_regexp, is_stop, PlaceholderKindView as matched}
use Rattle.urlpattern_syntax.specs.Tokens.{TokenView}

-- ---- lists and kinds

-- The first elements are equal, and so are the rests.
pub record OneList (a b : TokenView) (x y : List TokenView) : Type 0 where
  pub first : a ≡ b
  pub others : x ≡ y

-- The first element and the rest of a list are determined.
pub cons_one : {tokens : List TokenView} {a b : TokenView} {x y : List TokenView} → tokens ≡ a ∷ x → tokens ≡ b ∷ y → OneList a b x y
cons_one e f = record { first = cc (e, f); others = cc (e, f) }

-- The kind of a list's first element.
kinds_one : {tokens : List TokenView} {a b : TokenView} {x y : List TokenView} {k l : TokenType} → tokens ≡ a ∷ x → tokens ≡ b ∷ y → a.kind ≡ k → b.kind ≡ l → k ≡ l
kinds_one e f g h = sym g ∙ ap (λ (token : TokenView). token.kind) (cons_one e f).first ∙ h

-- A test of a kind that is known.
tested : (test : TokenType → Bool) (kind known : TokenType) → kind ≡ known → IsTrue (test known) → IsTrue (test kind)
tested test kind known e h = subst (λ k. IsTrue (test k)) (sym e) h

-- A representative of the kinds with which the same pieces begin.
abbrev pub family : TokenType → TokenType
family Open = Open
family kind = if is_text kind then Char else if is_placeholder kind then Name else End

abbrev pub first_family : List TokenView → Option TokenType
first_family [] = None
first_family (token ∷ tokens) = Some (family token.kind)

pub family_of : (kind known : TokenType) → kind ≡ known → family kind ≡ family known
family_of kind known e = ap family e

pub text_family : (kind : TokenType) → IsTrue (is_text kind) → family kind ≡ Char
text_family Char h = refl
text_family EscapedChar h = refl
text_family other h = absurd (false≢true h)

pub placeholder_family : (kind : TokenType) → IsTrue (is_placeholder kind) → family kind ≡ Name
placeholder_family Name h = refl
placeholder_family Regexp h = refl
placeholder_family Asterisk h = refl
placeholder_family other h = absurd (false≢true h)

pub stop_family : (kind : TokenType) → IsTrue (is_stop kind) → family kind ≡ End
stop_family End h = refl
stop_family Close h = refl
stop_family OtherModifier h = refl
stop_family InvalidChar h = refl
stop_family other h = absurd (false≢true h)

-- The family of tokens that begin with a kind.
pub begins_family : (test : TokenType → Bool) (known : TokenType) → ((kind : TokenType) → IsTrue (test kind) → family kind ≡ known) → (tokens : List TokenView) → BeginsWithKind test tokens → first_family tokens ≡ Some known
begins_family test known h [] g = absurd g
begins_family test known h (token ∷ tokens) g = ap Some (h token.kind g)

-- Tokens that begin with a placeholder do not begin with a text.
pub no_text : (tokens : List TokenView) → BeginsWithKind is_placeholder tokens → ¬ BeginsWithKind is_text tokens
no_text tokens h g = absurd (cc (begins_family is_placeholder Name placeholder_family tokens h, begins_family is_text Char text_family tokens g))

-- A test of the first token.
pub begins : (test : TokenType → Bool) (tokens rest : List TokenView) (token : TokenView) → tokens ≡ token ∷ rest → IsTrue (test token.kind) → BeginsWithKind test tokens
begins test tokens rest token e h = subst (BeginsWithKind test) (sym e) h

-- ---- placeholders

abbrev pub placeholder_of : Option (List ℕ) → PlaceholderKindView → Placeholder
placeholder_of name what = record { name = name; matched = what }

-- A placeholder and the tokens after it, as the tokens determine them.
pub data PlaceholderForm (tokens behind : List TokenView) (placeholder : Placeholder) : Type 0 where
  segment : (name : TokenView) → tokens ≡ name ∷ behind → name.kind ≡ Name → ¬ BeginsWithKind is_regexp behind → placeholder ≡ placeholder_of (Some name.value) matched.Segment → PlaceholderForm tokens behind placeholder
  custom : (name body : TokenView) → tokens ≡ name ∷ body ∷ behind → name.kind ≡ Name → body.kind ≡ Regexp → placeholder ≡ placeholder_of (Some name.value) (matched.Custom body.value) → PlaceholderForm tokens behind placeholder
  unnamed : (body : TokenView) → tokens ≡ body ∷ behind → body.kind ≡ Regexp → placeholder ≡ placeholder_of None (matched.Custom body.value) → PlaceholderForm tokens behind placeholder
  anything : (asterisk : TokenView) → tokens ≡ asterisk ∷ behind → asterisk.kind ≡ Asterisk → placeholder ≡ placeholder_of None matched.Anything → PlaceholderForm tokens behind placeholder

-- A placeholder, as its tokens determine it.
pub placeholder_form : (middle behind : List TokenView) (name : Option (List ℕ)) (what : PlaceholderKindView) → IsPlaceholderOf middle name what → TakesRegexp what behind → PlaceholderForm (middle ++ behind) behind (placeholder_of name what)
placeholder_form [] behind (Some name) matched.Segment h t = absurd (cc (h.0))
placeholder_form [] behind (Some name) (matched.Custom body) h t = absurd (cc (h.0))
placeholder_form [] behind None (matched.Custom body) h t = absurd (cc (h.0))
placeholder_form [] behind None matched.Anything h t = absurd (cc h)
placeholder_form (a ∷ []) behind (Some name) matched.Segment h t = segment a refl (cc (h.0)) t (let e : name ≡ a.value = cc (h.1) in ap (λ v. placeholder_of (Some v) matched.Segment) e)
placeholder_form (a ∷ []) behind (Some name) (matched.Custom body) h t = absurd (cc (h.0))
placeholder_form (a ∷ []) behind None (matched.Custom body) h t = unnamed a refl (cc (h.0)) (let e : body ≡ a.value = cc (h.1) in ap (λ v. placeholder_of None (matched.Custom v)) e)
placeholder_form (a ∷ []) behind None matched.Anything h t = anything a refl (cc h) refl
placeholder_form (a ∷ b ∷ []) behind (Some name) (matched.Custom body) h t =
    custom a b refl (cc (h.0)) (cc (h.0))
    (let e : name ≡ a.value = cc (h.1) in let f : body ≡ b.value = cc (h.1) in
    ap (λ v. placeholder_of (Some v) (matched.Custom body)) e ∙ ap (λ v. placeholder_of (Some a.value) (matched.Custom v)) f)
placeholder_form (a ∷ b ∷ more) behind (Some name) matched.Segment h t = absurd (cc (h.0))
placeholder_form (a ∷ b ∷ c ∷ more) behind (Some name) (matched.Custom body) h t = absurd (cc (h.0))
placeholder_form (a ∷ b ∷ more) behind None (matched.Custom body) h t = absurd (cc (h.0))
placeholder_form (a ∷ b ∷ more) behind None matched.Anything h t = absurd (cc h)
placeholder_form middle behind (Some name) matched.Anything h t = absurd h
placeholder_form middle behind None matched.Segment h t = absurd h

-- The rests are equal, and so are the placeholders.
pub record OnePlaceholder (behind other : List TokenView) (p q : Placeholder) : Type 0 where
  pub rest : behind ≡ other
  pub placeholder : p ≡ q

pub placeholder_one : (tokens behind other : List TokenView) (p q : Placeholder) → PlaceholderForm tokens behind p → PlaceholderForm tokens other q → OnePlaceholder behind other p q
placeholder_one tokens behind other p q (segment a e k none s) (segment b f l h t) = record {
  rest = (cons_one e f).others;
  placeholder = s ∙ ap (λ (x : TokenView). placeholder_of (Some x.value) matched.Segment) (cons_one e f).first ∙ sym t;
}
placeholder_one tokens behind other p q (segment a e k none s) (custom b c f l h t) =
    absurd (none (begins is_regexp behind other c (cons_one e f).others (tested is_regexp c.kind Regexp h refl)))
placeholder_one tokens behind other p q (custom b c f l h t) (segment a e k none s) =
    absurd (none (begins is_regexp other behind c (cons_one e f).others (tested is_regexp c.kind Regexp h refl)))
placeholder_one tokens behind other p q (custom a b e k l s) (custom c d f m n t) = record {
  rest = (cons_one refl (cons_one e f).others).others;
  placeholder = s ∙ ap (λ (x : TokenView). placeholder_of (Some x.value) (matched.Custom b.value)) (cons_one e f).first
      ∙ ap (λ (x : TokenView). placeholder_of (Some c.value) (matched.Custom x.value)) (cons_one refl (cons_one e f).others).first ∙ sym t;
}
placeholder_one tokens behind other p q (unnamed a e k s) (unnamed b f l t) = record {
  rest = (cons_one e f).others;
  placeholder = s ∙ ap (λ (x : TokenView). placeholder_of None (matched.Custom x.value)) (cons_one e f).first ∙ sym t;
}
placeholder_one tokens behind other p q (anything a e k s) (anything b f l t) = record { rest = (cons_one e f).others; placeholder = s ∙ sym t }
placeholder_one tokens behind other p q (segment a e k none s) (unnamed b f l t) = absurd (cc (kinds_one e f k l))
placeholder_one tokens behind other p q (segment a e k none s) (anything b f l t) = absurd (cc (kinds_one e f k l))
placeholder_one tokens behind other p q (custom a c e k h s) (unnamed b f l t) = absurd (cc (kinds_one e f k l))
placeholder_one tokens behind other p q (custom a c e k h s) (anything b f l t) = absurd (cc (kinds_one e f k l))
placeholder_one tokens behind other p q (unnamed a e k s) (segment b f l none t) = absurd (cc (kinds_one e f k l))
placeholder_one tokens behind other p q (unnamed a e k s) (custom b c f l h t) = absurd (cc (kinds_one e f k l))
placeholder_one tokens behind other p q (unnamed a e k s) (anything b f l t) = absurd (cc (kinds_one e f k l))
placeholder_one tokens behind other p q (anything a e k s) (segment b f l none t) = absurd (cc (kinds_one e f k l))
placeholder_one tokens behind other p q (anything a e k s) (custom b c f l h t) = absurd (cc (kinds_one e f k l))
placeholder_one tokens behind other p q (anything a e k s) (unnamed b f l t) = absurd (cc (kinds_one e f k l))

-- The tokens begin with a placeholder's kind.
pub form_begins : (tokens behind : List TokenView) (p : Placeholder) → PlaceholderForm tokens behind p → BeginsWithKind is_placeholder tokens
form_begins tokens behind p (segment a e k none s) = begins is_placeholder tokens behind a e (tested is_placeholder a.kind Name k refl)
form_begins tokens behind p (custom a b e k l s) = begins is_placeholder tokens (b ∷ behind) a e (tested is_placeholder a.kind Name k refl)
form_begins tokens behind p (unnamed a e k s) = begins is_placeholder tokens behind a e (tested is_placeholder a.kind Regexp k refl)
form_begins tokens behind p (anything a e k s) = begins is_placeholder tokens behind a e (tested is_placeholder a.kind Asterisk k refl)

-- ---- modifiers

-- The token is this modifier.
abbrev pub Marks : TokenView → PartModifier → Type 0
Marks token modifiers.None = ⊥
Marks token modifiers.Optional = (token.kind ≡ OtherModifier) × (token.value ≡ codes "?")
Marks token modifiers.OneOrMore = (token.kind ≡ OtherModifier) × (token.value ≡ codes "+")
Marks token modifiers.ZeroOrMore = token.kind ≡ Asterisk

-- A modifier and the tokens after it, as its token determines them.
pub data ModifierForm (tokens rest : List TokenView) (modifier : PartModifier) : Type 0 where
  unmarked : tokens ≡ rest → ¬ BeginsWithKind is_modifier rest → modifier ≡ modifiers.None → ModifierForm tokens rest modifier
  marked : (token : TokenView) → tokens ≡ token ∷ rest → Marks token modifier → ModifierForm tokens rest modifier

-- A modifier, as its token determines it.
pub modifier_form : (back rest : List TokenView) (modifier : PartModifier) → IsModifier back modifier → TakesModifier modifier rest → ModifierForm (back ++ rest) rest modifier
modifier_form back rest modifiers.None h t = unmarked (ap (λ x. x ++ rest) h) t refl
modifier_form [] rest modifiers.Optional h t = absurd (cc (h.0))
modifier_form [] rest modifiers.OneOrMore h t = absurd (cc (h.0))
modifier_form [] rest modifiers.ZeroOrMore h t = absurd (cc h)
modifier_form (a ∷ []) rest modifiers.Optional h t = marked a refl (cc (h.0), cc (h.1))
modifier_form (a ∷ []) rest modifiers.OneOrMore h t = marked a refl (cc (h.0), cc (h.1))
modifier_form (a ∷ []) rest modifiers.ZeroOrMore h t = marked a refl (cc h)
modifier_form (a ∷ b ∷ more) rest modifiers.Optional h t = absurd (cc (h.0))
modifier_form (a ∷ b ∷ more) rest modifiers.OneOrMore h t = absurd (cc (h.0))
modifier_form (a ∷ b ∷ more) rest modifiers.ZeroOrMore h t = absurd (cc h)

marks_modifier : (token : TokenView) (modifier : PartModifier) → Marks token modifier → IsTrue (is_modifier token.kind)
marks_modifier token modifiers.None h = absurd h
marks_modifier token modifiers.Optional h = tested is_modifier token.kind OtherModifier (h.0) refl
marks_modifier token modifiers.OneOrMore h = tested is_modifier token.kind OtherModifier (h.0) refl
marks_modifier token modifiers.ZeroOrMore h = tested is_modifier token.kind Asterisk h refl

not_both : (value : List ℕ) → value ≡ codes "?" → value ≡ codes "+" → ⊥
not_both value e f = cc (e, f)

marks_one : (token : TokenView) (m n : PartModifier) → Marks token m → Marks token n → m ≡ n
marks_one token modifiers.None n h g = absurd h
marks_one token m modifiers.None h g = absurd g
marks_one token modifiers.Optional modifiers.Optional h g = refl
marks_one token modifiers.OneOrMore modifiers.OneOrMore h g = refl
marks_one token modifiers.ZeroOrMore modifiers.ZeroOrMore h g = refl
marks_one token modifiers.Optional modifiers.OneOrMore h g = absurd (not_both token.value h.1 g.1)
marks_one token modifiers.OneOrMore modifiers.Optional h g = absurd (not_both token.value g.1 h.1)
marks_one token modifiers.Optional modifiers.ZeroOrMore h g = absurd (cc (h.0, g))
marks_one token modifiers.OneOrMore modifiers.ZeroOrMore h g = absurd (cc (h.0, g))
marks_one token modifiers.ZeroOrMore modifiers.Optional h g = absurd (cc (h, g.0))
marks_one token modifiers.ZeroOrMore modifiers.OneOrMore h g = absurd (cc (h, g.0))

-- The rests are equal, and so are the modifiers.
pub record OneModifier (x y : List TokenView) (m n : PartModifier) : Type 0 where
  pub rest : x ≡ y
  pub modifier : m ≡ n

pub modifier_one : (tokens rest other : List TokenView) (m n : PartModifier) → ModifierForm tokens rest m → ModifierForm tokens other n → OneModifier rest other m n
modifier_one tokens rest other m n (unmarked e none s) (unmarked f h t) = record { rest = sym e ∙ f; modifier = s ∙ sym t }
modifier_one tokens rest other m n (unmarked e none s) (marked b f h) =
    absurd (none (begins is_modifier rest other b (sym e ∙ f) (marks_modifier b n h)))
modifier_one tokens rest other m n (marked b f h) (unmarked e none s) =
    absurd (none (begins is_modifier other rest b (sym e ∙ f) (marks_modifier b m h)))
modifier_one tokens rest other m n (marked a e g) (marked b f h) = record {
  rest = (cons_one e f).others;
  modifier = marks_one a m n g (subst (λ x. Marks x n) (sym (cons_one e f).first) h);
}
