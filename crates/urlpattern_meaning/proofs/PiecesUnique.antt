-- A list of tokens has one list of pieces, with one ending.
use Rattle.std.proofs.Common.{◌≡◌, ◌≢◌, ℕ, true, List, [], ◌∷◌, ◌++◌, Some, refl, sym, ap, ◌∙◌, subst, inl, inr, append_assoc}
use Rattle.std.specs.Prelude.{IsTrue}
use Rattle.std.proofs.lemmas.Bool.{false≢true}
use Rattle.urlpattern_syntax.specs.declared.parser.PartModifier.{PartModifier}
use Rattle.urlpattern_syntax.specs.declared.tokenizer.TokenType.{TokenType}
use Rattle.urlpattern_syntax.specs.declared.tokenizer.TokenType.TheVariants.{Char, Close, End, Name, Open}
use Rattle.urlpattern_syntax.specs.Pieces.{Piece, Ending, Stops, LacksClose, Placeholder, ArePieces, IsPiece, IsEnding, IsBraced, IsPrefixOf, TakesPrefix, BeginsWithKind, is_text, is_placeholder, is_stop, Piece as pieces}
use Rattle.urlpattern_syntax.specs.Tokens.{TokenView}
use Rattle.urlpattern_meaning.proofs.PlaceholderForms.{OneList, cons_one, first_family, family_of, text_family, placeholder_family, stop_family, begins_family, PlaceholderForm, placeholder_form, placeholder_one, form_begins, ModifierForm, modifier_form, modifier_one}
use Rattle.urlpattern_meaning.proofs.BraceForms.{Content, Texts, Filled, ContentForm, texts, content_one, filled_form, widened}

-- ---- one step

-- The beginning of a list of tokens: a piece and the tokens after it, or an ending.
data Outcome : Type 0 where
  Goes : Piece → List TokenView → Outcome
  Ends : Ending → Outcome

abbrev group_of : Content → PartModifier → Piece
group_of (Texts text) modifier = pieces.TextGroup text modifier
group_of (Filled before placeholder after) modifier = pieces.Group before placeholder after modifier

-- A closing brace, or the token in its place.
data Finish (tokens : List TokenView) (content : Content) (outcome : Outcome) : Type 0 where
  closes : (closing : TokenView) (behind rest : List TokenView) (modifier : PartModifier) → tokens ≡ closing ∷ behind → closing.kind ≡ Close → ModifierForm behind rest modifier → outcome ≡ Goes (group_of content modifier) rest → Finish tokens content outcome
  lacks : (found : TokenView) (more : List TokenView) → tokens ≡ found ∷ more → found.kind ≢ Close → outcome ≡ Ends (LacksClose found) → Finish tokens content outcome

finish_one : (tokens : List TokenView) (content : Content) (x y : Outcome) → Finish tokens content x → Finish tokens content y → x ≡ y
finish_one tokens content x y (closes a behind rest m e k f s) (closes b behind' rest' m' e' k' f' t) =
    let one = modifier_one behind rest rest' m m' f (subst (λ z. ModifierForm z rest' m') (sym (cons_one e e').others) f') in
    s ∙ ap (λ z. Goes (group_of content z) rest) one.modifier ∙ ap (λ z. Goes (group_of content m') z) one.rest ∙ sym t
finish_one tokens content x y (closes a behind rest m e k f s) (lacks b more e' no' t) = absurd (no' (ap (λ (z : TokenView). z.kind) (sym (cons_one e e').first) ∙ k))
finish_one tokens content x y (lacks b more e' no' t) (closes a behind rest m e k f s) = absurd (no' (ap (λ (z : TokenView). z.kind) (sym (cons_one e e').first) ∙ k))
finish_one tokens content x y (lacks a more e n s) (lacks b more' f m t) = s ∙ ap (λ z. Ends (LacksClose z)) (cons_one e f).first ∙ sym t

-- The beginning of a list of tokens, as the tokens determine it.
data Form (point : List ℕ) (tokens : List TokenView) (outcome : Outcome) : Type 0 where
  alone : (token : TokenView) (rest : List TokenView) → tokens ≡ token ∷ rest → IsTrue (is_text token.kind) → TakesPrefix point token rest → outcome ≡ Goes (pieces.Text token.value) rest → Form point tokens outcome
  prefixed : (token : TokenView) (behind back rest : List TokenView) (placeholder : Placeholder) (modifier : PartModifier) → tokens ≡ token ∷ behind → token.kind ≡ Char → token.value ≡ point → PlaceholderForm behind back placeholder → ModifierForm back rest modifier → outcome ≡ Goes (pieces.Bare point placeholder modifier) rest → Form point tokens outcome
  unprefixed : (back rest : List TokenView) (placeholder : Placeholder) (modifier : PartModifier) → PlaceholderForm tokens back placeholder → ModifierForm back rest modifier → outcome ≡ Goes (pieces.Bare [] placeholder modifier) rest → Form point tokens outcome
  enclosed : (opening : TokenView) (behind rest : List TokenView) (content : Content) → tokens ≡ opening ∷ behind → opening.kind ≡ Open → ¬ BeginsWithKind is_text rest → ContentForm behind rest content → Finish rest content outcome → Form point tokens outcome
  stopped : (token : TokenView) (more : List TokenView) → tokens ≡ token ∷ more → IsTrue (is_stop token.kind) → outcome ≡ Ends (Stops token) → Form point tokens outcome

-- The family of the first token of a form.
abbrev form_family : {point : List ℕ} {tokens : List TokenView} {outcome : Outcome} → Form point tokens outcome → TokenType
form_family (alone token rest e h t s) = Char
form_family (prefixed token behind back rest placeholder modifier e k v p m s) = Char
form_family (unprefixed back rest placeholder modifier p m s) = Name
form_family (enclosed opening behind rest content e k none c f) = Open
form_family (stopped token more e h s) = End

-- The family of the first token.
form_first : (point : List ℕ) (tokens : List TokenView) (outcome : Outcome) (form : Form point tokens outcome) → first_family tokens ≡ Some (form_family form)
form_first point tokens outcome (alone token rest e h t s) = ap first_family e ∙ ap Some (text_family token.kind h)
form_first point tokens outcome (prefixed token behind back rest placeholder modifier e k v p m s) = ap first_family e ∙ ap Some (family_of token.kind Char k)
form_first point tokens outcome (unprefixed back rest placeholder modifier p m s) = begins_family is_placeholder Name placeholder_family tokens (form_begins tokens back placeholder p)
form_first point tokens outcome (enclosed opening behind rest content e k none c f) = ap first_family e ∙ ap Some (family_of opening.kind Open k)
form_first point tokens outcome (stopped token more e h s) = ap first_family e ∙ ap Some (stop_family token.kind h)

one_family : (point : List ℕ) (tokens : List TokenView) (x y : Outcome) (f : Form point tokens x) (g : Form point tokens y) → form_family f ≡ form_family g
one_family point tokens x y f g = cc (form_first point tokens x f, form_first point tokens y g)

-- A Char that is the prefix code point is not alone before a placeholder.
not_alone : (point : List ℕ) (token other : TokenView) (rest behind back : List TokenView) (p : Placeholder) → OneList token other rest behind → TakesPrefix point token rest → other.kind ≡ Char → other.value ≡ point → PlaceholderForm behind back p → ⊥
not_alone point token other rest behind back p one h k v f =
    h (ap (λ (z : TokenView). z.kind) one.first ∙ k) (ap (λ (z : TokenView). z.value) one.first ∙ v)
    (subst (BeginsWithKind is_placeholder) (sym one.others) (form_begins behind back p f))

bare_one : (point prefix : List ℕ) (tokens back rest back' rest' : List TokenView) (p q : Placeholder) (m n : PartModifier) → PlaceholderForm tokens back p → ModifierForm back rest m → PlaceholderForm tokens back' q → ModifierForm back' rest' n → Goes (pieces.Bare prefix p m) rest ≡ Goes (pieces.Bare prefix q n) rest'
bare_one point prefix tokens back rest back' rest' p q m n f g f' g' =
    let one = placeholder_one tokens back back' p q f f' in
    let two = modifier_one back rest rest' m n g (subst (λ z. ModifierForm z rest' n) (sym one.rest) g') in
    ap (λ z. Goes (pieces.Bare prefix z m) rest) one.placeholder ∙ ap (λ z. Goes (pieces.Bare prefix q z) rest) two.modifier
    ∙ ap (λ z. Goes (pieces.Bare prefix q n) z) two.rest

form_one : (point : List ℕ) (tokens : List TokenView) (x y : Outcome) → Form point tokens x → Form point tokens y → x ≡ y
form_one point tokens x y (alone a rest e h g s) (alone b rest' f k l t) =
    let one = cons_one e f in
    s ∙ ap (λ (z : TokenView). Goes (pieces.Text z.value) rest) one.first ∙ ap (λ z. Goes (pieces.Text b.value) z) one.others ∙ sym t
form_one point tokens x y (alone a rest e h g s) (prefixed b behind back rest' q n f k v p m t) =
    absurd (not_alone point a b rest behind back q (cons_one e f) g k v p)
form_one point tokens x y (prefixed b behind back rest' q n f k v p m t) (alone a rest e h g s) =
    absurd (not_alone point a b rest behind back q (cons_one e f) g k v p)
form_one point tokens x y (prefixed a behind back rest p m e k v f g s) (prefixed b behind' back' rest' q n e' k' v' f' g' t) =
    s ∙ bare_one point point behind back rest back' rest' p q m n f g (subst (λ z. PlaceholderForm z back' q) (sym (cons_one e e').others) f') g' ∙ sym t
form_one point tokens x y (unprefixed back rest p m f g s) (unprefixed back' rest' q n f' g' t) =
    s ∙ bare_one point [] tokens back rest back' rest' p q m n f g f' g' ∙ sym t
form_one point tokens x y (enclosed a behind rest c e k none f g) (enclosed b behind' rest' c' e' k' none' f' g') =
    let one = content_one behind rest rest' c c' none none' f (subst (λ z. ContentForm z rest' c') (sym (cons_one e e').others) f') in
    finish_one rest c x y g (subst (λ z. Finish rest z y) (sym one.content) (subst (λ z. Finish z c' y) (sym one.rest) g'))
form_one point tokens x y (stopped a more e h s) (stopped b more' f g t) = s ∙ ap (λ z. Ends (Stops z)) (cons_one e f).first ∙ sym t
form_one point tokens x y f g = absurd (cc (one_family point tokens x y f g))

-- ---- pieces and endings

-- A prefix or none, and a placeholder.
prefix_form : (point prefix : List ℕ) (front behind back rest : List TokenView) (placeholder : Placeholder) (modifier : PartModifier) → IsPrefixOf point front prefix → PlaceholderForm behind back placeholder → ModifierForm back rest modifier → Form point (front ++ behind) (Goes (pieces.Bare prefix placeholder modifier) rest)
prefix_form point prefix front behind back rest placeholder modifier (inl h) p m =
    unprefixed back rest placeholder modifier (subst (λ z. PlaceholderForm (z ++ behind) back placeholder) (sym (h.0)) p) m
    (ap (λ z. Goes (pieces.Bare z placeholder modifier) rest) (h.1))
prefix_form point prefix [] behind back rest placeholder modifier (inr h) p m = absurd (cc (h.0))
prefix_form point prefix (a ∷ []) behind back rest placeholder modifier (inr h) p m =
    prefixed a behind back rest placeholder modifier refl (cc (h.0)) (let e : a.value ≡ prefix = cc (h.1) in e ∙ h.2) p m
    (ap (λ z. Goes (pieces.Bare z placeholder modifier) rest) (h.2))
prefix_form point prefix (a ∷ b ∷ more) behind back rest placeholder modifier (inr h) p m = absurd (cc (h.0))

-- Braces round their content.
group_form : (point : List ℕ) (tokens inner rest : List TokenView) (content : Content) (modifier : PartModifier) (braces : IsBraced tokens inner modifier rest) → ContentForm (inner ++ braces.closing ∷ (braces.back ++ rest)) (braces.closing ∷ (braces.back ++ rest)) content → Form point (tokens ++ rest) (Goes (group_of content modifier) rest)
group_form point tokens inner rest content modifier b f =
    enclosed b.opening (inner ++ b.closing ∷ (b.back ++ rest)) (b.closing ∷ (b.back ++ rest)) content
    (ap (λ x. x ++ rest) b.cut ∙ ap (λ x. b.opening ∷ x) (append_assoc inner (b.closing ∷ b.back) rest))
    b.is_open (λ h. false≢true (subst (λ k. is_text k ≡ true) b.is_close h)) f
    (closes b.closing (b.back ++ rest) rest modifier refl b.is_close (modifier_form b.back rest modifier b.is_modifier b.takes_modifier) refl)

piece_form : (point : List ℕ) (front rest : List TokenView) (piece : Piece) → IsPiece point front piece rest → Form point (front ++ rest) (Goes piece rest)
piece_form point front rest (pieces.Text text) h = alone (h.0) rest (ap (λ x. x ++ rest) (h.1)) (h.2) (h.4) (ap (λ v. Goes (pieces.Text v) rest) (h.3))
piece_form point front rest (pieces.Bare prefix placeholder modifier) b =
    subst (λ x. Form point x (Goes (pieces.Bare prefix placeholder modifier) rest))
    (sym (ap (λ x. x ++ rest) b.cut ∙ append_assoc (b.front ++ b.middle) b.back rest ∙ append_assoc b.front b.middle (b.back ++ rest)))
    (prefix_form point prefix b.front (b.middle ++ (b.back ++ rest)) (b.back ++ rest) rest placeholder modifier b.is_prefix
    (placeholder_form b.middle (b.back ++ rest) placeholder.name placeholder.matched b.is_placeholder b.takes_regexp)
    (modifier_form b.back rest modifier b.is_modifier b.takes_modifier))
piece_form point front rest (pieces.TextGroup text modifier) h =
    let b = h.1 in
    group_form point front (h.0) rest (Texts text) modifier (h.1)
    (texts (h.0) refl (h.2.0) (λ g. false≢true (subst (λ k. is_placeholder k ≡ true) b.is_close g)) (ap Texts (h.2.1)))
piece_form point front rest (pieces.Group before placeholder after modifier) h =
    let b = h.1 in
    group_form point front (h.0) rest (Filled before placeholder after) modifier (h.1)
    (filled_form (h.0) (b.closing ∷ []) (b.closing ∷ (b.back ++ rest)) before after placeholder (widened placeholder.matched (b.back ++ rest) b.closing) (h.2))

ending_form : (point : List ℕ) (tokens : List TokenView) (ending : Ending) → IsEnding tokens ending → Form point tokens (Ends ending)
ending_form point tokens (Stops found) h = stopped found (h.0) (h.1) (h.2) refl
ending_form point tokens (LacksClose found) h = elim (h.5.1) [
  | inl t ↦ with_content (Texts (t.0)) (texts (h.1) refl (t.1.0) (t.2) (ap Texts (t.1.1)))
  | inr f ↦ with_content (Filled (f.0) (f.2) (f.1)) (filled_form (h.1) (found ∷ h.2) (found ∷ h.2) (f.0) (f.1) (f.2) (λ back r. r) (f.3))
]
  where
    with_content : (content : Content) → ContentForm (h.1 ++ found ∷ h.2) (found ∷ h.2) content → Form point tokens (Ends (LacksClose found))
    with_content content c = enclosed (h.0) (h.1 ++ found ∷ h.2) (found ∷ h.2) content (h.3) (h.4) (h.5.0) c (lacks found (h.2) refl (h.6) refl)

-- Tokens have at most one list of pieces, with one ending.
pub pieces_one : (point : List ℕ) (tokens : List TokenView) (pieces others : List Piece) (ending other : Ending) → ArePieces point tokens pieces ending → ArePieces point tokens others other → (pieces ≡ others) × (ending ≡ other)
pieces_one point tokens [] [] ending other h g =
    let e = form_one point tokens (Ends ending) (Ends other) (ending_form point tokens ending h) (ending_form point tokens other g) in
    (refl, cc e)
pieces_one point tokens [] (q ∷ others) ending other h g =
    absurd (cc (form_one point tokens (Ends ending) (Goes q (g.1)) (ending_form point tokens ending h) (subst (λ x. Form point x (Goes q (g.1))) (sym (g.2)) (piece_form point (g.0) (g.1) q (g.3)))))
pieces_one point tokens (p ∷ pieces) [] ending other h g =
    absurd (cc (form_one point tokens (Goes p (h.1)) (Ends other) (subst (λ x. Form point x (Goes p (h.1))) (sym (h.2)) (piece_form point (h.0) (h.1) p (h.3))) (ending_form point tokens other g)))
pieces_one point tokens (p ∷ pieces) (q ∷ others) ending other h g =
    let e = form_one point tokens (Goes p (h.1)) (Goes q (g.1)) (subst (λ x. Form point x (Goes p (h.1))) (sym (h.2)) (piece_form point (h.0) (h.1) p (h.3)))
    (subst (λ x. Form point x (Goes q (g.1))) (sym (g.2)) (piece_form point (g.0) (g.1) q (g.3))) in
    let same : p ≡ q = cc e in
    let rest : h.1 ≡ g.1 = cc e in
    let more = pieces_one point (h.1) pieces others ending other (h.4) (subst (λ x. ArePieces point x others other) (sym rest) (g.4)) in
    (ap (λ x. x ∷ pieces) same ∙ ap (λ x. q ∷ x) (more.0), more.1)
