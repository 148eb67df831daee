-- The content of braces is determined by its tokens.
use Rattle.std.proofs.Common.{◌≡◌, ℕ, Bool, List, [], ◌∷◌, ◌++◌, refl, sym, ap, ◌∙◌, subst, append_assoc}
use Rattle.std.specs.Prelude.{IsTrue}
use Rattle.std.specs.List.{list_all}
use Rattle.std.proofs.lemmas.Bool.{and_parts}
use Rattle.urlpattern_syntax.proofs.TokenWords.{joined_values}
use Rattle.urlpattern_syntax.specs.Pieces.{Placeholder, PlaceholderKindView, IsFilled, TakesRegexp, BeginsWithKind, is_text, is_placeholder, PlaceholderKindView as matched}
use Rattle.urlpattern_syntax.specs.Tokens.{TokenView}
use Rattle.urlpattern_meaning.proofs.PlaceholderForms.{cons_one, no_text, begins, PlaceholderForm, placeholder_form, placeholder_one, form_begins}

-- ---- texts

abbrev pub all_texts : List TokenView → Bool
all_texts tokens = list_all (λ (token : TokenView). is_text token.kind) tokens

-- The beginning and the rest are equal.
record OneCut (a b x y : List TokenView) : Type 0 where
  pub front : a ≡ b
  pub rest : x ≡ y

texts_one : (front other rest more : List TokenView) → IsTrue (all_texts front) → IsTrue (all_texts other) → ¬ BeginsWithKind is_text rest → ¬ BeginsWithKind is_text more → front ++ rest ≡ other ++ more → OneCut front other rest more
texts_one [] [] rest more h g none no' e = record { front = refl; rest = e }
texts_one [] (b ∷ other) rest more h g none no' e = absurd (none (begins is_text rest (other ++ more) b e (and_parts (is_text b.kind) (all_texts other) g).0))
texts_one (a ∷ front) [] rest more h g none no' e = absurd (no' (begins is_text more (front ++ rest) a (sym e) (and_parts (is_text a.kind) (all_texts front) h).0))
texts_one (a ∷ front) (b ∷ other) rest more h g none no' e =
    let one = cons_one refl e in
    let c = texts_one front other rest more (and_parts (is_text a.kind) (all_texts front) h).1 (and_parts (is_text b.kind) (all_texts other) g).1 none no' one.others in
    record { front = ap (λ x. x ∷ front) one.first ∙ ap (λ x. b ∷ x) c.front; rest = c.rest }

-- ---- the content of braces

pub data Content : Type 0 where
  Texts : List ℕ → Content
  Filled : List ℕ → Placeholder → List ℕ → Content

-- The content of braces, and the tokens after it, as the tokens determine them.
pub data ContentForm (tokens rest : List TokenView) (content : Content) : Type 0 where
  texts : (front : List TokenView) → tokens ≡ front ++ rest → IsTrue (all_texts front) → ¬ BeginsWithKind is_placeholder rest → content ≡ Texts (joined_values front) → ContentForm tokens rest content
  filled : (front behind back : List TokenView) (placeholder : Placeholder) → tokens ≡ front ++ behind → IsTrue (all_texts front) → PlaceholderForm behind (back ++ rest) placeholder → IsTrue (all_texts back) → content ≡ Filled (joined_values front) placeholder (joined_values back) → ContentForm tokens rest content

-- The rest and the content are equal.
pub record OneContent (x y : List TokenView) (c d : Content) : Type 0 where
  pub rest : x ≡ y
  pub content : c ≡ d

pub content_one : (tokens rest other : List TokenView) (x y : Content) → ¬ BeginsWithKind is_text rest → ¬ BeginsWithKind is_text other → ContentForm tokens rest x → ContentForm tokens other y → OneContent rest other x y
content_one tokens rest other x y none no' (texts a e h n s) (texts b f g m t) =
    let c = texts_one a b rest other h g none no' (sym e ∙ f) in
    record { rest = c.rest; content = s ∙ ap (λ z. Texts (joined_values z)) c.front ∙ sym t }
content_one tokens rest other x y none no' (texts a e h n s) (filled b behind back p f g q k t) =
    let is = form_begins behind (back ++ other) p q in
    let c = texts_one a b rest behind h g none (no_text behind is) (sym e ∙ f) in
    absurd (n (subst (BeginsWithKind is_placeholder) (sym c.rest) is))
content_one tokens rest other x y none no' (filled b behind back p f g q k t) (texts a e h n s) =
    let is = form_begins behind (back ++ rest) p q in
    let c = texts_one a b other behind h g no' (no_text behind is) (sym e ∙ f) in
    absurd (n (subst (BeginsWithKind is_placeholder) (sym c.rest) is))
content_one tokens rest other x y none no' (filled a behind back p e h q k s) (filled b behind' back' p' f g r l t) =
    let c = texts_one a b behind behind' h g (no_text behind (form_begins behind (back ++ rest) p q)) (no_text behind' (form_begins behind' (back' ++ other) p' r)) (sym e ∙ f) in
    let one = placeholder_one behind (back ++ rest) (back' ++ other) p p' q (subst (λ z. PlaceholderForm z (back' ++ other) p') (sym c.rest) r) in
    let d = texts_one back back' rest other k l none no' one.rest in
    record {
      rest = d.rest;
      content = s ∙ ap (λ z. Filled (joined_values z) p (joined_values back)) c.front ∙ ap (λ z. Filled (joined_values b) z (joined_values back)) one.placeholder
          ∙ ap (λ z. Filled (joined_values b) p' (joined_values z)) d.front ∙ sym t;
    }

-- Texts, a placeholder and texts, with more after them.
pub filled_form : (inner rest more : List TokenView) (before after : List ℕ) (placeholder : Placeholder) →
    ((back : List TokenView) → TakesRegexp placeholder.matched (back ++ rest) → TakesRegexp placeholder.matched (back ++ more)) →
    IsFilled inner before placeholder after rest → ContentForm (inner ++ more) more (Filled before placeholder after)
filled_form inner rest more before after placeholder widen f =
    filled f.front (f.middle ++ f.back ++ more) f.back placeholder
    (ap (λ x. x ++ more) f.cut ∙ append_assoc (f.front ++ f.middle) f.back more ∙ append_assoc f.front f.middle (f.back ++ more) ∙ ap (λ x. f.front ++ x) (sym (append_assoc f.middle f.back more)))
    (f.are_texts_before.0)
    (subst (λ x. PlaceholderForm x (f.back ++ more) placeholder) (sym (append_assoc f.middle f.back more))
    (placeholder_form f.middle (f.back ++ more) placeholder.name placeholder.matched f.is_placeholder (widen f.back f.takes_regexp)))
    (f.are_texts_after.0)
    (ap (λ x. Filled x placeholder after) (f.are_texts_before.1) ∙ ap (λ x. Filled (joined_values f.front) placeholder x) (f.are_texts_after.1))

-- A Close is not a Regexp that a name would take.
pub widened : (what : PlaceholderKindView) (behind : List TokenView) (closing : TokenView) (back : List TokenView) → TakesRegexp what (back ++ closing ∷ []) → TakesRegexp what (back ++ closing ∷ behind)
widened matched.Segment behind closing [] h = h
widened matched.Segment behind closing (token ∷ back) h = h
widened matched.Anything behind closing back h = tt
widened (matched.Custom body) behind closing back h = tt
