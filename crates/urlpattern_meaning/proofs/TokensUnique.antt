-- A text has one list of tokens or one first fault.
use Rattle.std.proofs.Common.{◌≡◌, ℕ, ◌⊎◌, List, [], ◌∷◌, ◌++◌, refl, sym, ap, ◌∙◌, subst, inl, inr, arith}
use Rattle.std.proofs.lemmas.Bool.{false≢true}
use Rattle.urlpattern_syntax.specs.declared.tokenizer.TokenType.TheVariants.{InvalidChar}
use Rattle.urlpattern_syntax.specs.Text.{BeginsAt, BeginsWith}
use Rattle.urlpattern_syntax.specs.Tokens.{AreLenientTokens, AreTokens, FaultView, IsCut, IsFault, IsFaultAt, IsInvalidCharOf, IsTokenOf, TokenView, end_of, is_ignored}
use Rattle.urlpattern_meaning.proofs.BodyStartTokens.{fault_at_one, fault_counts, lexed_counts, lexed_one, lexed_or_fault, no_fault, nothing_lexed, skips_one}

-- ---- one list of tokens or one first fault

-- The beginning of an item of a cut determines it, and no item begins with a skipped character.
record IsExact (Item : List ℕ → TokenView → List ℕ → Type 0) : Type 0 where
  one : (start : List ℕ) (token other : TokenView) (rest left : List ℕ) → Item start token rest → Item start other left → (token ≡ other) × (rest ≡ left)
  counts : (start : List ℕ) (token : TokenView) (rest : List ℕ) → Item start token rest → ¬ BeginsWith is_ignored start

-- No cut goes on from the rest.
record Stops (Item : List ℕ → TokenView → List ℕ → Type 0) (left : List ℕ) : Type 0 where
  counts : ¬ BeginsWith is_ignored left
  none : (token : TokenView) (rest : List ℕ) → ¬ Item left token rest

cut_one : (Item : List ℕ → TokenView → List ℕ → Type 0) → IsExact Item → (text : List ℕ) (tokens others : List TokenView) (left end : List ℕ) → IsCut Item text tokens left → IsCut Item text others end → Stops Item left → Stops Item end → (tokens ≡ others) × (left ≡ end)
cut_one Item exact text [] [] left end h g stops ends = (refl, skips_one is_ignored text left end h g stops.counts ends.counts)
cut_one Item exact text [] (other ∷ others) left end h g stops ends =
    let e = skips_one is_ignored text left g.0 h g.2 stops.counts (exact.counts g.0 other g.1 g.3) in
    absurd (stops.none other g.1 (subst (λ x. Item x other g.1) (sym e) g.3))
cut_one Item exact text (token ∷ tokens) [] left end h g stops ends =
    let e = skips_one is_ignored text end h.0 g h.2 ends.counts (exact.counts h.0 token h.1 h.3) in
    absurd (ends.none token h.1 (subst (λ x. Item x token h.1) (sym e) h.3))
cut_one Item exact text (token ∷ tokens) (other ∷ others) left end h g stops ends =
    let e = skips_one is_ignored text h.0 g.0 h.2 g.2 (exact.counts h.0 token h.1 h.3) (exact.counts g.0 other g.1 g.3) in
    let same = exact.one g.0 token other h.1 g.1 (subst (λ x. Item x token h.1) e h.3) g.3 in
    let more = cut_one Item exact g.1 tokens others left end (subst (λ x. IsCut Item x tokens left) same.1 h.4) g.4 stops ends in
    (let p : token ∷ tokens ≡ other ∷ others = cc (same.0, more.0) in p, more.1)

place_one : (whole text : List ℕ) (index place : ℕ) → BeginsAt whole text index → BeginsAt whole text place → index ≡ place
place_one whole text index place h g = omega arith

token_exact : (whole : List ℕ) → IsExact (IsTokenOf whole)
token_exact whole = record {
  one = λ start token other rest left h g.
      let e = lexed_one start token.kind other.kind token.value other.value rest left h.lexed g.lexed in
      let same : token.index ≡ other.index = place_one whole start token.index other.index h.place g.place in
      ((λ i. record { kind = e.0 i; index = same i; value = e.1 i }), e.2);
  counts = λ start token rest h. lexed_counts start token.kind token.value rest h.lexed;
}

token_stops : (whole : List ℕ) → Stops (IsTokenOf whole) []
token_stops whole = record {
  counts = λ b. false≢true b;
  none = λ token rest h. nothing_lexed token.kind token.value rest h.lexed;
}

fault_stops : (whole left : List ℕ) (fault : FaultView) → IsFaultAt left fault → Stops (IsTokenOf whole) left
fault_stops whole left fault f = record {
  counts = fault_counts left fault f;
  none = λ token rest h. lexed_or_fault left token.kind token.value rest fault h.lexed f;
}

-- A text has one list of strict tokens at most.
pub tokens_one : (text : List ℕ) (tokens others : List TokenView) → AreTokens text tokens → AreTokens text others → tokens ≡ others
tokens_one text tokens others h g =
    let e = cut_one (IsTokenOf text) (token_exact text) text h.front g.front [] [] h.cut g.cut (token_stops text) (token_stops text) in
    h.all ∙ ap (λ x. x ++ end_of text ∷ []) e.0 ∙ sym g.all

-- A text has at most one first fault.
pub fault_one : (text : List ℕ) (f g : FaultView) (i j : ℕ) → IsFault text f i → IsFault text g j → (f ≡ g) × (i ≡ j)
fault_one text f g i j h k =
    let e = (cut_one (IsTokenOf text) (token_exact text) text h.front k.front h.left k.left h.cut k.cut (fault_stops text h.left f h.fault) (fault_stops text k.left g k.fault)).1 in (
      fault_at_one k.left f g (subst (λ x. IsFaultAt x f) e h.fault) k.fault,
      place_one text k.left i j (subst (λ x. BeginsAt text x i) e h.place) k.place,
    )

-- A text never has both tokens and a fault.
pub tokens_or_fault : (text : List ℕ) (tokens : List TokenView) (f : FaultView) (i : ℕ) → AreTokens text tokens → IsFault text f i → ⊥
tokens_or_fault text tokens f i h g =
    let e = (cut_one (IsTokenOf text) (token_exact text) text h.front g.front [] g.left h.cut g.cut (token_stops text) (fault_stops text g.left f g.fault)).1 in
    no_fault f (subst (λ x. IsFaultAt x f) (sym e) g.fault)

-- ---- lenient tokens

-- A token, or a character in a fault's place.
abbrev pub LenientItem : (whole start : List ℕ) → TokenView → List ℕ → Type 0
LenientItem whole start token rest = IsTokenOf whole start token rest ⊎ IsInvalidCharOf whole start token rest

lenient_once : (whole start : List ℕ) (token other : TokenView) (rest left : List ℕ) → LenientItem whole start token rest → LenientItem whole start other left → (token ≡ other) × (rest ≡ left)
lenient_once whole start token other rest left (inl h) (inl g) = (token_exact whole).one start token other rest left h g
lenient_once whole start token other rest left (inl h) (inr g) =
    absurd (lexed_or_fault start token.kind token.value rest g.fault h.lexed g.is_fault)
lenient_once whole start token other rest left (inr h) (inl g) =
    absurd (lexed_or_fault start other.kind other.value left h.fault g.lexed h.is_fault)
lenient_once whole start token other rest left (inr h) (inr g) =
    let cut = sym h.cut ∙ g.cut in
    let same : h.character ≡ g.character = cc cut in
    let place : token.index ≡ other.index = place_one whole start token.index other.index h.place g.place in (
      h.is_token ∙ (λ i. record { kind = InvalidChar; index = place i; value = same i ∷ [] }) ∙ sym g.is_token,
      cc cut,
    )

lenient_counts : (whole start : List ℕ) (token : TokenView) (rest : List ℕ) → LenientItem whole start token rest → ¬ BeginsWith is_ignored start
lenient_counts whole start token rest (inl h) = lexed_counts start token.kind token.value rest h.lexed
lenient_counts whole start token rest (inr h) = fault_counts start h.fault h.is_fault

lenient_none : (whole : List ℕ) (token : TokenView) (rest : List ℕ) → ¬ LenientItem whole [] token rest
lenient_none whole token rest (inl h) = nothing_lexed token.kind token.value rest h.lexed
lenient_none whole token rest (inr h) = no_fault h.fault h.is_fault

-- A text has one list of lenient tokens at most.
pub lenient_tokens_one : (text : List ℕ) (tokens others : List TokenView) → AreLenientTokens text tokens → AreLenientTokens text others → tokens ≡ others
lenient_tokens_one text tokens others h g =
    let exact : IsExact (LenientItem text) = record { one = lenient_once text; counts = lenient_counts text } in
    let stops : Stops (LenientItem text) [] = record { counts = λ b. false≢true b; none = lenient_none text } in
    let e = cut_one (LenientItem text) exact text h.front g.front [] [] h.cut g.cut stops stops in
    h.all ∙ ap (λ x. x ++ end_of text ∷ []) e.0 ∙ sym g.all

-- Where there is no fault, the lenient tokens are the strict ones.
pub lenient_strict : (text : List ℕ) (tokens : List TokenView) → AreTokens text tokens → AreLenientTokens text tokens
lenient_strict text tokens h = record { front = h.front; cut = go text h.front h.cut; all = h.all }
  where
    go : (rest : List ℕ) (front : List TokenView) → IsCut (IsTokenOf text) rest front [] → IsCut (LenientItem text) rest front []
    go rest [] cut = cut
    go rest (token ∷ front) cut = (cut.0, cut.1, cut.2, inl cut.3, go cut.1 front cut.4)
