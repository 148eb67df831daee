-- The places of tokens in a text, of which nothing is lost.
use Rattle.std.proofs.Common.{◌≡◌, ℕ, suc, ◌+◌, ◌≤◌, ◌<◌, List, [], ◌∷◌, ◌++◌, refl, sym, ap, ◌∙◌, subst, inl, inr, append_assoc, arith}
use Rattle.std.proofs.lemmas.List.{append-nil}
use Rattle.urlpattern_syntax.proofs.TextLemmas.{byte_len-append, length-le-byte_len}
use Rattle.urlpattern_syntax.proofs.TokenLemmas.{Spells-some}
use Rattle.urlpattern_syntax.specs.declared.tokenizer.TokenType.{TokenType}
use Rattle.urlpattern_syntax.specs.declared.tokenizer.TokenType.TheVariants.{Asterisk, Char, Close, End, EscapedChar, InvalidChar, Name, Open, OtherModifier, Regexp}
use Rattle.urlpattern_meaning.specs.Laws.{AreSpelledFrom, spelling}
use Rattle.urlpattern_syntax.specs.Text.{byte_len, BeginsAt}
use Rattle.urlpattern_syntax.specs.Tokens.{AreLenientTokens, AreTokens, IsCut, Spells, TokenView, end_of}
use Rattle.urlpattern_meaning.proofs.TokensUnique.{LenientItem, lenient_strict}

-- ---- places of tokens, and the whole text

spelling_is : (kind : TokenType) (value text : List ℕ) → Spells kind value text → text ≡ spelling kind value
spelling_is Open value text h = sym h.0
spelling_is Close value text h = sym h.0
spelling_is Asterisk value text h = sym h.0
spelling_is OtherModifier value text h = sym h.0
spelling_is EscapedChar value text h = h.0
spelling_is Name value text h = h.0
spelling_is Regexp value text h = h.0
spelling_is Char value text h = sym h.0
spelling_is End value text h = absurd h
spelling_is InvalidChar value text h = absurd h

-- The spelling and place of the token of an item of a cut.
record IsPlaced (whole start : List ℕ) (token : TokenView) (rest : List ℕ) : Type 0 where
  cut : start ≡ spelling token.kind token.value ++ rest
  some : 0 < byte_len (spelling token.kind token.value)
  place : BeginsAt whole start token.index
  before_end : ¬ (token.kind ≡ End)

Spells-before_end : (kind : TokenType) (value text : List ℕ) → Spells kind value text → ¬ (kind ≡ End)
Spells-before_end kind value text h e = subst (λ k. Spells k value text) e h

lenient_placed : (whole start : List ℕ) (token : TokenView) (rest : List ℕ) → LenientItem whole start token rest → IsPlaced whole start token rest
lenient_placed whole start token rest (inl h) =
    let same = spelling_is token.kind token.value h.lexed.spelling h.lexed.spells in
    let some = Spells-some token.kind token.value h.lexed.spelling h.lexed.spells in
    let least = length-le-byte_len h.lexed.spelling in
    record {
      cut = h.lexed.cut ∙ ap (λ x. x ++ rest) same;
      some = subst (λ x. 0 < byte_len x) same (omega arith);
      place = h.place;
      before_end = Spells-before_end token.kind token.value h.lexed.spelling h.lexed.spells;
    }
lenient_placed whole start token rest (inr h) =
    let same : spelling token.kind token.value ≡ h.character ∷ [] = ap (λ (t : TokenView). spelling t.kind t.value) h.is_token in
    let least = length-le-byte_len (h.character ∷ []) in
    record {
      cut = h.cut ∙ ap (λ x. x ++ rest) (sym same);
      some = subst (λ x. 0 < byte_len x) (sym same) (omega arith);
      place = h.place;
      before_end = λ e. let f : InvalidChar ≡ End = sym (ap (λ (t : TokenView). t.kind) h.is_token) ∙ e in cc f;
    }

module _ (whole : List ℕ) where
  cut_lays : (text : List ℕ) (front : List TokenView) (place : ℕ) → IsCut (LenientItem whole) text front [] → BeginsAt whole text place → AreSpelledFrom place (front ++ end_of whole ∷ []) text
  cut_lays text [] place cut at =
      let same = ap byte_len (cut.1 ∙ append-nil cut.0) in
      (cut.0, [], cut.1 ∙ sym (append-nil (cut.0 ++ [])), cut.2, omega arith, refl)
  cut_lays text (token ∷ front) place cut at =
      let item = lenient_placed whole cut.0 token cut.1 cut.3 in
      let skips = ap byte_len cut.2.1 ∙ byte_len-append cut.2.0 cut.0 in
      let spells = ap byte_len item.cut ∙ byte_len-append (spelling token.kind token.value) cut.1 in
      let placed = item.place in (
        cut.2.0,
        cut.1,
        cut.2.1 ∙ ap (λ x. cut.2.0 ++ x) item.cut ∙ sym (append_assoc cut.2.0 (spelling token.kind token.value) cut.1),
        cut.2.2,
        omega arith,
        cut_lays cut.1 front (token.index + byte_len (spelling token.kind token.value)) cut.4 (omega arith),
      )

-- The tokens' spellings and the skipped characters between them are the whole text, and each
-- token's index is its place.
pub lenient_lay : (text : List ℕ) (tokens : List TokenView) → AreLenientTokens text tokens → AreSpelledFrom 0 tokens text
lenient_lay text tokens h = subst (λ x. AreSpelledFrom 0 x text) (sym h.all) (cut_lays text text h.front 0 h.cut (omega arith))

pub tokens_lay : (text : List ℕ) (tokens : List TokenView) → AreTokens text tokens → AreSpelledFrom 0 tokens text
tokens_lay text tokens h = lenient_lay text tokens (lenient_strict text tokens h)

-- ---- indexes rise

-- The first index is at least `least`, and each is greater than the one before.
abbrev RisesFrom : ℕ → List TokenView → Type 0
RisesFrom least [] = Unit {0}
RisesFrom least (token ∷ tokens) = (least ≤ token.index) × RisesFrom (suc token.index) tokens

cut_rises : (whole text : List ℕ) (front : List TokenView) (least : ℕ) → IsCut (LenientItem whole) text front [] → least + byte_len text ≤ byte_len whole → RisesFrom least (front ++ end_of whole ∷ [])
cut_rises whole text [] least cut le = (omega arith, tt)
cut_rises whole text (token ∷ front) least cut le =
    let item = lenient_placed whole cut.0 token cut.1 cut.3 in
    let skips = ap byte_len cut.2.1 ∙ byte_len-append cut.2.0 cut.0 in
    let spells = ap byte_len item.cut ∙ byte_len-append (spelling token.kind token.value) cut.1 in
    let placed = item.place in
    let some = item.some in
    (omega arith, cut_rises whole cut.1 front (suc token.index) cut.4 (omega arith))

rises_least : (least : ℕ) (front back : List TokenView) (token : TokenView) → RisesFrom least (front ++ token ∷ back) → least ≤ token.index
rises_least least [] back token h = h.0
rises_least least (first ∷ front) back token h =
    let more = rises_least (suc first.index) front back token h.1 in
    let le = h.0 in
    omega arith

rises_between : (least : ℕ) (front between back : List TokenView) (token later : TokenView) → RisesFrom least (front ++ token ∷ (between ++ later ∷ back)) → token.index < later.index
rises_between least [] between back token later h = rises_least (suc token.index) between back later h.1
rises_between least (first ∷ front) between back token later h = rises_between (suc first.index) front between back token later h.1

-- A token's index is less than that of each token after it, End's too.
pub lenient_rise : (text : List ℕ) (tokens front between back : List TokenView) (token later : TokenView) → AreLenientTokens text tokens → tokens ≡ front ++ token ∷ (between ++ later ∷ back) → token.index < later.index
lenient_rise text tokens front between back token later h e =
    rises_between 0 front between back token later
    (subst (RisesFrom 0) (sym h.all ∙ e) (cut_rises text text h.front 0 h.cut (omega arith)))

pub tokens_rise : (text : List ℕ) (tokens front between back : List TokenView) (token later : TokenView) → AreTokens text tokens → tokens ≡ front ++ token ∷ (between ++ later ∷ back) → token.index < later.index
tokens_rise text tokens front between back token later h = lenient_rise text tokens front between back token later (lenient_strict text tokens h)

-- ---- End is last, and only the last

no_tail : {A : Type 0} (x : A) (front back : List A) → ¬ ([] ≡ front ++ x ∷ back)
no_tail x [] back e = cc e
no_tail x (y ∷ front) back e = cc e

last_same : {A : Type 0} (xs ys : List A) (x y : A) → xs ++ x ∷ [] ≡ ys ++ y ∷ [] → x ≡ y
last_same [] [] x y e = cc e
last_same [] (z ∷ ys) x y e = absurd (no_tail y ys [] (cc e))
last_same (z ∷ xs) [] x y e = absurd (no_tail x xs [] (cc e))
last_same (z ∷ xs) (w ∷ ys) x y e = last_same xs ys x y (cc e)

cut_ends : (whole text : List ℕ) (cut_front front back : List TokenView) (token : TokenView) → IsCut (LenientItem whole) text cut_front [] → cut_front ++ end_of whole ∷ [] ≡ front ++ token ∷ back → token.kind ≡ End → back ≡ []
cut_ends whole text [] [] back token cut e is_end = cc e
cut_ends whole text [] (other ∷ front) back token cut e is_end = absurd (no_tail token front back (cc e))
cut_ends whole text (first ∷ cut_front) [] back token cut e is_end =
    let same : first ≡ token = cc e in
    absurd ((lenient_placed whole cut.0 first cut.1 cut.3).before_end (ap (λ (t : TokenView). t.kind) same ∙ is_end))
cut_ends whole text (first ∷ cut_front) (other ∷ front) back token cut e is_end =
    cut_ends whole cut.1 cut_front front back token cut.4 (cc e) is_end

-- No token but the last is an End.
pub lenient_end_last : (text : List ℕ) (tokens front back : List TokenView) (token : TokenView) → AreLenientTokens text tokens → tokens ≡ front ++ token ∷ back → token.kind ≡ End → back ≡ []
lenient_end_last text tokens front back token h e is_end = cut_ends text text h.front front back token h.cut (sym h.all ∙ e) is_end

pub end_last : (text : List ℕ) (tokens front back : List TokenView) (token : TokenView) → AreTokens text tokens → tokens ≡ front ++ token ∷ back → token.kind ≡ End → back ≡ []
end_last text tokens front back token h = lenient_end_last text tokens front back token (lenient_strict text tokens h)

-- The last token is the End, after the whole text.
pub lenient_last_end : (text : List ℕ) (tokens front : List TokenView) (token : TokenView) → AreLenientTokens text tokens → tokens ≡ front ++ token ∷ [] → token ≡ end_of text
lenient_last_end text tokens front token h e = last_same front h.front token (end_of text) (sym e ∙ h.all)

pub last_end : (text : List ℕ) (tokens front : List TokenView) (token : TokenView) → AreTokens text tokens → tokens ≡ front ++ token ∷ [] → token ≡ end_of text
last_end text tokens front token h = lenient_last_end text tokens front token (lenient_strict text tokens h)

-- ---- each token in the text

lays_stand : (place : ℕ) (front back : List TokenView) (token : TokenView) (text : List ℕ) → AreSpelledFrom place (front ++ token ∷ back) text → (before behind : List ℕ) × (text ≡ before ++ spelling token.kind token.value ++ behind) × (token.index ≡ place + byte_len before)
lays_stand place [] back token text h = (h.0, h.1, h.2, h.4)
lays_stand place (first ∷ front) back token text h =
    let own = spelling first.kind first.value in
    let mine = spelling token.kind token.value in
    let more = lays_stand (first.index + byte_len own) front back token h.1 h.5 in
    let sizes = byte_len-append (h.0 ++ own) more.0 in
    let inner = byte_len-append h.0 own in
    let own_place = h.4 in
    let next_place = more.3 in (
      (h.0 ++ own) ++ more.0,
      more.1,
      h.2 ∙ ap (λ x. (h.0 ++ own) ++ x) more.2 ∙ sym (append_assoc (h.0 ++ own) (more.0 ++ mine) more.1)
          ∙ ap (λ x. x ++ more.1) (sym (append_assoc (h.0 ++ own) more.0 mine)),
      omega arith,
    )

-- The text has each token's spelling at the token's index.
pub lenient_stand : (text : List ℕ) (tokens front back : List TokenView) (token : TokenView) → AreLenientTokens text tokens → tokens ≡ front ++ token ∷ back → (before behind : List ℕ) × (text ≡ before ++ spelling token.kind token.value ++ behind) × (token.index ≡ byte_len before)
lenient_stand text tokens front back token h e =
    let stand = lays_stand 0 front back token text (subst (λ x. AreSpelledFrom 0 x text) e (lenient_lay text tokens h)) in
    let place = stand.3 in
    (stand.0, stand.1, stand.2, omega arith)

pub tokens_stand : (text : List ℕ) (tokens front back : List TokenView) (token : TokenView) → AreTokens text tokens → tokens ≡ front ++ token ∷ back → (before behind : List ℕ) × (text ≡ before ++ spelling token.kind token.value ++ behind) × (token.index ≡ byte_len before)
tokens_stand text tokens front back token h = lenient_stand text tokens front back token (lenient_strict text tokens h)
