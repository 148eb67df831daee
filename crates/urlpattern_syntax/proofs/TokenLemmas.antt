-- Lemmas on tokens: skipped characters, the rest of a body, and joined cuts.
use Rattle.std.proofs.Common.{◌≡◌, ℕ, ◌<◌, ◌⊎◌, Bool, true, false, List, [], ◌∷◌, ◌++◌, length, refl, sym, ap, ◌∙◌, subst, inl, inr, arith, append_assoc}
use Rattle.std.specs.Prelude.{codes, IsTrue}
use Rattle.std.proofs.lemmas.Bool.{both_ways, and_from}
use Rattle.std.proofs.lemmas.List.Folds.{list_all-append}
use Rattle.std.proofs.lemmas.List.{append_cancel_right}
use Rattle.urlpattern_syntax.specs.declared.tokenizer.TokenizePolicy.{TokenizePolicy}
use Rattle.urlpattern_syntax.specs.declared.tokenizer.TokenizePolicy.TheVariants as policies
use Rattle.urlpattern_syntax.specs.declared.tokenizer.TokenType.{TokenType}
use Rattle.urlpattern_syntax.specs.declared.tokenizer.TokenType.TheVariants.{Asterisk, Char, Close, End, EscapedChar, InvalidChar, Name, Open, OtherModifier, Regexp}
use Rattle.urlpattern_syntax.specs.Text.{byte_len, BeginsAt, BeginsWith, is_among, is_name_start, is_name_part}
use Rattle.urlpattern_syntax.proofs.TextLemmas.{byte_len-append, length-le-byte_len}
use Rattle.urlpattern_syntax.specs.Tokens.{TokenView, end_of, AreTokensUnder, IsCut, IsInvalidChar, IsInvalidCharOf, IsTokenOf, Skips, SkipsBy, IsLexed, Spells, IsMaximal, IsName, IsFaultAt, InvalidName, marks, is_ignored}

-- ---- skipped characters

pub SkipsBy-none : (p : ℕ → Bool) (text : List ℕ) → SkipsBy p text text
SkipsBy-none p text = ([], refl, refl)

pub SkipsBy-more : (p : ℕ → Bool) (text rest after : List ℕ) (c : ℕ) → SkipsBy p text rest → rest ≡ c ∷ after → p c ≡ true → SkipsBy p text after
SkipsBy-more p text rest after c s e h = (
  s.0 ++ c ∷ [],
  s.1 ∙ ap (λ x. s.0 ++ x) e ∙ sym (append_assoc s.0 (c ∷ []) after),
  list_all-append p s.0 (c ∷ []) ∙ and_from _ _ s.2 (and_from _ _ h refl),
)

pub SkipsBy-joined : (p : ℕ → Bool) (text rest left : List ℕ) → SkipsBy p text rest → SkipsBy p rest left → SkipsBy p text left
SkipsBy-joined p text rest left s t = (
  s.0 ++ t.0,
  s.1 ∙ ap (λ x. s.0 ++ x) t.1 ∙ sym (append_assoc s.0 t.0 left),
  list_all-append p s.0 t.0 ∙ and_from _ _ s.2 t.2,
)

-- ---- tokens at the start of a text

-- The text before all but the first character is that character.
pub one_character : (text value rest : List ℕ) (c : ℕ) → text ≡ c ∷ rest → text ≡ value ++ rest → value ≡ c ∷ []
one_character text value rest c e f = append_cancel_right value (c ∷ []) rest (sym f ∙ e)

pub escaped_lexed : (text value rest : List ℕ) (c : ℕ) → text ≡ c ∷ rest → text ≡ value ++ rest → IsLexed (codes "\\" ++ text) EscapedChar value rest
escaped_lexed text value rest c e f = record {
  spelling = codes "\\" ++ value;
  cut = ap (λ x. codes "\\" ++ x) f;
  spells = (refl, (c, one_character text value rest c e f));
  ends = tt;
}

-- A name after a colon: its first character, and all name characters after it.
pub name_lexed : (text value tail rest : List ℕ) (c : ℕ) → text ≡ c ∷ tail → is_name_start c ≡ true → SkipsBy is_name_part tail rest → ¬ BeginsWith is_name_part rest → text ≡ value ++ rest → IsLexed (codes ":" ++ text) Name value rest
name_lexed text value tail rest c e starts skips all f = record {
  spelling = codes ":" ++ value;
  cut = ap (λ x. codes ":" ++ x) f;
  spells = (refl, subst IsName (sym whole) (starts, skips.2));
  ends = all;
}
  where
    whole : value ≡ c ∷ skips.0
    whole = append_cancel_right value (c ∷ skips.0) rest (sym f ∙ e ∙ ap (λ x. c ∷ x) skips.1)

-- A colon without a name is a fault.
pub no_name : (text : List ℕ) → ¬ BeginsWith is_name_start text → IsFaultAt (codes ":" ++ text) InvalidName
no_name text h = (text, refl, h)

-- A character that is the spelling of a token.
pub character_lexed : (kind : TokenType) (text value rest : List ℕ) (c : ℕ) → text ≡ c ∷ rest → text ≡ value ++ rest → ((spelling : List ℕ) → spelling ≡ c ∷ [] → Spells kind spelling spelling) → IsMaximal kind rest → IsLexed text kind value rest
character_lexed kind text value rest c e f spells ends = record {
  spelling = value;
  cut = f;
  spells = spells value (one_character text value rest c e f);
  ends = ends;
}

-- A text that does not begin with a skipped character begins with a character that is not skipped.
pub not_ignored : (text rest : List ℕ) (c : ℕ) → text ≡ c ∷ rest → ¬ BeginsWith is_ignored text → ¬ IsTrue (is_ignored c)
not_ignored text rest c e h g = h (subst (BeginsWith is_ignored) (sym e) g)

pub Spells-char : (c : ℕ) → is_among marks c ≡ false → ¬ IsTrue (is_ignored c) → (spelling : List ℕ) → spelling ≡ c ∷ [] → Spells Char spelling spelling
Spells-char c plain counts spelling e = (refl, (c, e, (λ h. both_ways _ plain h), counts))

-- ---- cuts

pub IsCut-more : (Item : List ℕ → TokenView → List ℕ → Type 0) (text : List ℕ) (tokens : List TokenView) (left rest next : List ℕ) (token : TokenView) → IsCut Item text tokens left → Item left token rest → Skips rest next → IsCut Item text (tokens ++ token ∷ []) next
IsCut-more Item text [] left rest next token cut item skips = (left, rest, cut, item, skips)
IsCut-more Item text (first ∷ tokens) left rest next token cut item skips =
    (cut.0, cut.1, cut.2, cut.3, IsCut-more Item cut.1 tokens left rest next token cut.4 item skips)

-- A spelling is not empty.
pub Spells-some : (kind : TokenType) (value text : List ℕ) → Spells kind value text → 0 < length text
Spells-some Open value text h = omega (arith, ap length h.1)
Spells-some Close value text h = omega (arith, ap length h.1)
Spells-some Asterisk value text h = omega (arith, ap length h.1)
Spells-some OtherModifier value text h = elim h.1 [ inl e ↦ omega (arith, ap length e) | inr e ↦ omega (arith, ap length e) ]
Spells-some EscapedChar value text h = omega (arith, ap length h.0)
Spells-some Name value text h = omega (arith, ap length h.0)
Spells-some Regexp value text h = omega (arith, ap length h.0)
Spells-some Char value text h = omega (arith, ap length h.1.1)
Spells-some End value text h = absurd h
Spells-some InvalidChar value text h = absurd h

-- The text after a token is shorter.
pub IsLexed-shorter : (text value rest : List ℕ) (kind : TokenType) → IsLexed text kind value rest → byte_len rest < byte_len text
IsLexed-shorter text value rest kind h =
    let some = Spells-some kind value h.spelling h.spells in
    let least = length-le-byte_len h.spelling in
    let e = ap byte_len h.cut ∙ byte_len-append h.spelling rest in
    omega arith

pub end_view : (text value : List ℕ) (index : ℕ) → index ≡ byte_len text → value ≡ [] → record { kind = End; index = index; value = value } ≡ end_of text
end_view text value index e f = λ i. record { kind = End; index = e i; value = f i }

-- ---- tokens under a policy

-- The text, a suffix of `whole`, begins with the token under the policy, and `rest` follows.
abbrev pub IsTokenUnder : TokenizePolicy → (whole text : List ℕ) → TokenView → (rest : List ℕ) → Type 0
IsTokenUnder policies.Strict whole text token rest = IsTokenOf whole text token rest
IsTokenUnder policies.Lenient whole text token rest = IsTokenOf whole text token rest ⊎ IsInvalidCharOf whole text token rest

abbrev pub IsCutUnder : TokenizePolicy → (text : List ℕ) → List TokenView → (left : List ℕ) → Type 0
IsCutUnder policy text tokens left = IsCut (IsTokenUnder policy text) text tokens left

-- The text begins with a token, or, if the policy is lenient, with a character that begins none.
abbrev pub IsLexedUnder : TokenizePolicy → List ℕ → TokenType → (value rest : List ℕ) → Type 0
IsLexedUnder policies.Strict text kind value rest = IsLexed text kind value rest
IsLexedUnder policies.Lenient text kind value rest = IsLexed text kind value rest ⊎ IsInvalidChar text kind value rest

-- The text after a character that begins no token is shorter.
pub IsInvalidChar-shorter : (text value rest : List ℕ) (kind : TokenType) → IsInvalidChar text kind value rest → byte_len rest < byte_len text
IsInvalidChar-shorter text value rest kind h =
    let least = length-le-byte_len (h.character ∷ []) in
    let e = ap byte_len h.cut ∙ byte_len-append (h.character ∷ []) rest in
    omega arith

pub IsLexedUnder-shorter : (policy : TokenizePolicy) (text value rest : List ℕ) (kind : TokenType) → IsLexedUnder policy text kind value rest → byte_len rest < byte_len text
IsLexedUnder-shorter policies.Strict text value rest kind h = IsLexed-shorter text value rest kind h
IsLexedUnder-shorter policies.Lenient text value rest kind h =
    elim h [ inl lexed ↦ IsLexed-shorter text value rest kind lexed | inr invalid ↦ IsInvalidChar-shorter text value rest kind invalid ]

invalid_token : (whole text value rest : List ℕ) (kind : TokenType) (index : ℕ) → IsInvalidChar text kind value rest → BeginsAt whole text index → IsInvalidCharOf whole text (record { kind = kind; index = index; value = value }) rest
invalid_token whole text value rest kind index h place = record {
  character = h.character;
  cut = h.cut;
  fault = h.fault;
  is_fault = h.is_fault;
  is_token = λ i. record { kind = h.is_kind i; index = index; value = h.is_value i };
  place = place;
}

pub IsTokenUnder-made : (policy : TokenizePolicy) (whole text value rest : List ℕ) (kind : TokenType) (index : ℕ) → IsLexedUnder policy text kind value rest → BeginsAt whole text index → IsTokenUnder policy whole text (record { kind = kind; index = index; value = value }) rest
IsTokenUnder-made policies.Strict whole text value rest kind index h place = record { lexed = h; place = place }
IsTokenUnder-made policies.Lenient whole text value rest kind index h place = elim h [
  | inl lexed ↦ inl (record { lexed = lexed; place = place })
  | inr invalid ↦ inr (invalid_token whole text value rest kind index invalid place)
]

-- A further token, and the skipped characters after it.
pub IsCutUnder-more : (policy : TokenizePolicy) (text : List ℕ) (tokens : List TokenView) (left value rest next : List ℕ) (kind : TokenType) (index : ℕ) → IsCutUnder policy text tokens left → IsLexedUnder policy left kind value rest → BeginsAt text left index → Skips rest next → IsCutUnder policy text (tokens ++ record { kind = kind; index = index; value = value } ∷ []) next
IsCutUnder-more policy text tokens left value rest next kind index cut lexed place skips =
    IsCut-more (IsTokenUnder policy text) text tokens left rest next (record { kind = kind; index = index; value = value }) cut (IsTokenUnder-made policy text left value rest kind index lexed place) skips

-- The tokens of a cut of the whole text, with End after them, are the tokens of the text.
pub AreTokensUnder-cut : (policy : TokenizePolicy) (text : List ℕ) (tokens front : List TokenView) → IsCutUnder policy text front [] → tokens ≡ front ++ end_of text ∷ [] → AreTokensUnder policy text tokens
AreTokensUnder-cut policies.Strict text tokens front cut all = record { front = front; cut = cut; all = all }
AreTokensUnder-cut policies.Lenient text tokens front cut all = record { front = front; cut = cut; all = all }
