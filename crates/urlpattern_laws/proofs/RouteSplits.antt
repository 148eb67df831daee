-- Worked examples of splits: constructor strings of `https://example.com` with a path that has a
-- custom regular expression.
use Rattle.std.proofs.Common.{◌≡◌, ◌⊎◌, ℕ, zero, suc, ◌+◌, ◌<◌, ◌≤◌, Bool, true, not, ◌&&◌, ◌||◌, Some, None, List, [], ◌∷◌, ◌++◌, length, refl, sym, ap, ◌∙◌, inl, inr, arith, lit<}
use Rattle.std.proofs.lemmas.Bool.{and_parts, both_ways, cases_eq, false≢true, not-true}
use Rattle.std.specs.Char.{encode_utf8}
use Rattle.std.specs.Prelude.{codes, IsTrue, IsSomeAnd, Option, slice_get}
use Rattle.urlpattern_components.specs.Eight.{Values}
use Rattle.urlpattern_constructor.specs.Split.{EndsAt, IsAbsoluteSplit, IsSplitTextBetween, SplitTextView, SplitTexts, ends_at, implied, may_end}
use Rattle.urlpattern_constructor.specs.Splitting.{values_of_split}
use Rattle.urlpattern_constructor.specs.declared.sections.Section.{Section}
use Rattle.urlpattern_constructor.specs.declared.sections.Section.TheVariants.{Protocol, Authority, Hostname, Pathname}
use Rattle.urlpattern_init.proofs.SplitUnique.{splits_one_given}
use Rattle.urlpattern_init.specs.ConstructorString.{SplitsAs, SplitsInto, SplitsIntoTexts}
use Rattle.urlpattern_meaning.proofs.PlainTexts.{letters, plain_cut}
use Rattle.urlpattern_syntax.proofs.TokenExamples.{literals, mark, name, no, none, regexp, token}
use Rattle.urlpattern_syntax.specs.Text.{byte_len}
use Rattle.urlpattern_syntax.specs.Tokens.{AreLenientTokens, Escaped, InvalidName, IsCut, IsInvalidCharOf, IsRegexpBody, IsTokenOf, Nothing, Plain, TokenView, end_of}
use Rattle.urlpattern_syntax.specs.declared.tokenizer.TokenType.TheVariants.{InvalidChar, Name, OtherModifier, Regexp}

-- ---- steps

-- The section may end at none of `count` positions from `place` on.
abbrev may_not : Section → List TokenView → (from depth place count : ℕ) → Bool
may_not section tokens from depth place zero = true
may_not section tokens from depth place (suc count) = not (may_end section tokens from depth place) && may_not section tokens from depth (place + 1) count

nowhere : (section : Section) (tokens : List TokenView) (from depth place count : ℕ) → may_not section tokens from depth place count ≡ true → (other : ℕ) → place ≤ other → other < place + count → ¬ IsTrue (may_end section tokens from depth other)
nowhere section tokens from depth place zero h other after before may = absurd (omega arith)
nowhere section tokens from depth place (suc count) h other after before may =
    let parts = and_parts (not (may_end section tokens from depth place)) (may_not section tokens from depth (place + 1) count) h in
    elim (cases_eq other place) [
      | inl same ↦ absurd (both_ways (may_end section tokens from depth place) (not-true (may_end section tokens from depth place) parts.0) (ap (may_end section tokens from depth) (sym same) ∙ may))
      | inr differ ↦ nowhere section tokens from depth (place + 1) count parts.1 other (omega arith) (omega arith) may
    ]

-- A section ends `count` tokens after its beginning.
ends : (section : Section) (tokens : List TokenView) (from depth count place : ℕ) → place ≡ from + count → place < length tokens → IsTrue (may_end section tokens from depth place || ends_at tokens place) → may_not section tokens from depth from count ≡ true → EndsAt section tokens from depth place
ends section tokens from depth count place e within stops none = record {
  after = omega arith;
  within = within;
  stops = stops;
  least = λ other after before. nowhere section tokens from depth from count none other after (omega arith);
}

-- The text between two tokens.
between : (tokens : List TokenView) (from until : ℕ) (front text rest : List ℕ) → IsSomeAnd (slice_get tokens from) (λ token. token.index ≡ length front) → IsSomeAnd (slice_get tokens until) (λ token. token.index ≡ length front + length text) → byte_len front ≡ length front → byte_len text ≡ length text → IsSplitTextBetween (front ++ text ++ rest) tokens from until (record { text = text; start = Some (length front) })
between tokens from until front text rest begins stops same_front same_text = (
  record {
    front = front;
    rest = rest;
    cut = refl;
    begins = rw same_front begins;
    ends = rw (same_front, same_text) stops;
  },
  ap Some (sym same_front),
)

-- The text of a component, which the constructor string has at `start`.
abbrev found : (start : ℕ) → (text : List ℕ) → Option SplitTextView
found start text = Some (record { text = text; start = Some start })

answered : {A : Type 0} (special : Bool) (found : Option A) (Is : A → Type 0) → IsSomeAnd found Is → IsSomeAnd found (λ one. special ≡ special)
answered special (Some one) Is is = refl
answered special None Is is = absurd is

-- ---- `https://example.com/` and more

-- The components of a text with this path, with where each begins.
abbrev site_texts : (path : List ℕ) → SplitTexts
site_texts path = record { protocol = found 0 (codes "https"); username = None; password = None; hostname = found 8 (codes "example.com"); port = implied []; pathname = found 19 path; search = None; hash = None }

abbrev pub site_values : (path : List ℕ) → Values
site_values path = record { protocol = Some (codes "https"); username = None; password = None; hostname = Some (codes "example.com"); port = Some []; pathname = Some path; search = None; hash = None }

abbrev site_text : (rest : List ℕ) → List ℕ
site_text rest = codes "https://example.com/" ++ rest

-- The tokens up to the slash, and then those of the rest.
abbrev site_front : List TokenView → List TokenView
site_front tokens = letters 0 (codes "https") ++ token InvalidChar 5 (codes ":") ∷ letters 6 (codes "//example.com/") ++ tokens

abbrev site_tokens : (rest : List ℕ) → List TokenView → List TokenView
site_tokens rest tokens = site_front tokens ++ end_of (site_text rest) ∷ []

-- A token under the lenient policy.
abbrev IsLenient : (whole start : List ℕ) → TokenView → List ℕ → Type 0
IsLenient whole start one rest = IsTokenOf whole start one rest ⊎ IsInvalidCharOf whole start one rest

are_site_tokens : (rest : List ℕ) (tokens : List TokenView) → IsCut (IsLenient (site_text rest)) rest tokens [] → AreLenientTokens (site_text rest) (site_tokens rest tokens)
unfolding literals
are_site_tokens rest tokens cut = record {
  front = site_front tokens;
  cut =
      plain_cut (IsLenient (site_text rest)) (site_text rest) (λ start left one is. inl is) (codes "https") (codes "://example.com/" ++ rest) [] 0
      (token InvalidChar 5 (codes ":") ∷ letters 6 (codes "//example.com/") ++ tokens) refl (omega arith) (
        codes "://example.com/" ++ rest,
        codes "//example.com/" ++ rest,
        none,
        inr (record { character = _; cut = refl; fault = InvalidName; is_fault = (codes "//example.com/" ++ rest, refl, no); is_token = refl; place = omega arith }),
        plain_cut (IsLenient (site_text rest)) (site_text rest) (λ start left one is. inl is) (codes "//example.com/") rest [] 6 tokens refl (omega arith) cut,
      );
  all = refl;
}

-- The path ends with the text.
record HasPath (rest : List ℕ) (tokens : List TokenView) (place : ℕ) : Type 0 where
  ends : EndsAt Pathname (site_tokens rest tokens) 19 0 place
  path : IsSplitTextBetween (site_text rest) (site_tokens rest tokens) 19 place (record { text = codes "/" ++ rest; start = Some 19 })
  last : IsTrue (ends_at (site_tokens rest tokens) place)

-- When slashes follow, it makes no difference whether the protocol is special.
site_absolute : (rest : List ℕ) (tokens : List TokenView) (place : ℕ) → HasPath rest tokens place → (special : Bool) → IsAbsoluteSplit (site_text rest) (site_tokens rest tokens) special 5 (site_texts (codes "/" ++ rest))
unfolding byte_len encode_utf8
site_absolute rest tokens place has special = record {
  is_colon_there = refl;
  protocol_ends = ends Protocol (site_tokens rest tokens) 0 0 5 5 refl (omega arith) refl refl;
  protocol = between (site_tokens rest tokens) 0 5 [] (codes "https") (codes "://example.com/" ++ rest) refl refl refl refl;
  after = inl (
    refl,
    (
      19,
      ends Authority (site_tokens rest tokens) 8 0 11 19 refl (omega arith) refl refl,
      inr (
        false≢true,
        refl,
        refl,
        (
          19,
          ends Hostname (site_tokens rest tokens) 8 0 11 19 refl (omega arith) refl refl,
          between (site_tokens rest tokens) 8 19 (codes "https://") (codes "example.com") (codes "/" ++ rest) refl refl refl refl,
          inr (false≢true, refl, inl (refl, (place, has.ends, has.path, inr (inr (has.last, refl, refl))))),
        ),
      ),
    ),
  );
}

-- A text that is split alike, whether or not its protocol counts as special, has one split.
one_split : (text : List ℕ) (own : SplitTexts) → ((special : Bool) → SplitsAs text special own) → (IsSpecial : List ℕ → Bool → Type 0) (texts : SplitTexts) → SplitsIntoTexts IsSpecial text texts → texts ≡ own
one_split text own splits IsSpecial texts (tokens, are_tokens, inl relative) =
    splits_one_given text true texts own (tokens, are_tokens, inl relative) (splits true)
one_split text own splits IsSpecial texts (tokens, are_tokens, inr (colon, special, absolute, known)) =
    splits_one_given text special texts own (tokens, are_tokens, inr (colon, special, absolute, answered special _ _ known)) (splits special)

-- A text of the site has one split, whichever protocols are special.
site_split : (rest : List ℕ) (tokens : List TokenView) (place : ℕ) → IsCut (IsLenient (site_text rest)) rest tokens [] → HasPath rest tokens place → (IsSpecial : List ℕ → Bool → Type 0) (components : Values) →
    SplitsInto IsSpecial (site_text rest) components → components ≡ site_values (codes "/" ++ rest)
site_split rest tokens place cut has IsSpecial components (starts, (texts, split, are_values, are_starts)) =
    let splits : (special : Bool) → SplitsAs (site_text rest) special (site_texts (codes "/" ++ rest)) =
    λ special. (site_tokens rest tokens, are_site_tokens rest tokens cut, inr (5, special, site_absolute rest tokens place has special, refl)) in
    sym are_values ∙ ap values_of_split (one_split (site_text rest) (site_texts (codes "/" ++ rest)) splits IsSpecial texts split)

-- ---- https://example.com/orders/:id(\d+)

-- The body `\d+`: an escaped character and a plain one.
pub digits_body : IsRegexpBody (codes "\\d+")
digits_body = record {
  body = Escaped _ (Plain _ Nothing);
  is_body = (lit< tt, (lit< tt, no, tt));
  spelled = refl;
  not_empty = λ e. cc;
  not_marked = no;
}

abbrev pub orders_text : List ℕ
orders_text = codes "https://example.com/orders/:id(\\d+)"

abbrev orders_tokens : List TokenView
orders_tokens = letters 20 (codes "orders/") ++ token Name 27 (codes "id") ∷ token Regexp 30 (codes "\\d+") ∷ []

-- `orders_text` has one split, whichever protocols are special.
pub orders_split : (IsSpecial : List ℕ → Bool → Type 0) (components : Values) → SplitsInto IsSpecial orders_text components → components ≡ site_values (codes "/orders/:id(\\d+)")
unfolding literals
orders_split =
    site_split (codes "orders/:id(\\d+)") orders_tokens 29
    (plain_cut (IsLenient orders_text) orders_text (λ start left one is. inl is) (codes "orders/") (codes ":id(\\d+)") [] 20 (token Name 27 (codes "id") ∷ token Regexp 30 (codes "\\d+") ∷ []) refl refl
    (codes ":id(\\d+)", codes "(\\d+)", none, inl (name (codes "id") (refl, refl) no refl), (codes "(\\d+)", [], none, inl (regexp (codes "\\d+") digits_body refl), none)))
    (record {
      ends = ends Pathname (site_tokens (codes "orders/:id(\\d+)") orders_tokens) 19 0 10 29 refl (lit< tt) refl refl;
      path = between (site_tokens (codes "orders/:id(\\d+)") orders_tokens) 19 29 (codes "https://example.com") (codes "/orders/:id(\\d+)") [] refl refl refl refl;
      last = refl;
    })

-- ---- https://example.com/:lang(en|fr)?/docs

-- The body `en|fr` has only plain characters.
pub languages_body : IsRegexpBody (codes "en|fr")
languages_body = record {
  body = Plain _ (Plain _ (Plain _ (Plain _ (Plain _ Nothing))));
  is_body = (lit< tt, no, (lit< tt, no, (lit< tt, no, (lit< tt, no, (lit< tt, no, tt)))));
  spelled = refl;
  not_empty = λ e. cc;
  not_marked = no;
}

abbrev pub docs_text : List ℕ
docs_text = codes "https://example.com/:lang(en|fr)?/docs"

-- The question mark after a custom regular expression is a modifier, and begins no search.
abbrev docs_tokens : List TokenView
docs_tokens = token Name 20 (codes "lang") ∷ token Regexp 25 (codes "en|fr") ∷ token OtherModifier 32 (codes "?") ∷ letters 33 (codes "/docs")

-- `docs_text` has one split, whichever protocols are special.
pub docs_split : (IsSpecial : List ℕ → Bool → Type 0) (components : Values) → SplitsInto IsSpecial docs_text components → components ≡ site_values (codes "/:lang(en|fr)?/docs")
unfolding literals
docs_split =
    site_split (codes ":lang(en|fr)?/docs") docs_tokens 28 (
      codes ":lang(en|fr)?/docs",
      codes "(en|fr)?/docs",
      none,
      inl (name (codes "lang") (refl, refl) no refl),
      (
        codes "(en|fr)?/docs",
        codes "?/docs",
        none,
        inl (regexp (codes "en|fr") languages_body refl),
        (
          codes "?/docs",
          codes "/docs",
          none,
          inl (mark (refl, inr refl) tt refl),
          plain_cut (IsLenient docs_text) docs_text (λ start left one is. inl is) (codes "/docs") [] [] 33 [] refl refl none,
        ),
      ),
    )
    (record {
      ends = ends Pathname (site_tokens (codes ":lang(en|fr)?/docs") docs_tokens) 19 0 9 28 refl (lit< tt) refl refl;
      path = between (site_tokens (codes ":lang(en|fr)?/docs") docs_tokens) 19 28 (codes "https://example.com") (codes "/:lang(en|fr)?/docs") [] refl refl refl refl;
      last = refl;
    })
