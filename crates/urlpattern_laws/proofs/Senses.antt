-- The texts and captures of a pattern, and the condition under which its captures are known.
use Rattle.std.proofs.Common.{◌≡◌, ℕ, suc, ◌+◌, List, [], ◌∷◌, ◌++◌, Bool, true, false, refl, sym, ap, ◌∙◌, subst, arith, max, true≢false}
use Rattle.std.proofs.lemmas.Bool.{and_parts, and_from}
use lib.Utf8.{scalars}
use Rattle.regex_hir.specs.Re.{Re, empty, byte_in, cat, alt, group, plus}
use Rattle.regex_syntax.specs.Brackets.{Nested}
use Rattle.regex_syntax.specs.Grammar.{group_count}
use Rattle.urlpattern_laws.proofs.Catching.{Catches, Only, Perhaps, Then, Whole, catches_alone, catches_group, catches_last, catches_perhaps, catches_same, catches_silent}
use Rattle.urlpattern_laws.proofs.Choices.{Cuts, Tries, allows_none, cuts_captured, cuts_idle, cuts_quantified, tries_alone, tries_captured, tries_idle, tries_last, tries_quantified}
use Rattle.urlpattern_laws.proofs.Denoting.{Texts, Denotes, Joined, Nothing, Quantified, AreSameTexts, denotes_same, denotes_empty, denotes_alone, denotes_last, denotes_quantified}
use Rattle.urlpattern_expressions.specs.Expressions.{is_groupless, matches_characters}
use Rattle.urlpattern_expressions.specs.PartWays.{captured_whole, followed_by}
use Rattle.urlpattern_meaning.specs.Dialect.{Quantifier, Optional, ZeroOrMore}
use Rattle.urlpattern_meaning.specs.PartMeaning.{Captures}
use Rattle.urlpattern_meaning.specs.Ways.{WaysByText, empty_way, quantified_ways}
use Rattle.urlpattern_engine.proofs.ItemsRead.{repeated_as}

-- The texts of a pattern, and, if `Known` holds: the number of captures, the captures and the ways,
-- in order.
pub record Sense : Type 1 where
  pub Is : List ℕ → Type 0
  pub count : ℕ
  pub Cap : List ℕ → Captures → Type 0
  pub Known : Type 0
  pub ways : WaysByText

-- A sense without captures.
abbrev pub quiet : Type 0 → Texts → WaysByText → Sense
quiet Known Is ways = record { Is = Is; count = 0; Cap = Only Is; Known = Known; ways = ways }

abbrev pub joined : Sense → Sense → Sense
joined s u = record { Is = Joined s.Is u.Is; count = s.count + u.count; Cap = Then s.Cap u.Cap; Known = s.Known × u.Known; ways = followed_by s.ways u.ways }

abbrev pub whole : Sense → Sense
whole s = record { Is = s.Is; count = suc s.count; Cap = Whole s.Cap; Known = s.Known; ways = captured_whole s.ways }

abbrev pub perhaps : Sense → Sense
perhaps s = record { Is = Quantified Optional s.Is; count = s.count; Cap = Perhaps s.count s.Cap; Known = s.Known; ways = quantified_ways Optional s.count s.ways }

-- The second sense follows from the first.
pub record SameSense (s u : Sense) : Type 0 where
  pub texts : AreSameTexts s.Is u.Is
  pub count : u.count ≡ s.count
  pub caps : (text : List ℕ) (captures : Captures) → scalars text ≡ true → s.Cap text captures → u.Cap text captures
  pub known : u.Known → s.Known
  pub ways : s.ways ≡ u.ways

pub quiet_same : (K L : Type 0) (A B : Texts) (ways : WaysByText) → AreSameTexts A B → (L → K) → SameSense (quiet K A ways) (quiet L B ways)
quiet_same K L A B ways p known = record { texts = p; count = refl; caps = λ text captures good is. ((p text good).0 is.0, is.1); known = known; ways = refl }

pub joined_quiet : (K L M : Type 0) (A B C : Texts) (first next : WaysByText) → AreSameTexts (Joined A B) C → (M → K × L) → SameSense (joined (quiet K A first) (quiet L B next)) (quiet M C (followed_by first next))
joined_quiet K L M A B C first next p known = record {
  texts = p;
  count = omega arith;
  caps = λ text captures good (first, rest, own, others, cut, all, a, b). ((p text good).0 (first, rest, cut, a.0, b.0), all ∙ ap (λ c. c ++ others) a.1 ∙ b.1);
  known = known;
  ways = refl;
}

-- ---- patterns

pub groupless_count : (re : Re) → is_groupless re ≡ true → group_count re ≡ 0
groupless_count (cat a b) h = let both = and_parts (is_groupless a) (is_groupless b) h in omega (arith, groupless_count a both.0, groupless_count b both.1)
groupless_count (alt a b) h = let both = and_parts (is_groupless a) (is_groupless b) h in omega (arith, groupless_count a both.0, groupless_count b both.1)
groupless_count (group n a) h = absurd (true≢false (sym h))
groupless_count (plus greedy a) h = groupless_count a h
groupless_count re h = refl

-- The empty text, in a single way.
abbrev pub no_text : WaysByText
no_text text = empty_way 0 text ∷ []

groupless_repeated : (q : Quantifier) (sub : Nested Re) → is_groupless sub.value ≡ true → is_groupless (repeated_as q sub).value ≡ true
groupless_repeated Optional sub h = and_from _ _ (and_from _ _ h refl) refl
groupless_repeated ZeroOrMore sub h = and_from _ _ h refl
groupless_repeated quantifier sub h = h

plain_repeated : (q : Quantifier) (sub : Nested Re) → matches_characters sub.value ≡ true → matches_characters (repeated_as q sub).value ≡ true
plain_repeated Optional sub h = and_from _ _ (and_from _ _ h refl) refl
plain_repeated ZeroOrMore sub h = and_from _ _ h refl
plain_repeated quantifier sub h = h

module _ (ignore_case : Bool) where
  -- The pattern, whose groups are numbered from g on, has the ways of the sense, if they are known,
  -- and, if case is kept, its texts and captures.
  pub record Fulfils (s : Sense) (g : ℕ) (re : Re) : Type 0 where
    pub plain : matches_characters re ≡ true
    pub denotes : ignore_case ≡ false → Denotes re s.Is
    pub catches : ignore_case ≡ false → s.Known → Catches g s.count re s.Cap
    pub groupless : s.Known → s.count ≡ 0 → is_groupless re ≡ true
    pub numbered : s.Known → max g (group_count re) ≡ g + s.count
    pub cuts : s.Known → Cuts s.ways s.count
    pub tries : s.Known → Tries g s.ways re

  pub fulfils_same : (s u : Sense) (g : ℕ) (re : Re) → SameSense s u → Fulfils s g re → Fulfils u g re
  fulfils_same s u g re p f = record {
    plain = f.plain;
    denotes = λ kept. denotes_same re s.Is u.Is p.texts (f.denotes kept);
    catches = λ kept k. catches_same g s.count u.count re s.Cap u.Cap p.count p.caps (f.catches kept (p.known k));
    groupless = λ k none. f.groupless (p.known k) (sym p.count ∙ none);
    numbered = λ k. omega (arith, f.numbered (p.known k), p.count);
    cuts = λ k. subst (λ n. Cuts u.ways n) (sym p.count) (subst (λ choice. Cuts choice s.count) p.ways (f.cuts (p.known k)));
    tries = λ k. subst (λ choice. Tries g choice re) p.ways (f.tries (p.known k));
  }

  pub fulfils_quiet : (K : Type 0) (Is : Texts) (ways : WaysByText) (g : ℕ) (re : Re) → matches_characters re ≡ true → (ignore_case ≡ false → Denotes re Is) → (K → is_groupless re ≡ true) → (K → Cuts ways 0) → (K → Tries g ways re) → Fulfils (quiet K Is ways) g re
  fulfils_quiet K Is ways g re plain d h cuts tries = record {
    plain = plain;
    denotes = d;
    catches = λ kept k. catches_silent g re Is (d kept) (h k);
    groupless = λ k none. h k;
    numbered = λ k. omega (arith, groupless_count re (h k));
    cuts = cuts;
    tries = tries;
  }

  pub fulfils_empty : (g : ℕ) → Fulfils (quiet (Unit {0}) Nothing no_text) g empty
  fulfils_empty g = fulfils_quiet (Unit {0}) Nothing no_text g empty refl (λ kept. denotes_empty) (λ k. refl) (λ k. cuts_idle 0) (λ k. tries_idle g 0)

  -- A pattern with the texts and captures of another one.
  fulfils_by : (s : Sense) (g : ℕ) (a b : Re) → Fulfils s g a → matches_characters b ≡ true → (Denotes a s.Is → Denotes b s.Is) → (Catches g s.count a s.Cap → Catches g s.count b s.Cap) → (is_groupless a ≡ true → is_groupless b ≡ true) → group_count b ≡ group_count a
      → (Tries g s.ways a → Tries g s.ways b) → Fulfils s g b
  fulfils_by s g a b f plain denotes catches groupless same tries = record {
    plain = plain;
    denotes = λ kept. denotes (f.denotes kept);
    catches = λ kept k. catches (f.catches kept k);
    groupless = λ k none. groupless (f.groupless k none);
    numbered = λ k. omega (arith, f.numbered k, same);
    cuts = f.cuts;
    tries = λ k. tries (f.tries k);
  }

  pub fulfils_alone : (s : Sense) (g : ℕ) (a : Re) → Fulfils s g a → Fulfils s g (alt a (byte_in []))
  fulfils_alone s g a f =
      fulfils_by s g a (alt a (byte_in [])) f (and_from _ _ f.plain refl) (denotes_alone a s.Is) (catches_alone g s.count a s.Cap) (λ h. and_from _ _ h refl) (omega arith)
      (tries_alone g s.ways a)

  pub fulfils_last : (s : Sense) (g : ℕ) (a : Re) → Fulfils s g a → Fulfils s g (cat a empty)
  fulfils_last s g a f =
      fulfils_by s g a (cat a empty) f (and_from _ _ f.plain refl) (denotes_last a s.Is) (catches_last g s.count a s.Cap) (λ h. and_from _ _ h refl) (omega arith) (tries_last g s.ways a)

  pub fulfils_group : (s : Sense) (g : ℕ) (a : Re) → Fulfils s (suc g) a → Fulfils (whole s) g (group g a)
  fulfils_group s g a f = record {
    plain = f.plain;
    denotes = λ kept. record { plain = f.plain; same = (f.denotes kept).same };
    catches = λ kept k. catches_group g s.count a s.Cap (f.catches kept k);
    groupless = λ k none. absurd (omega (arith, none));
    numbered = λ k. omega (arith, f.numbered k);
    cuts = λ k. cuts_captured s.ways s.count (f.cuts k);
    tries = λ k. tries_captured g s.count s.ways a (f.cuts k) (f.tries k);
  }

  pub fulfils_perhaps : (s : Sense) (g : ℕ) (sub : Nested Re) → Fulfils s g sub.value → Fulfils (perhaps s) g (repeated_as Optional sub).value
  fulfils_perhaps s g sub f = record {
    plain = plain_repeated Optional sub f.plain;
    denotes = λ kept. denotes_quantified Optional sub s.Is (f.denotes kept);
    catches = λ kept k. catches_perhaps g s.count sub.value s.Cap (f.catches kept k);
    groupless = λ k none. and_from _ _ (and_from _ _ (f.groupless k none) refl) refl;
    numbered = λ k. omega (arith, f.numbered k);
    cuts = λ k. cuts_quantified Optional s.count s.ways tt (f.cuts k);
    tries = λ k. tries_quantified g Optional s.count s.ways sub tt (f.cuts k) (f.tries k);
  }

  pub fulfils_quantified : (K : Type 0) (Is : Texts) (ways : WaysByText) (q : Quantifier) (g : ℕ) (sub : Nested Re) → Fulfils (quiet K Is ways) g sub.value → Fulfils (quiet K (Quantified q Is) (quantified_ways q 0 ways)) g (repeated_as q sub).value
  fulfils_quantified K Is ways q g sub f =
      fulfils_quiet K (Quantified q Is) (quantified_ways q 0 ways) g (repeated_as q sub).value (plain_repeated q sub f.plain) (λ kept. denotes_quantified q sub Is (f.denotes kept)) (λ k. groupless_repeated q sub (f.groupless k refl))
      (λ k. cuts_quantified q 0 ways (allows_none q) (f.cuts k)) (λ k. tries_quantified g q 0 ways sub (allows_none q) (f.cuts k) (f.tries k))
