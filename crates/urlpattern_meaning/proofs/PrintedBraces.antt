-- Modifiers, braces, and the suffix after a name, as they are printed.
use Rattle.std.proofs.Common.{◌≡◌, ℕ, Bool, true, false, List, [], ◌∷◌, ◌++◌, refl, sym, ap, ◌∙◌, subst, append_assoc}
use Rattle.std.specs.Prelude.{IsTrue, codes, if◌then◌else◌}
use Rattle.std.proofs.lemmas.Bool.{and_parts, both_ways}
use Rattle.std.specs.List.{list_all}
use Rattle.urlpattern_syntax.proofs.TokenExamples.{no}
use Rattle.urlpattern_syntax.specs.declared.parser.PartModifier.{PartModifier}
use Rattle.urlpattern_syntax.specs.declared.parser.PartModifier.TheVariants as modifiers
use Rattle.urlpattern_syntax.specs.declared.tokenizer.TokenType.TheVariants.{Asterisk, Close, EscapedChar, Open, OtherModifier}
use Rattle.urlpattern_syntax.specs.Pieces.{AreTexts, BeginsWithKind, IsBraced, IsModifier, TakesModifier, is_modifier, is_regexp, is_text}
use Rattle.urlpattern_syntax.specs.RegexpText.{is_unmodified, modifier_text}
use Rattle.urlpattern_syntax.specs.Text.{BeginsWith, begins_with, is_among, is_name_part}
use Rattle.urlpattern_syntax.specs.Tokens.{IsLexed, TokenView}
use Rattle.urlpattern_meaning.specs.Printing.{escaped_pattern, in_braces, pattern_marks}
use Rattle.urlpattern_meaning.specs.RoundTrip.{IsUnskipped}
use Rattle.urlpattern_meaning.proofs.PrintedMeanings.{escaped_first, escaped_none, escaped_one, text_are, text_no_regexp, text_run, text_tokens}
use Rattle.urlpattern_meaning.proofs.PrintedTokens.{Run, asterisk_lexed, backslash_lexed, close_lexed, done, mark_ends, mark_no_part, next, open_lexed, optional_lexed, plus_lexed, run_joined, token_at}

-- ---- modifiers

abbrev pub modifier_tokens : (total : ℕ) → PartModifier → (rest : List ℕ) → List TokenView
modifier_tokens total modifiers.None rest = []
modifier_tokens total modifiers.Optional rest = token_at total (codes "?" ++ rest) OtherModifier (codes "?") ∷ []
modifier_tokens total modifiers.ZeroOrMore rest = token_at total (codes "*" ++ rest) Asterisk (codes "*") ∷ []
modifier_tokens total modifiers.OneOrMore rest = token_at total (codes "+" ++ rest) OtherModifier (codes "+") ∷ []

pub modifier_run : (total : ℕ) (modifier : PartModifier) (rest : List ℕ) → Run total rest (modifier_text modifier ++ rest) (modifier_tokens total modifier rest)
modifier_run total modifiers.None rest = done
modifier_run total modifiers.Optional rest = next (optional_lexed rest) done
modifier_run total modifiers.ZeroOrMore rest = next (asterisk_lexed rest) done
modifier_run total modifiers.OneOrMore rest = next (plus_lexed rest) done

pub modifier_is : (total : ℕ) (modifier : PartModifier) (rest : List ℕ) → IsModifier (modifier_tokens total modifier rest) modifier
modifier_is total modifiers.None rest = refl
modifier_is total modifiers.Optional rest = (refl, refl)
modifier_is total modifiers.ZeroOrMore rest = refl
modifier_is total modifiers.OneOrMore rest = (refl, refl)

-- Without a modifier, no modifier follows.
pub modifier_takes : (modifier : PartModifier) (behind : List TokenView) → (IsTrue (is_unmodified modifier) → ¬ BeginsWithKind is_modifier behind) → TakesModifier modifier behind
modifier_takes modifiers.None behind free = free refl
modifier_takes modifiers.Optional behind free = tt
modifier_takes modifiers.ZeroOrMore behind free = tt
modifier_takes modifiers.OneOrMore behind free = tt

-- A modifier ends a name.
pub modifier_ends : (modifier : PartModifier) (rest : List ℕ) → (IsTrue (is_unmodified modifier) → ¬ BeginsWith is_name_part rest) → ¬ BeginsWith is_name_part (modifier_text modifier ++ rest)
modifier_ends modifiers.None rest free = free refl
modifier_ends modifiers.Optional rest free = mark_ends (codes "?") refl
modifier_ends modifiers.ZeroOrMore rest free = mark_ends (codes "*") refl
modifier_ends modifiers.OneOrMore rest free = mark_ends (codes "+") refl

-- A modifier is not a Regexp.
pub modifier_regexp : (total : ℕ) (modifier : PartModifier) (rest : List ℕ) (behind : List TokenView) → (IsTrue (is_unmodified modifier) → ¬ BeginsWithKind is_regexp behind) → ¬ BeginsWithKind is_regexp (modifier_tokens total modifier rest ++ behind)
modifier_regexp total modifiers.None rest behind free = free refl
modifier_regexp total modifiers.Optional rest behind free = no
modifier_regexp total modifiers.ZeroOrMore rest behind free = no
modifier_regexp total modifiers.OneOrMore rest behind free = no

-- ---- braces

-- The closing brace of a group, its modifier, and the rest.
abbrev pub closing_text : PartModifier → (rest : List ℕ) → List ℕ
closing_text modifier rest = codes "}" ++ (modifier_text modifier ++ rest)

abbrev pub closing_token : (total : ℕ) → PartModifier → (rest : List ℕ) → TokenView
closing_token total modifier rest = token_at total (closing_text modifier rest) Close (codes "}")

abbrev pub braced_tokens : (total : ℕ) → (text : List ℕ) → (inner : List TokenView) → PartModifier → (rest : List ℕ) → List TokenView
braced_tokens total text inner modifier rest =
    token_at total (codes "{" ++ (text ++ closing_text modifier rest)) Open (codes "{") ∷ (inner ++ (closing_token total modifier rest ∷ modifier_tokens total modifier rest))

braced_text : (text : List ℕ) (modifier : PartModifier) (rest : List ℕ) → codes "{" ++ (text ++ closing_text modifier rest) ≡ in_braces true text ++ modifier_text modifier ++ rest
braced_text text modifier rest = simp append_assoc

pub braced_run : (total : ℕ) (text : List ℕ) (inner : List TokenView) (modifier : PartModifier) (rest : List ℕ) → Run total (closing_text modifier rest) (text ++ closing_text modifier rest) inner →
    Run total rest (in_braces true text ++ modifier_text modifier ++ rest) (braced_tokens total text inner modifier rest)
braced_run total text inner modifier rest run =
    subst (λ t. Run total rest t (braced_tokens total text inner modifier rest)) (braced_text text modifier rest)
    (next (open_lexed (text ++ closing_text modifier rest)) (run_joined run (next (close_lexed (modifier_text modifier ++ rest)) (modifier_run total modifier rest))))

pub is_braced : (total : ℕ) (text : List ℕ) (inner : List TokenView) (modifier : PartModifier) (rest : List ℕ) (behind : List TokenView) → (IsTrue (is_unmodified modifier) → ¬ BeginsWithKind is_modifier behind) →
    IsBraced (braced_tokens total text inner modifier rest) inner modifier behind
is_braced total text inner modifier rest behind free = record {
  opening = token_at total (codes "{" ++ (text ++ closing_text modifier rest)) Open (codes "{");
  closing = closing_token total modifier rest;
  back = modifier_tokens total modifier rest;
  cut = refl;
  is_open = refl;
  is_close = refl;
  is_modifier = modifier_is total modifier rest;
  takes_modifier = modifier_takes modifier behind free;
}

-- ---- beginnings of texts

one_ends : (c : ℕ) (rest : List ℕ) (mark : Bool) → is_name_part c ≡ false → ¬ BeginsWith is_name_part (escaped_one mark c ++ rest)
one_ends c rest true e = mark_ends (codes "\\") refl
one_ends c rest false e = both_ways (is_name_part c) e

-- An escaped text that does not begin with a name character ends a name.
pub text_ends : (text rest : List ℕ) → begins_with is_name_part text ≡ false → (text ≡ [] → ¬ BeginsWith is_name_part rest) → ¬ BeginsWith is_name_part (escaped_pattern text ++ rest)
text_ends [] rest e free = subst (λ t. ¬ BeginsWith is_name_part t) (sym (escaped_none rest)) (free refl)
text_ends (c ∷ text) rest e free =
    subst (λ t. ¬ BeginsWith is_name_part t) (sym (escaped_first c text rest)) (one_ends c (escaped_pattern text ++ rest) (is_among pattern_marks c) e)

-- Texts before a token that is not a Regexp do not begin with a Regexp.
pub texts_no_regexp : (tokens : List TokenView) (text : List ℕ) (last : TokenView) → AreTexts tokens text → ¬ IsTrue (is_regexp last.kind) → ¬ BeginsWithKind is_regexp (tokens ++ last ∷ [])
texts_no_regexp [] text last are free = free
texts_no_regexp (token ∷ tokens) text last are free = text_no_regexp token.kind (and_parts (is_text token.kind) (list_all (λ (t : TokenView). is_text t.kind) tokens) are.0).0

-- ---- suffixes

-- A suffix, with a backslash where one separates the suffix from a name before it.
abbrev pub suffix_text : (kept : Bool) → List ℕ → List ℕ
suffix_text kept suffix = (if kept then codes "\\" else []) ++ escaped_pattern suffix

-- A suffix as it is printed before the rest.
pub record SuffixTokens (total : ℕ) (text suffix rest : List ℕ) : Type 0 where
  pub tokens : List TokenView
  pub run : Run total rest (text ++ rest) tokens
  pub are_texts : AreTexts tokens suffix

part_no_mark : (c : ℕ) (mark : Bool) → is_among pattern_marks c ≡ mark → IsTrue (is_name_part c) → escaped_one mark c ≡ c ∷ []
part_no_mark c true e h = absurd (mark_no_part c e h)
part_no_mark c false e h = refl

pub suffix_tokens : (total : ℕ) (kept : Bool) (suffix rest : List ℕ) → (IsTrue kept → IsTrue (begins_with is_name_part suffix)) → IsUnskipped suffix → SuffixTokens total (suffix_text kept suffix) suffix rest
suffix_tokens total false suffix rest part h = record {
  tokens = text_tokens total suffix rest;
  run = text_run total suffix rest h;
  are_texts = text_are total suffix rest;
}
suffix_tokens total true [] rest part h = absurd (no (part refl))
suffix_tokens total true (c ∷ suffix) rest part h =
    let spelled : escaped_pattern (c ∷ suffix) ++ rest ≡ c ∷ (escaped_pattern suffix ++ rest) =
    escaped_first c suffix rest ∙ ap (λ t. t ++ (escaped_pattern suffix ++ rest)) (part_no_mark c (is_among pattern_marks c) refl (part refl)) in
    let more = text_are total suffix rest in
    record {
      tokens = token_at total (codes "\\" ++ (escaped_pattern (c ∷ suffix) ++ rest)) EscapedChar (c ∷ []) ∷ text_tokens total suffix rest;
      run = next (subst (λ t. IsLexed (codes "\\" ++ t) EscapedChar (c ∷ []) (escaped_pattern suffix ++ rest)) (sym spelled) (backslash_lexed c (escaped_pattern suffix ++ rest)))
          (text_run total suffix rest (and_parts _ _ h).1);
      are_texts = (more.0, ap (λ t. c ∷ t) more.1);
    }

-- A suffix with its backslash ends a name alone before it.
pub suffix_ends : (kept : Bool) (suffix rest : List ℕ) → begins_with is_name_part suffix ≡ kept → ¬ BeginsWith is_name_part rest → ¬ BeginsWith is_name_part (suffix_text kept suffix ++ rest)
suffix_ends true suffix rest e free = mark_ends (codes "\\") refl
suffix_ends false suffix rest e free = text_ends suffix rest e (λ f. free)
