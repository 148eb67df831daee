-- Whether an expression is simple follows from its signs and from what the grammar reads.
use Rattle.std.proofs.Common.{◌≡◌, ◌≢◌, ◌⊎◌, ℕ, ◌<◌, ◌≤◌, Bool, true, false, ◌&&◌, ◌||◌, nat_le, All, List, [], ◌∷◌, ◌↔◌, length, ◌∙◌, drop, get_or, ◌+◌, ap, subst, Option, Some, None, Result, Ok, Err, inl, inr, refl, sym, arith, true≢false}
use Rattle.std.proofs.lemmas.Bool.Decides.{nat_tests}
use Rattle.std.proofs.lemmas.List.{at_drop_more}
use Rattle.std.proofs.lemmas.List.Elements.{All-cons, All-head, All-nil, All-tail, All-weaker}
use Rattle.std.proofs.lemmas.Str.{chars-IsAscii, encodes-chars, encodes-IsAscii}
use Rattle.std.specs.List.{list_any}
use Rattle.std.specs.Prelude.{IfOk, IfSome, IsSomeAnd, IsTrue, MatchBool}
use Rattle.std.specs.Str.{chars, IsAscii, IsNotAscii, IsUtf8}
use Rattle.regex_hir.specs.Meaning.{meaning}
use Rattle.regex_hir.specs.Re.{Re}
use Rattle.regex_hir.specs.Text.{is_some_and}
use Rattle.regex_hir.specs.declared.hir.Hir.{Hir}
use Rattle.regex_syntax.specs.Brackets.{Nested}
use Rattle.regex_syntax.specs.Captures.{SameCaptures}
use Rattle.regex_syntax.specs.Grammar.{Names, group_count, read}
use Rattle.regex_syntax.specs.Verdict.{Reads, Refuses}
use Rattle.regex_syntax.specs.declared.error.ErrorKind.{ErrorKind}
use Rattle.regex_syntax.specs.declared.error.ErrorKind.TheVariants.{OutOfMemory}
use Rattle.urlpattern_expressions.specs.Expressions.{config_for}
use Rattle.urlpattern_expressions.specs.SimpleExpressions.{AreOfAscii, AreSimple, AreSimpleBy, HasSimpleExpressionBy, HaveMeaningByCase, has_simple_signs, is_custom_kind, is_custom_part, is_simple_by}
use Rattle.urlpattern_meaning.specs.PartMeaning.{AreGenerated}
use Rattle.urlpattern_syntax.specs.declared.parser.PartType.{PartType}
use Rattle.urlpattern_syntax.specs.Options.{OptionsView}
use Rattle.urlpattern_syntax.specs.Parts.{PartView, part_view, parts_view}
use Rattle.urlpattern_syntax.specs.declared.parser.Part.{Part}
use Rattle.urlpattern_syntax.specs.Text.{line_feed}

pub signs_missing : (ignore_case : Bool) (expression : List ℕ) → has_simple_signs line_feed expression ≡ false → false ≡ is_simple_by ignore_case expression
unfolding is_simple_by
signs_missing ignore_case expression h = rw h refl

-- Whether what was read nests no deeper than the limit.
shallow : Option (Nested Re × Names) → Bool
shallow found = is_some_and found (λ (pattern, names). nat_le pattern.depth 250)

shallow_read : (found : Option (Nested Re × Names)) (Is : Nested Re → Names → Type 0) → ((pattern : Nested Re) (names : Names) → Is pattern names → pattern.depth ≤ 250)
    → IsSomeAnd found (λ (pattern, names). Is pattern names) → shallow found ≡ true
unfolding shallow
shallow_read None Is small h = absurd h
shallow_read (Some (pattern, names)) Is small h = let le : pattern.depth ≤ 250 = small pattern names h in grind (arith, nat_tests)

deep_read : (found : Option (Nested Re × Names)) → IfSome found (λ (pattern, _). 250 < pattern.depth) → shallow found ≡ false
unfolding shallow
deep_read None h = refl
deep_read (Some (pattern, names)) h = let lt : 250 < pattern.depth = h in grind (arith, nat_tests)

-- An expression that `parse` reads is simple if its signs are.
pub simple_read : (ignore_case : Bool) (text : List ℕ) (hir : Hir) (names : Names) → has_simple_signs line_feed (chars text) ≡ true → Reads (config_for ignore_case) text hir names
    → true ≡ is_simple_by ignore_case (chars text)
unfolding is_simple_by Reads shallow
simple_read ignore_case text hir names signs reads =
    rw (
      signs,
      shallow_read (read (config_for ignore_case) (chars text))
          (λ pattern found. (pattern.depth ≤ 250) × SameCaptures (meaning hir) pattern.value × (names ≡ found) × (group_count (meaning hir) ≤ length names))
          (λ pattern found is. is.0) reads,
    ) refl

-- An expression that `parse` refuses is not simple, unless memory ran out.
pub not_simple : (ignore_case : Bool) (text : List ℕ) (kind : ErrorKind) → ¬ (kind ≡ OutOfMemory) → Refuses (config_for ignore_case) text kind → false ≡ is_simple_by ignore_case (chars text)
unfolding is_simple_by Refuses shallow
not_simple ignore_case text kind other refuses = by (has_simple_signs line_feed (chars text)) (refused refuses)
  where
    refused : Refuses (config_for ignore_case) text kind → shallow (read (config_for ignore_case) (chars text)) ≡ false
    refused (inl memory) = absurd (other memory)
    refused (inr (inl none)) = ap shallow none
    refused (inr (inr (nests, deep))) = deep_read (read (config_for ignore_case) (chars text)) deep

    by : (signs : Bool) → shallow (read (config_for ignore_case) (chars text)) ≡ false → false ≡ signs && shallow (read (config_for ignore_case) (chars text))
    by true h = sym h
    by false h = refl

-- ---- parts

abbrev IsNoCustom : PartView → Type 0
IsNoCustom part = part.kind ≢ PartType.Regexp

simple_kind : (ignore_case : Bool) (kind : PartType) (value : List ℕ) → kind ≢ PartType.Regexp → HasSimpleExpressionBy ignore_case kind value
simple_kind ignore_case PartType.FixedText value other = tt
simple_kind ignore_case PartType.Regexp value other = absurd (other refl)
simple_kind ignore_case PartType.SegmentWildcard value other = tt
simple_kind ignore_case PartType.FullWildcard value other = tt

generated_simple_by : (ignore_case : Bool) (parts : List PartView) → AreGenerated parts → AreSimpleBy ignore_case parts
generated_simple_by ignore_case parts generated =
    All-weaker IsNoCustom (λ part. HasSimpleExpressionBy ignore_case part.kind part.value) (λ part other. simple_kind ignore_case part.kind part.value other) parts generated

-- Parts without a custom one are simple.
pub generated_simple : (parts : List PartView) → AreGenerated parts → AreSimple parts
generated_simple = generated_simple_by false

-- ---- custom parts

pub kind_other : (kind : PartType) → is_custom_kind kind ≡ false → kind ≢ PartType.Regexp
kind_other kind e same = let custom : is_custom_kind kind ≡ true = ap is_custom_kind same in absurd cc

pub kind_custom : (kind : PartType) → is_custom_kind kind ≡ true → kind ≡ PartType.Regexp
kind_custom PartType.Regexp e = refl
kind_custom PartType.FixedText e = absurd cc
kind_custom PartType.SegmentWildcard e = absurd cc
kind_custom PartType.FullWildcard e = absurd cc

none_by : (part : Part) (parts : List Part) (b : Bool) → is_custom_part part ≡ b → (b || list_any is_custom_part parts) ≡ false → (list_any is_custom_part parts ≡ false → AreGenerated (parts_view parts)) → AreGenerated (parts_view (part ∷ parts))
none_by part parts true e none later = absurd cc
none_by part parts false e none later = All-cons IsNoCustom (part_view part) (parts_view parts) (kind_other part.kind e) (later none)

pub none_custom : (parts : List Part) → list_any is_custom_part parts ≡ false → AreGenerated (parts_view parts)
none_custom [] none = All-nil IsNoCustom
none_custom (part ∷ parts) none = none_by part parts (is_custom_part part) refl none (none_custom parts)

some_by : (part : Part) (parts : List Part) (b : Bool) → is_custom_part part ≡ b → (b || list_any is_custom_part parts) ≡ true → (list_any is_custom_part parts ≡ true → ¬ AreGenerated (parts_view parts)) → ¬ AreGenerated (parts_view (part ∷ parts))
some_by part parts true e some later are = All-head IsNoCustom (part_view part) (parts_view parts) are (kind_custom part.kind e)
some_by part parts false e some later are = later some (All-tail IsNoCustom (part_view part) (parts_view parts) are)

pub some_custom : (parts : List Part) → list_any is_custom_part parts ≡ true → ¬ AreGenerated (parts_view parts)
some_custom [] some are = absurd cc
some_custom (part ∷ parts) some are = some_by part parts (is_custom_part part) refl some (some_custom parts) are

-- ---- where case is ignored

-- Parts have a meaning exactly if they are simple, if case is kept, none is custom or all texts are
-- ASCII.
pub simple_meaning : (options : OptionsView) (parts : List Part) → (options.ignore_case ≡ false) ⊎ ((list_any is_custom_part parts ≡ false) ⊎ AreOfAscii options (parts_view parts))
    → AreSimpleBy options.ignore_case (parts_view parts) ↔ HaveMeaningByCase options (parts_view parts)
simple_meaning options parts (inl kept) = (λ simple. record { simple = simple; by_case = inl kept }, λ have. have.simple)
simple_meaning options parts (inr (inl none)) = (λ simple. record { simple = simple; by_case = inr (inl (none_custom parts none)) }, λ have. have.simple)
simple_meaning options parts (inr (inr ascii)) = (λ simple. record { simple = simple; by_case = inr (inr ascii) }, λ have. have.simple)

-- Where case is ignored, parts with a custom one have no meaning unless all texts are ASCII.
pub no_meaning : (options : OptionsView) (parts : List Part) → options.ignore_case ≡ true → list_any is_custom_part parts ≡ true → ¬ AreOfAscii options (parts_view parts)
    → IsTrue false ↔ HaveMeaningByCase options (parts_view parts)
no_meaning options parts ignored some other = (λ never. absurd (true≢false (sym never)), λ have. absurd (refuted have.by_case))
  where
    refuted : (options.ignore_case ≡ false) ⊎ (AreGenerated (parts_view parts) ⊎ AreOfAscii options (parts_view parts)) → ⊥
    refuted (inl kept) = true≢false (sym ignored ∙ kept)
    refuted (inr (inl generated)) = some_custom parts some generated
    refuted (inr (inr ascii)) = other ascii

-- A result that decides a premise decides what is equivalent to it.
pub decides_same : {X : Type 0} (result : Result Bool X) (P Q : Type 0) → P ↔ Q → IfOk result (λ b. IsTrue b ↔ P) → IfOk result (λ b. IsTrue b ↔ Q)
decides_same (Ok b) P Q same h = (λ is. same.0 (h.0 is), λ other. h.1 (same.1 other))
decides_same (Err error) P Q same h = tt

-- ---- texts of ASCII

-- A text is ASCII exactly if its bytes are.
pub ascii_text : (bytes : List ℕ) → IsUtf8 bytes → (ascii : Bool) → MatchBool ascii (IsAscii bytes) (IsNotAscii bytes) → IsTrue ascii ↔ IsAscii (chars bytes)
ascii_text bytes text true is = (λ same. subst IsAscii (sym (chars-IsAscii bytes is)) is, λ low. refl)
ascii_text bytes text false (i, high) = (
  λ never. absurd (true≢false (sym never)),
  λ low.
      let same : chars bytes ≡ bytes = sym (encodes-IsAscii (chars bytes) low) ∙ encodes-chars bytes text in
      let here = subst IsAscii same low i in
      let never : ⊥ = omega (arith, high, here) in
      absurd never,
)

-- ---- the parts that are left

-- The part that is read next.
pub next_part : (parts : List Part) (index : ℕ) (part : Part) → index < length parts → part ≡ get_or parts index part
    → parts_view (drop index parts) ≡ part_view part ∷ parts_view (drop (index + 1) parts)
next_part parts index part within is = at_drop_more parts_view parts index part within ∙ ap (λ p. part_view p ∷ parts_view (drop (index + 1) parts)) (sym is)

module _ (Is : PartView → Type 0) (part : PartView) (parts all : List PartView) (next : List PartView) (cut : next ≡ part ∷ parts) (decides : All Is next ↔ All Is all) where
  -- A part that meets the condition leaves the decision to those after it.
  pub goes_on : Is part → All Is parts ↔ All Is all
  goes_on is = (
    λ rest. decides.0 (subst (All Is) (sym cut) (All-cons Is part parts is rest)),
    λ every. All-tail Is part parts (subst (All Is) cut (decides.1 every)),
  )

  -- A part that does not meet it decides.
  pub ends : ¬ Is part → ¬ All Is all
  ends other every = other (All-head Is part parts (subst (All Is) cut (decides.1 every)))

pub no_longer : (b : Bool) → b ≡ false → IsTrue b → ⊥
no_longer true e h = absurd (true≢false e)
no_longer false e h = absurd (true≢false (sym h))
