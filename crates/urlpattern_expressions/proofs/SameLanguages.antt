-- What `parse` reads in an expression matches the same whole texts as the expression.
use Rattle.std.proofs.Common.{◌≡◌, ◌↔◌, ◌==◌, ℕ, ◌+◌, ◌/◌, ◌<◌, ◌≤◌, All, cond, nat_lt, true, false, List, [], ◌∷◌, length, if◌then◌else◌, Option, Some, None, Result, Ok, Err, IsSome, refl, sym, subst, arith, eqb-true, eq-eqb}
use Rattle.std.proofs.lemmas.Bool.{and_parts, cond-true, cond_both, ltb-true}
use Rattle.std.proofs.lemmas.List.Elements.{All-append, All-cons, All-nil}
use Rattle.std.specs.Char.{IsScalar}
use Rattle.std.specs.Prelude.{IfOk, IfSome, IsSomeAnd, IsTrue}
use Rattle.std.specs.Str.{all_scalars, chars}
use lib.Utf8.{encode, encodes, next, scalars}
use Rattle.regex_hir.proofs.AttemptLemmas.{attempt_complete, attempt_sound, cond_some}
use Rattle.regex_hir.proofs.OptionLemmas.{IsSome-of_value, value_of_IsSome}
use Rattle.regex_hir.proofs.Utf8Lemmas.{InScalarRange-of_IsScalar}
use Rattle.regex_hir.specs.Matches.{Matches}
use Rattle.regex_hir.specs.Meaning.{meaning}
use Rattle.regex_hir.specs.Re.{Re, Rest, Trace, accept, attempt}
use Rattle.regex_hir.specs.declared.hir.Hir.{Hir}
use Rattle.regex_syntax.specs.Brackets.{Nested}
use Rattle.regex_syntax.specs.Captures.{SameCaptures, outcome}
use Rattle.regex_syntax.specs.Grammar.{Names, group_count, read}
use Rattle.regex_syntax.specs.Verdict.{Reads}
use Rattle.urlpattern_expressions.proofs.ShapeTexts.{shape_matches}
use Rattle.urlpattern_expressions.specs.Expressions.{ExpressionMatches, MatchesWhole, config_for}
use Rattle.urlpattern_expressions.specs.Shapes.{IsShapeOf, Shape, Takes, pattern_shape, reads_characters, shape}
use Rattle.urlpattern_expressions.specs.declared.tree.Tree.{Tree}

-- ---- bytes

abbrev IsByte : ℕ → Type 0
IsByte b = b < 256

one_byte : (b : ℕ) (bytes : List ℕ) → b < 256 → All IsByte bytes → All IsByte (b ∷ bytes)
one_byte b bytes lt all = All-cons IsByte b bytes lt all

none_byte : All IsByte []
none_byte = All-nil IsByte

encode_bytes : (c : ℕ) → c < 0x11_0000 → All IsByte (encode c)
unfolding encode
encode_bytes c high =
    let last = next c in
    let middle = next (c / 64) in
    let front = next (c / 4096) in
    let two = (192 + c / 64) ∷ last ∷ [] in
    let three = (224 + c / 4096) ∷ middle ∷ last ∷ [] in
    let four = (240 + c / 262144) ∷ front ∷ middle ∷ last ∷ [] in
    let ends : All IsByte (last ∷ []) = one_byte last [] (omega arith) none_byte in
    let ends_two : All IsByte (middle ∷ last ∷ []) = one_byte middle (last ∷ []) (omega arith) ends in
    let ends_three : All IsByte (front ∷ middle ∷ last ∷ []) = one_byte front (middle ∷ last ∷ []) (omega arith) ends_two in
    cond_both (nat_lt c 128) (c ∷ []) (cond (nat_lt c 2048) two (cond (nat_lt c 65536) three four)) (All IsByte)
    (λ h. let less : c < 128 = ltb-true c 128 h in one_byte c [] (omega arith) none_byte)
    (λ _. cond_both (nat_lt c 2048) two (cond (nat_lt c 65536) three four) (All IsByte)
    (λ h. let less : c < 2048 = ltb-true c 2048 h in one_byte (192 + c / 64) (last ∷ []) (omega arith) ends)
    (λ _. cond_both (nat_lt c 65536) three four (All IsByte)
    (λ h. let less : c < 65536 = ltb-true c 65536 h in one_byte (224 + c / 4096) (middle ∷ last ∷ []) (omega arith) ends_two)
    (λ _. one_byte (240 + c / 262144) (front ∷ middle ∷ last ∷ []) (omega arith) ends_three)))

encodes_bytes : (text : List ℕ) → scalars text ≡ true → All IsByte (encodes text)
encodes_bytes [] h = none_byte
encodes_bytes (c ∷ text) h =
    let both = and_parts _ _ h in
    let scalar : IsScalar c = both.0 in
    All-append IsByte (encode c) (encodes text) (encode_bytes c (omega (arith, InScalarRange-of_IsScalar c scalar))) (encodes_bytes text both.1)

-- ---- patterns

-- Nothing follows, and the match ends at the last byte.
ends : (hay : List ℕ) → Rest
ends hay j = if j == length hay then accept j else None

ends_there : (hay : List ℕ) → IsSome (ends hay (length hay))
unfolding ends
ends_there hay = IsSome-of_value _ _ (cond-true (length hay == length hay) (accept (length hay)) None (eq-eqb (length hay) (length hay) refl))

-- A whole match succeeds as an attempt.
whole_attempt : (hay : List ℕ) (re : Re) → Matches hay re 0 (length hay) → IsSome (attempt hay re (ends hay) 0)
whole_attempt hay re m = attempt_complete hay re (ends hay) 0 (length hay) m (ends_there hay)

attempt_whole : (hay : List ℕ) (re : Re) → IsSome (attempt hay re (ends hay) 0) → Matches hay re 0 (length hay)
unfolding ends
attempt_whole hay re some =
    let value = value_of_IsSome (attempt hay re (ends hay) 0) some in
    let found = attempt_sound hay re (ends hay) 0 value.0 value.1 in
    let ended = cond_some (found.at == length hay) (accept found.at) found.rest found.gave in
    subst (Matches hay re 0) (eqb-true found.at (length hay) ended.0) found.leads

some_alike : (one other : Option Trace) → outcome one ≡ outcome other → IsSome one → IsSome other
unfolding outcome
some_alike (Some t) (Some u) e some = refl
some_alike (Some t) None e some = absurd cc
some_alike None other e some = absurd cc

same_whole : (one other : Re) → SameCaptures one other → (text : List ℕ) → IsTrue (all_scalars text) → MatchesWhole one text ↔ MatchesWhole other text
same_whole one other same text good =
    let hay = encodes text in
    let alike = same.at hay (encodes_bytes text good) (ends hay) 0 in (
      λ m. attempt_whole hay other (some_alike (attempt hay one (ends hay) 0) (attempt hay other (ends hay) 0) alike (whole_attempt hay one m)),
      λ m. attempt_whole hay one (some_alike (attempt hay other (ends hay) 0) (attempt hay one (ends hay) 0) (sym alike) (whole_attempt hay other m)),
    )

-- ---- expressions

read_same : (found : Option (Nested Re × Names)) (one : Re) (Is : Nested Re → Names → Type 0) → ((pattern : Nested Re) (names : Names) → Is pattern names → SameCaptures one pattern.value)
    → IsSomeAnd found (λ (pattern, names). Is pattern names) → (text : List ℕ) → IsTrue (all_scalars text)
    → IsSomeAnd found (λ (pattern, names). MatchesWhole pattern.value text) ↔ MatchesWhole one text
read_same None one Is same is text good = absurd is
read_same (Some (pattern, names)) one Is same is text good =
    let both = same_whole one pattern.value (same pattern names is) text good in
    (λ m. both.1 m, λ m. both.0 m)

-- What `parse` reads matches the whole texts that the expression does.
pub same_language : (source : List ℕ) (hir : Hir) (names : Names) → Reads (config_for false) source hir names → (text : List ℕ) → IsTrue (all_scalars text)
    → ExpressionMatches (chars source) text ↔ MatchesWhole (meaning hir) text
unfolding Reads
same_language source hir names reads text good =
    read_same (read (config_for false) (chars source)) (meaning hir)
    (λ pattern found. (pattern.depth ≤ 250) × SameCaptures (meaning hir) pattern.value × (names ≡ found) × (group_count (meaning hir) ≤ length names))
    (λ pattern found is. is.1) reads text good

-- The shape of what `parse` reads is that of the expression.
pub shape_read : (source : List ℕ) (hir : Hir) (names : Names) (one : Shape) → Reads (config_for false) source hir names → IsTrue (reads_characters (meaning hir)) → one ≡ pattern_shape (meaning hir)
    → IsShapeOf (chars source) one
shape_read source hir names one reads plain e text good =
    let matches = shape_matches (meaning hir) plain text good in
    let language = same_language source hir names reads text good in (
      λ takes. language.1 (matches.0 (subst (λ it. Takes it text) e takes)),
      λ m. subst (λ it. Takes it text) (sym e) (matches.1 (language.0 m)),
    )

-- The tree that is made of what `parse` reads has the shape of the expression.
pub shape_found : {X : Type 0} (source : List ℕ) (hir : Hir) (names : Names) → Reads (config_for false) source hir names → (result : Result (Option Tree) X)
    → IfOk result (λ found. IfSome found (λ tree. shape tree ≡ pattern_shape (meaning hir))) → IfOk result (λ found. IfSome found (λ tree. IsTrue (reads_characters (meaning hir))))
    → IfOk result (λ found. IfSome found (λ tree. IsShapeOf (chars source) (shape tree)))
shape_found source hir names reads (Ok (Some tree)) e plain = shape_read source hir names (shape tree) reads plain e
shape_found source hir names reads (Ok None) e plain = tt
shape_found source hir names reads (Err error) e plain = tt
