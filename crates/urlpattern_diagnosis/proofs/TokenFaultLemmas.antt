-- Lemmas on the text that follows the place of a fault.
use Rattle.std.proofs.Common.{◌≡◌, ℕ, ◌+◌, ◌-◌, ◌≤◌, ◌⊎◌, List, [], ◌∷◌, ◌++◌, length, drop, true, Option, Some, None, refl, sym, ap, ◌∙◌, subst, inl, inr, arith, append_assoc, length-append}
use Rattle.std.proofs.lemmas.Bool.{and_parts}
use Rattle.std.proofs.lemmas.Str.{encodes-append, encodes-chars, encodes_same, scalars-chars, IsCharBoundary-at_seam}
use Rattle.std.specs.Prelude.{IfNone, IfSome, MatchOption, codes, encode_utf8_all}
use Rattle.std.specs.{Borrow.Bor, Str.chars, Str.IsCharBoundary, Str.IsUtf8}
use lib.Utf8.{scalars}
use Rattle.urlpattern_components.specs.declared.eight.ComponentName.{ComponentName}
use Rattle.urlpattern_diagnosis.specs.Faults.{HasTokenFault, IsAfterRegexpStart, IsSingleSpan, IsBodyFault, IsRejectedStart, IsTokenFault}
use Rattle.urlpattern_diagnosis.specs.Spans.{IsSpanAt}
use Rattle.urlpattern_diagnosis.specs.declared.{fault.Fault.Fault, span.Span.Span}
use Rattle.urlpattern_meaning.proofs.BodyStartTokens.{fault_at_one, no_fault}
use Rattle.urlpattern_parser.specs.Bodies.{AreInvalidBytes}
use Rattle.urlpattern_syntax.specs.Text.{byte_len}
use Rattle.urlpattern_syntax.specs.Tokens.{FaultView, IncompleteEscapeCode, InvalidRegex, IsCut, IsFault, IsFaultAt, IsRegexpStart, IsTokenOf, TokenView}
use Rattle.urlpattern_syntax.proofs.TextLemmas.{byte_len-chars, length-le-byte_len}

-- ---- ends of a text

-- The text that a cut leaves is an end of the whole text.
cut_left : (whole text left : List ℕ) (tokens : List TokenView) → IsCut (IsTokenOf whole) text tokens left → (front : List ℕ) × (text ≡ front ++ left)
cut_left whole text left [] cut = (cut.0, cut.1)
cut_left whole text left (token ∷ tokens) cut =
    let skipped = cut.2 in
    let lexed = cut.3.lexed in
    let more = cut_left whole cut.1 left tokens cut.4 in (
      skipped.0 ++ (lexed.spelling ++ more.0),
      skipped.1 ∙ ap (λ x. skipped.0 ++ x) (lexed.cut ∙ ap (λ x. lexed.spelling ++ x) more.1 ∙ sym (append_assoc lexed.spelling more.0 left))
          ∙ sym (append_assoc skipped.0 (lexed.spelling ++ more.0) left),
    )

last_scalars : (xs ys : List ℕ) → scalars (xs ++ ys) ≡ true → scalars ys ≡ true
last_scalars [] ys h = h
last_scalars (x ∷ xs) ys h = last_scalars xs ys (and_parts _ _ h).1

-- An end of a text that begins at a place.
pub record EndsFrom (bytes left : List ℕ) (place : ℕ) : Type 0 where
  pub boundary : IsCharBoundary bytes place
  pub within : place + 1 ≤ length bytes
  pub characters : (rest : List ℕ) → IsUtf8 rest → rest ≡ drop place bytes → chars rest ≡ left

drop_seam : (xs ys : List ℕ) → drop (length xs) (xs ++ ys) ≡ ys
drop_seam [] ys = refl
drop_seam (x ∷ xs) ys = drop_seam xs ys

some_left : (left : List ℕ) (fault : FaultView) → IsFaultAt left fault → 1 ≤ byte_len left
some_left [] fault h = absurd (no_fault fault h)
some_left (c ∷ left) fault h = let le = length-le-byte_len (c ∷ left) in omega (arith, le)

pub ends_from : (bytes : List ℕ) (fault : FaultView) (place : ℕ) (is : IsFault (chars bytes) fault place) → IsUtf8 bytes → EndsFrom bytes is.left place
unfolding byte_len
ends_from bytes fault place is u =
    let front = cut_left (chars bytes) (chars bytes) is.left is.front is.cut in
    let cut : bytes ≡ encode_utf8_all front.0 ++ encode_utf8_all is.left = sym (encodes-chars bytes u) ∙ ap encode_utf8_all front.1 ∙ encodes-append front.0 is.left in
    let ok : scalars is.left ≡ true = last_scalars front.0 is.left (ap scalars (sym front.1) ∙ scalars-chars bytes u) in
    let len : length bytes ≡ length (encode_utf8_all front.0) + length (encode_utf8_all is.left) = ap length cut ∙ length-append (encode_utf8_all front.0) (encode_utf8_all is.left) in
    let all : byte_len (chars bytes) ≡ length bytes = byte_len-chars bytes u in
    let begins : place + byte_len is.left ≡ byte_len (chars bytes) = is.place in
    let some : 1 ≤ byte_len is.left = some_left is.left fault is.fault in
    let at : place ≡ length (encode_utf8_all front.0) = omega arith in
    record {
      boundary = subst (IsCharBoundary bytes) (sym at) (IsCharBoundary-at_seam bytes (encode_utf8_all front.0) (encode_utf8_all is.left) cut (is.left, (ok, refl)));
      within = omega arith;
      characters = λ rest v e.
          encodes_same (chars rest) is.left
          (encodes-chars rest v ∙ e ∙ ap (λ n. drop n bytes) at ∙ ap (drop (length (encode_utf8_all front.0))) cut ∙ drop_seam (encode_utf8_all front.0) (encode_utf8_all is.left));
    }

-- ---- what is at fault

pub is_none : {A : Type 0} (found : Option A) → ((x : A) → found ≡ Some x → ⊥) → found ≡ None
is_none None not_some = refl
is_none (Some x) not_some = absurd (not_some x refl)

-- The `len` bytes at a place, if it is found.
pub found_at : (bytes : List ℕ) (len place : ℕ) (found : Option ℕ) (Other : Type 0) (span : Span) (fault : Fault) → found ≡ Some place → IsSpanAt bytes place len span →
    fault ≡ record { span = span; earlier = None } → MatchOption found Other (λ at. IsSingleSpan (IsSpanAt bytes at len) fault)
found_at bytes len place found Other span fault e at alone =
    subst (λ found. MatchOption found Other (λ at. IsSingleSpan (IsSpanAt bytes at len) fault)) (sym e) (subst (IsSingleSpan (IsSpanAt bytes place len)) (sym alone) (at, refl))

-- The fault of a backslash at the end.
pub escape_found : (component : Option ComponentName) (bytes : List ℕ) (place : ℕ) (reported : FaultView) (is : IsFault (chars bytes) reported place) (fault : Fault) → IsUtf8 bytes →
    reported ≡ IncompleteEscapeCode → IsSingleSpan (IsSpanAt bytes (length bytes - 1) 1) fault → HasTokenFault component bytes reported place fault
unfolding byte_len lib.Utf8.encode
escape_found component bytes place reported is fault u e alone =
    let ends = ends_from bytes reported place is u in
    let all : byte_len (chars bytes) ≡ length bytes = byte_len-chars bytes u in
    let within = ends.within in
    let begins : (length bytes - 1) + 1 ≡ byte_len (chars bytes) = omega arith in
    (is, subst (λ (x : FaultView). IsTokenFault component bytes place is.left x fault) (sym e) (length bytes - 1, begins, alone))

-- The fault of an invalid custom expression.
pub body_found : (component : Option ComponentName) (bytes rest : List ℕ) (place first : ℕ) (reported : FaultView) (words : List ℕ) (is : IsFault (chars bytes) reported place) (fault : Fault) →
    reported ≡ InvalidRegex words → is.left ≡ first ∷ rest → IsBodyFault bytes place rest fault → HasTokenFault component bytes reported place fault
body_found component bytes rest place first reported words is fault e cut body =
    let at = subst (IsFaultAt is.left) e is.fault in
    let same : first ∷ rest ≡ codes "(" ++ at.0 = sym cut ∙ at.2 in
    let first_same : first ≡ 40 = cc same in
    (is, subst (λ (x : FaultView). IsTokenFault component bytes place is.left x fault) (sym e) (rest, cut ∙ ap (λ c. c ∷ rest) first_same, body))

-- What follows the `(` is an invalid custom expression.
pub body_faulty : (left rest : List ℕ) (first : ℕ) (reported : FaultView) (words : List ℕ) → IsFaultAt left reported →
    reported ≡ InvalidRegex words → left ≡ first ∷ rest → (told : List ℕ) × IsFaultAt (codes "(" ++ rest) (InvalidRegex told)
body_faulty left rest first reported words is e cut =
    let at = subst (IsFaultAt left) e is in
    let same : first ∷ rest ≡ codes "(" ++ at.0 = sym cut ∙ at.2 in
    let first_same : first ≡ 40 = cc same in
    (words, subst (λ (x : List ℕ). IsFaultAt x (InvalidRegex words)) (cut ∙ ap (λ c. c ∷ rest) first_same) at)

-- ---- the body of an expression

module _ (text reported : List ℕ) (faulty : IsFaultAt (codes "(" ++ chars text) (InvalidRegex reported)) where
  -- a body with such a fault does not end in a backslash
  ends_open : (fault : FaultView) → IsFaultAt (codes "(" ++ chars text) fault → (fault ≡ IncompleteEscapeCode) ⊎ IsRegexpStart (chars text) → IsRegexpStart (chars text)
  ends_open fault is (inl escape) = let same = fault_at_one (codes "(" ++ chars text) fault (InvalidRegex reported) is faulty in absurd cc
  ends_open fault is (inr front) = front

  pub refused_end : (fault : FaultView) (refused : Option (Bor (List ℕ) × ℕ)) → IsFaultAt (codes "(" ++ chars text) fault → AreInvalidBytes text fault refused → IfNone refused (IsRegexpStart (chars text))
  refused_end fault None is refuses = ends_open fault is refuses
  refused_end fault (Some found) is refuses = tt

-- what may not be there
pub rejected_part : (text : List ℕ) (fault : FaultView) (refused : Option (Bor (List ℕ) × ℕ)) → AreInvalidBytes text fault refused
    → IfSome refused (λ found. IsAfterRegexpStart (chars text) (chars found.0.now)) × IfSome refused (λ found. IsRejectedStart (chars found.0.now) found.1) × IfSome refused (λ found. length found.0.now ≤ length text)
rejected_part text fault None refuses = (tt, tt, tt)
rejected_part text fault (Some found) refuses = refuses
