-- Lemmas on a text that is compared with what is written.
use Rattle.std.proofs.Common.{◌≡◌, ℕ, Bool, true, false, List, [], ◌++◌, Option, Some, None, length, sym, ap, ◌∙◌, rules}
use Rattle.std.specs.Prelude.{◌==◌, MatchBool, MatchOption, encode_utf8_all, option_map}
use Rattle.std.specs.Borrow.{Bor}
use Rattle.std.specs.Str.{chars, IsUtf8}
use Rattle.std.specs.Str.Pattern.{FindsTextPrefix, StripsPrefix}
use Rattle.std.proofs.lemmas.List.{append-nil, append_cancel_left}
use Rattle.std.proofs.lemmas.Str.{chars-append, encodes-append, encodes-chars}
use Rattle.urlpattern_syntax.proofs.TextLemmas.{chars-empty, chars-some}
use Rattle.urlpattern_syntax.specs.Writing.{Compares}

-- The bytes of a text whose characters begin with those of another.
front_bytes : (left text rest : List ℕ) → IsUtf8 left → IsUtf8 text → chars left ≡ chars text ++ rest → left ≡ text ++ encode_utf8_all rest
front_bytes left text rest u v e =
    sym (encodes-chars left u) ∙ ap encode_utf8_all e ∙ encodes-append (chars text) rest ∙ ap (λ x. x ++ encode_utf8_all rest) (encodes-chars text v)

-- Stripping a prefix from a text compares the text with the prefix.
pub stripped : (left text : List ℕ) (result : Option (Bor (List ℕ))) → IsUtf8 left → IsUtf8 text →
    MatchOption result ((rest : List ℕ) → ¬ (left ≡ text ++ rest)) (λ rest. StripsPrefix (FindsTextPrefix text) left rest.now) →
    Compares (Some (chars left)) (chars text) (option_map (λ (rest : Bor (List ℕ)). chars rest.now) result)
stripped left text None u v h = λ rest e. h (encode_utf8_all rest) (front_bytes left text rest u v e)
stripped left text (Some rest) u v h =
    let same : left ≡ text ++ rest.now = h.1.1 ∙ ap (λ x. text ++ x) (sym h.2) in
    ap chars same ∙ chars-append text rest.now v

-- A text is all that was written if nothing of it is left.
pub all_written : (text written left : List ℕ) → Compares (Some text) written (Some left) → left ≡ [] → text ≡ written
all_written text written left h e = h ∙ ap (λ x. written ++ x) e ∙ append-nil written

pub not_all : (text written left : List ℕ) → Compares (Some text) written (Some left) → ¬ (left ≡ []) → ¬ (text ≡ written)
not_all text written left h some e = some (append_cancel_left written left [] (sym h ∙ e ∙ sym (append-nil written)))

pub none_written : (text written : List ℕ) → Compares (Some text) written None → ¬ (text ≡ written)
none_written text written h e = h [] (e ∙ sym (append-nil written))

pub is_all : (text written left : List ℕ) (result : Bool) → IsUtf8 left → Compares (Some text) written (Some (chars left)) → result ≡ (length left == 0) → MatchBool result (text ≡ written) (¬ (text ≡ written))
is_all text written left true u h e = all_written text written (chars left) h (chars-empty left (search rules))
is_all text written left false u h e = not_all text written (chars left) h (chars-some left u (search rules))
