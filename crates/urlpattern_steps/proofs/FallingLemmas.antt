-- The longest prefix with a result, found from the end.
use Rattle.std.proofs.Common.{◌≡◌, ℕ, List, [], ◌∷◌, ◌++◌, Option, Some, None, Bool, true, false, cond, refl, sym, ap, ap₂, ◌∙◌, append-nil, append_assoc}
use Rattle.std.proofs.lemmas.Str.{chars-append, chars_past_char, IsUtf8-append}
use Rattle.std.specs.Char.{IsScalar, encode_utf8}
use Rattle.std.specs.Option.{option_or}
use Rattle.std.specs.Str.{chars, IsUtf8}
use Rattle.urlpattern_meaning.specs.PartMeaning.{Captures}
use Rattle.urlpattern_syntax.proofs.StringTexts.{chars-encode}
use Rattle.urlpattern_steps.specs.Walk.{Continuation, up_to_first, from_first, longest}
use Rattle.urlpattern_steps.proofs.RunLemmas.{both_ends}
use Rattle.urlpattern_steps.proofs.Tried.{option_or-assoc}
use Rattle.urlpattern_meaning.specs.Matching.{is_same_character}

-- The result of the longest prefix of these characters that has one.
abbrev pub falling : Continuation → (taken front rest : List ℕ) → Option Captures
falling gives taken [] rest = gives taken rest
falling gives taken (c ∷ front) rest = option_or (falling gives (taken ++ c ∷ []) front rest) (gives taken (c ∷ (front ++ rest)))

pub longest_falling : (ignore_case : Bool) (end : ℕ) (gives : Continuation) (taken text : List ℕ) → longest ignore_case end gives taken text ≡ falling gives taken (up_to_first ignore_case end text) (from_first ignore_case end text)
longest_falling ignore_case end gives taken [] = refl
longest_falling ignore_case end gives taken (c ∷ text) = by (is_same_character ignore_case c end) (longest_falling ignore_case end gives (taken ++ c ∷ []) text)
  where
    by : (b : Bool) → longest ignore_case end gives (taken ++ c ∷ []) text ≡ falling gives (taken ++ c ∷ []) (up_to_first ignore_case end text) (from_first ignore_case end text)
        → cond b (gives taken (c ∷ text)) (option_or (longest ignore_case end gives (taken ++ c ∷ []) text) (gives taken (c ∷ text)))
        ≡ falling gives taken (cond b [] (c ∷ up_to_first ignore_case end text)) (cond b (c ∷ text) (from_first ignore_case end text))
    by true later = refl
    by false later = ap₂ option_or later (ap (λ t. gives taken (c ∷ t)) (sym (both_ends ignore_case end text)))

-- The whole comes first, and then the prefixes without the last character.
pub falling-last : (gives : Continuation) (taken front : List ℕ) (c : ℕ) (rest : List ℕ)
    → falling gives taken (front ++ c ∷ []) rest ≡ option_or (gives (taken ++ (front ++ c ∷ [])) rest) (falling gives taken front (c ∷ rest))
falling-last gives taken [] c rest = refl
falling-last gives taken (d ∷ front) c rest =
    ap₂ option_or
    (falling-last gives (taken ++ d ∷ []) front c rest)
    (ap (λ t. gives taken (d ∷ t)) (append_assoc front (c ∷ []) rest))
    ∙ option_or-assoc (gives ((taken ++ d ∷ []) ++ (front ++ c ∷ [])) rest) (falling gives (taken ++ d ∷ []) front (c ∷ rest)) (gives taken (d ∷ (front ++ c ∷ rest)))
    ∙ ap (λ f. option_or (gives f rest) (falling gives taken (d ∷ front) (c ∷ rest))) (append_assoc taken (d ∷ []) (front ++ c ∷ []))

-- The result of the whole comes first.
pub falling-found : (gives : Continuation) (taken front rest : List ℕ) (found : Captures) → gives (taken ++ front) rest ≡ Some found → falling gives taken front rest ≡ Some found
falling-found gives taken [] rest found e = ap (λ f. gives f rest) (sym (append-nil taken)) ∙ e
falling-found gives taken (c ∷ front) rest found e =
    ap (λ o. option_or o (gives taken (c ∷ (front ++ rest)))) (falling-found gives (taken ++ c ∷ []) front rest found (ap (λ f. gives f rest) (append_assoc taken (c ∷ []) front) ∙ e))

-- The last character of a prefix is moved to the rest.
pub front_shrinks : (gives : Continuation) (front shorter rest : List ℕ) (c : ℕ) → IsUtf8 shorter → IsUtf8 rest → IsScalar c → IsUtf8 (encode_utf8 c) → front ≡ shorter ++ encode_utf8 c
    → gives (chars front) (chars rest) ≡ None → falling gives [] (chars front) (chars rest) ≡ falling gives [] (chars shorter) (chars (encode_utf8 c ++ rest))
front_shrinks gives front shorter rest c u v scalar w e none =
    let spelled : chars front ≡ chars shorter ++ c ∷ [] = ap chars e ∙ chars-append shorter (encode_utf8 c) u ∙ ap (λ l. chars shorter ++ l) (chars-encode c scalar) in
    let more : chars (encode_utf8 c ++ rest) ≡ c ∷ chars rest = chars_past_char (encode_utf8 c ++ rest) rest c (IsUtf8-append (encode_utf8 c) rest w v) refl in
    ap (λ f. falling gives [] f (chars rest)) spelled
    ∙ falling-last gives [] (chars shorter) c (chars rest)
    ∙ ap (λ o. option_or o (falling gives [] (chars shorter) (c ∷ chars rest))) (ap (λ f. gives f (chars rest)) (sym spelled) ∙ none)
    ∙ ap (falling gives [] (chars shorter)) (sym more)
