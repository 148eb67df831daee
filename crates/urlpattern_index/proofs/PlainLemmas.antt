-- Lemmas on plain paths.
use Rattle.std.proofs.Common.{◌<◌, ℕ, Bool, not, List, [], ◌∷◌, IsTrue, arith, refl}
use Rattle.std.proofs.lemmas.Bool.Decides.{nat_tests}
use Rattle.std.proofs.lemmas.Bool.{and_from, and_parts}
use Rattle.std.proofs.lemmas.Str.Ascii.{IsAscii-cons, IsAscii-nil}
use Rattle.std.specs.Char.{is_ascii}
use Rattle.std.specs.List.{list_all}
use Rattle.std.specs.Prelude.{◌&&◌, ◌==◌}
use Rattle.std.specs.Str.{IsAscii}
use Rattle.url.specs.Ascii.{number_sign, question_mark}
use Rattle.urlpattern_index.specs.PlainPaths.{IsPlain, is_plain}
use Rattle.urlpattern_syntax.specs.Text.{lacks, line_feed}

-- What holds for each character for which another test holds.
all-weaker : (p q : ℕ → Bool) (text : List ℕ) → ((c : ℕ) → IsTrue (p c) → IsTrue (q c)) → IsTrue (list_all p text) → IsTrue (list_all q text)
all-weaker p q [] weaker all = refl
all-weaker p q (c ∷ text) weaker all =
    let (first, others) = and_parts (p c) (list_all p text) all in
    and_from (q c) (list_all q text) (weaker c first) (all-weaker p q text weaker others)

-- The text is ASCII.
pub plain-ascii : (text : List ℕ) → IsPlain text → IsAscii text
plain-ascii [] plain = IsAscii-nil
plain-ascii (c ∷ text) plain =
    let (first, others) = and_parts (is_plain c) (list_all is_plain text) plain in
    let ascii : IsTrue (is_ascii c) = (and_parts _ _ first).0 in
    let low : c < 128 = grind (arith, nat_tests) in
    IsAscii-cons c text low (plain-ascii text others)

-- The text is a line.
pub plain-line : (text : List ℕ) → IsPlain text → IsTrue (lacks line_feed text)
plain-line text plain = all-weaker is_plain (λ c. not (c == line_feed)) text (λ c is. (and_parts _ _ (and_parts _ _ is).1).0) plain

-- The text has none of the characters that end a path in a URL.
pub plain-unended : (text : List ℕ) → IsPlain text → IsTrue (list_all (λ c. not (c == question_mark) && not (c == number_sign)) text)
plain-unended text plain =
    all-weaker is_plain (λ c. not (c == question_mark) && not (c == number_sign)) text (λ c is. (and_parts _ _ (and_parts _ _ is).1).1) plain
