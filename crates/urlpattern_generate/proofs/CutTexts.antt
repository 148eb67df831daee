-- Texts that are split, by their characters.
use Rattle.std.proofs.Common.{◌≡◌, ℕ, ◌+◌, ◌≤◌, ◌-◌, false, List, ◌∷◌, ◌++◌, length, take, drop, refl, sym, ap, ◌∙◌, subst, arith, IsTrue, Some, None, Option}
use Rattle.std.proofs.lemmas.List.{take-append-drop}
use Rattle.std.proofs.lemmas.Str.{IsCharBoundary-from_drop, IsUtf8-append, IsUtf8-drop, IsUtf8-encode, IsUtf8-take, chars-append, encodes-append, encodes-chars, len_utf8_bounds}
use Rattle.std.specs.Borrow.{Bor}
use Rattle.std.specs.Char.{IsScalar, encode_utf8, len_utf8}
use Rattle.std.specs.Prelude.{IfNone, IfSome, MatchOption, encode_utf8_all}
use Rattle.std.specs.Str.{IsUtf8, chars}
use Rattle.std.specs.Str.Pattern.{FindsChar, FindsTextPrefix, FindsTextSuffix, SplitsAroundMatch, StripsPrefix, StripsSuffix}
use Rattle.urlpattern_matcher.proofs.MatcherTexts.{lacks-searched}
use Rattle.urlpattern_syntax.proofs.StringTexts.{chars-encode}
use Rattle.urlpattern_generate.specs.CopySearch.{IsCutAtFirst}
use Rattle.urlpattern_syntax.specs.Text.{lacks}

-- ---- at a character

cut_clean : (mark : ℕ) (text front behind : List ℕ) (i : ℕ) → IsUtf8 front → IsUtf8 behind → IsScalar mark → text ≡ front ++ (encode_utf8 mark ++ behind) →
    chars text ≡ chars front ++ mark ∷ chars behind
cut_clean mark text front behind i v w scalar whole =
    ap chars whole ∙ chars-append front (encode_utf8 mark ++ behind) v
    ∙ ap (λ t. chars front ++ t) (chars-append (encode_utf8 mark) behind (IsUtf8-encode mark scalar) ∙ ap (λ t. t ++ chars behind) (chars-encode mark scalar))

pub cut_first : (mark : ℕ) (text front behind : List ℕ) → IsUtf8 text → IsScalar mark → SplitsAroundMatch (FindsChar mark) text front behind → IsCutAtFirst mark text front behind
cut_first mark text front behind u scalar (i, j, (none, at), is_front, is_behind, order, len, more) =
    let wide = len_utf8_bounds mark in
    let ends = at.ends in
    let w : IsUtf8 behind = subst IsUtf8 (ap (λ k. drop k text) (sym ends) ∙ sym is_behind) (IsUtf8-drop text (i + len_utf8 mark) u at.after) in
    let rest : drop i text ≡ encode_utf8 mark ++ behind = at.split ∙ ap (λ t. encode_utf8 mark ++ t) (sym is_behind) in
    let clean : IsUtf8 (drop i text) = subst IsUtf8 (sym rest) (IsUtf8-append (encode_utf8 mark) behind (IsUtf8-encode mark scalar) w) in
    let inside : i ≤ length text = omega (arith, order, more) in
    let v : IsUtf8 front = subst IsUtf8 (sym is_front) (IsUtf8-take text i u (IsCharBoundary-from_drop text i inside clean)) in
    let whole : text ≡ front ++ (encode_utf8 mark ++ behind) = sym (take-append-drop i text) ∙ ap (λ t. t ++ drop i text) (sym is_front) ∙ ap (λ t. front ++ t) rest in
    record {
      cut = cut_clean mark text front behind i v w scalar whole;
      is_first = (lacks-searched mark front false v (none.0, none.1 ∙ sym is_front, none.2)).0 refl;
      is_shorter = omega (arith, wide.0, ends, more);
    }

pub lacks_where_none : (mark : ℕ) (text : List ℕ) → IsUtf8 text → FindsChar mark text None → IsTrue (lacks mark (chars text))
lacks_where_none mark text u none = (lacks-searched mark text false u none).0 refl

-- ---- at the ends

pub front_cut : (text front rest : List ℕ) → IsUtf8 front → StripsPrefix (FindsTextPrefix front) text rest → chars text ≡ chars front ++ chars rest
front_cut text front rest u (n, (is_len, whole, boundary), is_rest, len) = ap chars (whole ∙ ap (λ t. front ++ t) (sym is_rest)) ∙ chars-append front rest u

-- A UTF-8 text is the encoding of the parts into which its characters are split.
bytes_cut : (text front : List ℕ) (cs ds : List ℕ) → IsUtf8 text → chars text ≡ cs ++ ds → text ≡ encode_utf8_all cs ++ encode_utf8_all ds
bytes_cut text front cs ds u e = sym (encodes-chars text u) ∙ ap encode_utf8_all e ∙ encodes-append cs ds

pub no_front : (text front : List ℕ) → IsUtf8 text → IsUtf8 front → FindsTextPrefix front text None → (rest : List ℕ) → ¬ (chars text ≡ chars front ++ rest)
no_front text front u v none rest e = none (encode_utf8_all rest) (bytes_cut text front (chars front) rest u e ∙ ap (λ t. t ++ encode_utf8_all rest) (encodes-chars front v))

pub back_cut : (text back rest : List ℕ) → IsUtf8 text → StripsSuffix (FindsTextSuffix back) text rest → chars text ≡ chars rest ++ chars back
back_cut text back rest u (n, (is_len, whole, boundary), is_rest, len) =
    let clean : IsUtf8 rest = subst IsUtf8 (ap (λ k. take (length text - k) text) (sym is_len) ∙ sym is_rest) (IsUtf8-take text (length text - length back) u boundary) in
    ap chars (whole ∙ ap (λ t. t ++ back) (sym is_rest)) ∙ chars-append rest back clean

pub no_back : (text back : List ℕ) → IsUtf8 text → IsUtf8 back → FindsTextSuffix back text None → (rest : List ℕ) → ¬ (chars text ≡ rest ++ chars back)
no_back text back u v none rest e = none (encode_utf8_all rest) (bytes_cut text back rest (chars back) u e ∙ ap (λ t. encode_utf8_all rest ++ t) (encodes-chars back v))

-- ---- by the results of calls

pub cut_some : (mark : ℕ) (text : List ℕ) (r : Option (Bor (List ℕ) × Bor (List ℕ))) → IsUtf8 text → IsScalar mark →
    MatchOption r (FindsChar mark text None) (λ x. SplitsAroundMatch (FindsChar mark) text x.0.now x.1.now) → IfSome r (λ x. IsCutAtFirst mark text x.0.now x.1.now)
cut_some mark text None u scalar cases = tt
cut_some mark text (Some x) u scalar cases = cut_first mark text x.0.now x.1.now u scalar cases

pub cut_none : (mark : ℕ) (text : List ℕ) (r : Option (Bor (List ℕ) × Bor (List ℕ))) → IsUtf8 text →
    MatchOption r (FindsChar mark text None) (λ x. SplitsAroundMatch (FindsChar mark) text x.0.now x.1.now) → IfNone r (IsTrue (lacks mark (chars text)))
cut_none mark text None u cases = lacks_where_none mark text u cases
cut_none mark text (Some x) u cases = tt

pub front_some : (text front : List ℕ) (r : Option (Bor (List ℕ))) → IsUtf8 front →
    MatchOption r (FindsTextPrefix front text None) (λ x. StripsPrefix (FindsTextPrefix front) text x.now) → IfSome r (λ x. chars text ≡ chars front ++ chars x.now)
front_some text front None u cases = tt
front_some text front (Some x) u cases = front_cut text front x.now u cases

pub front_none : (text front : List ℕ) (r : Option (Bor (List ℕ))) → IsUtf8 text → IsUtf8 front →
    MatchOption r (FindsTextPrefix front text None) (λ x. StripsPrefix (FindsTextPrefix front) text x.now) → IfNone r ((rest : List ℕ) → ¬ (chars text ≡ chars front ++ rest))
front_none text front None u v cases = no_front text front u v cases
front_none text front (Some x) u v cases = tt

pub back_some : (text back : List ℕ) (r : Option (Bor (List ℕ))) → IsUtf8 text →
    MatchOption r (FindsTextSuffix back text None) (λ x. StripsSuffix (FindsTextSuffix back) text x.now) → IfSome r (λ x. chars text ≡ chars x.now ++ chars back)
back_some text back None u cases = tt
back_some text back (Some x) u cases = back_cut text back x.now u cases

pub back_none : (text back : List ℕ) (r : Option (Bor (List ℕ))) → IsUtf8 text → IsUtf8 back →
    MatchOption r (FindsTextSuffix back text None) (λ x. StripsSuffix (FindsTextSuffix back) text x.now) → IfNone r ((rest : List ℕ) → ¬ (chars text ≡ rest ++ chars back))
back_none text back None u v cases = no_back text back u v cases
back_none text back (Some x) u v cases = tt
