use Rattle.std.proofs.Common.{Bool, false, true, List, ℕ, [], ◌∷◌, ◌≡◌, ◌∙◌, ap, refl, rules, sym}
use Rattle.std.proofs.lemmas.Iterator.{YieldsList-from_chars}
use Rattle.std.proofs.lemmas.Iterator.Search.{all_from_yields_List}
use Rattle.std.proofs.lemmas.Str.{scalars-chars}
use Rattle.std.specs.List.{list_all}
use Rattle.std.specs.Prelude.{not, ◌==◌, ◌&&◌}
use Rattle.std.specs.Str.{chars}
use Rattle.url.specs.Ascii.{number_sign, question_mark}
use Rattle.urlpattern_syntax.specs.Text.{lacks, line_feed}
use Rattle.urlpattern.proofs.path.is_path.Goals as goal

exchanged : (a b x y : Bool) → ((a && b) && (x && y)) ≡ ((a && x) && (b && y))
exchanged false b x y = refl
exchanged true true x y = refl
exchanged true false true y = refl
exchanged true false false y = refl

all-both : (p q : ℕ → Bool) (xs : List ℕ) → list_all (λ x. p x && q x) xs ≡ (list_all p xs && list_all q xs)
all-both p q [] = refl
all-both p q (x ∷ xs) = ap (λ rest. (p x && q x) && rest) (all-both p q xs) ∙ exchanged (p x) (q x) (list_all p xs) (list_all q xs)

both : (a b : Bool) → (a && b) ≡ true → (a ≡ true) × (b ≡ true)
both true b is = (refl, is)
both false b is = absurd cc

of-both : (a b : Bool) → a ≡ true → b ≡ true → (a && b) ≡ true
of-both a b is_a is_b = ap (λ x. x && b) is_a ∙ is_b

pub returns : goal.returns
returns c =
    let text = chars c.args.text.now in
    let Other : ℕ → Bool = λ other. not (other == question_mark) && not (other == number_sign) in
    let found : c.all.result ≡ list_all (λ other. not (other == line_feed) && (not (other == question_mark) && not (other == number_sign))) text =
    all_from_yields_List (λ other. not (other == line_feed) && (not (other == question_mark) && not (other == number_sign))) _ _ _ c.all.ensures.ran (YieldsList-from_chars c.args.text.now c.utf8.text cc)
    (λ x b q k. search rules) in
    let all : c.all.result ≡ (lacks line_feed text && list_all Other text) = found ∙ all-both (λ other. not (other == line_feed)) Other text in (
      λ is. let (line, unended) = both _ _ (sym all ∙ is) in record {
        line = record { characters = scalars-chars c.args.text.now c.utf8.text; no_line_feed = line };
        rooted = sym c.begins_with_slash.ensures.text ∙ c.if-not-begins_with_slash.false;
        unended = unended;
      },
      λ path. all ∙ of-both _ _ path.line.no_line_feed path.unended,
    )
