use Rattle.std.proofs.Common.{◌≡◌, ◌∷◌, ◌++◌, length, ap, ◌∙◌, append_assoc, refl, arith, rules}
use Rattle.std.proofs.lemmas.Str.{IsUtf8-append, IsUtf8-encode, chars_past_char}
use Rattle.std.specs.Char.{encode_utf8}
use Rattle.std.specs.Str.{chars, IsUtf8}
use Rattle.urlpattern_steps.specs.declared.step.Step.{Step}
use Rattle.urlpattern_steps.specs.Walk.{literals}
use Rattle.urlpattern_syntax.proofs.StringTexts.{chars-encode}
use Rattle.urlpattern_syntax.proofs.TextLemmas.{chars-empty}
use Rattle.urlpattern_steps.proofs.repeats.without_copy.Goals as goal

pub returns-in_default-clause-few : goal.returns-in_default-clause-few
returns-in_default-clause-few c =
    let empty = ap length (chars-empty c.args.text.now (ap length c.in_default.ensures.empty)) in
    omega (arith, empty)

pub loop-step-init : goal.loop-step-init
loop-step-init c =
    let last = c.in-Some.ensures.cut in
    record {
      is_text = search rules;
      so_far = (encode_utf8 last.0, IsUtf8-encode last.0 last.1, last.2, let one = ap length (chars-encode last.0 last.1) in omega (arith, one));
      shorter = search rules;
    }

pub loop-step-preserved-in-Some-without_last : goal.loop-step-preserved-in-Some-without_last
loop-step-preserved-in-Some-without_last c =
    let last = c.in-Some-without_last.ensures.cut in
    let so_far = c.loop-step.invariant.so_far in
    let utf8 : IsUtf8 (encode_utf8 last.0 ++ so_far.0) = IsUtf8-append (encode_utf8 last.0) so_far.0 (IsUtf8-encode last.0 last.1) so_far.1 in
    let more : chars (encode_utf8 last.0 ++ so_far.0) ≡ last.0 ∷ chars so_far.0 = chars_past_char (encode_utf8 last.0 ++ so_far.0) so_far.0 last.0 utf8 refl in
    let whole = ap (λ l. length (literals l)) (c.in-Some-split_first.ensures.cases.0 ∙ ap (λ (s : Step). s ∷ c.in-Some-split_first.others.now) c.in-Literal.is) in
    record {
      is_text = search rules;
      so_far = (
        encode_utf8 last.0 ++ so_far.0,
        utf8,
        so_far.2 ∙ ap (λ f. f ++ so_far.0) last.2 ∙ append_assoc c.in-Some-without_last.shorter.now (encode_utf8 last.0) so_far.0,
        omega (arith, ap length more, whole, so_far.3),
      );
      shorter = search rules;
    }
