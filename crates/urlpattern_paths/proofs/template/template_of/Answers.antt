use Rattle.std.proofs.Common.{◌≡◌, ◌∙◌, [], ◌∷◌, ◌++◌, IsTrue, List, ap, false, refl, rules, subst, sym, true}
use Rattle.std.proofs.lemmas.Str.{IsUtf8-append, chars-append, chars-nil}
use Rattle.std.specs.Char.{encode_utf8}
use Rattle.std.specs.Str.{IsUtf8, chars}
use Rattle.urlpattern_matcher.proofs.MatcherTexts.{lacks-searched}
use Rattle.urlpattern_paths.proofs.TemplateLemmas.{captured-fixed, captured-longer, captured-one_segment, captured-rest, is-mark, none-left, with-mark}
use Rattle.urlpattern_paths.specs.PathCaptures.{captured}
use Rattle.urlpattern_paths.specs.Templates.{captured_by, captured_last}
use Rattle.urlpattern_syntax.specs.Parts.{PartView, part_view, parts_view}
use Rattle.urlpattern_syntax.specs.Text.{lacks, line_feed}
use Rattle.urlpattern_syntax.specs.declared.parser.Part.{Part}
use Rattle.urlpattern_paths.proofs.template.template_of.Goals as goal

pub loop-part-init : goal.loop-part-init
loop-part-init c = record {
  is_text = ([], (refl, sym c.new-text.ensures));
  same = λ path. ap (λ t. captured_by (captured (parts_view c.args.parts.now)) t path) (ap chars c.new-text.ensures ∙ chars-nil);
}

pub returns-in-FullWildcard : goal.returns-in-FullWildcard
returns-in-FullWildcard c = λ path.
    let text = c.loop-part.text.bytes in
    let part = part_view c.in-Some.part.now in
    let after = parts_view c.in-Some.after.now in
    let front = c.front_text-front.result.now in
    let is_front : IsUtf8 front = search rules in
    let without : IsTrue (lacks line_feed (chars front)) = (lacks-searched line_feed front false is_front c.if-contains.ensures.cases).0 refl in
    let none : after ≡ [] = none-left c.in-Some.after.now c.is_empty.result c.is_empty.ensures c.if-not-is_empty.false in
    ap (λ t. captured_by (captured_last true) t path) (ap chars c.in-Ok.ensures.ok ∙ chars-append text front c.loop-part.invariant.is_text)
    ∙ sym (captured-longer (captured (part ∷ after)) (captured_last true) (chars text) (chars front) (λ rest. captured-rest part after (chars front) c.front_text-front.ensures without rest c.in-FullWildcard.is none) path)
    ∙ ap (λ (parts : List PartView). captured_by (captured parts) (chars text) path) (sym (ap (λ (parts : List Part). parts_view parts) c.in-Some.ensures.cases.0))
    ∙ c.loop-part.invariant.same path

pub loop-part-preserved-in-FixedText : goal.loop-part-preserved-in-FixedText
loop-part-preserved-in-FixedText c =
    let text = c.loop-part.text.bytes in
    let part = part_view c.in-Some.part.now in
    let after = parts_view c.in-Some.after.now in
    let front = c.front_text-front.result.now in
    let is_front : IsUtf8 front = search rules in
    let without : IsTrue (lacks line_feed (chars front)) = (lacks-searched line_feed front false is_front c.if-contains.ensures.cases).0 refl in
    record {
      is_text = subst (λ t. IsUtf8 t) (sym c.in-Ok.ensures.ok) (IsUtf8-append text front c.loop-part.invariant.is_text is_front);
      same = λ path. ap (λ t. captured_by (captured after) t path) (ap chars c.in-Ok.ensures.ok ∙ chars-append text front c.loop-part.invariant.is_text)
          ∙ sym (captured-longer (captured (part ∷ after)) (captured after) (chars text) (chars front) (λ rest. captured-fixed part after (chars front) c.front_text-front.ensures without rest c.in-FixedText.is) path)
          ∙ ap (λ (parts : List PartView). captured_by (captured parts) (chars text) path) (sym (ap (λ (parts : List Part). parts_view parts) c.in-Some.ensures.cases.0))
          ∙ c.loop-part.invariant.same path;
    }

pub loop-part-preserved : goal.loop-part-preserved
unfolding encode_utf8
loop-part-preserved c =
    let text = c.loop-part.text.bytes in
    let part = part_view c.in-Some.part.now in
    let after = parts_view c.in-Some.after.now in
    let front = c.front_text-front.result.now in
    let is_front : IsUtf8 front = search rules in
    let without : IsTrue (lacks line_feed (chars front)) = (lacks-searched line_feed front false is_front c.if-contains.ensures.cases).0 refl in
    let is_more : IsUtf8 (text ++ front) = IsUtf8-append text front c.loop-part.invariant.is_text is_front in
    let made : c.try_push.new.self.bytes ≡ (text ++ front) ++ line_feed ∷ [] = c.in-Ok-try_push.ensures.ok ∙ ap (λ t. t ++ line_feed ∷ []) c.in-Ok.ensures.ok in
    record {
      is_text = subst (λ t. IsUtf8 t) (sym made) (IsUtf8-append (text ++ front) (line_feed ∷ []) is_more is-mark);
      same = λ path. ap (λ t. captured_by (captured after) t path) (ap chars made ∙ with-mark text front c.loop-part.invariant.is_text is_front)
          ∙ sym (captured-longer (captured (part ∷ after)) (captured after) (chars text) (chars front ++ line_feed ∷ []) (λ rest. captured-one_segment part after (chars front) c.front_text-front.ensures without rest c.in-SegmentWildcard.is) path)
          ∙ ap (λ (parts : List PartView). captured_by (captured parts) (chars text) path) (sym (ap (λ (parts : List Part). parts_view parts) c.in-Some.ensures.cases.0))
          ∙ c.loop-part.invariant.same path;
    }
