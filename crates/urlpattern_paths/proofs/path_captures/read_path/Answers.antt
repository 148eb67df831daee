use Rattle.std.proofs.Common.{◌∙◌, ◌++◌, [], ◌∷◌, ap, rules, sym, None, Option, Some}
use Rattle.std.specs.Prelude.{option_map, if◌then◌else◌}
use Rattle.std.specs.Str.{IsUtf8, chars}
use Rattle.urlpattern_matches.specs.GroupTexts.{captures_of}
use Rattle.urlpattern_meaning.specs.PartMeaning.{Captures}
use Rattle.urlpattern_paths.proofs.PathLaws.{captured-more}
use Rattle.urlpattern_paths.proofs.TemplateLemmas.{captured-cut, captured-uncut, ended, ended-by-rest}
use Rattle.urlpattern_paths.specs.PathCaptures.{Read, captured_after, read_text}
use Rattle.urlpattern_paths.specs.Templates.{captured_by, captured_last}
use Rattle.urlpattern_syntax.proofs.StringTexts.{is_empty-str}
use Rattle.urlpattern_paths.proofs.path_captures.read_path.Goals as goal

pub returns-in_default-read_segment : goal.returns-in_default-read_segment
returns-in_default-read_segment c =
    let last = captured_last c.args.template.now.takes_rest in
    let front = c.in-Some.front.now in
    let after = c.in-Some.after.now in
    let is_front : IsUtf8 front = search rules in
    let groups = captures_of c.loop-front.groups in
    ap (λ (found : Option Read). option_map (λ others. groups ++ others) (captured_after (captured_by last (chars after)) found)) c.in_default-read_segment.ensures
    ∙ ap (option_map (λ others. groups ++ others)) (sym (captured-cut last c.loop-front.left.now front after (chars c.loop-front.rest.now) is_front c.in-Some.ensures.cases))
    ∙ c.loop-front.invariant.same

pub loop-front-preserved : goal.loop-front-preserved
loop-front-preserved c =
    let last = captured_last c.args.template.now.takes_rest in
    let front = c.in-Some.front.now in
    let after = c.in-Some.after.now in
    let is_front : IsUtf8 front = search rules in
    let groups = captures_of c.loop-front.groups in
    let later = captured_by last (chars after) in
    let own : Captures = Some (chars c.in-Some-read_segment.capture.now) ∷ [] in
    let found = later (chars c.in-Some-read_segment.further.now) in
    record {
      is_left = search rules;
      is_text = search rules;
      same = ap (λ (all : Captures). option_map (λ others. all ++ others) found) c.in_ok-groups.ensures
          ∙ sym (captured-more groups own found)
          ∙ ap (λ (read : Option Read). option_map (λ others. groups ++ others) (captured_after later read)) c.in-Some-read_segment.ensures
          ∙ ap (option_map (λ others. groups ++ others)) (sym (captured-cut last c.loop-front.left.now front after (chars c.loop-front.rest.now) is_front c.in-Some.ensures.cases))
          ∙ c.loop-front.invariant.same;
    }

pub returns-in_default-after_front : goal.returns-in_default-after_front
returns-in_default-after_front c =
    let last = captured_last c.args.template.now.takes_rest in
    let left = c.loop-front.left.now in
    let is_left : IsUtf8 left = search rules in
    let groups = captures_of c.loop-front.groups in
    ap (λ found. option_map (λ others. groups ++ others) (captured_after last (option_map read_text found))) c.in_default-after_front.ensures
    ∙ ap (option_map (λ others. groups ++ others)) (sym (captured-uncut last left (chars c.loop-front.rest.now) is_left c.in_default.ensures.cases))
    ∙ c.loop-front.invariant.same

pub returns-then-template : goal.returns-then-template
returns-then-template c =
    let last = captured_last c.args.template.now.takes_rest in
    let left = c.loop-front.left.now in
    let is_left : IsUtf8 left = search rules in
    let groups = captures_of c.loop-front.groups in
    ap (λ (all : Captures). Some all) c.in_ok-with_capture.ensures
    ∙ ended-by-rest c.args.template.now.takes_rest groups (chars c.in-Some-after_front.end.now) c.if-template.true
    ∙ ap (λ found. option_map (λ others. groups ++ others) (captured_after last (option_map read_text found))) c.in-Some-after_front.ensures
    ∙ ap (option_map (λ others. groups ++ others)) (sym (captured-uncut last left (chars c.loop-front.rest.now) is_left c.in_default.ensures.cases))
    ∙ c.loop-front.invariant.same

pub returns-then-not-is_empty : goal.returns-then-not-is_empty
returns-then-not-is_empty c =
    let last = captured_last c.args.template.now.takes_rest in
    let left = c.loop-front.left.now in
    let is_left : IsUtf8 left = search rules in
    let end = c.in-Some-after_front.end.now in
    let is_end : IsUtf8 end = search rules in
    let groups = captures_of c.loop-front.groups in
    sym (ap (λ b. if b then Some groups else None) (is_empty-str end is_end ∙ sym c.is_empty.ensures ∙ c.if-not-is_empty.true))
    ∙ ended c.args.template.now.takes_rest groups (chars end) c.if-template.false
    ∙ ap (λ found. option_map (λ others. groups ++ others) (captured_after last (option_map read_text found))) c.in-Some-after_front.ensures
    ∙ ap (option_map (λ others. groups ++ others)) (sym (captured-uncut last left (chars c.loop-front.rest.now) is_left c.in_default.ensures.cases))
    ∙ c.loop-front.invariant.same

pub returns : goal.returns
returns c =
    let last = captured_last c.args.template.now.takes_rest in
    let left = c.loop-front.left.now in
    let is_left : IsUtf8 left = search rules in
    let end = c.in-Some-after_front.end.now in
    let is_end : IsUtf8 end = search rules in
    let groups = captures_of c.loop-front.groups in
    sym (ap (λ b. if b then Some groups else None) (is_empty-str end is_end ∙ sym c.is_empty.ensures ∙ c.if-not-is_empty.false))
    ∙ ended c.args.template.now.takes_rest groups (chars end) c.if-template.false
    ∙ ap (λ found. option_map (λ others. groups ++ others) (captured_after last (option_map read_text found))) c.in-Some-after_front.ensures
    ∙ ap (option_map (λ others. groups ++ others)) (sym (captured-uncut last left (chars c.loop-front.rest.now) is_left c.in_default.ensures.cases))
    ∙ c.loop-front.invariant.same
