use Rattle.std.proofs.Common.{Some, ap, sym, ◌∙◌, rules}
use Rattle.std.specs.Str.{IsUtf8, chars}
use Rattle.urlpattern_paths.proofs.PathLaws.{of_segment, segment-none, segment-read}
use Rattle.urlpattern_paths.specs.PathCaptures.{after_segment, read_first_segment, segment}
use Rattle.urlpattern_paths.proofs.path_captures.read_segment.Goals as goal

pub returns-then-is_empty : goal.returns-then-is_empty
returns-then-is_empty c =
    let piece = c.split_segment.result.0.now in
    let text = chars c.in_ok-after_front.field-0.now in
    let utf8 : IsUtf8 piece = search rules in
    sym (segment-none piece (segment text) (after_segment text) c.is_empty.result c.split_segment.ensures.segment utf8 c.is_empty.ensures c.if-is_empty.true) ∙ ap read_first_segment c.in_ok-after_front.ensures

pub returns : goal.returns
returns c =
    let piece = c.split_segment.result.0.now in
    let text = chars c.in_ok-after_front.field-0.now in
    let utf8 : IsUtf8 piece = search rules in
    ap (λ t. Some (of_segment t (chars c.split_segment.result.1.now))) c.split_segment.ensures.segment
    ∙ ap (λ t. Some (of_segment (segment text) t)) c.split_segment.ensures.rest
    ∙ sym (segment-read piece (segment text) (after_segment text) c.is_empty.result c.split_segment.ensures.segment utf8 c.is_empty.ensures c.if-is_empty.false)
    ∙ ap read_first_segment c.in_ok-after_front.ensures
