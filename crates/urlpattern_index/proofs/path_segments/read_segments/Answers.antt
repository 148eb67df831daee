use Rattle.std.proofs.Common.{◌≡◌, ◌+◌, ◌<◌, ◌∷◌, [], ◌∙◌, List, ℕ, ap, arith, drop, get_or, length, subst, sym}
use Rattle.std.proofs.lemmas.List.{at_drop_all, at_drop_more}
use Rattle.urlpattern_index.proofs.PathSegmentLemmas.{AreReadTo, all_segments, left_segments, read_none}
use Rattle.urlpattern_index.specs.FixedTexts.{path_view}
use Rattle.urlpattern_index.specs.Paths.{FitsParts}
use Rattle.urlpattern_index.specs.Segments.{IsReadTo, ReadsTo}
use Rattle.urlpattern_syntax.specs.declared.parser.Part.{Part}
use Rattle.urlpattern_syntax.specs.Parts.{PartView, part_view, parts_view}
use Rattle.urlpattern_index.proofs.path_segments.read_segments.Goals as goal

-- The part that is read next.
next_part : (parts : List Part) (index : ℕ) (part : Part) → index < length parts → part ≡ get_or parts index part
    → parts_view (drop index parts) ≡ part_view part ∷ parts_view (drop (index + 1) parts)
next_part parts index part within is = at_drop_more parts_view parts index part within ∙ ap (λ p. part_view p ∷ parts_view (drop (index + 1) parts)) (sym is)

pub loop-part-init : goal.loop-part-init
loop-part-init c =
    let none = c.new-segments.ensures in
    let no_texts = ap length none.texts in
    let no_hashes = ap length none.hashes in
    record {
      are_open = record { few = omega arith; as_many = no_hashes ∙ sym no_texts; goes_on = none.goes_on };
      are_read = λ text fits. (text, read_none c.new-segments.result text none, fits);
    }

pub returns-then-not-read_part : goal.returns-then-not-read_part
returns-then-not-read_part c =
    let path = path_view c.args.path in
    let next = next_part c.args.path.parts.now c.loop-part.part-index c.part-item.result c.loop-part-test.true c.part-item.is in
    left_segments path c.read_part.new.self c.read_part.ensures.open
    (λ text fits.
    let (rest, read, more) = c.loop-part.invariant.are_read text fits in
    let (first, others, cut, fits_part, fits_others) = subst (λ (parts : List PartView). FitsParts path.is_exact path.delimiter parts rest) next more in
    subst (λ all. ReadsTo all c.read_part.new.self text others) c.if-not-read_part.true
    (c.read_part.ensures.read text first others fits_part (subst (IsReadTo c.loop-part.segments text) cut read)))

pub returns-then-path : goal.returns-then-path
returns-then-path c =
    let path = path_view c.args.path in
    let all : parts_view (drop c.loop-part.part-index c.args.path.parts.now) ≡ [] = at_drop_all parts_view c.args.path.parts.now c.loop-part.part-index c.loop-part-test.false in
    all_segments path c.loop-part.segments c.push.new.self c.push.result c.loop-part.invariant.are_open c.if-path.true
    (subst (AreReadTo path c.loop-part.segments) all c.loop-part.invariant.are_read) c.push.ensures.added c.push.ensures.full

pub returns-else-path : goal.returns-else-path
returns-else-path c =
    left_segments (path_view c.args.path) c.loop-part.segments c.loop-part.invariant.are_open
    (λ text fits. let (rest, read, more) = c.loop-part.invariant.are_read text fits in (rest, read))
