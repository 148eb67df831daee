use Rattle.std.proofs.Common.{◌≡◌, ◌≢◌, ◌++◌, ◌∙◌, List, ℕ, append_assoc, ap, refl, rules, subst, sym}
use Rattle.std.specs.Prelude.{IsTrue, Option, None, Some, chars}
use Rattle.urlpattern_index.proofs.PathSegmentLemmas.{read_run, reads_some}
use Rattle.urlpattern_index.specs.Paths.{FitsModified, FitsUnmodified, FitsPart}
use Rattle.urlpattern_index.specs.Segments.{IsReadTo, ReadsTo}
use Rattle.urlpattern_index.specs.declared.path_segments.PathSegments.{PathSegments}
use Rattle.urlpattern_syntax.specs.declared.parser.{PartModifier.PartModifier, PartType.PartType}
use Rattle.urlpattern_syntax.specs.Parts.{PartView, part_view}
use Rattle.urlpattern_syntax.specs.Text.{lacks}
use Rattle.urlpattern_index.proofs.path_segments.PathSegments.read_part.Goals as goal

-- A text that fits a group without a modifier begins with the group's prefix.
prefixed : (kind : PartType) (delimiter : Option ℕ) (part : PartView) (text : List ℕ) → kind ≢ PartType.FixedText
    → FitsUnmodified kind delimiter part text → (more : List ℕ) × (text ≡ part.prefix ++ more)
prefixed PartType.FixedText delimiter part text other fits = absurd (other refl)
prefixed PartType.SegmentWildcard (Some end) part text other (run, cut, lack) =
    (run ++ part.suffix, cut ∙ append_assoc part.prefix run part.suffix)
prefixed PartType.SegmentWildcard None part text other fits = fits
prefixed PartType.Regexp delimiter part text other fits = fits
prefixed PartType.FullWildcard delimiter part text other fits = fits

once : (delimiter : Option ℕ) (part : PartView) (text : List ℕ) → part.modifier ≡ PartModifier.None
    → FitsPart delimiter part text → FitsUnmodified part.kind delimiter part text
once delimiter part text none fits = subst (λ modifier. FitsModified modifier delimiter part text) none fits

-- The prefix is read.
module _ (segments : PathSegments) (path : List ℕ) (delimiter : Option ℕ) (part : PartView) (text rest prefix : List ℕ)
    (none : part.modifier ≡ PartModifier.None) (is_prefix : prefix ≡ part.prefix)
    (fits : FitsPart delimiter part text) (is : IsReadTo segments path (text ++ rest)) where
  before_more : part.kind ≢ PartType.FixedText → (left : List ℕ) × IsReadTo segments path (prefix ++ left)
  before_more other =
      let (more, cut) = prefixed part.kind delimiter part text other (once delimiter part text none fits) in
      let whole : text ≡ prefix ++ more = cut ∙ ap (λ p. p ++ more) (sym is_prefix) in
      (more ++ rest, subst (IsReadTo segments path) (ap (λ t. t ++ rest) whole ∙ append_assoc prefix more rest) is)

  -- After the prefix, a run without a slash and the suffix are left.
  before_run : part.kind ≡ PartType.SegmentWildcard → delimiter ≡ Some 47 → (suffix : List ℕ) → suffix ≡ part.suffix
      → (run : List ℕ) × IsTrue (lacks 47 run) × IsReadTo segments path (prefix ++ (run ++ (suffix ++ rest)))
  before_run segment slash suffix is_suffix =
      let at_slash = subst (λ (d : Option ℕ). FitsUnmodified part.kind d part text) slash (once delimiter part text none fits) in
      let (run, cut, lack) = subst (λ kind. FitsUnmodified kind (Some 47) part text) segment at_slash in
      let whole : text ≡ prefix ++ run ++ suffix = cut ∙ ap (λ p. p ++ run ++ part.suffix) (sym is_prefix) ∙ ap (λ s. prefix ++ run ++ s) (sym is_suffix) in
      (run, lack, subst (IsReadTo segments path) (ap (λ t. t ++ rest) whole ∙ append_assoc (prefix ++ run) suffix rest ∙ append_assoc prefix run (suffix ++ rest)) is)

pub returns-then-not-read_text-clause-read : goal.returns-then-not-read_text-clause-read
returns-then-not-read_text-clause-read c = λ path text rest fits is.
    let (left, before) = before_more c.args.self.now path c.args.delimiter (part_view c.args.part.now) text rest (chars c.deref-2.result.now)
    (search rules) (ap chars c.deref-2.ensures) fits is (search rules) in
    subst (λ all. ReadsTo all c.read_text-2.new.self path left) c.if-not-read_text.true (c.read_text-2.ensures.read path left before)

pub returns-then-ne-2-clause-read : goal.returns-then-ne-2-clause-read
returns-then-ne-2-clause-read c = λ path text rest fits is.
    let (left, before) = before_more c.args.self.now path c.args.delimiter (part_view c.args.part.now) text rest (chars c.deref-2.result.now)
    (search rules) (ap chars c.deref-2.ensures) fits is (search rules) in
    reads_some c.read_text-2.result c.read_text-2.new.self path left (c.read_text-2.ensures.read path left before)

pub returns-clause-read : goal.returns-clause-read
returns-clause-read c = λ path text rest fits is.
    let suffix = chars c.deref-3.result.now in
    let (run, lack, before) = before_run c.args.self.now path c.args.delimiter (part_view c.args.part.now) text rest (chars c.deref-2.result.now)
    (search rules) (ap chars c.deref-2.ensures) fits is (search rules) (search rules) suffix (ap chars c.deref-3.ensures) in
    let after = subst (λ all. ReadsTo all c.read_text-2.new.self path (run ++ (suffix ++ rest))) c.if-not-read_text.false
    (c.read_text-2.ensures.read path (run ++ (suffix ++ rest)) before) in
    c.read_text-3.ensures.read path rest (read_run c.read_text-2.new.self path run (suffix ++ rest) lack after)
