use Rattle.std.proofs.Common.{◌≡◌, ◌++◌, ◌∙◌, [], List, ℕ, sym, ap, map, refl, subst}
use Rattle.std.proofs.lemmas.List.{append-nil, nil_from_length}
use Rattle.urlpattern_printing.proofs.PrintedTexts.{printed-cut, printed-more}
use Rattle.urlpattern_printing.specs.Neighbours.{neighbour}
use Rattle.urlpattern_meaning.specs.Printing.{printed, printed_after}
use Rattle.urlpattern_syntax.specs.Options.{options_view}
use Rattle.urlpattern_syntax.specs.Parts.{part_view}
use Rattle.urlpattern_printing.proofs.printed.PrintedTextWritable.write_to.Goals as goal

pub loop-part-init : goal.loop-part-init
loop-part-init g c = ([], g.met.W.Writer.writes_nothing c.args.writer.now, refl)

pub write_to-requires : goal.write_to-requires
write_to-requires g c =
    let cut = printed-cut (options_view c.args.self.now.options.now) (neighbour c.loop-part.previous) c.in-Some.part.now c.in-Some.after.now c.loop-part.rest.now c.first-next.result c.loop-part.invariant.0 c.first-next.ensures.value c.in-Some.ensures.cases.0 c.loop-part.invariant.2 in
    let fits = subst (λ (text : List ℕ). g.W.Writer.Fits c.args.writer.now text) (sym cut) c.requires in
    g.met.W.Writer.fits_front c.loop-part.writer _ _ (g.met.W.Writer.fits_rest c.args.writer.now c.loop-part.writer c.loop-part.invariant.0 _ fits c.loop-part.invariant.1)

pub loop-part-preserved : goal.loop-part-preserved
loop-part-preserved g c = (
  _,
  g.met.W.Writer.writes_both c.args.writer.now c.loop-part.writer c.write_to.new.writer c.loop-part.invariant.0 _ c.loop-part.invariant.1 c.write_to.ensures,
  printed-more (options_view c.args.self.now.options.now) (neighbour c.loop-part.previous) c.in-Some.part.now c.in-Some.after.now c.loop-part.rest.now c.first-next.result c.loop-part.invariant.0 c.first-next.ensures.value c.in-Some.ensures.cases.0 c.loop-part.invariant.2,
)

pub returns : goal.returns
returns g c =
    let options = options_view c.args.self.now.options.now in
    let parts = map part_view c.args.self.now.part_list.now in
    let front = c.loop-part.invariant.0 in
    let none = nil_from_length c.loop-part.rest.now c.in_default.ensures.cases in
    let whole : front ≡ printed options parts =
    sym (append-nil front) ∙ ap (λ list. front ++ printed_after options (neighbour c.loop-part.previous) (map part_view list)) (sym none) ∙ c.loop-part.invariant.2 in
    subst (λ (text : List ℕ). g.W.Writer.Writes c.args.writer.now text c.loop-part.writer) whole c.loop-part.invariant.1
