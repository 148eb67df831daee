use Rattle.std.proofs.Common.{◌++◌, codes, suc, arith, drop, map, take}
use Rattle.std.proofs.lemmas.List.{take_all}
use Rattle.std.specs.List.{flat_map}
use Rattle.urlpattern_printing.proofs.RegexpTexts.{regexps-more, regexps-turn}
use Rattle.urlpattern_syntax.specs.Options.{options_view}
use Rattle.urlpattern_syntax.specs.Parts.{part_view}
use Rattle.urlpattern_syntax.specs.RegexpText.{part_regexp}
use Rattle.urlpattern_printing.proofs.regexp_text.RegexpTextWritable.write_to.Goals as goal

pub write_char-requires : goal.write_char-requires
write_char-requires g c =
    let regexps = flat_map (part_regexp (options_view c.args.self.now.options.now)) (map part_view c.args.self.now.part_list.now) in
    let fits = g.met.W.Writer.fits_front c.args.writer.now (codes "^" ++ regexps) (codes "$") c.requires in
    g.met.W.Writer.fits_front c.args.writer.now (codes "^") regexps fits

pub write_to-requires : goal.write_to-requires
write_to-requires g c =
    let options = options_view c.args.self.now.options.now in
    let list = c.args.self.now.part_list.now in
    let i = c.loop-part.part-index in
    let front = flat_map (part_regexp options) (map part_view (take i list)) in
    let here = part_regexp options (part_view c.part-item.result) in
    let rest = flat_map (part_regexp options) (map part_view (drop (suc i) list)) in
    let all = g.met.W.Writer.fits_front c.args.writer.now (codes "^" ++ flat_map (part_regexp options) (map part_view list)) (codes "$") c.requires in
    let fits = rw (regexps-turn options list i c.part-item.result c.loop-part-test.true c.part-item.is) at all in
    g.met.W.Writer.fits_front c.loop-part.writer here rest
    (g.met.W.Writer.fits_rest c.args.writer.now c.loop-part.writer (codes "^" ++ front) (here ++ rest) fits c.loop-part.invariant)

pub loop-part-preserved : goal.loop-part-preserved
loop-part-preserved g c =
    let options = options_view c.args.self.now.options.now in
    let list = c.args.self.now.part_list.now in
    let front = codes "^" ++ flat_map (part_regexp options) (map part_view (take c.loop-part.part-index list)) in
    let here = part_regexp options (part_view c.part-item.result) in
    let writes = g.met.W.Writer.writes_both c.args.writer.now c.loop-part.writer c.write_to.new.writer front here c.loop-part.invariant c.write_to.ensures in
    rw (← regexps-more options list c.loop-part.part-index c.part-item.result c.loop-part-test.true c.part-item.is) at writes

pub write_char-requires-2 : goal.write_char-requires-2
write_char-requires-2 g c =
    let list = c.args.self.now.part_list.now in
    let regexps = flat_map (part_regexp (options_view c.args.self.now.options.now)) (map part_view list) in
    let writes = rw (take_all c.loop-part.part-index list (omega arith)) at c.loop-part.invariant in
    g.met.W.Writer.fits_rest c.args.writer.now c.loop-part.writer (codes "^" ++ regexps) (codes "$") c.requires writes

pub returns : goal.returns
returns g c =
    let list = c.args.self.now.part_list.now in
    let regexps = flat_map (part_regexp (options_view c.args.self.now.options.now)) (map part_view list) in
    let writes = rw (take_all c.loop-part.part-index list (omega arith)) at c.loop-part.invariant in
    g.met.W.Writer.writes_both c.args.writer.now c.loop-part.writer c.write_char-2.new.self (codes "^" ++ regexps) (codes "$") writes c.write_char-2.ensures
