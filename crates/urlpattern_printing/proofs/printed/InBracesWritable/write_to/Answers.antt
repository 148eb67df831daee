use Rattle.std.proofs.Common.{◌++◌, codes}
use Rattle.urlpattern_printing.proofs.printed.InBracesWritable.write_to.Goals as goal

pub write_to-requires : goal.write_to-requires
write_to-requires g c = rw c.if-not-self.true at c.requires

pub returns-then-not-self : goal.returns-then-not-self
returns-then-not-self g c = rw c.if-not-self.true c.write_to.ensures

pub write_char-requires : goal.write_char-requires
write_char-requires g c =
    let text = g.T.Writable.text c.args.self.now.inner in
    let fits = rw c.if-not-self.false at c.requires in
    g.met.W.Writer.fits_front c.args.writer.now (codes "{") text (g.met.W.Writer.fits_front c.args.writer.now (codes "{" ++ text) (codes "}") fits)

pub write_to-requires-2 : goal.write_to-requires-2
write_to-requires-2 g c =
    let text = g.T.Writable.text c.args.self.now.inner in
    let fits = rw c.if-not-self.false at c.requires in
    g.met.W.Writer.fits_rest c.args.writer.now c.write_char.new.self (codes "{") text (g.met.W.Writer.fits_front c.args.writer.now (codes "{" ++ text) (codes "}") fits) c.write_char.ensures

pub write_char-requires-2 : goal.write_char-requires-2
write_char-requires-2 g c =
    let text = g.T.Writable.text c.args.self.now.inner in
    let fits = rw c.if-not-self.false at c.requires in
    let front = g.met.W.Writer.writes_both c.args.writer.now c.write_char.new.self c.write_to-2.new.writer (codes "{") text c.write_char.ensures c.write_to-2.ensures in
    g.met.W.Writer.fits_rest c.args.writer.now c.write_to-2.new.writer (codes "{" ++ text) (codes "}") fits front

pub returns : goal.returns
returns g c =
    let text = g.T.Writable.text c.args.self.now.inner in
    let front = g.met.W.Writer.writes_both c.args.writer.now c.write_char.new.self c.write_to-2.new.writer (codes "{") text c.write_char.ensures c.write_to-2.ensures in
    rw c.if-not-self.false (g.met.W.Writer.writes_both c.args.writer.now c.write_to-2.new.writer c.write_char-2.new.self (codes "{" ++ text) (codes "}") front c.write_char-2.ensures)
