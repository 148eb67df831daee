use Rattle.urlpattern_printing.proofs.printed.NameWritable.write_to.Goals as goal

pub returns-then-not-has_custom_name : goal.returns-then-not-has_custom_name
returns-then-not-has_custom_name g c = rw (← c.has_custom_name.ensures, c.if-not-has_custom_name.true) (g.met.W.Writer.writes_nothing c.args.writer.now)

pub write_to-requires : goal.write_to-requires
write_to-requires g c = rw (← c.as_str.ensures.value) at (rw (← c.has_custom_name.ensures, c.if-not-has_custom_name.false) at c.requires)

pub returns : goal.returns
returns g c = rw (← c.has_custom_name.ensures, c.if-not-has_custom_name.false) (rw c.as_str.ensures.value at c.write_to.ensures)
