use Rattle.urlpattern_printing.proofs.regexp_text.RepeatedWritable.write_to.Goals as goal

pub write_to-requires : goal.write_to-requires
write_to-requires g c = rw (← c.prefix-prefix.ensures, ← c.suffix-suffix.ensures) at c.requires

pub returns : goal.returns
returns g c = rw (c.prefix-prefix.ensures, c.suffix-suffix.ensures) at c.write_to.ensures
