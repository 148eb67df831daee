use Rattle.std.proofs.Common.{List, subst, ℕ}
use Rattle.std.specs.Io.KnownBytes.{Appends}
use Rattle.urlpat_tables.proofs.answering.write_head.Goals as goal

pub returns-in-Ok-write_all : goal.returns-in-Ok-write_all
returns-in-Ok-write_all g c = λ yes. (
  c.in-Ok.head.items,
  c.in-Ok.ensures,
  subst (λ (bytes : List ℕ). Appends (g.Out.Write.contents c.args.out.now) (g.Out.Write.contents c.write_all.new.self) bytes) c.deref.ensures.value c.in-Ok-write_all.ensures.bytes,
)
