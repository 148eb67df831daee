use Rattle.std.proofs.Common.{arith}
use Rattle.urlpattern_constructor.specs.Splitting.{tokens_of}
use Rattle.urlpattern_constructor.specs.declared.sections.Section.TheVariants.{Hostname}
use Rattle.urlpattern_constructor.proofs.SplitLemmas.{slash_seen_before}
use Rattle.urlpattern_constructor.proofs.TextBetween.{source_closed, tokens_len}
use Rattle.urlpattern_constructor.proofs.tokens.Source.hostname_from.Goals as goal

pub port_at-turns-requires-clause-slash : goal.port_at-turns-requires-clause-slash
port_at-turns-requires-clause-slash c other after seen slash =
    let tokens = tokens_of c.args.self.now in
    let size = tokens_len c.args.self.now in
    let closed = source_closed c.args.self.now c.requires.source in
    let ends = c.end_of-end.ensures.ends in
    let before = slash_seen_before Hostname tokens c.args.from.index c.args.from.depth c.end_of-end.result.index other closed ends after seen slash in
    let left = c.requires.slash other (omega (arith, ends.after)) before slash in
    omega (arith, left, c.end_of-end.ensures.turns, ends.after, c.requires.reads.within, ends.within)
