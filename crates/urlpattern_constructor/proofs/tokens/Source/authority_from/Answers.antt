use Rattle.std.proofs.Common.{inl, inr, arith}
use Rattle.std.proofs.lemmas.Bool.{both_ways, cases_Bool}
use Rattle.urlpattern_constructor.specs.Split.{EndsAt, ends_at}
use Rattle.urlpattern_constructor.specs.Splitting.{tokens_of}
use Rattle.urlpattern_constructor.specs.declared.sections.Section.TheVariants.{Authority}
use Rattle.urlpattern_constructor.proofs.SplitLemmas.{no_slash_in_sight}
use Rattle.urlpattern_constructor.proofs.TextBetween.{source_closed, tokens_len}
use Rattle.urlpattern_constructor.proofs.tokens.Source.authority_from.Goals as goal

pub hostname_from-turns-requires-clause-slash : goal.hostname_from-turns-requires-clause-slash
hostname_from-turns-requires-clause-slash c other after seen slash =
    let tokens = tokens_of c.args.self.now in
    let closed = source_closed c.args.self.now c.requires.source in
    let size = tokens_len c.args.self.now in
    let authority : EndsAt Authority tokens c.args.from.index 0 c.end_of-end.result.index = rw c.requires.level at c.end_of-end.ensures.ends in
    elim (cases_Bool (ends_at tokens c.end_of-end.result.index)) [
      | inl is_end ↦ absurd (no_slash_in_sight tokens c.args.from.index c.end_of-end.result.depth c.end_of-end.result.index other closed authority is_end after seen slash)
      | inr goes ↦
          let more = closed.goes_on c.end_of-end.result.index authority.within (λ h. both_ways (ends_at tokens c.end_of-end.result.index) goes h) in
          omega (arith, more, c.end_of-end.ensures.turns, c.requires.turns, authority.after)
    ]
