use Rattle.std.proofs.Common.{codes, not, sym, ap, ◌∙◌, inl, inr, arith}
use Rattle.std.proofs.lemmas.Bool.{and_from}
use Rattle.std.proofs.lemmas.Str.{chars-nil}
use Rattle.urlpattern_constructor.specs.Split.{has_slashes, implied}
use Rattle.urlpattern_constructor.specs.Splitting.{tokens_of}
use Rattle.urlpattern_constructor.proofs.SplitLemmas.{sign_goes_on}
use Rattle.urlpattern_constructor.proofs.TextBetween.{source_closed, tokens_len}
use Rattle.urlpattern_constructor.proofs.tokens.Source.absolute.Goals as goal

pub returns-then-has_slashes-clause-split : goal.returns-then-has_slashes-clause-split
returns-then-has_slashes-clause-split c = record {
  is_colon_there = c.requires.sign;
  protocol_ends = c.requires.ends;
  protocol = c.requires.protocol;
  after = inl (sym c.has_slashes.ensures ∙ c.if-has_slashes.true, rw c.after.ensures.index at c.authority_from-turns.ensures.split);
}

pub authority_from-turns-requires-then-special-clause-within : goal.authority_from-turns-requires-then-special-clause-within
authority_from-turns-requires-then-special-clause-within c =
    let goes = sign_goes_on (codes ":") (tokens_of c.args.self.now) c.args.colon.index (source_closed c.args.self.now c.requires.source) c.requires.sign in
    let size = tokens_len c.args.self.now in
    omega (arith, goes, c.after-then-special.ensures.index)

pub returns-then-special-clause-split : goal.returns-then-special-clause-split
returns-then-special-clause-split c =
    record {
      is_colon_there = c.requires.sign;
      protocol_ends = c.requires.ends;
      protocol = c.requires.protocol;
      after = inr (inl (
        and_from (not (has_slashes (tokens_of c.args.self.now) c.args.colon.index)) c.args.special (ap not (sym c.has_slashes.ensures ∙ c.if-has_slashes.false)) c.if-special.true,
        rw c.after-then-special.ensures.index at c.authority_from-turns-then-special.ensures.split,
      ));
    }

pub pathname_from-turns-requires-clause-reads : goal.pathname_from-turns-requires-clause-reads
pathname_from-turns-requires-clause-reads c =
    let goes = sign_goes_on (codes ":") (tokens_of c.args.self.now) c.args.colon.index (source_closed c.args.self.now c.requires.source) c.requires.sign in
    let size = tokens_len c.args.self.now in
    record {
      within = omega (arith, goes, c.after-2.ensures.index);
      shallow = omega (arith, c.after-2.ensures.depth);
      turns = omega (arith, goes, c.after-2.ensures.index, c.after-2.ensures.turns, c.requires.turns);
    }

pub returns-clause-split : goal.returns-clause-split
returns-clause-split c =
    record {
      is_colon_there = c.requires.sign;
      protocol_ends = c.requires.ends;
      protocol = c.requires.protocol;
      after = inr (inr (
        and_from (not (has_slashes (tokens_of c.args.self.now) c.args.colon.index)) (not c.args.special) (ap not (sym c.has_slashes.ensures ∙ c.if-has_slashes.false)) (ap not c.if-special.false),
        c.pathname_from-turns.ensures.nothing.1,
        c.pathname_from-turns.ensures.nothing.2,
        c.implied.ensures ∙ ap implied chars-nil,
        c.implied-2.ensures ∙ ap implied chars-nil,
        rw (c.after-2.ensures.index, c.after-2.ensures.depth) at c.pathname_from-turns.ensures.split,
      ));
    }
