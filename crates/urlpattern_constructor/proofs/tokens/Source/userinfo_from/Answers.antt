use Rattle.std.proofs.Common.{◌≡◌, ◌+◌, codes, refl, sym, ◌∙◌, inl, inr, arith}
use Rattle.urlpattern_constructor.specs.Splitting.{tokens_of}
use Rattle.urlpattern_constructor.proofs.SplitLemmas.{sign_goes_on}
use Rattle.urlpattern_constructor.proofs.TextBetween.{source_closed, tokens_len}
use Rattle.urlpattern_constructor.proofs.UserinfoLemmas.{ends_alone, ends_before}
use Rattle.urlpattern_constructor.proofs.tokens.Source.userinfo_from.Goals as goal

-- ---- no colon: the username ends at the sign of the hostname

pub hostname_from-turns-requires-clause-slash : goal.hostname_from-turns-requires-clause-slash
hostname_from-turns-requires-clause-slash c other after seen slash =
    let alone = ends_alone c.args.self.now c.args.from c.args.until c.requires.source c.requires.ends c.requires.sign c.requires.level _ c.end_of-end.ensures.ends (sym c.is_non_special_pattern_char.ensures ∙ c.if-not-is_non_special_pattern_char.true) in
    omega (arith, alone.same, alone.goes, c.after.ensures.index, c.after.ensures.turns, c.end_of-end.ensures.turns, c.requires.turns)

pub returns-then-not-is_non_special_pattern_char-clause-userinfo : goal.returns-then-not-is_non_special_pattern_char-clause-userinfo
returns-then-not-is_non_special_pattern_char-clause-userinfo c =
    let alone = ends_alone c.args.self.now c.args.from c.args.until c.requires.source c.requires.ends c.requires.sign c.requires.level _ c.end_of-end.ensures.ends (sym c.is_non_special_pattern_char.ensures ∙ c.if-not-is_non_special_pattern_char.true) in
    (c.end_of-end.result.index, alone.username, c.split_text.ensures, inl (alone.same, refl))

pub returns-then-not-is_non_special_pattern_char-clause-hostname : goal.returns-then-not-is_non_special_pattern_char-clause-hostname
returns-then-not-is_non_special_pattern_char-clause-hostname c =
    let alone = ends_alone c.args.self.now c.args.from c.args.until c.requires.source c.requires.ends c.requires.sign c.requires.level _ c.end_of-end.ensures.ends (sym c.is_non_special_pattern_char.ensures ∙ c.if-not-is_non_special_pattern_char.true) in
    let there : c.after.result.index ≡ c.args.until + 1 = omega (arith, alone.same, c.after.ensures.index) in
    rw (there, c.after.ensures.depth) at c.hostname_from-turns.ensures.split

-- ---- a colon: the password follows it

pub end_of-password_end-requires-clause-within : goal.end_of-password_end-requires-clause-within
end_of-password_end-requires-clause-within c =
    let goes = sign_goes_on (codes ":") (tokens_of c.args.self.now) c.end_of-end.result.index (source_closed c.args.self.now c.requires.source) (sym c.is_non_special_pattern_char.ensures ∙ c.if-not-is_non_special_pattern_char.false) in
    let size = tokens_len c.args.self.now in
    omega (arith, goes, c.after-password_from.ensures.index)

pub hostname_from-turns-requires-2-clause-reads : goal.hostname_from-turns-requires-2-clause-reads
hostname_from-turns-requires-2-clause-reads c =
    let found = ends_before c.args.self.now c.args.from c.args.until c.requires.source c.requires.ends c.requires.sign c.requires.level _ _ c.after-password_from.result c.end_of-end.ensures.ends (sym c.is_non_special_pattern_char.ensures ∙ c.if-not-is_non_special_pattern_char.false) c.after-password_from.ensures.index c.after-password_from.ensures.depth c.end_of-password_end.ensures.ends in
    record {
      within = omega (arith, found.same, found.goes, c.after-2.ensures.index);
      shallow = omega (arith, c.after-2.ensures.depth);
      turns = omega (arith, found.less, found.same, found.goes, c.after-2.ensures.index, c.after-2.ensures.turns, c.end_of-password_end.ensures.turns, c.after-password_from.ensures.index, c.after-password_from.ensures.turns, c.end_of-end.ensures.turns, c.requires.turns);
    }

pub hostname_from-turns-requires-2-clause-slash : goal.hostname_from-turns-requires-2-clause-slash
hostname_from-turns-requires-2-clause-slash c other after seen slash =
    let found = ends_before c.args.self.now c.args.from c.args.until c.requires.source c.requires.ends c.requires.sign c.requires.level _ _ c.after-password_from.result c.end_of-end.ensures.ends (sym c.is_non_special_pattern_char.ensures ∙ c.if-not-is_non_special_pattern_char.false) c.after-password_from.ensures.index c.after-password_from.ensures.depth c.end_of-password_end.ensures.ends in
    omega (arith, found.less, found.same, found.goes, c.after-2.ensures.index, c.after-2.ensures.turns, c.end_of-password_end.ensures.turns, c.after-password_from.ensures.index, c.after-password_from.ensures.turns, c.end_of-end.ensures.turns, c.requires.turns)

pub returns-clause-userinfo : goal.returns-clause-userinfo
returns-clause-userinfo c =
    let found = ends_before c.args.self.now c.args.from c.args.until c.requires.source c.requires.ends c.requires.sign c.requires.level _ _ c.after-password_from.result c.end_of-end.ensures.ends (sym c.is_non_special_pattern_char.ensures ∙ c.if-not-is_non_special_pattern_char.false) c.after-password_from.ensures.index c.after-password_from.ensures.depth c.end_of-password_end.ensures.ends in
    let between = rw (c.after-password_from.ensures.index, found.same) at c.split_text-2.ensures in
    (c.end_of-end.result.index, found.username, c.split_text.ensures, inr (found.less, between))

pub returns-clause-hostname : goal.returns-clause-hostname
returns-clause-hostname c =
    let found = ends_before c.args.self.now c.args.from c.args.until c.requires.source c.requires.ends c.requires.sign c.requires.level _ _ c.after-password_from.result c.end_of-end.ensures.ends (sym c.is_non_special_pattern_char.ensures ∙ c.if-not-is_non_special_pattern_char.false) c.after-password_from.ensures.index c.after-password_from.ensures.depth c.end_of-password_end.ensures.ends in
    let there : c.after-2.result.index ≡ c.args.until + 1 = omega (arith, found.same, c.after-2.ensures.index) in
    rw (there, c.after-2.ensures.depth) at c.hostname_from-turns-2.ensures.split
