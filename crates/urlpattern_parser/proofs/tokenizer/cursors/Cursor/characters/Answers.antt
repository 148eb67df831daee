use Rattle.std.proofs.Common.{◌≡◌, ◌<◌, ◌∷◌, length, true, rules, arith}
use Rattle.std.specs.Str.{chars}
use Rattle.urlpattern_syntax.specs.Cursors.{is_char_token}
use Rattle.urlpattern_parser.proofs.CharacterLemmas.{character_tokens, characters_before, leaves_next}
use Rattle.urlpattern_parser.proofs.tokenizer.cursors.Cursor.characters.Goals as goal

pub loop-first-preserved : goal.loop-first-preserved
loop-first-preserved c =
    let cut : chars c.loop-first.rest.now ≡ c.in-Some.first ∷ chars c.in-Some.after.now = search rules in
    let shorter : length c.in-Some.after.now < length c.loop-first.rest.now = search rules in
    let stands : is_char_token c.in-Some.first ≡ true = search rules in
    record {
      last_is_text = search rules;
      is_text = search rules;
      leaves = leaves_next _ _ _ _ _ c.loop-first.invariant.leaves cut stands;
      len = omega (arith, c.loop-first.invariant.len, c.loop-first.invariant.less);
      less = omega (arith, shorter);
    }

pub returns-clause-before : goal.returns-clause-before
returns-clause-before c = characters_before _ _ _ (chars c.loop-first.rest.now) c.loop-first.invariant.leaves c.before-characters.ensures

pub returns-clause-place : goal.returns-clause-place
returns-clause-place c =
    (character_tokens _ _ _ _ c.requires (characters_before _ _ _ (chars c.loop-first.rest.now) c.loop-first.invariant.leaves c.before-characters.ensures)).place
