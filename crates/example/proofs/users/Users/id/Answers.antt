use Rattle.example.proofs.UserUrls.{calls_none, found_weaker, named, named_none, none_weaker}
use Rattle.example.proofs.users.Users.id.Goals as goal

pub returns-clause-some : goal.returns-clause-some
returns-clause-some c =
    found_weaker _ _ (named _ c.self.invariant.compiled c.args.url.now c.texts_are_lines.ensures.valid c.texts_are_lines.ensures.lines) c.in-Ok.id c.in-Ok.ensures.some

pub returns-clause-none : goal.returns-clause-none
returns-clause-none c =
    none_weaker _ _ (named_none _ c.self.invariant.compiled c.args.url.now c.texts_are_lines.ensures.valid c.texts_are_lines.ensures.lines) c.in-Ok.id c.in-Ok.ensures.none

pub unreachable-requires : goal.unreachable-requires
unreachable-requires c = calls_none _ c.self.invariant.compiled _ c.in-Err.ensures.asked
