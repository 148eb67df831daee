use Rattle.std.specs.Str.{chars}
use Rattle.example.proofs.UserUrls.{given_id, id_given, linked_user}
use Rattle.example.proofs.users.Users.url.Goals as goal

pub returns : goal.returns
returns c =
    linked_user _ (id_given c.args.id.now) (chars c.args.id.now) c.in-Ok.url c.self.invariant c.texts_are_lines.ensures.valid c.texts_are_lines.ensures.lines
    (given_id c.args.id.now) c.in-Ok.ensures.matched c.in-Ok.ensures.returns
