use Rattle.std.proofs.Common.{sym}
use Rattle.std.proofs.lemmas.Str.{encodes-chars}
use Rattle.urlpattern_ffi_tables.proofs.group_names.in_utf8.Goals as goal

pub returns : goal.returns
returns c = sym (encodes-chars c.args.text.now c.utf8.text)
