use Rattle.std.specs.Prelude.{option_copied}
use Rattle.urlpattern_canonical.proofs.CanonicalLemmas.{refused_by_url}
use Rattle.urlpattern_quirks.specs.Inputs.{parsed_base, text_bytes}
use Rattle.urlpattern_quirks.proofs.inputs.match_init.Goals as goal

pub returns-in-Err-Url-clause-found : goal.returns-in-Err-Url-clause-found
returns-in-Err-Url-clause-found c =
    rw (← c.as_deref.ensures.value)
    (refused_by_url (parsed_base (option_copied c.as_deref.result)) (text_bytes (option_copied c.as_deref.result)) c.in-Err-Url.field-0 c.in-Err-Url.field-0-0
    c.in-Err-Url.field-0-is c.in-Err-Url.ensures.err)
