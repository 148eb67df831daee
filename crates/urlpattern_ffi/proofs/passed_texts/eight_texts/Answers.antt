use Rattle.urlpattern_components.specs.declared.eight.ComponentName.TheVariants as names
use Rattle.urlpattern_ffi.proofs.TextLemmas.{eight_parts, if_none}
use Rattle.urlpattern_ffi.specs.PassedTexts.{LacksPart}
use Rattle.urlpattern_ffi.proofs.passed_texts.eight_texts.Goals as goal

pub returns-clause-found : goal.returns-clause-found
returns-clause-found c =
    eight_parts c.args.text.now c.args.parts.now
    (record {
      protocol = c.in_ok-protocol.protocol;
      username = c.in_ok-username.username;
      password = c.in_ok-password.password;
      hostname = c.in_ok-hostname.hostname;
      port = c.in_ok-port.port;
      pathname = c.in_ok-pathname.pathname;
      search = c.in_ok-search.search;
      hash = c.in_ok-hash.hash;
    })
    c.in_ok-protocol.ensures.found c.in_ok-username.ensures.found c.in_ok-password.ensures.found c.in_ok-hostname.ensures.found
    c.in_ok-port.ensures.found c.in_ok-pathname.ensures.found c.in_ok-search.ensures.found c.in_ok-hash.ensures.found

pub returns-in_err-protocol-clause-missing : goal.returns-in_err-protocol-clause-missing
returns-in_err-protocol-clause-missing c =
    if_none c.from_residual.result (LacksPart c.args.text.now c.args.parts.now) (names.Protocol, c.in_err-protocol.ensures.missing)

pub returns-in_err-username-clause-missing : goal.returns-in_err-username-clause-missing
returns-in_err-username-clause-missing c =
    if_none c.from_residual-in_err-username.result (LacksPart c.args.text.now c.args.parts.now) (names.Username, c.in_err-username.ensures.missing)

pub returns-in_err-password-clause-missing : goal.returns-in_err-password-clause-missing
returns-in_err-password-clause-missing c =
    if_none c.from_residual-in_err-password.result (LacksPart c.args.text.now c.args.parts.now) (names.Password, c.in_err-password.ensures.missing)

pub returns-in_err-hostname-clause-missing : goal.returns-in_err-hostname-clause-missing
returns-in_err-hostname-clause-missing c =
    if_none c.from_residual-in_err-hostname.result (LacksPart c.args.text.now c.args.parts.now) (names.Hostname, c.in_err-hostname.ensures.missing)

pub returns-in_err-port-clause-missing : goal.returns-in_err-port-clause-missing
returns-in_err-port-clause-missing c =
    if_none c.from_residual-in_err-port.result (LacksPart c.args.text.now c.args.parts.now) (names.Port, c.in_err-port.ensures.missing)

pub returns-in_err-pathname-clause-missing : goal.returns-in_err-pathname-clause-missing
returns-in_err-pathname-clause-missing c =
    if_none c.from_residual-in_err-pathname.result (LacksPart c.args.text.now c.args.parts.now) (names.Pathname, c.in_err-pathname.ensures.missing)

pub returns-in_err-search-clause-missing : goal.returns-in_err-search-clause-missing
returns-in_err-search-clause-missing c =
    if_none c.from_residual-in_err-search.result (LacksPart c.args.text.now c.args.parts.now) (names.Search, c.in_err-search.ensures.missing)

pub returns-in_err-hash-clause-missing : goal.returns-in_err-hash-clause-missing
returns-in_err-hash-clause-missing c =
    if_none c.from_residual-in_err-hash.result (LacksPart c.args.text.now c.args.parts.now) (names.Hash, c.in_err-hash.ensures.missing)
