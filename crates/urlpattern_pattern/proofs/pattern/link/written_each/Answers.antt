use Rattle.std.proofs.Common.{refl, [], ◌∷◌}
use Rattle.urlpattern_components.proofs.EightLemmas.{passed_on}
use Rattle.urlpattern_components.specs.declared.eight.ComponentName.TheVariants.{Protocol, Username, Password, Hostname, Port, Pathname, Search, Hash}
use Rattle.urlpattern_generate.specs.WriteSettings.{given_groups}
use Rattle.urlpattern_pattern.specs.LinkedUrls.{HasPartsText}
use Rattle.urlpattern_pattern.proofs.pattern.link.written_each.Goals as goal

pub returns-in_err-protocol-clause-refused : goal.returns-in_err-protocol-clause-refused
returns-in_err-protocol-clause-refused c =
    passed_on (HasPartsText c.args.parts.now (given_groups c.args.groups.now)) c.from_residual.result c.in_err-protocol.field-0.0 [] _ Protocol
    c.from_residual.ensures.1 refl tt c.in_err-protocol.ensures

pub returns-in_err-username-clause-refused : goal.returns-in_err-username-clause-refused
returns-in_err-username-clause-refused c =
    passed_on (HasPartsText c.args.parts.now (given_groups c.args.groups.now)) c.from_residual-in_err-username.result c.in_err-username.field-0.0 (Protocol ∷ []) _ Username
    c.from_residual-in_err-username.ensures.1 refl ((c.in_ok-protocol.protocol, c.in_ok-protocol.ensures), tt) c.in_err-username.ensures

pub returns-in_err-password-clause-refused : goal.returns-in_err-password-clause-refused
returns-in_err-password-clause-refused c =
    passed_on (HasPartsText c.args.parts.now (given_groups c.args.groups.now)) c.from_residual-in_err-password.result c.in_err-password.field-0.0 (Protocol ∷ Username ∷ []) _ Password
    c.from_residual-in_err-password.ensures.1 refl ((c.in_ok-protocol.protocol, c.in_ok-protocol.ensures), ((c.in_ok-username.username, c.in_ok-username.ensures), tt)) c.in_err-password.ensures

pub returns-in_err-hostname-clause-refused : goal.returns-in_err-hostname-clause-refused
returns-in_err-hostname-clause-refused c =
    passed_on (HasPartsText c.args.parts.now (given_groups c.args.groups.now)) c.from_residual-in_err-hostname.result c.in_err-hostname.field-0.0 (Protocol ∷ Username ∷ Password ∷ []) _ Hostname
    c.from_residual-in_err-hostname.ensures.1 refl ((c.in_ok-protocol.protocol, c.in_ok-protocol.ensures), ((c.in_ok-username.username, c.in_ok-username.ensures), ((c.in_ok-password.password, c.in_ok-password.ensures), tt))) c.in_err-hostname.ensures

pub returns-in_err-port-clause-refused : goal.returns-in_err-port-clause-refused
returns-in_err-port-clause-refused c =
    passed_on (HasPartsText c.args.parts.now (given_groups c.args.groups.now)) c.from_residual-in_err-port.result c.in_err-port.field-0.0 (Protocol ∷ Username ∷ Password ∷ Hostname ∷ []) _ Port
    c.from_residual-in_err-port.ensures.1 refl ((c.in_ok-protocol.protocol, c.in_ok-protocol.ensures), ((c.in_ok-username.username, c.in_ok-username.ensures), ((c.in_ok-password.password, c.in_ok-password.ensures), ((c.in_ok-hostname.hostname, c.in_ok-hostname.ensures), tt)))) c.in_err-port.ensures

pub returns-in_err-pathname-clause-refused : goal.returns-in_err-pathname-clause-refused
returns-in_err-pathname-clause-refused c =
    passed_on (HasPartsText c.args.parts.now (given_groups c.args.groups.now)) c.from_residual-in_err-pathname.result c.in_err-pathname.field-0.0 (Protocol ∷ Username ∷ Password ∷ Hostname ∷ Port ∷ []) _ Pathname
    c.from_residual-in_err-pathname.ensures.1 refl ((c.in_ok-protocol.protocol, c.in_ok-protocol.ensures), ((c.in_ok-username.username, c.in_ok-username.ensures), ((c.in_ok-password.password, c.in_ok-password.ensures), ((c.in_ok-hostname.hostname, c.in_ok-hostname.ensures), ((c.in_ok-port.port, c.in_ok-port.ensures), tt))))) c.in_err-pathname.ensures

pub returns-in_err-search-clause-refused : goal.returns-in_err-search-clause-refused
returns-in_err-search-clause-refused c =
    passed_on (HasPartsText c.args.parts.now (given_groups c.args.groups.now)) c.from_residual-in_err-search.result c.in_err-search.field-0.0 (Protocol ∷ Username ∷ Password ∷ Hostname ∷ Port ∷ Pathname ∷ []) _ Search
    c.from_residual-in_err-search.ensures.1 refl ((c.in_ok-protocol.protocol, c.in_ok-protocol.ensures), ((c.in_ok-username.username, c.in_ok-username.ensures), ((c.in_ok-password.password, c.in_ok-password.ensures), ((c.in_ok-hostname.hostname, c.in_ok-hostname.ensures), ((c.in_ok-port.port, c.in_ok-port.ensures), ((c.in_ok-pathname.pathname, c.in_ok-pathname.ensures), tt)))))) c.in_err-search.ensures

pub returns-in_err-hash-clause-refused : goal.returns-in_err-hash-clause-refused
returns-in_err-hash-clause-refused c =
    passed_on (HasPartsText c.args.parts.now (given_groups c.args.groups.now)) c.from_residual-in_err-hash.result c.in_err-hash.field-0.0 (Protocol ∷ Username ∷ Password ∷ Hostname ∷ Port ∷ Pathname ∷ Search ∷ []) _ Hash
    c.from_residual-in_err-hash.ensures.1 refl ((c.in_ok-protocol.protocol, c.in_ok-protocol.ensures), ((c.in_ok-username.username, c.in_ok-username.ensures), ((c.in_ok-password.password, c.in_ok-password.ensures), ((c.in_ok-hostname.hostname, c.in_ok-hostname.ensures), ((c.in_ok-port.port, c.in_ok-port.ensures), ((c.in_ok-pathname.pathname, c.in_ok-pathname.ensures), ((c.in_ok-search.search, c.in_ok-search.ensures), tt))))))) c.in_err-hash.ensures
