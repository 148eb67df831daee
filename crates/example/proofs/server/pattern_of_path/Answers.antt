use Rattle.std.proofs.Common.{◌≡◌, Some, ap, subst}
use Rattle.std.specs.Str.{chars}
use Rattle.example.specs.Server.{path_init}
use Rattle.example.specs.Users.{default_asked}
use Rattle.urlpattern.proofs.FixedLemmas.{ok-weaker}
use Rattle.urlpattern.specs.Compiled.{IsPatternOfInit}
use Rattle.urlpattern.specs.PatternRegexps.{pattern_engine}
use Rattle.urlpattern.specs.Patterns.{pattern_view}
use Rattle.urlpattern.specs.UrlPatternInit.{UrlPatternInit}
use Rattle.urlpattern.specs.UrlPatternOptions.{UrlPatternOptions}
use Rattle.example.proofs.server.pattern_of_path.Goals as goal

pub returns : goal.returns
returns c =
    let text = c.in_ok-text.text in
    let chosen = c.default-options.ensures in
    let same : c.default-options.result ≡ default_asked = λ i. record { regex_syntax = chosen.0 i; ignore_case = chosen.1 i } in
    let (protocol, (username, (password, (hostname, (port, (pathname, (search, (hash, base_url)))))))) = c.default-init.ensures in
    let init : UrlPatternInit = record c.default-init.result { pathname = Some text } in
    let alone : init ≡ path_init text = λ i. record {
      pathname = Some text;
      base_url = base_url i;
      hash = hash i;
      search = search i;
      port = port i;
      hostname = hostname i;
      password = password i;
      username = username i;
      protocol = protocol i;
    } in
    ok-weaker _ _ c.parse.result c.parse.ensures.compiled (λ pattern is. (
      text,
      ap chars c.in_ok-text.ensures.ok,
      subst (λ (init : UrlPatternInit). IsPatternOfInit pattern_engine init default_asked (pattern_view pattern)) alone
          (subst (λ (options : UrlPatternOptions). IsPatternOfInit pattern_engine init options (pattern_view pattern)) same is),
    ))
