use Rattle.std.proofs.Common.{map, string_bytes, sym, ap, Ok, Err, ◌∙◌, inl, inr, if◌then◌else◌}
use Rattle.std.specs.Char.{to_ascii_lowercase}
use Rattle.std.specs.Str.{chars}
use Rattle.url.specs.declared.error.ParseError.TheVariants.{InvalidIpv6Address}
use Rattle.urlpattern_canonical.proofs.MarkLemmas.{ipv6-chars, ipv6-lower}
use Rattle.urlpattern_canonical.proofs.canonicalize_and_process.ipv6.canonicalize_ipv6_hostname.Goals as goal

pub returns-then-not-is_ipv6_text : goal.returns-then-not-is_ipv6_text
returns-then-not-is_ipv6_text c =
    let value = c.args.value.now in
    inr (
      λ same. absurd cc,
      inl
          (ap (λ all. if all then Ok (map to_ascii_lowercase (chars value)) else Err InvalidIpv6Address)
          (ipv6-chars value c.utf8.value ∙ sym c.is_ipv6_text.ensures ∙ c.if-not-is_ipv6_text.true)),
    )

pub returns : goal.returns
returns c =
    let value = c.args.value.now in
    let all = sym c.is_ipv6_text.ensures ∙ c.if-not-is_ipv6_text.false in
    ap (λ all. if all then Ok (map to_ascii_lowercase (chars value)) else Err InvalidIpv6Address) (ipv6-chars value c.utf8.value ∙ all)
    ∙ ap (λ text. Ok text) (ipv6-lower value (string_bytes c.in_ok-to_ascii_lowercase.field-0) all c.in_ok-to_ascii_lowercase.ensures.ok)
