use Rattle.std.proofs.Common.{◌≡◌, ◌∙◌, [], ap, refl, subst, sym, take}
use Rattle.std.proofs.lemmas.Str.{chars-IsAscii, chars-nil}
use Rattle.std.specs.Str.{chars}
use Rattle.urlpattern_index.proofs.PlainLemmas.{plain-ascii}
use Rattle.urlpattern_index.specs.Keys.{segment_hashes, text_hash}
use Rattle.urlpattern_index.specs.PlainPaths.{IsPlain}
use Rattle.urlpattern_index.proofs.address.AddressHashes.fill_path.Goals as goal

pub returns-clause-plain : goal.returns-clause-plain
returns-clause-plain c = λ is.
    let plain : IsPlain c.args.path.now = subst IsPlain c.as_bytes.ensures.value (c.push_plain_segments.ensures.plain is) in
    subst IsPlain (sym (chars-IsAscii c.args.path.now (plain-ascii c.args.path.now plain))) plain

pub returns-clause-hashes : goal.returns-clause-hashes
returns-clause-hashes c = λ is.
    let plain : IsPlain c.args.path.now = subst IsPlain c.as_bytes.ensures.value (c.push_plain_segments.ensures.plain is) in
    let protocol : c.text_hash-self.result ≡ text_hash [] = c.text_hash-self.ensures ∙ ap text_hash chars-nil in
    let hostname : c.text_hash-self-2.result ≡ text_hash [] = c.text_hash-self-2.ensures ∙ ap text_hash chars-nil in
    let segments : c.push_plain_segments.new.hashes.items ≡ take 13 (segment_hashes 0 (chars c.args.path.now)) =
    c.push_plain_segments.ensures.hashes is ∙ ap (λ path. take 13 (segment_hashes 0 path)) (c.as_bytes.ensures.value ∙ sym (chars-IsAscii c.args.path.now (plain-ascii c.args.path.now plain))) in
    rw (protocol, hostname, segments) refl
