use Rattle.std.specs.Hash.FoldHasher as folding
use Rattle.std.proofs.Common.{ap, sym, ◌∙◌}
use Rattle.std.proofs.lemmas.Str.{encodes-chars}
use Rattle.urlpattern_index.proofs.hashes.text_hash.Goals as goal

pub returns : goal.returns
returns c =
    c.finish.ensures ∙ ap folding.finish c.write.ensures ∙ ap (λ hasher. folding.finish (folding.write hasher c.as_bytes.result.now)) c.default-hasher.ensures
    ∙ ap (λ bytes. folding.finish (folding.write folding.initial bytes)) (c.as_bytes.ensures.value ∙ sym (encodes-chars c.args.text.now c.utf8.text))
