use Rattle.std.proofs.Common.{◌≡◌, ◌∙◌, ◌++◌, List, ap, rules, sym, take}
use Rattle.std.proofs.lemmas.List.{length-map, take_all}
use Rattle.std.specs.Hash as fed
use Rattle.std.specs.List.{flat_map, fold}
use Rattle.urlpattern_syntax.specs.declared.parser.Part.{Part}
use Rattle.urlpattern_syntax.specs.Parts.{part_view, parts_view}
use Rattle.urlpattern_compare.proofs.HashLemmas.{fed_views}
use Rattle.urlpattern_compare.specs.PartsHash.{part_input}
use Rattle.urlpattern_compare.proofs.parts_hash.hash_all_parts.Goals as goal

pub returns : goal.returns
returns g c =
    let parts = c.args.parts.now in
    let write = g.H.Hasher.write in
    let fed_length = c.write_usize.new.self in
    let all : take c.loop-index.index parts ≡ parts = search (rules, take_all) in
    let listed : c.loop-index.state ≡ fold write fed_length (flat_map part_input (parts_view parts)) =
    c.loop-index.invariant.1 ∙ ap (λ (some : List Part). fold write fed_length (flat_map (λ part. part_input (part_view part)) some)) all
    ∙ ap (fold write fed_length) (fed_views parts) in
    listed
    ∙ ap (λ state. fold write state (flat_map part_input (parts_view parts))) c.write_usize.ensures
    ∙ ap (λ n. fold write c.args.state.now (fed.usize n ++ flat_map part_input (parts_view parts))) (sym (length-map parts part_view))
