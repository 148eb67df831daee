use Rattle.std.proofs.Common.{◌∙◌, ap}
use Rattle.serde_json.specs.Written.{compact_text, has_float}
use Rattle.urlpattern_ffi.proofs.PairTextLemmas.{init-none}
use Rattle.urlpattern_inputs.specs.InputValues.{init_view}
use Rattle.urlpattern_ffi.proofs.pair_texts.json_of.Goals as goal

pub returns : goal.returns
returns c =
    let same = c.in_ok-tree.ensures.tree in
    c.in_ok-text.ensures.text (ap has_float same ∙ init-none (init_view c.args.init.now)) ∙ ap compact_text same
