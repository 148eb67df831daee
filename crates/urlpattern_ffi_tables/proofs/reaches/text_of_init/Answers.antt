use Rattle.std.proofs.Common.{◌∙◌, ap}
use Rattle.serde_json.specs.Written.{compact_text, has_float}
use Rattle.urlpattern_ffi.proofs.PairTextLemmas.{init-none}
use Rattle.urlpattern_inputs.specs.InputValues.{init_view}
use Rattle.urlpattern_ffi_tables.proofs.reaches.text_of_init.Goals as goal

pub returns : goal.returns
returns c =
    let init = c.from_eight-init.result in
    let same = c.in_ok-tree.ensures.tree in
    (init, c.from_eight-init.ensures.texts ∙ c.given_texts.ensures, c.from_eight-init.ensures.base_url, c.in_ok-text.ensures.text (ap has_float same ∙ init-none (init_view init)) ∙ ap compact_text same)
