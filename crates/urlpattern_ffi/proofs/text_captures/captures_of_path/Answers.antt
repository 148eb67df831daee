use Rattle.std.proofs.Common.{◌∙◌, ℕ, List, ap, subst, sym}
use Rattle.std.specs.Str.{chars}
use Rattle.urlpattern.specs.Paths.{IsPath}
use Rattle.urlpattern_ffi.specs.KeptPatterns.{boxed_patterns}
use Rattle.urlpattern_ffi.specs.PassedTexts.{AreTextsOfPath, IsNoPath}
use Rattle.urlpattern_matches.specs.GroupTexts.{borrowed_texts}
use Rattle.urlpattern_matches.specs.MatchInput.{pathname_alone}
use Rattle.urlpattern_ffi.proofs.TextLemmas.{captures_read, captures_unread}
use Rattle.urlpattern_ffi.proofs.text_captures.captures_of_path.Goals as goal

pub returns-in-Err : goal.returns-in-Err
returns-in-Err c =
    captures_unread (AreTextsOfPath c.args.path.now) (IsNoPath c.args.path.now) (boxed_patterns c.args.kept.now) c.args.index c.in-Some.pattern.now c.args.buffer.now c.args.spans.now c.args.needed.now c.in-Err.status
    (sym c.in-Some.ensures) (λ none. none) c.in-Err.ensures.missing

pub returns : goal.returns
returns c =
    let found = c.in-Ok.ensures.found in
    captures_read (AreTextsOfPath c.args.path.now) (IsNoPath c.args.path.now) (boxed_patterns c.args.kept.now) c.args.index c.in-Some.pattern.now (borrowed_texts c.pathname_texts.result) c.args.buffer.now c.write_captures.new.buffer
    c.args.spans.now c.write_captures.new.spans c.write_captures.new.needed c.write_captures.result (sym c.in-Some.ensures) (subst (λ (bytes : List ℕ). IsPath (chars bytes)) found.0 found.1, c.pathname_texts.ensures ∙ ap (λ (bytes : List ℕ). pathname_alone (chars bytes)) found.0) c.write_captures.ensures
