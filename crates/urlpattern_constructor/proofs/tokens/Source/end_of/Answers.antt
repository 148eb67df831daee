use Rattle.std.proofs.Common.{◌≡◌, ◌+◌, ◌&&◌, ◌==◌, ◌<◌, true, false, cond, not, codes, get_or, length, sym, ap, ◌∙◌, arith}
use Rattle.std.proofs.lemmas.Bool.{and_left, and_right, both_ways}
use Rattle.std.proofs.lemmas.List.{length-map}
use Rattle.urlpattern_constructor.specs.Split.{passes_at, ends_at, is_end, is_ending, is_open, is_non_special_pattern_char}
use Rattle.urlpattern_constructor.specs.Splitting.{is_hostname, text_of_source, tokens_of}
use Rattle.urlpattern_constructor.proofs.TextBetween.{are_closed}
use Rattle.urlpattern_constructor.proofs.SeenLemmas.{cond-bound, depth_after-bound, way_ends, way_goes, way_stops}
use Rattle.urlpattern_constructor.proofs.TokenPlaces.{at_view, no_token, view_read}
use Rattle.urlpattern_syntax.specs.Tokens.{token_view}
use Rattle.urlpattern_constructor.proofs.tokens.Source.end_of.Goals as goal
use Rattle.urlpattern_constructor.proofs.tokens.Source.end_of.Goals.{else-is_seen-via-then-is_seen+else-is_ending, else-is_seen-via-else-is_seen}

pub returns-then-is_end-clause-ends : goal.returns-then-is_end-clause-ends
returns-then-is_end-clause-ends c =
    let token = token_view (get_or c.args.self.now.tokens.now c.loop-section.position.index no_token) in
    let is = view_read c.args.self.now.tokens.now c.loop-section.position.index no_token c.loop-section.invariant.within in
    way_ends _ _ _ _ _ _ _ _ token c.loop-section.invariant.way is (sym c.is_end.ensures ∙ c.if-is_end.true)

pub returns-then-is_ending-clause-ends : goal.returns-then-is_ending-clause-ends
returns-then-is_ending-clause-ends c =
    let token = token_view (get_or c.args.self.now.tokens.now c.loop-section.position.index no_token) in
    let is = view_read c.args.self.now.tokens.now c.loop-section.position.index no_token c.loop-section.invariant.within in
    way_stops _ _ _ _ _ _ _ _ token c.loop-section.invariant.way is
    (sym c.is_end.ensures ∙ c.if-is_end.false)
    (sym c.is_seen-is_seen.ensures ∙ c.if-is_seen.true)
    (sym c.is_ending.ensures ∙ c.if-is_ending.true)

pub loop-section-preserved : goal.loop-section-preserved
loop-section-preserved c =
    let token = token_view (get_or c.args.self.now.tokens.now c.loop-section.position.index no_token) in
    let is = view_read c.args.self.now.tokens.now c.loop-section.position.index no_token c.loop-section.invariant.within in
    let goes : is_end token.kind ≡ false = sym c.is_end.ensures ∙ c.if-is_end.false in
    let not_last = λ (h : ends_at (tokens_of c.args.self.now) c.loop-section.position.index ≡ true). both_ways _ (at_view (λ t. is_end t.kind) (tokens_of c.args.self.now) c.loop-section.position.index token is ∙ goes) h in
    let size : length (tokens_of c.args.self.now) ≡ length c.args.self.now.tokens.now = length-map c.args.self.now.tokens.now token_view in
    let inside : c.loop-section.position.index < length (tokens_of c.args.self.now) = omega (arith, c.loop-section.invariant.within) in
    let within = (are_closed (text_of_source c.args.self.now) (tokens_of c.args.self.now) c.requires.source).goes_on c.loop-section.position.index inside not_last in
    let passes : ((not (is_open token.kind) && c.loop-section.position.depth == 0) && is_ending c.args.section (c.loop-section.opened == c.loop-section.closed) (tokens_of c.args.self.now) c.loop-section.position.index) ≡ false =
    elim c.else-is_seen.branch [
      | else-is_seen-via-then-is_seen+else-is_ending w ↦ and_right _ _ (sym w.is_ending.ensures ∙ w.if-is_ending.false)
      | else-is_seen-via-else-is_seen w ↦ and_left _ _ (sym c.is_seen-is_seen.ensures ∙ w.if-is_seen.false)
    ] in
    let seen = c.is_seen-is_seen.ensures in
    let opened : c.count_bracket-opened.result ≡ c.loop-section.opened + cond (is_hostname c.args.section && (not (is_open token.kind) && c.loop-section.position.depth == 0) && passes_at (is_non_special_pattern_char (codes "[")) (tokens_of c.args.self.now) c.loop-section.position.index) 1 0 =
    c.count_bracket-opened.ensures ∙ ap (λ b. c.loop-section.opened + cond (is_hostname c.args.section && b && passes_at (is_non_special_pattern_char (codes "[")) (tokens_of c.args.self.now) c.loop-section.position.index) 1 0) seen in
    let closed : c.count_bracket-closed.result ≡ c.loop-section.closed + cond (is_hostname c.args.section && (not (is_open token.kind) && c.loop-section.position.depth == 0) && passes_at (is_non_special_pattern_char (codes "]")) (tokens_of c.args.self.now) c.loop-section.position.index) 1 0 =
    c.count_bracket-closed.ensures ∙ ap (λ b. c.loop-section.closed + cond (is_hostname c.args.section && b && passes_at (is_non_special_pattern_char (codes "]")) (tokens_of c.args.self.now) c.loop-section.position.index) 1 0) seen in
    let bound = depth_after-bound token.kind c.loop-section.position.depth in
    let one_opened = cond-bound (is_hostname c.args.section && (not (is_open token.kind) && c.loop-section.position.depth == 0) && passes_at (is_non_special_pattern_char (codes "[")) (tokens_of c.args.self.now) c.loop-section.position.index) in
    let one_closed = cond-bound (is_hostname c.args.section && (not (is_open token.kind) && c.loop-section.position.depth == 0) && passes_at (is_non_special_pattern_char (codes "]")) (tokens_of c.args.self.now) c.loop-section.position.index) in
    record {
      within = omega arith;
      way = way_goes _ _ _ _ _ _ _ _ _ _ _ token c.loop-section.invariant.way is goes passes c.depth_after.ensures opened closed;
      shallow = omega (arith, c.loop-section.invariant.shallow, c.depth_after.ensures);
      turns = omega (arith, c.loop-section.invariant.turns);
      few_opened = omega (arith, c.loop-section.invariant.few_opened);
      few_closed = omega (arith, c.loop-section.invariant.few_closed);
    }
